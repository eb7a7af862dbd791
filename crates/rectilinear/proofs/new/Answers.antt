-- `new`: checks 1 to 4 leave what the order of the entries is asked with.
use mathlib.Core.Path.{sym, ◌∙◌}
use lib.ListN.{length}
use Rattle.rectilinear_query.proofs.Sizes.{orderable}
use Rattle.rectilinear.proofs.new.Goals as goal

pub check_order-requires : goal.check_order-requires
check_order-requires c =
    let o = orderable c.args.axis_count c.args.counts c.args.axes.now (length c.args.vals.now) c.well_formed.1.0.1.0.1 (sym c.check_sizes.ensures ∙ c.in_ok-check_sizes.was) in
    record {
      axis_count_bound = o.0;
      counts_value = o.1;
      by_index = o.2;
    }
