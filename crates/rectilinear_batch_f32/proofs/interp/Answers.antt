-- `interp`: a grid that the checks accept has what its calls ask.
use mathlib.Core.Path.{sym, ◌∙◌}
use lib.ListN.{length}
use Rattle.multicubic.proofs.Passed.{then_accepted}
use Rattle.rectilinear_query.proofs.Locating.{spaceable}
use Rattle.rectilinear_batch_f32.proofs.interp.Goals as goal

pub check_values-requires : goal.check_values-requires
check_values-requires c = λ e. (spaceable c.args.axis_count c.args.counts c.args.axes.now (length c.args.vals.now) (sym c.new.ensures.value ∙ e)).0

pub strides-requires : goal.strides-requires
strides-requires c =
    let taken = (then_accepted _ _ (sym c.check_values.ensures ∙ c.in_ok-check_values.was)).0 in
    let every = spaceable c.args.axis_count c.args.counts c.args.axes.now (length c.args.vals.now) (sym c.new.ensures.value ∙ taken) in
    record { n_bound = every.0; counts_value = every.1 }
