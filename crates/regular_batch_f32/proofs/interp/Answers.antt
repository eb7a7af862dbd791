-- `interp`: the checks leave a grid that has strides.
use mathlib.Core.Path.{refl, sym, ◌∙◌}
use lib.ListN.{length}
use Rattle.multicubic.proofs.Passed.{then_accepted}
use Rattle.regular_query.proofs.Locating.{spaceable}
use Rattle.regular_batch_f32.proofs.interp.Goals as goal

pub check_values-requires : goal.check_values-requires
check_values-requires c e = (spaceable c.args.axis_count c.args.axes (length c.args.vals.now) (sym c.new.ensures.value ∙ e) _ refl).0

pub strides-requires : goal.strides-requires
strides-requires c =
    let taken = sym c.new.ensures.value ∙ (then_accepted _ _ (sym c.check_values.ensures ∙ c.in_ok-check_values.was)).0 in
    let every = spaceable c.args.axis_count c.args.axes (length c.args.vals.now) taken _ c.counts_of.ensures in
    record { n_bound = every.0; counts_value = every.1 }
