-- `find_gradient`: a grid that is taken has strides.
use mathlib.Core.Path.{sym, ◌∙◌}
use lib.ListN.{length}
use Rattle.regular_query.proofs.Locating.{spaceable}
use Rattle.regular.proofs.find_gradient.Goals as goal

pub strides-requires : goal.strides-requires
strides-requires c =
    let every = spaceable c.args.axis_count c.args.axes (length c.args.vals.now) (sym c.new.ensures.value ∙ c.in-Ok.is) _ c.counts_of.ensures in
    record { n_bound = every.0; counts_value = every.1 }
