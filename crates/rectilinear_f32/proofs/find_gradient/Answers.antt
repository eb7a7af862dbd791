-- `find_gradient`: the grid's refusal, or the gradient that its axes give.
use mathlib.Core.Path.{sym, ◌∙◌}
use lib.ListN.{length}
use Rattle.rectilinear_query.proofs.Locating.{spaceable}
use Rattle.rectilinear_f32.proofs.find_gradient.Goals as goal

pub strides-requires : goal.strides-requires
strides-requires c =
    let every = spaceable c.args.axis_count c.args.counts c.args.axes.now (length c.args.vals.now) (sym c.new.ensures.value ∙ c.in-Ok.is) in
    record { n_bound = every.0; counts_value = every.1 }
