-- `interp_one_with_grad`: on a grid that is taken the strides can be had.
use mathlib.Core.Path.{sym}
use lib.ListN.{length}
use Rattle.rectilinear_query.proofs.Locating.{spaceable}
use Rattle.rectilinear_with_grad_f32.proofs.interp_one_with_grad.Goals as goal

pub strides-requires : goal.strides-requires
strides-requires c =
    let a = c.args in
    let every = spaceable a.axis_count a.counts a.axes.now (length a.vals.now) (sym c.in-Ok.ensures.value) in
    record {
      n_bound = every.0;
      counts_value = every.1;
    }
