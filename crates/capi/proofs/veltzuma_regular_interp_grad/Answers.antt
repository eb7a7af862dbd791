-- What is told and what is filled, over the grid as it is lent.
use Rattle.regular_lent.specs.Regular.{regular_from}
use Rattle.capi.specs.Calls.{interp_grad_leaves}
use Rattle.capi.proofs.veltzuma_regular_interp_grad.Goals as goal

pub returns : goal.returns
unfolding interp_grad_leaves regular_from
returns c =
    let asked = c.interp_grad-outcome.ensures in
    rw (c.tell.ensures.value, c.tell.ensures.refusal_after, asked.0, asked.1, c.check_slices-slices.ensures, c.axes_from-axes.ensures, c.mode_of.ensures, c.named-shortest.ensures, c.shortest_of.ensures)
