-- What is told and what is filled, over the grid as it is lent.
use Rattle.rectilinear_lent.specs.Rectilinear.{rectilinear_from}
use Rattle.capi.specs.Calls.{interp_leaves}
use Rattle.capi_f32.proofs.veltzuma_rectilinear_interp_f32.Goals as goal

pub returns : goal.returns
unfolding interp_leaves rectilinear_from
returns c =
    let asked = c.interp-outcome.ensures in
    rw (c.tell.ensures.value, c.tell.ensures.refusal_after, asked.0, asked.1, c.check_slices-slices.ensures, c.counts_from-four.ensures, c.mode_of.ensures, c.named-shortest.ensures)
