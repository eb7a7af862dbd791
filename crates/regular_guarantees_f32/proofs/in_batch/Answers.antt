-- The four buffers are the definitions' own, and what is lent fits the format.
use lib.Ieee.{binary32}
use Rattle.guarantees.proofs.Owed.{promised_in_batch}
use Rattle.regular_guarantees.proofs.Supplied.{supplied, counted}
use Rattle.regular_guarantees_f32.proofs.in_batch.Goals as goal

pub returns-clause-owed_in_batch : goal.returns-clause-owed_in_batch
returns-clause-owed_in_batch c =
    let a = c.args in
    (promised_in_batch (supplied binary32 a.axis_count a.axes a.vals.now a.mode c.type_inv.vals)
    (supplied binary32 a.axis_count a.axes a.other_vals.now a.other_mode c.type_inv.other_vals)
    (counted binary32 a.axis_count a.axes a.vals.now a.mode c.well_formed.1.0.1.0.1)
    c.type_inv.queries c.interp-outcome.ensures.value (c.interp-outcome.ensures.out_after, c.interp_grad.ensures.out_after)
    c.interp-other_outcome.ensures.value (c.interp-other_outcome.ensures.out_after, c.interp_grad-2.ensures.out_after)).0
