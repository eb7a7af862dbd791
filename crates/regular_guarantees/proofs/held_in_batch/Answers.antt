-- The buffer is the definition's own, what is lent fits the format, and the kind supplies the rows of a query past an end.
use lib.Ieee.{binary64}
use Rattle.multicubic.specs.declared.EdgeMode.TheVariants.{Held}
use Rattle.guarantees.proofs.Nodes.{held-in-batch}
use Rattle.regular_guarantees.proofs.Supplied.{supplied, clamped}
use Rattle.regular_guarantees.proofs.held_in_batch.Goals as goal

pub returns-clause-held_in_batch : goal.returns-clause-held_in_batch
returns-clause-held_in_batch c =
    let a = c.args in
    held-in-batch binary64 _ _ (supplied binary64 a.axis_count a.axes a.vals.now Held c.type_inv.vals) (clamped binary64 a.axis_count a.axes a.vals.now)
    a.queries.now a.out.now _ _ c.type_inv.queries c.interp.ensures.value c.interp.ensures.out_after
