-- The answer is the definition's own, what is lent fits the format, and the kind supplies the rows of a query past an end.
use lib.Ieee.{binary32}
use Rattle.multicubic.specs.declared.EdgeMode.TheVariants.{Held}
use Rattle.grid.specs.Query.{at}
use Rattle.guarantees.proofs.Typing.{array_fits}
use Rattle.guarantees.proofs.Nodes.{held-edge}
use Rattle.regular_guarantees.proofs.Supplied.{supplied, clamped}
use Rattle.regular_guarantees_f32.proofs.held_edge.Goals as goal

pub returns-clause-held_edge : goal.returns-clause-held_edge
returns-clause-held_edge c =
    let a = c.args in
    let x = c.well_formed.1.1.1.0 in
    held-edge binary32 _ _ (supplied binary32 a.axis_count a.axes a.vals.now Held c.type_inv.vals) (clamped binary32 a.axis_count a.axes a.vals.now)
    (at a.x) (array_fits binary32 a.x x.0 x.1.1) _ c.interp_one.ensures.answer_value
