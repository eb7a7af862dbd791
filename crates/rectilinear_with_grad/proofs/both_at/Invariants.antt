-- `both_at`: each turn puts one axis more into the pass, and the shared reduction over all of them gives value and gradient.
use lib.ListN.{length}
use lib.Ieee.{binary64}
use Rattle.grid.specs.Query.{at}
use Rattle.rectilinear_query.specs.Grid.{axes_in}
use Rattle.rectilinear_query.proofs.Taking.{InHand}
use Rattle.shared_sums.proofs.Both.{Both}
use Rattle.rectilinear_with_grad.proofs.both_at.Given as goal

abbrev pub invariant-loop-axis : goal.invariant-loop-axis
invariant-loop-axis l = record {
  hand : InHand l.axis_count l.counts l.axes (length l.vals) l.axis l.start;
  both : Both (axes_in binary64 l.mode l.axis_count l.counts l.axes) l.axis_count (at l.x) l.strides l.axis l.weights l.derivatives l.base;
}
