-- `both_at`: each turn puts one axis more into the pass, and the shared reduction over all of them gives value and gradient.
use Prim.Native.Nat.{◌≤◌}
use lib.ListN.{length}
use lib.Ieee.{binary32}
use Rattle.grid.specs.Query.{at}
use Rattle.regular_query.specs.Grid.{axes_in}
use Rattle.regular_query_f32.proofs.Taking.{Taking}
use Rattle.shared_sums.proofs.Both.{Both}
use Rattle.regular_with_grad_f32.proofs.both_at.Given as goal

abbrev pub invariant-loop-axis : goal.invariant-loop-axis
invariant-loop-axis l = record {
  few : l.axis_count ≤ 4;
  taking : Taking l.mode l.axis_count l.axes (length l.vals) l.strides l.straight;
  both : Both (axes_in binary32 l.mode l.axis_count l.axes) l.axis_count (at l.x) l.strides l.axis l.weights l.derivatives l.base;
}
