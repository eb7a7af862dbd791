-- `answer_at`: each turn puts one axis more into the pass, and the reduction over all of them gives what is asked.
use Prim.Native.Nat.{◌≤◌}
use lib.ListN.{length}
use lib.Ieee.{binary64}
use Rattle.grid.proofs.Answering.{Turn}
use Rattle.regular_query.specs.Grid.{axes_in}
use Rattle.regular_query.proofs.Taking.{Taking}
use Rattle.regular_query.proofs.answer_at.Given as goal

abbrev pub invariant-loop-axis : goal.invariant-loop-axis
invariant-loop-axis l = record {
  few : l.axis_count ≤ 4;
  taking : Taking l.mode l.axis_count l.axes (length l.vals) l.strides l.straight;
  turn : Turn (axes_in binary64 l.mode l.axis_count l.axes) l.axis_count l.queries l.count l.i l.quantity l.strides l.axis l.at l.rows l.base;
}
