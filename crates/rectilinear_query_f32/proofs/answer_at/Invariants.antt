-- `answer_at`: each turn puts one axis more into the pass, and the reduction over all of them gives what is asked.
use lib.ListN.{length}
use lib.Ieee.{binary32}
use Rattle.grid.proofs.Answering.{Turn}
use Rattle.rectilinear_query.specs.Grid.{axes_in}
use Rattle.rectilinear_query.proofs.Taking.{InHand}
use Rattle.rectilinear_query_f32.proofs.answer_at.Given as goal

abbrev pub invariant-loop-axis : goal.invariant-loop-axis
invariant-loop-axis l = record {
  hand : InHand l.axis_count l.counts l.axes (length l.vals) l.axis l.start;
  turn : Turn (axes_in binary32 l.mode l.axis_count l.counts l.axes) l.axis_count l.queries l.count l.i l.quantity l.strides l.axis l.at l.rows l.base;
}
