-- `marks_along`: each turn sets one pair of marks more.
use Prim.Native.Nat.{ℕ}
use lib.Ieee.{binary32}
use Rattle.multicubic.specs.declared.EdgeMode.{EdgeMode}
use Rattle.grid.specs.Query.{at}
use Rattle.grid.proofs.Marking.{Marking}
use Rattle.rectilinear_query.specs.Grid.{axes_in}
use Rattle.rectilinear_query.proofs.Taking.{InHand}
use Rattle.rectilinear_query_f32.proofs.marks_along.Given as goal

abbrev pub invariant-loop-i : goal.invariant-loop-i
invariant-loop-i l = record {
  values : ℕ;
  hand : InHand l.axis_count l.counts l.axes values l.i l.start;
  marking : (mode : EdgeMode) → Marking (axes_in binary32 mode l.axis_count l.counts l.axes) (at l.x) l.i l.marks;
}
