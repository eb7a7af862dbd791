-- `marks_along`: each turn sets one pair of marks more.
use Prim.Native.Nat.{ℕ}
use lib.Ieee.{binary64}
use Rattle.multicubic.specs.declared.EdgeMode.{EdgeMode}
use Rattle.grid.specs.Query.{at}
use Rattle.grid.proofs.Marking.{Marking}
use Rattle.rectilinear_query.specs.Grid.{axes_in}
use Rattle.rectilinear_query.proofs.Taking.{InHand}
use Rattle.rectilinear_query.proofs.marks_along.Given as goal

abbrev pub invariant-loop-i : goal.invariant-loop-i
invariant-loop-i l = record {
  values : ℕ;
  hand : InHand l.axis_count l.counts l.axes values l.i l.start;
  marking : (mode : EdgeMode) → Marking (axes_in binary64 mode l.axis_count l.counts l.axes) (at l.x) l.i l.marks;
}
