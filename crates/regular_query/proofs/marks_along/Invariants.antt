-- `marks_along`: each turn sets one pair of marks more.
use Prim.Native.Nat.{◌≤◌}
use mathlib.Core.Path.{◌≡◌}
use lib.ListN.{length}
use lib.Ieee.{binary64}
use Rattle.multicubic.specs.declared.EdgeMode.{EdgeMode}
use Rattle.grid.specs.Query.{at}
use Rattle.grid.proofs.Marking.{Marking}
use Rattle.regular_query.specs.Grid.{axes_in}
use Rattle.regular_query.proofs.marks_along.Given as goal

abbrev pub invariant-loop-i : goal.invariant-loop-i
invariant-loop-i l = record {
  few : l.axis_count ≤ 4;
  four : length l.axes ≡ 4;
  marking : (mode : EdgeMode) → Marking (axes_in binary64 mode l.axis_count l.axes) (at l.x) l.i l.marks;
}
