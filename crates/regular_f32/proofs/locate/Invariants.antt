-- `locate`: each turn keeps one place more.
use Prim.Native.Nat.{◌≤◌}
use lib.Ieee.{binary32}
use Rattle.grid.specs.Query.{at}
use Rattle.grid.proofs.Locating.{Placing}
use Rattle.regular_query.specs.Grid.{axes_in}
use Rattle.regular_f32.proofs.locate.Given as goal

abbrev pub invariant-loop-i : goal.invariant-loop-i
invariant-loop-i l = record {
  few : l.axis_count ≤ 4;
  placing : Placing (axes_in binary32 l.mode l.axis_count l.axes) (at l.x) l.i l.places;
}
