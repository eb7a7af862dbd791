-- `locate`: each turn keeps one place more.
use Prim.Native.Nat.{ℕ}
use lib.Ieee.{binary32}
use Rattle.grid.specs.Query.{at}
use Rattle.grid.proofs.Locating.{Placing}
use Rattle.rectilinear_query.specs.Grid.{axes_in}
use Rattle.rectilinear_query.proofs.Taking.{InHand}
use Rattle.rectilinear_f32.proofs.locate.Given as goal

abbrev pub invariant-loop-i : goal.invariant-loop-i
invariant-loop-i l = record {
  values : ℕ;
  hand : InHand l.axis_count l.counts l.axes values l.i l.start;
  placing : Placing (axes_in binary32 l.mode l.axis_count l.counts l.axes) (at l.x) l.i l.places;
}
