-- `gradient_at`: each turn adds a component, or meets the query's refusal.
use Prim.Native.Nat.{◌≤◌}
use lib.Ieee.{binary64}
use Rattle.grid.proofs.Singles.{Grading}
use Rattle.rectilinear_query.specs.Grid.{axes_in}
use Rattle.rectilinear.proofs.gradient_at.Given as goal

abbrev pub invariant-loop-d : goal.invariant-loop-d
invariant-loop-d l = record {
  few : l.axis_count ≤ 4;
  grading : Grading binary64 (axes_in binary64 l.mode l.axis_count l.counts l.axes) l.vals l.x l.d l.gradient;
}
