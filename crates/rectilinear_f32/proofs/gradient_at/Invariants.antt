-- `gradient_at`: each turn adds a component, or meets the query's refusal.
use Prim.Native.Nat.{◌≤◌}
use lib.Ieee.{binary32}
use Rattle.grid.proofs.Singles.{Grading}
use Rattle.rectilinear_query.specs.Grid.{axes_in}
use Rattle.rectilinear_f32.proofs.gradient_at.Given as goal

abbrev pub invariant-loop-d : goal.invariant-loop-d
invariant-loop-d l = record {
  few : l.axis_count ≤ 4;
  grading : Grading binary32 (axes_in binary32 l.mode l.axis_count l.counts l.axes) l.vals l.x l.d l.gradient;
}
