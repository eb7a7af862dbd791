-- `fill`: each turn puts one answer more, or meets the refusal.
use lib.Ieee.{binary32}
use Rattle.grid.proofs.Running.{Filling}
use Rattle.rectilinear_query.specs.Grid.{axes_in}
use Rattle.rectilinear_batch_f32.proofs.fill.Given as goal

abbrev pub invariant-loop-i : goal.invariant-loop-i
invariant-loop-i l = Filling binary32 (axes_in binary32 l.mode l.axis_count l.counts l.axes) l.vals l.queries l.quantity l.count l.initial.out l.i l.out
