-- `fill_columns`: each turn lends one column more, whole.
use lib.Ieee.{binary32}
use Rattle.grid.proofs.Running.{Columns}
use Rattle.rectilinear_query.specs.Grid.{axes_in}
use Rattle.rectilinear_batch_f32.proofs.fill_columns.Given as goal

abbrev pub invariant-loop-d : goal.invariant-loop-d
invariant-loop-d l = Columns binary32 (axes_in binary32 l.mode l.axis_count l.counts l.axes) l.vals l.queries l.axis_count l.count l.initial.out l.d l.outcome l.out
