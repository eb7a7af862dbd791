-- `fill_columns`: each turn lends one column more, whole.
use lib.Ieee.{binary32}
use Rattle.grid.proofs.Running.{Columns}
use Rattle.regular_query.specs.Grid.{axes_in}
use Rattle.regular_batch_f32.proofs.fill_columns.Given as goal

abbrev pub invariant-loop-d : goal.invariant-loop-d
invariant-loop-d l = Columns binary32 (axes_in binary32 l.mode l.axis_count l.axes) l.vals l.queries l.axis_count l.count l.initial.out l.d l.outcome l.out
