-- `fill_columns`: each turn lends one column more, whole.
use lib.Ieee.{binary64}
use Rattle.grid.proofs.Running.{Columns}
use Rattle.rectilinear_query.specs.Grid.{axes_in}
use Rattle.rectilinear_batch.proofs.fill_columns.Given as goal

abbrev pub invariant-loop-d : goal.invariant-loop-d
invariant-loop-d l = Columns binary64 (axes_in binary64 l.mode l.axis_count l.counts l.axes) l.vals l.queries l.axis_count l.count l.initial.out l.d l.outcome l.out
