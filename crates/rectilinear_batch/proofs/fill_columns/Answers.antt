-- `fill_columns`: each turn lends one column more, whole.
use lib.Ieee.{binary64}
use Rattle.grid.proofs.Running.{columns-next, columns-end}
use Rattle.rectilinear_query.proofs.Locating.{taken_of, fit}
use Rattle.rectilinear_batch.proofs.fill_columns.Goals as goal

pub loop-d-preserved : goal.loop-d-preserved
loop-d-preserved c = columns-next c.loop-d.invariant c.loop-d-test.true _ c.fill-outcome.new.out c.fill-outcome.ensures.value c.fill-outcome.ensures.out_after

pub returns-clause-value : goal.returns-clause-value
returns-clause-value c = (columns-end c.loop-d.invariant (fit binary64 c.args.mode c.well_formed.1.0.1.0.1 (taken_of c.requires.ready)).some c.loop-d-test.false).0
