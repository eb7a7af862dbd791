-- A refused grid leaves the buffer as it was.
use lib.Ieee.{binary64}
use Rattle.slices.proofs.Lent.{refused-interp}
use Rattle.rectilinear_query.specs.Grid.{grid_of}
use Rattle.rectilinear_lent.proofs.interp.Goals as goal

pub returns-in-Err : goal.returns-in-Err
returns-in-Err c =
    let a = c.args in
    refused-interp (grid_of binary64 a.axis_count a.counts a.axes.now a.vals.now a.mode) c.new.ensures c.in-Err.is binary64 a.queries.now a.out.now
