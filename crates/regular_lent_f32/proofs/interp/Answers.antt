-- A refused grid leaves the buffer as it was.
use lib.Ieee.{binary32}
use Rattle.slices.proofs.Lent.{refused-interp}
use Rattle.regular_query.specs.Grid.{grid_of}
use Rattle.regular_lent_f32.proofs.interp.Goals as goal

pub returns-in-Err : goal.returns-in-Err
returns-in-Err c =
    let a = c.args in
    refused-interp (grid_of binary32 a.axis_count a.axes a.vals.now a.mode) c.new.ensures c.in-Err.is binary32 a.queries.now a.out.now
