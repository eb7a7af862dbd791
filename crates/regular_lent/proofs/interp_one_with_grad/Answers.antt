-- Neither on a refused grid.
use lib.Ieee.{binary64}
use Rattle.slices.proofs.Lent.{refused-both}
use Rattle.regular_query.specs.Grid.{grid_of}
use Rattle.regular_lent.proofs.interp_one_with_grad.Goals as goal

pub returns-in-Err : goal.returns-in-Err
returns-in-Err c =
    let a = c.args in
    refused-both (grid_of binary64 a.axis_count a.axes a.vals.now a.mode) c.new.ensures c.in-Err.is a.x binary64 c.refused.ensures
