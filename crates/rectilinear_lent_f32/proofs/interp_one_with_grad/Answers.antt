-- Neither on a refused grid.
use lib.Ieee.{binary32}
use Rattle.slices.proofs.Lent.{refused-both}
use Rattle.rectilinear_query.specs.Grid.{grid_of}
use Rattle.rectilinear_lent_f32.proofs.interp_one_with_grad.Goals as goal

pub returns-in-Err : goal.returns-in-Err
returns-in-Err c =
    let a = c.args in
    refused-both (grid_of binary32 a.axis_count a.counts a.axes.now a.vals.now a.mode) c.new.ensures c.in-Err.is a.x binary32 c.refused.ensures
