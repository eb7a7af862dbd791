-- Zeros on a refused grid.
use mathlib.Core.Path.{◌∙◌}
use lib.Ieee.{binary64, of_bits}
use Rattle.slices.proofs.Lent.{refused-gradient}
use Rattle.rectilinear_query.specs.Grid.{grid_of}
use Rattle.rectilinear_lent.proofs.interp_one_grad.Goals as goal

pub returns-in-Err : goal.returns-in-Err
unfolding of_bits
returns-in-Err c =
    let a = c.args in
    let away = refused-gradient (grid_of binary64 a.axis_count a.counts a.axes.now a.vals.now a.mode) c.new.ensures c.in-Err.is a.x binary64 in
    (away.0, away.1, c.unmarked.ensures ∙ away.2)
