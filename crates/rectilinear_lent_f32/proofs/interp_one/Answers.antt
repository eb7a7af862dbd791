-- No value on a refused grid.
use mathlib.Core.Path.{◌∙◌}
use lib.Ieee.{binary32, of_bits}
use Rattle.ieee.specs.Numbers.{zero}
use Rattle.slices.proofs.Lent.{refused-value}
use Rattle.rectilinear_query.specs.Grid.{grid_of}
use Rattle.rectilinear_lent_f32.proofs.interp_one.Goals as goal

pub returns-in-Err : goal.returns-in-Err
unfolding of_bits
returns-in-Err c =
    let a = c.args in
    let away = refused-value (grid_of binary32 a.axis_count a.counts a.axes.now a.vals.now a.mode) c.new.ensures c.in-Err.is a.x binary32 zero in
    (c.answered.ensures ∙ away.0, c.unmarked.ensures ∙ away.1)
