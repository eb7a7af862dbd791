-- `entry_below`: on an axis in order an entry is below v just where its place is before the count.
use mathlib.Core.Path.{refl}
use native.Mathlib.Omega.{arith}
use Rattle.interp_math.proofs.Lists.{float_at, floats_length}
use Rattle.rectilinear_order.proofs.Order.{compared}
use Rattle.rectilinear_axis.proofs.Search.{test-is}
use Rattle.rectilinear_axis.proofs.entry_below.Goals as goal

pub returns : goal.returns
returns g c =
    let a = c.args in
    let law = g.met.T.Real.floats_law in
    let in_bounds = c.requires.at_in_bounds in
    let is_below = compared (float_at law a.grid.now a.at _ in_bounds c.index-grid-at.is) refl c.is_below.ensures refl in
    test-is (g.T.Real.floats a.grid.now) (g.T.Float.float a.v) c.requires.grid_value a.at (omega (arith, floats_length law a.grid.now)) _ is_below
