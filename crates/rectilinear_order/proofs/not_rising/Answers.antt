-- `not_rising`: the definition, at the two entries that are read.
use mathlib.Core.Path.{refl, sym, ap}
use mathlib.Core.Bool.{not}
use native.Mathlib.Omega.{arith}
use Rattle.interp_math.proofs.Lists.{float_at}
use Rattle.rectilinear_order.specs.Grid.{not_rising}
use Rattle.rectilinear_order.proofs.Order.{compared}
use Rattle.rectilinear_order.proofs.not_rising.Goals as goal

pub returns : goal.returns
unfolding not_rising
returns g c =
    let entry = float_at g.met.T.Real.floats_law c.args.grid.now in
    let rises = compared (entry 0 _ (omega arith) c.index-grid-0.is) (entry 1 _ (omega arith) c.index-grid-1.is) c.is_below.ensures refl in
    ap not (sym rises)
