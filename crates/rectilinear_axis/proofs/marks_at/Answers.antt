-- `marks_at`: the definition, at the two entries that are read.
use mathlib.Core.Path.{refl, sym}
use native.Mathlib.Omega.{arith}
use Rattle.interp_math.proofs.Lists.{float_at}
use Rattle.rectilinear_order.proofs.Order.{compared}
use Rattle.rectilinear_axis.proofs.marks_at.Goals as goal

pub returns : goal.returns
returns g c =
    let entry = float_at g.met.T.Real.floats_law c.args.grid.now in
    record {
      below_value = sym (compared refl (entry 0 _ (omega arith) c.index-grid-0.is) c.is_below.ensures refl);
      above_value = sym (compared (entry _ _ (omega arith) c.index-grid-last.is) refl c.is_below-2.ensures refl);
    }
