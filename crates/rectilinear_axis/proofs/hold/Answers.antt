-- `hold`: each return is a case of the definition.
use mathlib.Core.Path.{refl, sym}
use Prim.Native.Nat.{◌-◌}
use native.Mathlib.Omega.{arith}
use lib.ListN.{length}
use Rattle.interp_math.proofs.Lists.{float_at}
use Rattle.rectilinear_axis.proofs.hold.Goals as goal

pub returns-then-marks : goal.returns-then-marks
returns-then-marks g c =
    let first = float_at g.met.T.Real.floats_law c.args.grid.now 0 _ (omega arith) c.index-grid-0.is in
    rw c.if-marks.true (sym first)

pub returns-then-marks-2 : goal.returns-then-marks-2
returns-then-marks-2 g c =
    let grid = c.args.grid.now in
    let last = float_at g.met.T.Real.floats_law grid (length grid - 1) _ (omega arith) c.index-grid-grid.is in
    rw (c.if-marks.false, c.if-marks-2.true) (sym last)

pub returns : goal.returns
returns g c = rw (c.if-marks.false, c.if-marks-2.false) refl
