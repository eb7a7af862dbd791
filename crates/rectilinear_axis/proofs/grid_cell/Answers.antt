-- `grid_cell`: the four entries that are read are the block's.
use native.Mathlib.Omega.{arith}
use Prim.Native.Nat.{◌+◌}
use Rattle.interp_math.proofs.Lists.{float_at, floats_length}
use Rattle.rectilinear_axis.proofs.Cell.{read_is}
use Rattle.rectilinear_axis.proofs.grid_cell.Goals as goal

pub returns : goal.returns
returns g c =
    let grid = c.args.grid.now in
    let o = c.args.origin in
    let law = g.met.T.Real.floats_law in
    let entry = float_at law grid in
    simp (
      ← law,
      ← entry o _ (omega arith) c.index-grid-origin.is,
      ← entry (o + 1) _ (omega arith) c.index-grid-origin-2.is,
      ← entry (o + 2) _ (omega arith) c.index-grid-origin-3.is,
      ← entry (o + 3) _ (omega arith) c.index-grid-origin-4.is,
      read_is (g.T.Real.floats grid) o (omega (arith, floats_length law grid)),
    )
