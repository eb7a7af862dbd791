-- `disordered`: every pair of neighbours before i is in order; the first that is not is the disorder.
use Prim.Native.Nat.{ℕ, suc, ◌<◌}
use Rattle.rectilinear_order.proofs.Order.{Up}
use Rattle.rectilinear_order.proofs.disordered.Given as goal

abbrev pub invariant-loop-i : goal.invariant-loop-i
invariant-loop-i g l = (k : ℕ) → suc k < l.i → Up (g.T.Real.floats l.grid) k
