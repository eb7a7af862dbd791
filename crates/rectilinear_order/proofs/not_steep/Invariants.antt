-- `not_steep`: every pair of neighbours before `next` rises strictly; the first that does not is the fault.
use Prim.Native.Nat.{ℕ, suc, ◌<◌}
use Rattle.rectilinear_order.proofs.Order.{Steep}
use Rattle.rectilinear_order.proofs.not_steep.Given as goal

abbrev pub invariant-loop-next : goal.invariant-loop-next
invariant-loop-next g l = (k : ℕ) → suc k < l.next → Steep (g.T.Real.floats l.grid) k
