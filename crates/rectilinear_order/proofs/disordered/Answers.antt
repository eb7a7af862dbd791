-- `disordered`: every pair of neighbours before i is in order; the first that is not is the disorder.
use mathlib.Core.Path.{sym}
use Prim.Native.Nat.{◌-◌}
use native.Mathlib.Omega.{arith}
use lib.Ieee.{le}
use Rattle.interp_math.proofs.Lists.{float_at, floats_length}
use Rattle.interp_math.proofs.Comparing.{not_above}
use Rattle.rectilinear_order.proofs.Order.{one_more, fault-at, falls, all_up}
use Rattle.rectilinear_order.proofs.disordered.Goals as goal

pub loop-i-preserved : goal.loop-i-preserved
loop-i-preserved g c =
    let grid = c.args.grid.now in
    let at = c.loop-i.i in
    let entry = float_at g.met.T.Real.floats_law grid in
    let in_order = not_above _ g.met.T.Float.float_order_law _ _ (sym (entry (at - 1) _ (omega arith) c.index-grid-i.is)) (sym (entry at _ (omega arith) c.index-grid-i-in-loop-i.is)) c.le.ensures c.if-not-le.false in
    one_more le (g.T.Real.floats grid) at (omega arith) c.loop-i.invariant in_order

pub returns-then-not-le : goal.returns-then-not-le
returns-then-not-le g c =
    let grid = c.args.grid.now in
    let at = c.loop-i.i in
    let entry = float_at g.met.T.Real.floats_law grid in
    let out_of_order = not_above _ g.met.T.Float.float_order_law _ _ (sym (entry (at - 1) _ (omega arith) c.index-grid-i.is)) (sym (entry at _ (omega arith) c.index-grid-i-in-loop-i.is)) c.le.ensures c.if-not-le.true in
    sym (fault-at le (g.T.Real.floats grid) _ (falls (g.T.Real.floats grid)) at (omega arith) (omega (arith, floats_length g.met.T.Real.floats_law grid)) out_of_order)

pub returns : goal.returns
returns g c =
    let grid = c.args.grid.now in
    let long = floats_length g.met.T.Real.floats_law grid in
    sym (all_up (g.T.Real.floats grid) (omega (arith, long)) (λ k h. c.loop-i.invariant k (omega (arith, long))))
