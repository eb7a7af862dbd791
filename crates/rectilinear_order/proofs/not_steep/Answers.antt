-- `not_steep`: every pair of neighbours before `next` rises strictly; the first that does not is the fault.
use mathlib.Core.Path.{sym}
use Prim.Native.Nat.{◌-◌}
use native.Mathlib.Omega.{arith}
use lib.Ieee.{lt}
use Rattle.interp_math.proofs.Lists.{float_at, floats_length}
use Rattle.rectilinear_order.proofs.Order.{compared, one_more, fault-at, slack, steep}
use Rattle.rectilinear_order.proofs.not_steep.Goals as goal

pub loop-next-preserved : goal.loop-next-preserved
loop-next-preserved g c =
    let grid = c.args.grid.now in
    let at = c.loop-next.next in
    let entry = float_at g.met.T.Real.floats_law grid in
    let in_order = compared (entry (at - 1) _ (omega arith) c.index-grid-next.is) (entry at _ (omega arith) c.index-grid-next-in-loop-next.is) c.is_below.ensures c.if-not-is_below.false in
    one_more lt (g.T.Real.floats grid) at (omega arith) c.loop-next.invariant in_order

pub returns-then-not-is_below : goal.returns-then-not-is_below
returns-then-not-is_below g c =
    let grid = c.args.grid.now in
    let at = c.loop-next.next in
    let entry = float_at g.met.T.Real.floats_law grid in
    let out_of_order = compared (entry (at - 1) _ (omega arith) c.index-grid-next.is) (entry at _ (omega arith) c.index-grid-next-in-loop-next.is) c.is_below.ensures c.if-not-is_below.true in
    sym (fault-at lt (g.T.Real.floats grid) _ (slack (g.T.Real.floats grid)) at (omega arith) (omega (arith, floats_length g.met.T.Real.floats_law grid)) out_of_order)

pub returns : goal.returns
returns g c =
    let grid = c.args.grid.now in
    let long = floats_length g.met.T.Real.floats_law grid in
    sym (steep (g.T.Real.floats grid) (omega (arith, long)) (λ k h. c.loop-next.invariant k (omega (arith, long))))
