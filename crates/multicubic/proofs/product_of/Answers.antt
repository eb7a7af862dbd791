-- `product_of`: p times the product of what is left; counts up to 4,096 keep it below 2^48.
use Prim.Native.Nat.{◌+◌}
use native.Mathlib.Omega.{arith}
use lib.ListN.{length}
use Rattle.multicubic.proofs.Sizes.{within, grows, small}
use Rattle.multicubic.proofs.product_of.Goals as goal

pub overflow_mul-p : goal.overflow_mul-p
overflow_mul-p c =
    let l = c.loop-count in
    let w = within c.args.counts.now (length c.args.counts.now) l.count-index c.loop-count-test.true (omega arith) l.invariant.0 in
    omega (arith, small _ (l.count-index + 1) (omega arith) (grows l.p _ l.count-index l.invariant.1 w.0))
