-- `strides`: from the last axis down, each stride is the product of the counts after it.
use Prim.Native.Nat.{◌+◌, ◌-◌, ◌*◌, ◌≤◌, ◌^◌}
use mathlib.Core.Path.{◌≡◌}
use native.Mathlib.Omega.{arith}
use lib.ListN.{get_or, length-set}
use Rattle.multicubic.proofs.Sizes.{each_within, grows, small}
use Rattle.reduction.proofs.Spacing.{strides-here, stride-next}
use Rattle.reduction.proofs.strides.Goals as goal
use Rattle.reduction.proofs.strides.Goals.{In-loop-i}

next_small : (c : In-loop-i) → c.loop-i.stride * get_or c.args.counts (c.loop-i.i - 1) 0 ≤ 4096 ^ (c.args.n - c.loop-i.i + 1)
next_small c = grows c.loop-i.stride _ (c.args.n - c.loop-i.i) c.loop-i.invariant.small (each_within c.args.counts c.args.n (c.loop-i.i - 1) (omega arith) (omega arith) c.requires.counts_value)

pub overflow_mul-stride : goal.overflow_mul-stride
overflow_mul-stride c = omega (arith, small _ (c.args.n - c.loop-i.i + 1) (omega arith) (next_small c))

pub loop-i-preserved : goal.loop-i-preserved
loop-i-preserved c =
    let l = c.loop-i in
    let a = c.args in
    let i = l.i - 1 in
    let e : a.n - i ≡ a.n - l.i + 1 = omega arith in
    record {
      four = simp length-set l.invariant.four;
      small = rw e (next_small c);
      next = stride-next a.counts l.strides a.n i l.i l.stride (omega arith) (omega arith) (omega arith) (omega arith) l.invariant.next;
      so_far = strides-here a.counts l.strides a.n i l.i l.stride (omega arith) (omega arith) (omega arith) (omega arith) l.invariant.so_far l.invariant.next;
    }
