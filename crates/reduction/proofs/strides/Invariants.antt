-- `strides`: from the last axis down, each stride is the product of the counts after it.
use Prim.Native.Nat.{◌≤◌, ◌-◌, ◌^◌}
use mathlib.Core.Path.{◌≡◌}
use lib.ListN.{length}
use lib.Seq.{slice}
use Rattle.multicubic.specs.Grid.{product}
use Rattle.reduction.specs.Value.{strides_of}
use Rattle.reduction.proofs.strides.Given as goal

abbrev pub invariant-loop-i : goal.invariant-loop-i
invariant-loop-i l = record {
  four : length l.strides ≡ 4;
  small : l.stride ≤ 4096 ^ (l.n - l.i);
  next : l.stride ≡ product (slice l.i l.n l.counts);
  so_far : slice l.i l.n l.strides ≡ strides_of (slice l.i l.n l.counts);
}
