-- `product_of`: p times the product of what is left; counts up to 4,096 keep it below 2^48.
use Prim.Native.Nat.{◌≤◌, ◌*◌, ◌^◌}
use mathlib.Core.Path.{◌≡◌}
use mathlib.Core.Bool.{false}
use lib.ListN.{length}
use lib.Seq.{slice}
use Rattle.multicubic.specs.Grid.{product, any_over}
use Rattle.multicubic.proofs.product_of.Given as goal

abbrev pub invariant-loop-count : goal.invariant-loop-count
invariant-loop-count l = (any_over (slice l.count-index (length l.counts) l.counts) ≡ false) × (l.p ≤ 4096 ^ l.count-index) × (product l.counts ≡ l.p * product (slice l.count-index (length l.counts) l.counts))
