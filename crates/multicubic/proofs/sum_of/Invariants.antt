-- `sum_of`: the total and the sum of what is left; counts up to 4,096 keep it small.
use Prim.Native.Nat.{◌≤◌, ◌+◌, ◌*◌}
use mathlib.Core.Path.{◌≡◌}
use mathlib.Core.Bool.{false}
use lib.ListN.{length}
use lib.Seq.{slice}
use Rattle.multicubic.specs.Grid.{sum, any_over}
use Rattle.multicubic.proofs.sum_of.Given as goal

abbrev pub invariant-loop-count : goal.invariant-loop-count
invariant-loop-count l = (any_over (slice l.count-index (length l.count-items) l.count-items) ≡ false) × (l.total ≤ 4096 * l.count-index) × (sum l.count-items ≡ l.total + sum (slice l.count-index (length l.count-items) l.count-items))
