-- `partition_point`: the count stays between lo and lo + size, and each turn leaves a quarter of size, or the last part.
use Prim.Native.Nat.{◌+◌, ◌≤◌}
use lib.ListN.{length}
use Rattle.rectilinear_axis.specs.Place.{count_below}
use Rattle.rectilinear_axis.proofs.partition_point.Given as goal

abbrev pub invariant-loop-size : goal.invariant-loop-size
invariant-loop-size g l = (l.lo + l.size ≤ length l.grid) × (l.lo ≤ count_below (g.T.Float.float l.v) (g.T.Real.floats l.grid)) × (count_below (g.T.Float.float l.v) (g.T.Real.floats l.grid) ≤ l.lo + l.size)

abbrev pub decreases-loop-size : goal.decreases-loop-size
decreases-loop-size g l = l.size
