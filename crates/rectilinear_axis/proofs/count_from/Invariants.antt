-- `count_from`: n is the lesser of lo + k and the count; at the end that is the count.
use Prim.Native.Nat.{◌+◌}
use Rattle.rectilinear_axis.specs.Place.{count_below}
use Rattle.rectilinear_axis.proofs.Search.{Least}
use Rattle.rectilinear_axis.proofs.count_from.Given as goal

abbrev pub invariant-loop-k : goal.invariant-loop-k
invariant-loop-k g l = Least l.n (l.lo + l.k) (count_below (g.T.Float.float l.v) (g.T.Real.floats l.grid))
