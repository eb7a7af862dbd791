-- `over_axis`: each turn of the loop adds the component of one axis before.
use Prim.Native.Nat.{◌+◌}
use mathlib.Core.Path.{◌≡◌}
use Rattle.shared_sums.proofs.Joining.{Graded}
use Rattle.shared_reduction.proofs.over_axis.Given as goal

abbrev pub invariant-loop-d : goal.invariant-loop-d
invariant-loop-d g l = record {
  counted : l.sums.taken ≡ l.value.sums.taken + l.d;
  graded : Graded g.T.Float.format (g.T.Real.floats l.weights) (g.T.Real.floats l.g0) (g.T.Real.floats l.g1) (g.T.Real.floats l.g2) (g.T.Real.floats l.g3) l.d (g.T.Real.floats l.gradient);
}
