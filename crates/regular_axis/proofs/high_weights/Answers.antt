-- `high_weights`: the low end's, from the far one.
use native.Mathlib.Omega.{arith}
use Rattle.interp_math.proofs.Lists.{float_get}
use Rattle.regular_axis.proofs.high_weights.Goals as goal

pub returns : goal.returns
returns g c =
    let get = float_get g.met.T.Real.floats_law in
    let w = c.low_weights-w.result in
    simp (
      ← g.met.T.Real.floats_law,
      ← get w 0 c.index-w-0.result (omega arith),
      ← get w 1 c.index-w-1.result (omega arith),
      ← get w 2 c.index-w-2.result (omega arith),
      ← get w 3 c.index-w-3.result (omega arith),
      c.low_weights-w.ensures,
    )
