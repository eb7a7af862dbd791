-- `interior`: operation by operation the definition, from the slopes at points 1 and 2.
use native.Mathlib.Omega.{arith}
use Rattle.rectilinear_weights.specs.Weights.{interior}
use Rattle.interp_math.proofs.Lists.{float_get}
use Rattle.rectilinear_weights.proofs.interior.Goals as goal

pub returns : goal.returns
unfolding interior
returns g c =
    let add = g.met.T.Float.float_add_law in
    let mul = g.met.T.Float.float_mul_law in
    let get = float_get g.met.T.Real.floats_law in
    simp (
      ← g.met.T.Real.floats_law,
      mul _ _ _ c.mul.ensures,
      add _ _ _ c.add-2.ensures,
      add _ _ _ c.add.ensures,
      mul _ _ _ c.mul-2.ensures,
      mul _ _ _ c.mul-3.ensures,
      add _ _ _ c.add-4.ensures,
      add _ _ _ c.add-3.ensures,
      mul _ _ _ c.mul-4.ensures,
      mul _ _ _ c.mul-5.ensures,
      mul _ _ _ c.mul-6.ensures,
      ← get c.args.h 0 c.index-h-0.result (omega arith),
      ← get c.args.h 1 c.index-h-1.result (omega arith),
      ← get c.args.h 2 c.index-h-2.result (omega arith),
      ← get c.args.h 3 c.index-h-3.result (omega arith),
      ← get c.centered_difference_weights-k0.result 0 c.index-k0-0.result (omega arith),
      ← get c.centered_difference_weights-k0.result 1 c.index-k0-1.result (omega arith),
      ← get c.centered_difference_weights-k0.result 2 c.index-k0-2.result (omega arith),
      ← get c.centered_difference_weights-k1.result 0 c.index-k1-0.result (omega arith),
      ← get c.centered_difference_weights-k1.result 1 c.index-k1-1.result (omega arith),
      ← get c.centered_difference_weights-k1.result 2 c.index-k1-2.result (omega arith),
      c.centered_difference_weights-k0.ensures,
      c.centered_difference_weights-k1.ensures,
      c.one.ensures,
      c.one-2.ensures,
      g.met.T.Float.float_one_law,
    )
