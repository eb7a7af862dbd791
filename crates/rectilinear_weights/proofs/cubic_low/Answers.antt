-- `cubic_low`: operation by operation the definition.
use native.Mathlib.Omega.{arith}
use Rattle.rectilinear_weights.specs.Weights.{cubic_low}
use Rattle.interp_math.proofs.Lists.{float_get}
use Rattle.rectilinear_weights.proofs.cubic_low.Goals as goal

pub returns : goal.returns
unfolding cubic_low
returns g c =
    let add = g.met.T.Float.float_add_law in
    let sub = g.met.T.Float.float_sub_law in
    let mul = g.met.T.Float.float_mul_law in
    let get = float_get g.met.T.Real.floats_law in
    simp (
      ← g.met.T.Real.floats_law,
      add _ _ _ c.add-2.ensures,
      add _ _ _ c.add.ensures,
      mul _ _ _ c.mul.ensures,
      mul _ _ _ c.mul-2.ensures,
      add _ _ _ c.add-3.ensures,
      sub _ _ _ c.sub.ensures,
      mul _ _ _ c.mul-3.ensures,
      mul _ _ _ c.mul-4.ensures,
      mul _ _ _ c.mul-5.ensures,
      sub _ _ _ c.sub-slope_factor.ensures,
      add _ _ _ c.add-two.ensures,
      ← get c.args.h 0 c.index-h-0.result (omega arith),
      ← get c.args.h 1 c.index-h-1.result (omega arith),
      ← get c.args.h 2 c.index-h-2.result (omega arith),
      ← get c.args.h 3 c.index-h-3.result (omega arith),
      ← get c.args.k0 0 c.index-k0-0.result (omega arith),
      ← get c.args.k0 1 c.index-k0-1.result (omega arith),
      ← get c.args.k0 2 c.index-k0-2.result (omega arith),
      c.one-one.ensures,
      c.zero.ensures,
      g.met.T.Float.float_one_law,
      g.met.T.Float.float_zero_law,
    )
