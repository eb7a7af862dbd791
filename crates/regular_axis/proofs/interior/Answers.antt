-- `interior`: operation by operation the definition.
use native.Mathlib.Omega.{arith}
use Rattle.regular_axis.specs.Weights.{interior}
use Rattle.interp_math.proofs.Lists.{float_get}
use Rattle.regular_axis.proofs.interior.Goals as goal

pub returns : goal.returns
unfolding interior
returns g c =
    let add = g.met.T.Float.float_add_law in
    let sub = g.met.T.Float.float_sub_law in
    let div = g.met.T.Float.float_div_law in
    let neg = g.met.T.Float.float_neg_law in
    let get = float_get g.met.T.Real.floats_law in
    simp (
      ← g.met.T.Real.floats_law,
      div _ _ _ c.div.ensures,
      neg _ _ c.neg.ensures,
      sub _ _ _ c.sub.ensures,
      div _ _ _ c.div-2.ensures,
      add _ _ _ c.add.ensures,
      div _ _ _ c.div-3.ensures,
      div _ _ _ c.div-4.ensures,
      add _ _ _ c.add-two.ensures,
      ← get c.args.h 1 c.index-h-1.result (omega arith),
      ← get c.args.h 0 c.index-h-0.result (omega arith),
      ← get c.args.h 3 c.index-h-3.result (omega arith),
      ← get c.args.h 2 c.index-h-2.result (omega arith),
      ← get c.args.h 1 c.index-h-1-2.result (omega arith),
      ← get c.args.h 3 c.index-h-3-2.result (omega arith),
      c.one-one.ensures,
      g.met.T.Float.float_one_law,
    )
