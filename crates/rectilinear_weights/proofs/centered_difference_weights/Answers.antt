-- `centered_difference_weights`: operation by operation the definition.
use Rattle.rectilinear_weights.specs.Weights.{centered_difference}
use Rattle.rectilinear_weights.proofs.centered_difference_weights.Goals as goal

pub returns : goal.returns
unfolding centered_difference
returns g c =
    let add = g.met.T.Float.float_add_law in
    let div = g.met.T.Float.float_div_law in
    let neg = g.met.T.Float.float_neg_law in
    simp (
      ← g.met.T.Real.floats_law,
      div _ _ _ c.div.ensures,
      neg _ _ c.neg.ensures,
      div _ _ _ c.div-4.ensures,
      c.mul_add.ensures,
      div _ _ _ c.div-2.ensures,
      div _ _ _ c.div-3.ensures,
      neg _ _ c.neg-2.ensures,
      div _ _ _ c.div-a.ensures,
      div _ _ _ c.div-c.ensures,
      add _ _ _ c.add-denom.ensures,
      c.one.ensures,
      g.met.T.Float.float_one_law,
    )
