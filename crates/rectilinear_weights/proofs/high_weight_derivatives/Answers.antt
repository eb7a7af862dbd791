-- `high_weight_derivatives`: the slope of the straight line, or the cubic end from the derivative of the basis.
use native.Mathlib.Omega.{arith}
use Rattle.rectilinear_weights.specs.Weights.{straight_high_slope}
use Rattle.interp_math.proofs.Lists.{float_get}
use Rattle.rectilinear_weights.proofs.high_weight_derivatives.Goals as goal

pub returns-then-linearize_extrapolation : goal.returns-then-linearize_extrapolation
unfolding straight_high_slope
returns-then-linearize_extrapolation g c =
    let add = g.met.T.Float.float_add_law in
    let sub = g.met.T.Float.float_sub_law in
    let div = g.met.T.Float.float_div_law in
    let neg = g.met.T.Float.float_neg_law in
    let get = float_get g.met.T.Real.floats_law in
    simp (
      c.if-linearize_extrapolation.true,
      ← g.met.T.Real.floats_law,
      neg _ _ c.neg.ensures,
      sub _ _ _ c.sub.ensures,
      neg _ _ c.neg-then-linearize_extrapolation.ensures,
      sub _ _ _ c.sub-then-linearize_extrapolation.ensures,
      ← get c.centered_difference_weights-k0.result 0 c.index-k0-0.result (omega arith),
      ← get c.centered_difference_weights-k0.result 1 c.index-k0-1.result (omega arith),
      ← get c.centered_difference_weights-k0.result 2 c.index-k0-2.result (omega arith),
      c.centered_difference_weights-k0.ensures,
      div _ _ _ c.div.ensures,
      add _ _ _ c.add-two.ensures,
      c.one-one.ensures,
      c.zero.ensures,
      g.met.T.Float.float_one_law,
      g.met.T.Float.float_zero_law,
    )

pub returns-else-linearize_extrapolation : goal.returns-else-linearize_extrapolation
returns-else-linearize_extrapolation g c =
    let div = g.met.T.Float.float_div_law in
    simp (
      c.if-linearize_extrapolation.false,
      c.cubic_high.ensures,
      c.hermite_basis_derivative.ensures,
      c.centered_difference_weights-k0.ensures,
      div _ _ _ c.div.ensures,
      div _ _ _ c.div-else-linearize_extrapolation.ensures,
      c.one-one.ensures,
      g.met.T.Float.float_one_law,
    )
