-- `low_weight_derivatives`: the slope of the straight line, or the cubic end from the derivative of the basis.
use Rattle.regular_axis.specs.Weights.{straight_end_slope}
use Rattle.regular_axis.proofs.low_weight_derivatives.Goals as goal

pub returns-then-linearize_extrapolation : goal.returns-then-linearize_extrapolation
unfolding straight_end_slope
returns-then-linearize_extrapolation g c =
    let add = g.met.T.Float.float_add_law in
    let div = g.met.T.Float.float_div_law in
    let neg = g.met.T.Float.float_neg_law in
    simp (
      c.if-linearize_extrapolation.true,
      ← g.met.T.Real.floats_law,
      add _ _ _ c.add.ensures,
      div _ _ _ c.div.ensures,
      neg _ _ c.neg.ensures,
      div _ _ _ c.div-then-linearize_extrapolation.ensures,
      add _ _ _ c.add-two.ensures,
      c.one-one.ensures,
      c.zero.ensures,
      g.met.T.Float.float_one_law,
      g.met.T.Float.float_zero_law,
    )

pub returns-else-linearize_extrapolation : goal.returns-else-linearize_extrapolation
returns-else-linearize_extrapolation g c = simp (c.if-linearize_extrapolation.false, c.cubic_end.ensures, c.hermite_basis_derivative.ensures)
