-- `low_weights`: the straight line, or the cubic end from the basis.
use Rattle.regular_axis.specs.Weights.{straight_end}
use Rattle.regular_axis.proofs.low_weights.Goals as goal

pub returns-then-linearize_extrapolation : goal.returns-then-linearize_extrapolation
unfolding straight_end
returns-then-linearize_extrapolation g c =
    let add = g.met.T.Float.float_add_law in
    let sub = g.met.T.Float.float_sub_law in
    let mul = g.met.T.Float.float_mul_law in
    let div = g.met.T.Float.float_div_law in
    let neg = g.met.T.Float.float_neg_law in
    simp (
      c.if-linearize_extrapolation.true,
      ← g.met.T.Real.floats_law,
      add _ _ _ c.add-then-linearize_extrapolation.ensures,
      mul _ _ _ c.mul.ensures,
      add _ _ _ c.add.ensures,
      div _ _ _ c.div.ensures,
      mul _ _ _ c.mul-then-linearize_extrapolation.ensures,
      neg _ _ c.neg.ensures,
      div _ _ _ c.div-then-linearize_extrapolation.ensures,
      sub _ _ _ c.sub-s.ensures,
      add _ _ _ c.add-two.ensures,
      c.one-one.ensures,
      c.zero.ensures,
      g.met.T.Float.float_one_law,
      g.met.T.Float.float_zero_law,
    )

pub returns-else-linearize_extrapolation : goal.returns-else-linearize_extrapolation
returns-else-linearize_extrapolation g c = simp (c.if-linearize_extrapolation.false, c.cubic_end.ensures, c.hermite_basis.ensures)
