-- `hermite_basis`: operation by operation the definition.
use Rattle.interp_math.specs.Basis.{hermite_basis}
use Rattle.interp_math.proofs.hermite_basis.Goals as goal

pub returns : goal.returns
unfolding hermite_basis
returns g c =
    let F = g.met.T.Float in
    let add = F.float_add_law in
    let sub = F.float_sub_law in
    let mul = F.float_mul_law in
    let neg = F.float_neg_law in
    simp (
      ← g.met.T.Real.floats_law,
      c.mul_add-2.ensures,
      c.mul_add.ensures,
      neg _ _ c.neg.ensures,
      c.mul_add-4.ensures,
      c.mul_add-3.ensures,
      sub _ _ _ c.sub.ensures,
      c.mul_add-5.ensures,
      neg _ _ c.neg-2.ensures,
      mul _ _ _ c.mul.ensures,
      c.mul_add-6.ensures,
      sub _ _ _ c.sub-2.ensures,
      add _ _ _ c.add-three.ensures,
      add _ _ _ c.add-two.ensures,
      mul _ _ _ c.mul-t3.ensures,
      mul _ _ _ c.mul-t2.ensures,
      c.one-one.ensures,
      F.float_one_law,
      c.zero.ensures,
      c.zero-2.ensures,
      F.float_zero_law,
    )
