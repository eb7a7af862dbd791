-- `hermite_basis_derivative`: operation by operation the definition.
use Rattle.interp_math.specs.Basis.{hermite_basis_derivative}
use Rattle.interp_math.proofs.hermite_basis_derivative.Goals as goal

pub returns : goal.returns
unfolding hermite_basis_derivative
returns g c =
    let F = g.met.T.Float in
    let add = F.float_add_law in
    let sub = F.float_sub_law in
    let mul = F.float_mul_law in
    simp (
      ← g.met.T.Real.floats_law,
      mul _ _ _ c.mul.ensures,
      sub _ _ _ c.sub.ensures,
      add _ _ _ c.add-2.ensures,
      sub _ _ _ c.sub-2.ensures,
      mul _ _ _ c.mul-2.ensures,
      mul _ _ _ c.mul-3.ensures,
      add _ _ _ c.add.ensures,
      mul _ _ _ c.mul-4.ensures,
      sub _ _ _ c.sub-3.ensures,
      sub _ _ _ c.sub-4.ensures,
      mul _ _ _ c.mul-5.ensures,
      mul _ _ _ c.mul-6.ensures,
      add _ _ _ c.add-six.ensures,
      add _ _ _ c.add-three.ensures,
      add _ _ _ c.add-two.ensures,
      mul _ _ _ c.mul-t2.ensures,
      c.one-one.ensures,
      F.float_one_law,
    )
