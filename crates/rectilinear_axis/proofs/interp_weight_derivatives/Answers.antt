-- `interp_weight_derivatives`: each class by the function of its arm, scaled.
use native.Mathlib.Omega.{arith}
use Rattle.interp_math.proofs.Lists.{float_get}
use Rattle.rectilinear_axis.proofs.interp_weight_derivatives.Goals as goal

pub returns-in-None : goal.returns-in-None
returns-in-None g c =
    let F = g.met.T.Float in
    let sub = F.float_sub_law in
    let div = F.float_div_law in
    let get = float_get g.met.T.Real.floats_law c.args.grid_cell in
    simp (
      c.in-None.is,
      c.scale_weights.ensures,
      div _ _ _ c.div-in-None-3.ensures,
      c.interior.ensures,
      c.hermite_basis_derivative.ensures,
      div _ _ _ c.div.ensures,
      sub _ _ _ c.sub.ensures,
      div _ _ _ c.div-in-None.ensures,
      div _ _ _ c.div-in-None-2.ensures,
      sub _ _ _ c.sub-h01.ensures,
      sub _ _ _ c.sub-h12.ensures,
      sub _ _ _ c.sub-h23.ensures,
      ← get 0 c.index-grid_cell-0.result (omega arith),
      ← get 1 c.index-grid_cell-1.result (omega arith),
      ← get 2 c.index-grid_cell-2.result (omega arith),
      ← get 3 c.index-grid_cell-3.result (omega arith),
      c.one-one.ensures,
      F.float_one_law,
    )

pub returns-in-InsideLow : goal.returns-in-InsideLow
returns-in-InsideLow g c =
    let F = g.met.T.Float in
    let sub = F.float_sub_law in
    let div = F.float_div_law in
    let neg = F.float_neg_law in
    let get = float_get g.met.T.Real.floats_law c.args.grid_cell in
    simp (
      c.in-InsideLow.is,
      c.scale_weights-in-InsideLow.ensures,
      div _ _ _ c.div-in-InsideLow.ensures,
      neg _ _ c.neg.ensures,
      c.low_weight_derivatives.ensures,
      sub _ _ _ c.sub-in-InsideLow.ensures,
      sub _ _ _ c.sub-h01.ensures,
      sub _ _ _ c.sub-h12.ensures,
      ← get 0 c.index-grid_cell-0.result (omega arith),
      ← get 1 c.index-grid_cell-1.result (omega arith),
      ← get 2 c.index-grid_cell-2.result (omega arith),
      c.one-one.ensures,
      F.float_one_law,
    )

pub returns-in-OutsideLow : goal.returns-in-OutsideLow
returns-in-OutsideLow g c =
    let F = g.met.T.Float in
    let sub = F.float_sub_law in
    let div = F.float_div_law in
    let neg = F.float_neg_law in
    let get = float_get g.met.T.Real.floats_law c.args.grid_cell in
    simp (
      c.in-OutsideLow.is,
      c.scale_weights-in-OutsideLow.ensures,
      div _ _ _ c.div-in-OutsideLow.ensures,
      neg _ _ c.neg-in-OutsideLow.ensures,
      c.low_weight_derivatives-in-OutsideLow.ensures,
      sub _ _ _ c.sub-in-OutsideLow.ensures,
      sub _ _ _ c.sub-h01.ensures,
      sub _ _ _ c.sub-h12.ensures,
      ← get 0 c.index-grid_cell-0.result (omega arith),
      ← get 1 c.index-grid_cell-1.result (omega arith),
      ← get 2 c.index-grid_cell-2.result (omega arith),
      c.one-one.ensures,
      F.float_one_law,
    )

pub returns-in-InsideHigh : goal.returns-in-InsideHigh
returns-in-InsideHigh g c =
    let F = g.met.T.Float in
    let sub = F.float_sub_law in
    let div = F.float_div_law in
    let get = float_get g.met.T.Real.floats_law c.args.grid_cell in
    simp (
      c.in-InsideHigh.is,
      c.scale_weights-in-InsideHigh.ensures,
      div _ _ _ c.div-in-InsideHigh.ensures,
      c.high_weight_derivatives.ensures,
      sub _ _ _ c.sub-in-InsideHigh.ensures,
      sub _ _ _ c.sub-h12.ensures,
      sub _ _ _ c.sub-h23.ensures,
      ← get 1 c.index-grid_cell-1.result (omega arith),
      ← get 2 c.index-grid_cell-2.result (omega arith),
      ← get 3 c.index-grid_cell-3.result (omega arith),
      c.one-one.ensures,
      F.float_one_law,
    )

pub returns-in-OutsideHigh : goal.returns-in-OutsideHigh
returns-in-OutsideHigh g c =
    let F = g.met.T.Float in
    let sub = F.float_sub_law in
    let div = F.float_div_law in
    let get = float_get g.met.T.Real.floats_law c.args.grid_cell in
    simp (
      c.in-OutsideHigh.is,
      c.scale_weights-in-OutsideHigh.ensures,
      div _ _ _ c.div-in-OutsideHigh.ensures,
      c.high_weight_derivatives-in-OutsideHigh.ensures,
      sub _ _ _ c.sub-in-OutsideHigh.ensures,
      sub _ _ _ c.sub-h12.ensures,
      sub _ _ _ c.sub-h23.ensures,
      ← get 1 c.index-grid_cell-1.result (omega arith),
      ← get 2 c.index-grid_cell-2.result (omega arith),
      ← get 3 c.index-grid_cell-3.result (omega arith),
      c.one-one.ensures,
      F.float_one_law,
    )
