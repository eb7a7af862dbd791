-- `interp_weights`: each class by the function of its arm.
use native.Mathlib.Omega.{arith}
use Rattle.interp_math.proofs.Lists.{float_get}
use Rattle.rectilinear_axis.proofs.interp_weights.Goals as goal

pub returns-in-None : goal.returns-in-None
returns-in-None g c =
    let F = g.met.T.Float in
    let sub = F.float_sub_law in
    let div = F.float_div_law in
    let get = float_get g.met.T.Real.floats_law c.args.grid_cell in
    simp (
      c.in-None.is,
      c.interior.ensures,
      c.hermite_basis.ensures,
      div _ _ _ c.div.ensures,
      sub _ _ _ c.sub.ensures,
      div _ _ _ c.div-in-None.ensures,
      div _ _ _ c.div-in-None-2.ensures,
      sub _ _ _ c.sub-h01.ensures,
      sub _ _ _ c.sub-h12.ensures,
      sub _ _ _ c.sub-h23.ensures,
      ← get 0 c.index-grid_cell-0.result (omega arith),
      ← get 1 c.index-grid_cell-1.result (omega arith),
      ← get 2 c.index-grid_cell-2.result (omega arith),
      ← get 3 c.index-grid_cell-3.result (omega arith),
    )

pub returns-in-InsideLow : goal.returns-in-InsideLow
returns-in-InsideLow g c =
    let F = g.met.T.Float in
    let sub = F.float_sub_law in
    let get = float_get g.met.T.Real.floats_law c.args.grid_cell in
    simp (
      c.in-InsideLow.is,
      c.low_weights.ensures,
      sub _ _ _ c.sub-in-InsideLow.ensures,
      sub _ _ _ c.sub-h01.ensures,
      sub _ _ _ c.sub-h12.ensures,
      ← get 0 c.index-grid_cell-0.result (omega arith),
      ← get 1 c.index-grid_cell-1.result (omega arith),
      ← get 2 c.index-grid_cell-2.result (omega arith),
    )

pub returns-in-OutsideLow : goal.returns-in-OutsideLow
returns-in-OutsideLow g c =
    let F = g.met.T.Float in
    let sub = F.float_sub_law in
    let get = float_get g.met.T.Real.floats_law c.args.grid_cell in
    simp (
      c.in-OutsideLow.is,
      c.low_weights-in-OutsideLow.ensures,
      sub _ _ _ c.sub-in-OutsideLow.ensures,
      sub _ _ _ c.sub-h01.ensures,
      sub _ _ _ c.sub-h12.ensures,
      ← get 0 c.index-grid_cell-0.result (omega arith),
      ← get 1 c.index-grid_cell-1.result (omega arith),
      ← get 2 c.index-grid_cell-2.result (omega arith),
    )

pub returns-in-InsideHigh : goal.returns-in-InsideHigh
returns-in-InsideHigh g c =
    let F = g.met.T.Float in
    let sub = F.float_sub_law in
    let get = float_get g.met.T.Real.floats_law c.args.grid_cell in
    simp (
      c.in-InsideHigh.is,
      c.high_weights.ensures,
      sub _ _ _ c.sub-in-InsideHigh.ensures,
      sub _ _ _ c.sub-h12.ensures,
      sub _ _ _ c.sub-h23.ensures,
      ← get 1 c.index-grid_cell-1.result (omega arith),
      ← get 2 c.index-grid_cell-2.result (omega arith),
      ← get 3 c.index-grid_cell-3.result (omega arith),
    )

pub returns-in-OutsideHigh : goal.returns-in-OutsideHigh
returns-in-OutsideHigh g c =
    let F = g.met.T.Float in
    let sub = F.float_sub_law in
    let get = float_get g.met.T.Real.floats_law c.args.grid_cell in
    simp (
      c.in-OutsideHigh.is,
      c.high_weights-in-OutsideHigh.ensures,
      sub _ _ _ c.sub-in-OutsideHigh.ensures,
      sub _ _ _ c.sub-h12.ensures,
      sub _ _ _ c.sub-h23.ensures,
      ← get 1 c.index-grid_cell-1.result (omega arith),
      ← get 2 c.index-grid_cell-2.result (omega arith),
      ← get 3 c.index-grid_cell-3.result (omega arith),
    )
