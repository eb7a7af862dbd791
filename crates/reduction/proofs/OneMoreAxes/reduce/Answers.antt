-- Over one axis more: the step of the reduction over the last.
use Prim.Native.Nat.{ℕ, suc, ◌<◌}
use mathlib.Core.List.{List, [], ◌∷◌, ◌++◌}
use mathlib.Core.Path.{refl}
use lib.ListN.{get_or}
use native.Mathlib.Omega.{arith}
use Rattle.reduction.specs.Internal.{Reads}
use Rattle.reduction.proofs.Reduction.{step_read}
use Rattle.reduction.proofs.OneMoreAxes.reduce.Given.{Over}
use Rattle.reduction.proofs.OneMoreAxes.reduce.Goals as goal
use Rattle.reduction.proofs.OneMoreAxes.reduce.Goals.{After-along-at}

-- what is read from the index that is handed on for j is read from the base for j too
read : (g : Over) (c : After-along-at g) (j : ℕ) → j < 4 → (js : List ℕ) (i : ℕ) → Reads c.number-last.result (get_or c.along-at.result j 0) c.args.strides js i → Reads (suc c.number-last.result) c.args.base c.args.strides (js ++ (j ∷ [])) i
read g c j l js i r = (c.along-at.result, j, js, c.along-at.ensures, l, refl, r)

pub returns : goal.returns
returns g c =
    let a = c.args in
    let w = c.well_formed.1.0.1.0.1 in
    let s = c.well_formed.1.1.0.1.0.1 in
    let n = c.requires.number_bound in
    step_read g.met.T.Real.floats_law g.met.T.Real.rows_law _ a.vals.now a.weights a.strides a.base c.number-last.result g.A.Axes.number c.number-last.ensures (omega (arith, n)) (omega (arith, n)) c.along-at.result c.along-at.ensures
    _ _ _ _ _ c.reduce-v0.ensures c.reduce-v1.ensures c.reduce-v2.ensures c.reduce-v3.ensures c.dot4.ensures
