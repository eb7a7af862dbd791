-- Over one axis more: four parts and one step.
use Prim.Native.Nat.{ℕ, suc, ◌<◌}
use mathlib.Core.List.{List, [], ◌∷◌, ◌++◌}
use mathlib.Core.Path.{refl}
use native.Mathlib.Omega.{arith}
use lib.Dec.{lit<}
use lib.ListN.{length, get_or}
use Rattle.reduction.specs.Internal.{Reads}
use Rattle.reduction.proofs.Reduction.{hand_room}
use Rattle.shared_reduction.proofs.Reading.{joined_read, steps_next}
use Rattle.shared_reduction.proofs.OneMoreSharedAxes.shared.Given.{Over}
use Rattle.shared_reduction.proofs.OneMoreSharedAxes.shared.Goals as goal
use Rattle.shared_reduction.proofs.OneMoreSharedAxes.shared.Goals.{After-along-at}

-- what is read from the index that is handed on for j is read from the base for j too
read : (g : Over) (c : After-along-at g) (j : ℕ) → j < 4 → (js : List ℕ) (i : ℕ) → Reads c.number-last.result (get_or c.along-at.result j 0) c.args.strides js i → Reads (suc c.number-last.result) c.args.base c.args.strides (js ++ (j ∷ [])) i
read g c j l js i r = (c.along-at.result, j, js, c.along-at.ensures, l, refl, r)

-- the numbers of the parts, each handed on to the next
pub shared-v0-requires : goal.shared-v0-requires
shared-v0-requires g c =
    let room = hand_room _ g.A.Axes.number c.args.base (length c.args.vals.now) c.args.strides c.along-at.result c.number-last.ensures (omega (arith, c.requires.number_bound)) c.along-at.ensures c.requires.within 0 (lit< tt) in
    omega (arith, room, c.requires.steps_of_bound, steps_next g.A.Axes.number)

pub shared-v1-requires : goal.shared-v1-requires
shared-v1-requires g c =
    let room = hand_room _ g.A.Axes.number c.args.base (length c.args.vals.now) c.args.strides c.along-at.result c.number-last.ensures (omega (arith, c.requires.number_bound)) c.along-at.ensures c.requires.within 1 (lit< tt) in
    omega (arith, room, c.requires.steps_of_bound, steps_next g.A.Axes.number, c.shared-v0.ensures.taken_value)

pub shared-v2-requires : goal.shared-v2-requires
shared-v2-requires g c =
    let room = hand_room _ g.A.Axes.number c.args.base (length c.args.vals.now) c.args.strides c.along-at.result c.number-last.ensures (omega (arith, c.requires.number_bound)) c.along-at.ensures c.requires.within 2 (lit< tt) in
    omega (arith, room, c.requires.steps_of_bound, steps_next g.A.Axes.number, c.shared-v0.ensures.taken_value, c.shared-v1.ensures.taken_value)

pub shared-v3-requires : goal.shared-v3-requires
shared-v3-requires g c =
    let room = hand_room _ g.A.Axes.number c.args.base (length c.args.vals.now) c.args.strides c.along-at.result c.number-last.ensures (omega (arith, c.requires.number_bound)) c.along-at.ensures c.requires.within 3 (lit< tt) in
    omega (arith, room, c.requires.steps_of_bound, steps_next g.A.Axes.number, c.shared-v0.ensures.taken_value, c.shared-v1.ensures.taken_value, c.shared-v2.ensures.taken_value)

pub returns-clause-taken_value : goal.returns-clause-taken_value
returns-clause-taken_value g c = omega (
  arith,
  c.over_axis.ensures.taken_value,
  c.number-last.ensures,
  steps_next g.A.Axes.number,
  c.shared-v0.ensures.taken_value,
  c.shared-v1.ensures.taken_value,
  c.shared-v2.ensures.taken_value,
  c.shared-v3.ensures.taken_value,
)

pub over_axis-requires : goal.over_axis-requires
over_axis-requires g c = omega (
  arith,
  c.requires.number_bound,
  c.requires.steps_of_bound,
  c.number-last.ensures,
  steps_next g.A.Axes.number,
  c.shared-v0.ensures.taken_value,
  c.shared-v1.ensures.taken_value,
  c.shared-v2.ensures.taken_value,
  c.shared-v3.ensures.taken_value,
)

pub returns-clause-reduced : goal.returns-clause-reduced
returns-clause-reduced g c =
    let a = c.args in
    let n = c.requires.number_bound in
    let o = c.over_axis.ensures in
    joined_read g.met.T.Real.floats_law g.met.T.Real.rows_law _ a.vals.now a.weights a.derivatives a.strides a.base c.number-last.result g.A.Axes.number c.number-last.ensures (omega (arith, n)) (omega (arith, n)) (omega (arith, n))
    c.along-at.result c.along-at.ensures c.shared-v0.ensures.reduced c.shared-v1.ensures.reduced c.shared-v2.ensures.reduced c.shared-v3.ensures.reduced o.value_value o.by_index o.nan_value o.by_index_2
