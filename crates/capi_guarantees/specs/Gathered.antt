-- The same of the grids that slices describe: two tables on the same axes, each with its own values and the number of its setting, within the
-- kind's premises on the axes. A number that names no setting needs no premise: such a grid is not accepted as it is lent. And clause 2.6 of `new`.
use Rattle.std.specs.Prelude.{ℕ, ◌≡◌, List, take, Float}
use Rattle.std.specs.Float.{Format}
use Rattle.multicubic.specs.declared.EdgeMode.{EdgeMode}
use Rattle.grid.specs.Nodes.{Fits}
use Rattle.slices.specs.Slices.{counts_from}
use Rattle.slices.specs.Axes.{axes_from}
use Rattle.slices.specs.Lent.{set_by}
use Rattle.regular_query.specs.Grid as Reg
use Rattle.rectilinear_order.specs.Grid.{axes_of, Rising, GapsAbove}
use Rattle.rectilinear_query.specs.Grid as Rect
use Rattle.regular_lent.specs.Regular.{regular_from}
use Rattle.rectilinear_lent.specs.Rectilinear.{rectilinear_from}
use Rattle.capi.specs.Calls.{new_leaves}
use Rattle.capi_guarantees.specs.Statements.{Owed, OwedHeld, OwedUnmarked}

abbrev pub OwedRegular : Format → ℕ → List ℕ → List Float → List Float → Type 0
OwedRegular f n counts starts steps =
    (vals vals' : List Float) (mode mode' : ℕ) → Fits f vals → Fits f vals'
    → Owed f (Reg.AllPremises (take n (axes_from counts starts steps)))
    (set_by (regular_from f n counts starts steps vals) mode) (set_by (regular_from f n counts starts steps vals') mode')

abbrev pub OwedRectilinear : Format → ℕ → List ℕ → List Float → Type 0
OwedRectilinear f n counts axes =
    (vals vals' : List Float) (mode mode' : ℕ) → Fits f axes → Fits f vals → Fits f vals'
    → Owed f (Rect.AllPremises f (axes_of (take n (counts_from counts)) axes))
    (set_by (rectilinear_from f n counts axes vals) mode) (set_by (rectilinear_from f n counts axes vals') mode')

-- clause 8.6: setting 2, held
abbrev pub HeldRegular : Format → ℕ → List ℕ → List Float → List Float → Type 0
HeldRegular f n counts starts steps =
    (vals : List Float) → Fits f vals → OwedHeld f (Reg.AllPremises (take n (axes_from counts starts steps))) (set_by (regular_from f n counts starts steps vals) 2)

abbrev pub HeldRectilinear : Format → ℕ → List ℕ → List Float → Type 0
HeldRectilinear f n counts axes =
    (vals : List Float) → Fits f axes → Fits f vals → OwedHeld f (Rect.AllPremises f (axes_of (take n (counts_from counts)) axes)) (set_by (rectilinear_from f n counts axes vals) 2)

-- clause 8.8: any setting
abbrev pub UnmarkedRegular : Format → ℕ → List ℕ → List Float → List Float → Type 0
UnmarkedRegular f n counts starts steps =
    (vals : List Float) (mode : ℕ) → Fits f vals → OwedUnmarked f (Reg.AllPremises (take n (axes_from counts starts steps))) (set_by (regular_from f n counts starts steps vals) mode)

abbrev pub UnmarkedRectilinear : Format → ℕ → List ℕ → List Float → Type 0
UnmarkedRectilinear f n counts axes =
    (vals : List Float) (mode : ℕ) → Fits f axes → Fits f vals
    → OwedUnmarked f (Rect.AllPremises f (axes_of (take n (counts_from counts)) axes)) (set_by (rectilinear_from f n counts axes vals) mode)

-- clause 2.6: where `new` gives 0 on a rectilinear grid, every axis rises strictly, and no gap is zero
abbrev pub RisesRectilinear : Format → ℕ → List ℕ → List Float → Type 0
RisesRectilinear f n counts axes =
    (vals : List Float) (mode : EdgeMode) (refusal : List ℕ) → Fits f axes → (new_leaves (rectilinear_from f n counts axes vals mode) refusal).number ≡ 0
    → Rising (axes_of (take n (counts_from counts)) axes) × GapsAbove f (axes_of (take n (counts_from counts)) axes)
