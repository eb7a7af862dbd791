-- The grids that slices describe have what is owed of the calls for C.
use mathlib.Core.Path.{refl}
use mathlib.Core.List.{List}
use Prim.Native.Nat.{ℕ}
use lib.Ieee.{Float, Format}
use Rattle.multicubic.specs.declared.EdgeMode.TheVariants.{Held}
use Rattle.slices.specs.Slices.{counts_from, mode_of}
use Rattle.slices.specs.Axes.{axes_from}
use Rattle.slices.specs.Lent.{set_by}
use Rattle.regular_lent.specs.Regular.{regular_from}
use Rattle.rectilinear_lent.specs.Rectilinear.{rectilinear_from}
use Rattle.guarantees.proofs.Typing.{typed}
use Rattle.regular_guarantees.proofs.Supplied as Reg
use Rattle.rectilinear_guarantees.proofs.Supplied as Rect
use Rattle.capi_guarantees.specs.Gathered.{OwedRegular, OwedRectilinear, HeldRegular, HeldRectilinear, UnmarkedRegular, UnmarkedRectilinear}
use Rattle.capi_guarantees.proofs.Owed.{owed_held, owed}
use Rattle.capi_guarantees.proofs.Unmarked.{owed-unmarked}

pub regular : (f : Format) (n : ℕ) (counts : List ℕ) (starts steps : List Float) → OwedRegular f n counts starts steps
unfolding regular_from
regular f n counts starts steps vals vals' mode mode' fit fit' =
    let axes = axes_from counts starts steps in
    owed f _ (set_by (regular_from f n counts starts steps vals) mode) (set_by (regular_from f n counts starts steps vals') mode')
    (Reg.supplied f n axes vals (mode_of mode) (typed f vals fit)) (Reg.supplied f n axes vals' (mode_of mode') (typed f vals' fit'))
    (Reg.counted f n axes vals (mode_of mode) refl) (Reg.counted f n axes vals' (mode_of mode') refl)

pub rectilinear : (f : Format) (n : ℕ) (counts : List ℕ) (axes : List Float) → OwedRectilinear f n counts axes
unfolding rectilinear_from
rectilinear f n counts axes vals vals' mode mode' entries fit fit' =
    let cs = counts_from counts in
    let fits = typed f axes entries in
    owed f _ (set_by (rectilinear_from f n counts axes vals) mode) (set_by (rectilinear_from f n counts axes vals') mode')
    (Rect.supplied f n cs axes vals (mode_of mode) fits (typed f vals fit)) (Rect.supplied f n cs axes vals' (mode_of mode') fits (typed f vals' fit'))
    (Rect.counted f n cs axes vals (mode_of mode) refl) (Rect.counted f n cs axes vals' (mode_of mode') refl)

-- clause 8.6
pub held_regular : (f : Format) (n : ℕ) (counts : List ℕ) (starts steps : List Float) → HeldRegular f n counts starts steps
unfolding regular_from
held_regular f n counts starts steps vals fit =
    let axes = axes_from counts starts steps in
    let s = set_by (regular_from f n counts starts steps vals) 2 in
    owed_held f _ s (Reg.supplied f n axes vals Held (typed f vals fit)) (Reg.clamped f n axes vals)

pub held_rectilinear : (f : Format) (n : ℕ) (counts : List ℕ) (axes : List Float) → HeldRectilinear f n counts axes
unfolding rectilinear_from
held_rectilinear f n counts axes vals entries fit =
    let cs = counts_from counts in
    let fits = typed f axes entries in
    let s = set_by (rectilinear_from f n counts axes vals) 2 in
    owed_held f _ s (Rect.supplied f n cs axes vals Held fits (typed f vals fit)) (Rect.clamped f n cs axes vals fits)

-- clause 8.8
pub unmarked-regular : (f : Format) (n : ℕ) (counts : List ℕ) (starts steps : List Float) → UnmarkedRegular f n counts starts steps
unfolding regular_from
unmarked-regular f n counts starts steps vals mode fit =
    let axes = axes_from counts starts steps in
    owed-unmarked f _ (set_by (regular_from f n counts starts steps vals) mode) (Reg.supplied f n axes vals (mode_of mode) (typed f vals fit)) (Reg.counted f n axes vals (mode_of mode) refl)
    (Reg.at_nodes f n axes vals (mode_of mode))

pub unmarked-rectilinear : (f : Format) (n : ℕ) (counts : List ℕ) (axes : List Float) → UnmarkedRectilinear f n counts axes
unfolding rectilinear_from
unmarked-rectilinear f n counts axes vals mode entries fit =
    let cs = counts_from counts in
    let fits = typed f axes entries in
    owed-unmarked f _ (set_by (rectilinear_from f n counts axes vals) mode) (Rect.supplied f n cs axes vals (mode_of mode) fits (typed f vals fit)) (Rect.counted f n cs axes vals (mode_of mode) refl)
    (Rect.at_nodes f n cs axes vals (mode_of mode) fits)
