-- A loop over the axes of a grid that is taken: what its calls ask of the axis in hand, and what they then tell of the grid's axis.
use mathlib.Core.Path.{◌≡◌, refl, ap, ◌∙◌}
use mathlib.Core.Bool.{Bool}
use mathlib.Core.List.{List}
use Prim.Native.Nat.{ℕ, ◌≤◌, ◌<◌}
use native.Mathlib.Omega.{arith}
use lib.ListN.{length, get_or, take}
use lib.Ieee.{Float, binary64}
use Rattle.std.specs.Prelude.{Result, Err, Ok}
use Rattle.multicubic.specs.declared.EdgeMode.{EdgeMode}
use Rattle.multicubic.specs.declared.LocError.{LocError}
use Rattle.multicubic.specs.declared.Marks.{Marks}
use Rattle.multicubic.specs.declared.Place.{Place}
use Rattle.multicubic.specs.declared.Refusal.{Refusal}
use Rattle.multicubic.specs.Types.{Axis, Loc, refusal}
use Rattle.multicubic.specs.Answers.{check_of, place_at}
use Rattle.multicubic.specs.Place.{straight_of}
use Rattle.reduction.specs.Value.{strides_of}
use Rattle.grid.specs.Query.{GridAxis, counts_of}
use Rattle.grid.specs.Internal.{replaced_in, used_by, row_by, row_at, no_axis as no_grid_axis}
use Rattle.grid.proofs.Edges.{own-loc, own_row}
use Rattle.grid.proofs.Fit.{Fit}
use Rattle.regular_query.specs.Grid.{grid_axis, axis_in, axes_in}
use Rattle.regular_query.specs.Internal.{Ready}
use Rattle.regular_query.proofs.Calls.{no_axis}
use Rattle.regular_query.proofs.Locating.{taken_of, fit, spaced-by, spanned, axis-is, origin-below}

-- ---- a query's place on an axis, or its refusal there
abbrev pub Placing : Type 0
Placing = Result Place Refusal

pub placed-by : (query axis : ℕ) (l : Loc) {p : Place} → ◌≡◌ {A = Placing} (Ok p) (place_at query axis l) → Ok p ≡ l
placed-by query axis (Ok q) {p} e = let z : p ≡ q = cc in ap Ok z
placed-by query axis (Err error) e = absurd (let y : ◌≡◌ {A = ℕ} 0 1 = cc in omega arith)

pub unplaced-by : (query axis : ℕ) (l : Loc) {by : Refusal} → ◌≡◌ {A = Placing} (Err by) (place_at query axis l) → (error : LocError) × (Err error ≡ l) × (by ≡ refusal (check_of error) query axis)
unplaced-by query axis (Ok q) e = absurd (let y : ◌≡◌ {A = ℕ} 0 1 = cc in omega arith)
unplaced-by query axis (Err error) {by} e = let z : by ≡ refusal (check_of error) query axis = cc in (error, refl, z)

-- ---- the axis in hand, on either line and in the grid's setting
abbrev pub line : List Axis → ℕ → Bool → GridAxis
line axes axis straight = grid_axis binary64 straight (get_or axes axis no_axis)

abbrev pub own : EdgeMode → List Axis → ℕ → GridAxis
own mode axes axis = axis_in binary64 mode (get_or axes axis no_axis)

-- a grid that is taken, its setting and the line that the code is on
pub record Taking (mode : EdgeMode) (n : ℕ) (axes : List Axis) (values : ℕ) (strides : List ℕ) (straight : Bool) : Type 0 where
  pub four : length axes ≡ 4
  pub ready : Ready n axes values strides
  pub lined : straight ≡ straight_of mode

module _ {mode : EdgeMode} {n : ℕ} {axes : List Axis} {values : ℕ} {strides : List ℕ} {straight : Bool} (t : Taking mode n axes values strides straight) where
  pub fits : Fit n (axes_in binary64 mode n axes) values
  fits = fit binary64 mode t.four (taken_of t.ready)

  pub spaced : take n strides ≡ strides_of (counts_of (axes_in binary64 mode n axes))
  spaced = spaced-by binary64 mode t.four (taken_of t.ready) strides t.ready.spaced

  module _ {axis : ℕ} (h : axis < n) where
    -- its ends' nodes can be had
    pub ends : (4 ≤ (get_or axes axis no_axis).count) × ((get_or axes axis no_axis).count ≤ 4096)
    ends = spanned binary64 mode t.four (taken_of t.ready) axis h

    -- it is the grid's
    pub same : own mode axes axis ≡ get_or (axes_in binary64 mode n axes) axis no_grid_axis
    same = axis-is binary64 mode t.four (taken_of t.ready) axis h

    -- a place's origin fits a u32
    pub low : (query : ℕ) (x : Float) (l : Loc) {p : Place} → ◌≡◌ {A = Placing} (Ok p) (place_at query axis l) → l ≡ (line axes axis straight).loc x → p.origin < 4096
    low query x l e is = origin-below binary64 mode t.four (taken_of t.ready) axis h straight x _ (placed-by query axis l e ∙ is)

    -- the coordinate as used
    module _ (given used : Float) (replaced : Marks) (r : (b : Bool) → replaced ≡ replaced_in mode (line axes axis b) given) (u : used ≡ used_by replaced (line axes axis (straight_of mode)) given) where
      -- placed by the code it is placed by the grid
      pub located : (l : Loc) → l ≡ (line axes axis (straight_of mode)).loc used → l ≡ (own mode axes axis).loc given
      located l e = own-loc mode (line axes axis) given replaced used r u l e

      -- and weighed
      pub weighed : (row : List Float) (p : Place) (derivative : Bool) → row ≡ row_by replaced (line axes axis straight) used p derivative → row ≡ row_at (own mode axes axis) given p derivative
      weighed row p derivative e = own_row mode (line axes axis) given replaced used r u straight t.lined row p derivative e
