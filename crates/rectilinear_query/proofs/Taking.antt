-- What a loop over the axes of a grid that is taken knows of the axis in hand.
use mathlib.Core.Path.{◌≡◌, refl, sym, ap, ◌∙◌}
use mathlib.Core.Bool.{Bool, false}
use mathlib.Core.List.{List, [], map}
use Prim.Native.Nat.{ℕ, ◌+◌, ◌-◌, ◌≤◌, ◌<◌}
use native.Mathlib.Omega.{arith}
use lib.ListN.{length, get_or, take, drop, length-take, length-drop, get_or-map}
use lib.Seq.{length-take-le}
use lib.Ieee.{Float, Format}
use Rattle.std.specs.Prelude.{Result, Ok, Err, Some}
use Rattle.multicubic.specs.declared.Check.TheVariants.{Disordered}
use Rattle.multicubic.specs.declared.EdgeMode.{EdgeMode}
use Rattle.multicubic.specs.declared.LocError.{LocError}
use Rattle.multicubic.specs.declared.Place.{Place}
use Rattle.multicubic.specs.declared.Refusal.{Refusal}
use Rattle.multicubic.specs.Types.{Loc, accepted, refusal}
use Rattle.multicubic.specs.Answers.{check_of, place_at}
use Rattle.multicubic.specs.Grid.{sum, size_checks}
use Rattle.multicubic.proofs.Passed.{Passed, then_accepted, lowest-accepted}
use Rattle.rectilinear_order.specs.Grid.{axes_of, disorder, order_checks}
use Rattle.rectilinear_order.proofs.Strict.{six-passed}
use Rattle.grid.specs.Query.{GridAxis}
use Rattle.grid.specs.Internal.{no_axis as no_grid_axis}
use Rattle.grid.proofs.Sizes.{each_long}
use Rattle.grid.proofs.Fit.{Fit}
use Rattle.rectilinear_query.specs.Grid.{checks_of, grid_axis, axis_in, axes_in}
use Rattle.rectilinear_query.proofs.Locating.{fit, sum_next, sum-most, part_at, parts_length, roomy_axis}
use Rattle.rectilinear_query.proofs.Sizes.{passed, joined_length}

-- ---- a query's place on an axis, as the code hands its refusal on
pub placed-by : (query axis : ℕ) (l : Loc) (p : Place) → ◌≡◌ {A = Result Place Refusal} (Ok p) (place_at query axis l) → Ok p ≡ l
placed-by query axis (Ok q) p e = let z : p ≡ q = cc in ap Ok z
placed-by query axis (Err error) p e = absurd (let y : ◌≡◌ {A = ℕ} 0 1 = cc in omega arith)

pub unplaced-by : (query axis : ℕ) (l : Loc) (by : Refusal) → ◌≡◌ {A = Result Place Refusal} (Err by) (place_at query axis l) → (error : LocError) × (Err error ≡ l) × (by ≡ refusal (check_of error) query axis)
unplaced-by query axis (Ok q) by e = absurd (let y : ◌≡◌ {A = ℕ} 0 1 = cc in omega arith)
unplaced-by query axis (Err error) by e = (error, refl, cc)

-- ---- the axis in hand
-- the entries of an axis that stands in the joined axes from `start` on, as the code takes them
abbrev pub entries_at : List ℕ → List Float → ℕ → ℕ → List Float
entries_at counts joined axis start = take (start + get_or counts axis 0 - start) (drop start joined)

pub record InHand (n : ℕ) (counts : List ℕ) (joined : List Float) (values axis start : ℕ) : Type 0 where
  pub four : length counts ≡ 4
  pub checked : checks_of n counts joined values ≡ accepted
  pub few : n ≤ 4
  pub start-is : start ≡ sum (take axis counts)
  pub ends : axis < n → start + get_or counts axis 0 ≤ length joined
  pub long : axis < n → 4 ≤ length (entries_at counts joined axis start)
  -- check 6 has passed it
  pub sound : axis < n → disorder (entries_at counts joined axis start) ≡ false

-- on a grid that is taken
module _ (n : ℕ) (counts : List ℕ) (joined : List Float) (values : ℕ) (four : length counts ≡ 4) (checked : checks_of n counts joined values ≡ accepted) where
  sizes : Passed n counts values (Some (length joined))
  sizes = passed n counts joined values checked

  total : length joined ≡ sum (take n counts)
  total = joined_length n counts joined values checked

  module _ (axis start : ℕ) (e : start ≡ sum (take axis counts)) (h : axis < n) where
    ends-at : start + get_or counts axis 0 ≤ length joined
    ends-at = omega (arith, total, sum-most n counts axis h)

    -- it is the part that the definitions have
    part-is : {A : Type 0} (told : List Float → A) (d : A) → get_or (map told (axes_of (take n counts) joined)) axis d ≡ told (entries_at counts joined axis start)
    part-is told d =
        let few = sizes.few in
        let k : start + get_or counts axis 0 - start ≡ get_or counts axis 0 = omega arith in
        rw (k, e) (part_at told d n counts joined axis h (omega arith))

    long-at : 4 ≤ length (entries_at counts joined axis start)
    long-at = let many = each_long n counts values (Some (length joined)) sizes four axis h in simp (length-take, length-drop) (omega (arith, ends-at))

    sound-at : disorder (entries_at counts joined axis start) ≡ false
    sound-at =
        let few = sizes.few in
        let parts = axes_of (take n counts) joined in
        let many : length parts ≡ n = parts_length (take n counts) joined ∙ length-take-le n counts (omega arith) in
        let checks = then_accepted (size_checks n counts values (Some (length joined))) (order_checks parts) checked in
        sym (part-is disorder (disorder [])) ∙ get_or-map disorder parts axis [] ∙ lowest-accepted Disordered disorder 0 parts [] (six-passed parts checks.1) axis (omega arith)

  in-hand : (axis start : ℕ) → start ≡ sum (take axis counts) → InHand n counts joined values axis start
  in-hand axis start e = record {
    four = four;
    checked = checked;
    few = sizes.few;
    start-is = e;
    ends = ends-at axis start e;
    long = long-at axis start e;
    sound = sound-at axis start e;
  }

  pub first-in-hand : InHand n counts joined values 0 0
  first-in-hand = in-hand 0 0 refl

module _ {n : ℕ} {counts : List ℕ} {joined : List Float} {values axis start : ℕ} (hand : InHand n counts joined values axis start) where
  pub next-in-hand : InHand n counts joined values (axis + 1) (start + get_or counts axis 0)
  next-in-hand = let e = hand.start-is in in-hand n counts joined values hand.four hand.checked (axis + 1) (start + get_or counts axis 0) (omega (arith, sum_next counts axis))

  module _ (f : Format) (mode : EdgeMode) where
    -- the grid's axes fit
    pub fits : Fit n (axes_in f mode n counts joined) values
    fits = fit f mode hand.four (record { values = values; checked = hand.checked })

    -- the axis, on either line and in the grid's setting
    abbrev pub line : Bool → GridAxis
    line straight = grid_axis f straight (entries_at counts joined axis start)

    abbrev pub own : GridAxis
    own = axis_in f mode (entries_at counts joined axis start)

    module _ (h : axis < n) where
      -- it is the grid's
      pub same : own ≡ get_or (axes_in f mode n counts joined) axis no_grid_axis
      same = sym (part-is n counts joined values hand.four hand.checked axis start hand.start-is h (axis_in f mode) no_grid_axis)

      -- a place's block lies on it
      pub room : (straight : Bool) (x : Float) (p : Place) → Ok p ≡ (line straight).loc x → p.origin + 4 ≤ length (entries_at counts joined axis start)
      room straight x p e = roomy_axis f straight (entries_at counts joined axis start) (hand.long h) x p (sym e)
