-- Axis by axis: what the axes of a grid that is taken give to the code's loops over them.
use mathlib.Core.Path.{◌≡◌, refl, sym, ap, ◌∙◌, subst}
use mathlib.Core.Bool.{Bool, true, false, cond}
use Rattle.multicubic.specs.Types.{Axis, accepted}
use Rattle.multicubic.specs.declared.LocError.TheVariants.{Unplaceable}
use Rattle.std.specs.Prelude.{Err, None, Ok}
use Rattle.multicubic.specs.Grid.{any_over}
use mathlib.Core.List.{List, [], ◌∷◌}
use Prim.Native.Nat.{ℕ, zero, suc, ◌+◌, ◌≤◌, ◌<◌}
use native.Mathlib.Omega.{arith}
use lib.IntN.{pos, ◌-ℤ◌}
use lib.ListN.{length, get_or, take}
use lib.Seq.{length-take-le}
use lib.Ieee.{Float, Format}
use Rattle.multicubic.specs.declared.EdgeMode.{EdgeMode}
use Rattle.multicubic.specs.declared.Place.{Place}
use Rattle.multicubic.specs.Place.{place_of}
use Rattle.multicubic.proofs.Numbers.{placed_number}
use Rattle.multicubic.proofs.Passed.{Passed}
use Rattle.multicubic.proofs.Sizes.{count_within}
use Rattle.regular_axis.specs.Place.{quotient, floor_of, refused8}
use Rattle.reduction.specs.Value.{strides_of}
use Rattle.grid.specs.Query.{counts_of as grid_counts}
use Rattle.grid.specs.Internal.{no_axis as no_grid_axis}
use Rattle.grid.specs.Nodes.{All}
use Rattle.grid.proofs.Premises.{Long}
use Rattle.grid.proofs.Sizes.{all-long, each_long}
use Rattle.grid.proofs.Fit.{Roomy, roomy_place, Fit, fits_by}
use Rattle.grid.proofs.Edges.{edge_roomy}
use Rattle.regular_query.specs.Grid.{counts_of, checks_of, grid_axis, axis_in, grid_axes, axes_in}
use Rattle.regular_query.specs.Internal.{Taken, Ready}
use Rattle.regular_query.proofs.Calls.{no_axis, counts-length}
use Rattle.regular_query.proofs.Sizes.{counts-taken, grid_counts_lem, passed}

count_at : (axes : List Axis) (j : ℕ) → get_or (counts_of axes) j 0 ≡ (get_or axes j no_axis).count
count_at [] j = refl
count_at (a ∷ axes) zero = refl
count_at (a ∷ axes) (suc j) = count_at axes j

-- axis j of the grid
pub axis-at : (f : Format) (mode : EdgeMode) (n : ℕ) (axes : List Axis) (j : ℕ) → j < n → n ≤ length axes → get_or (grid_axes f mode (take n axes)) j no_grid_axis ≡ axis_in f mode (get_or axes j no_axis)
axis-at f mode zero axes j h k = absurd (omega arith)
axis-at f mode (suc n) [] j h k = absurd (omega arith)
axis-at f mode (suc n) (a ∷ axes) zero h k = refl
axis-at f mode (suc n) (a ∷ axes) (suc j) h k = axis-at f mode n axes j (omega arith) (omega arith)

axes-length : (f : Format) (mode : EdgeMode) (axes : List Axis) → length (grid_axes f mode axes) ≡ length axes
axes-length f mode [] = refl
axes-length f mode (a ∷ rest) = ap suc (axes-length f mode rest)

pub axes-long : (f : Format) (mode : EdgeMode) (n : ℕ) (axes : List Axis) → n ≤ length axes → length (grid_axes f mode (take n axes)) ≡ n
axes-long f mode n axes h = axes-length f mode (take n axes) ∙ length-take-le n axes h

roomy_axis : (f : Format) (straight : Bool) (a : Axis) → 4 ≤ a.count → Roomy (grid_axis f straight a)
roomy_axis f straight a h x p e = go (refused8 (quotient f a.start a.step x)) (placed_number x _ p e).1
  where
    go : (b : Bool) → cond b (Err Unplaceable) (Ok (place_of a.count (floor_of (quotient f a.start a.step x) -ℤ pos 1))) ≡ Ok p → p.origin + 4 ≤ a.count
    go true e = absurd (let y : ◌≡◌ {A = ℕ} 0 1 = cc in omega arith)
    go false e = roomy_place a.count (floor_of (quotient f a.start a.step x) -ℤ pos 1) p h e

roomy_axes : (f : Format) (mode : EdgeMode) (axes : List Axis) → Long (counts_of axes) → All Roomy (grid_axes f mode axes)
roomy_axes f mode [] h = tt
roomy_axes f mode (a ∷ axes) h = (edge_roomy mode (λ straight. grid_axis f straight a) (λ straight. roomy_axis f straight a h.0), roomy_axes f mode axes h.1)

-- what `strides` asks, and what it then tells
module _ (n : ℕ) (axes : List Axis) (values : ℕ) (checked : checks_of n axes values ≡ accepted) (cs : List ℕ) (counted : cs ≡ counts_of axes) where
  pub spaceable : (n ≤ 4) × (any_over (take n cs) ≡ false)
  spaceable = let p = passed n axes values checked in (p.few, rw counted p.within)

  pub ready_by : (strides : List ℕ) → take n strides ≡ strides_of (take n cs) → Ready n axes values strides
  ready_by strides e = record { checked = checked; spaced = rw (← counted) e }

abbrev pub taken_of : {n : ℕ} {axes : List Axis} {values : ℕ} {strides : List ℕ} → Ready n axes values strides → Taken n axes
taken_of {values = values} ready = record { values = values; checked = ready.checked }

-- a grid that is taken
module _ (f : Format) (mode : EdgeMode) {n : ℕ} {axes : List Axis} (four : length axes ≡ 4) (taken : Taken n axes) where
  sizes : Passed n (counts_of axes) taken.values None
  sizes = passed n axes taken.values taken.checked

  counts-are : grid_counts (axes_in f mode n axes) ≡ take n (counts_of axes)
  counts-are = grid_counts_lem f mode (take n axes) ∙ counts-taken n axes

  pub fit : Fit n (axes_in f mode n axes) taken.values
  fit =
      let few = sizes.few in
      fits_by (axes_in f mode n axes) sizes (axes-long f mode n axes (omega arith)) counts-are
      (roomy_axes f mode (take n axes) (subst Long (sym (counts-taken n axes)) (all-long (take n (counts_of axes)) sizes.long)))

  pub spaced-by : (strides : List ℕ) → take n strides ≡ strides_of (take n (counts_of axes)) → take n strides ≡ strides_of (grid_counts (axes_in f mode n axes))
  spaced-by strides e = e ∙ ap strides_of (sym counts-are)

  module _ (j : ℕ) (h : j < n) where
    pub long-at : 4 ≤ (get_or axes j no_axis).count
    long-at = rw (← count_at axes j) (each_long n (counts_of axes) taken.values None sizes (counts-length axes ∙ four) j h)

    pub axis-is : axis_in f mode (get_or axes j no_axis) ≡ get_or (axes_in f mode n axes) j no_grid_axis
    axis-is = let few = sizes.few in sym (axis-at f mode n axes j h (omega arith))

    pub most-at : (get_or axes j no_axis).count ≤ 4096
    most-at = rw (← count_at axes j) (count_within n (counts_of axes) j h sizes.within)

    -- what its ends' nodes ask
    pub spanned : (4 ≤ (get_or axes j no_axis).count) × ((get_or axes j no_axis).count ≤ 4096)
    spanned = (long-at, most-at)

    -- it fits a u32
    pub origin-below : (straight : Bool) (x : Float) (p : Place) → Ok p ≡ (grid_axis f straight (get_or axes j no_axis)).loc x → p.origin < 4096
    origin-below straight x p e =
        let most = most-at in
        let room : p.origin + 4 ≤ (get_or axes j no_axis).count = roomy_axis f straight (get_or axes j no_axis) long-at x p (sym e) in
        omega arith
