-- Axis by axis: what the axes of a grid that is taken give to the code's loops over them.
use mathlib.Core.Path.{◌≡◌, refl, sym, ap, ◌∙◌}
use mathlib.Core.Bool.{Bool, false}
use mathlib.Core.List.{List, [], ◌∷◌, map}
use Prim.Native.Nat.{ℕ, zero, suc, ◌+◌, ◌≤◌, ◌<◌}
use native.Mathlib.Numerals.{add-one}
use native.Mathlib.Omega.{arith}
use lib.IntN.{pos, ◌-ℤ◌}
use lib.ListN.{length, get_or, take, drop, length-map}
use lib.Seq.{length-take-le, drop-drop}
use lib.Ieee.{Float, Format}
use Rattle.multicubic.specs.Types.{accepted}
use Rattle.std.specs.Prelude.{Some}
use Rattle.multicubic.specs.declared.EdgeMode.{EdgeMode}
use Rattle.multicubic.specs.Grid.{sum, any_over}
use Rattle.multicubic.proofs.Numbers.{placed_number}
use Rattle.multicubic.proofs.Passed.{Passed}
use Rattle.rectilinear_order.specs.Grid.{axes_of}
use Rattle.rectilinear_axis.specs.Place.{count_below}
use Rattle.reduction.specs.Value.{strides_of}
use Rattle.grid.specs.Query.{counts_of as grid_counts}
use Rattle.grid.specs.Nodes.{All}
use Rattle.grid.proofs.Premises.{Long}
use Rattle.grid.proofs.Sizes.{all-long}
use Rattle.grid.proofs.Fit.{Roomy, roomy_place, Fit, fits_by}
use Rattle.grid.proofs.Edges.{edge_roomy}
use Rattle.rectilinear_query.specs.Grid.{checks_of, grid_axis, axis_in, grid_axes, axes_in}
use Rattle.rectilinear_query.specs.Internal.{Taken, Ready}
use Rattle.rectilinear_query.proofs.Sizes.{part_length, rest-length, grid_counts_lem, passed, joined_length}

-- ---- where an axis stands in the joined axes
-- the next one starts where this one ends
pub sum_next : (cs : List ℕ) (j : ℕ) → sum (take (j + 1) cs) ≡ sum (take j cs) + get_or cs j 0
sum_next cs j = rw add-one (go cs j)
  where
    go : (cs : List ℕ) (j : ℕ) → sum (take (suc j) cs) ≡ sum (take j cs) + get_or cs j 0
    go [] zero = refl
    go [] (suc j) = refl
    go (c ∷ cs) zero = omega arith
    go (c ∷ cs) (suc j) = omega (arith, go cs j)

pub sum-most : (n : ℕ) (cs : List ℕ) (j : ℕ) → j < n → sum (take j cs) + get_or cs j 0 ≤ sum (take n cs)
sum-most zero cs j h = absurd (omega arith)
sum-most (suc n) [] zero h = omega arith
sum-most (suc n) [] (suc j) h = omega arith
sum-most (suc n) (c ∷ cs) zero h = omega arith
sum-most (suc n) (c ∷ cs) (suc j) h = omega (arith, sum-most n cs j (omega arith))

-- whatever is told of each part is, at j, told of the entries of axis j
pub part_at : {A : Type 0} (told : List Float → A) (d : A) (n : ℕ) (counts : List ℕ) (joined : List Float) (j : ℕ) → j < n → n ≤ length counts
    → get_or (map told (axes_of (take n counts) joined)) j d ≡ told (take (get_or counts j 0) (drop (sum (take j counts)) joined))
part_at told d zero counts joined j h k = absurd (omega arith)
part_at told d (suc n) [] joined j h k = absurd (omega arith)
part_at told d (suc n) (c ∷ counts) joined zero h k = refl
part_at told d (suc n) (c ∷ counts) joined (suc j) h k =
    part_at told d n counts (drop c joined) j (omega arith) (omega arith) ∙ ap (λ (rest : List Float). told (take (get_or counts j 0) rest)) (drop-drop (sum (take j counts)) c joined)

pub parts_length : (cs : List ℕ) (joined : List Float) → length (axes_of cs joined) ≡ length cs
parts_length [] joined = refl
parts_length (c ∷ cs) joined = ap suc (parts_length cs (drop c joined))

pub axes-long : (f : Format) (mode : EdgeMode) (n : ℕ) (counts : List ℕ) (joined : List Float) → n ≤ length counts → length (grid_axes f mode (axes_of (take n counts) joined)) ≡ n
axes-long f mode n counts joined h = length-map (axes_of (take n counts) joined) (axis_in f mode) ∙ parts_length (take n counts) joined ∙ length-take-le n counts h

pub roomy_axis : (f : Format) (straight : Bool) (entries : List Float) → 4 ≤ length entries → Roomy (grid_axis f straight entries)
roomy_axis f straight entries h x p e = roomy_place (length entries) (pos (count_below x entries) -ℤ pos 2) p h (placed_number x _ p e).1

roomy_axes : (f : Format) (mode : EdgeMode) (cs : List ℕ) (joined : List Float) → length joined ≡ sum cs → Long cs → All Roomy (grid_axes f mode (axes_of cs joined))
roomy_axes f mode [] joined e h = tt
roomy_axes f mode (c ∷ cs) joined e h =
    (edge_roomy mode (λ straight. grid_axis f straight (take c joined)) (λ straight. roomy_axis f straight (take c joined) (rw (part_length c cs joined e) h.0)), roomy_axes f mode cs (drop c joined) (rest-length c cs joined e) h.1)

-- what `strides` asks, and what it then tells
module _ (n : ℕ) (counts : List ℕ) (joined : List Float) (values : ℕ) (checked : checks_of n counts joined values ≡ accepted) where
  pub spaceable : (n ≤ 4) × (any_over (take n counts) ≡ false)
  spaceable = let p = passed n counts joined values checked in (p.few, p.within)

  pub ready_by : (strides : List ℕ) → take n strides ≡ strides_of (take n counts) → Ready n counts joined values strides
  ready_by strides e = record { checked = checked; spaced = e }

abbrev pub taken_of : {n : ℕ} {counts : List ℕ} {joined : List Float} {values : ℕ} {strides : List ℕ} → Ready n counts joined values strides → Taken n counts joined
taken_of {values = values} ready = record { values = values; checked = ready.checked }

-- a grid that is taken
module _ (f : Format) (mode : EdgeMode) {n : ℕ} {counts : List ℕ} {joined : List Float} (four : length counts ≡ 4) (taken : Taken n counts joined) where
  sizes : Passed n counts taken.values (Some (length joined))
  sizes = passed n counts joined taken.values taken.checked

  total : length joined ≡ sum (take n counts)
  total = joined_length n counts joined taken.values taken.checked

  counts-are : grid_counts (axes_in f mode n counts joined) ≡ take n counts
  counts-are = grid_counts_lem f mode (take n counts) joined total

  pub fit : Fit n (axes_in f mode n counts joined) taken.values
  fit =
      let few = sizes.few in
      fits_by (axes_in f mode n counts joined) sizes (axes-long f mode n counts joined (omega arith)) counts-are (roomy_axes f mode (take n counts) joined total (all-long (take n counts) sizes.long))

  pub spaced-by : (strides : List ℕ) → take n strides ≡ strides_of (take n counts) → take n strides ≡ strides_of (grid_counts (axes_in f mode n counts joined))
  spaced-by strides e = e ∙ ap strides_of (sym counts-are)
