-- The premises can be met on two axes: 0, 1, 2, 4, 7 and 1, 2, 4, 7. The query -0, 4 is at node 0, 2. And what a flat axis comes before.
use mathlib.Core.Path.{◌≡◌, refl}
use mathlib.Core.Bool.{Bool, true, false, ◌&&◌}
use mathlib.Core.List.{List, [], ◌∷◌, ◌++◌}
use Prim.Native.Nat.{ℕ, zero, suc, ◌<◌}
use native.Mathlib.Omega.{arith}
use lib.IntN.{pos, negsuc}
use lib.Dec.{T, lit<}
use lib.ListN.{length, get_or, take}
use lib.Ieee.{Float, nan, fin, Format, binary32, binary64, sub, lt, le, eq, fits, is_nan}
use lib.Ieee.Fits.{and_l, and_r}
use lib.Ieee.Scale.{finite}
use Rattle.multicubic.specs.declared.Check.TheVariants.{NotSteep}
use Rattle.multicubic.specs.declared.EdgeMode.{EdgeMode}
use Rattle.multicubic.specs.declared.EdgeMode.TheVariants.{Cubic, Straight, Held}
use Rattle.multicubic.specs.Types.{accepted, refusal}
use Rattle.std.specs.Prelude.{Ok, Err}
use Rattle.multicubic.specs.Grid.{size_checks}
use Rattle.rectilinear_order.specs.Grid.{axes_of, not_rising, disorder, flat}
use Rattle.rectilinear_axis.specs.Nodes.{Premises}
use Rattle.grid.specs.Query.{outcome_of, value_answer}
use Rattle.grid.specs.Batch.{grad_outcome}
use Rattle.grid.specs.Nodes.{AtIndex, stored}
use Rattle.grid.proofs.Decide.{each, all_fit}
use Rattle.rectilinear_query.specs.Grid.{grid_of, AllPremises}
use Rattle.rectilinear.proofs.Guarantees.{node}

abbrev counts : List ℕ
counts = 5 ∷ 4 ∷ []

abbrev joined : List Float
joined =
    fin false 0 (pos 0) ∷ fin false 1 (pos 0) ∷ fin false 1 (pos 1) ∷ fin false 1 (pos 2) ∷ fin false 7 (pos 0) ∷ fin false 1 (pos 0) ∷ fin false 1 (pos 1) ∷ fin false 1 (pos 2) ∷ fin false 7 (pos 0) ∷ []

abbrev vals : List Float
vals = fin true 3 (negsuc 1) ∷ fin false 1 (pos 2) ∷ fin false 5 (pos 0) ∷ fin false 1 (pos 2) ∷ fin false 5 (pos 0) ∷ fin true 3 (negsuc 1) ∷ fin false 5 (pos 0) ∷ fin false 1 (pos 2) ∷ fin false 5 (pos 0) ∷ fin false 1 (pos 2) ∷ fin true 3 (negsuc 1) ∷ fin false 1 (pos 2) ∷ fin false 5 (pos 0) ∷ fin false 1 (pos 2) ∷ fin false 5 (pos 0) ∷ fin true 3 (negsuc 1) ∷ fin false 5 (pos 0) ∷ fin false 1 (pos 2) ∷ fin false 5 (pos 0) ∷ fin false 1 (pos 2) ∷ []

abbrev query : List Float
query = fin true 0 (pos 0) ∷ fin false 1 (pos 2) ∷ []

-- the gaps of an axis, by one computed test
abbrev gaps : (Float → Bool) → Format → List Float → Bool
gaps test f [] = true
gaps test f (x ∷ []) = true
gaps test f (x ∷ y ∷ ys) = test (sub f y x) && gaps test f (y ∷ ys)

each-gap : (test : Float → Bool) (f : Format) (g : List Float) → T (gaps test f g) → (i : ℕ) → suc i < length g → T (test (sub f (get_or g (suc i) nan) (get_or g i nan)))
each-gap test f [] t i h = absurd (omega arith)
each-gap test f (x ∷ []) t i h = absurd (omega arith)
each-gap test f (x ∷ y ∷ ys) t zero h = and_l (test (sub f y x)) (gaps test f (y ∷ ys)) t
each-gap test f (x ∷ y ∷ ys) t (suc i) h = each-gap test f (y ∷ ys) (and_r (test (sub f y x)) (gaps test f (y ∷ ys)) t) i (omega arith)

bounded : (f : Format) (g : List Float) → T (gaps (le (fin false 1 (negsuc 19))) f g) → T (gaps (λ x. le x (fin false 1 (pos 20))) f g) → Premises f g
bounded f g a b = record { least = each-gap (le (fin false 1 (negsuc 19))) f g a; most = each-gap (λ x. le x (fin false 1 (pos 20))) f g b }

premises : (f : Format) → AllPremises f (axes_of (take 2 counts) joined)
unfolding le lt eq sub
premises binary32 = (bounded binary32 (take 5 joined) tt tt, (bounded binary32 (take 4 (lib.ListN.drop 5 joined)) tt tt, tt))
premises binary64 = (bounded binary64 (take 5 joined) tt tt, (bounded binary64 (take 4 (lib.ListN.drop 5 joined)) tt tt, tt))

taken : (f : Format) (mode : EdgeMode) → (grid_of f 2 counts joined vals mode).checked ≡ accepted
unfolding size_checks not_rising disorder flat lt eq is_nan
taken f mode = refl

-- in every setting
at : (f : Format) (mode : EdgeMode) → AtIndex 0 (grid_of f 2 counts joined vals mode).axes (0 ∷ 2 ∷ []) (λ a. get_or query a nan)
unfolding eq
at f Cubic = (lit< tt, tt, (lit< tt, tt, tt))
at f Straight = (lit< tt, tt, (lit< tt, tt, tt))
at f Held = (lit< tt, tt, (lit< tt, tt, tt))

pub met : (f : Format) (mode : EdgeMode) → (v : Float) × (value_answer f (grid_of f 2 counts joined vals mode) (λ a. get_or query a nan) ≡ Ok v) × T (eq v (stored (grid_of f 2 counts joined vals mode) (0 ∷ 2 ∷ [])))
unfolding fits
met binary32 mode = node binary32 2 counts joined (each (fits binary32) joined tt) (premises binary32) (0 ∷ 2 ∷ []) (λ a. get_or query a nan) (all_fit binary32 query tt) vals mode (taken binary32 mode) (each finite vals tt) (each (fits binary32) vals tt) (at binary32 mode)
met binary64 mode = node binary64 2 counts joined (each (fits binary64) joined tt) (premises binary64) (0 ∷ 2 ∷ []) (λ a. get_or query a nan) (all_fit binary64 query tt) vals mode (taken binary64 mode) (each finite vals tt) (each (fits binary64) vals tt) (at binary64 mode)

-- ---- axis 1 is flat at its last pair: 10 comes before 7, with a buffer that fits no number of queries, and before 9, with a query that is all NaN
abbrev flat_joined : List Float
flat_joined = take 8 joined ++ fin false 1 (pos 2) ∷ []

pub ten_before_seven : (f : Format) (mode : EdgeMode) → grad_outcome f (grid_of f 2 counts flat_joined vals mode) [] (nan ∷ []) ≡ Err (refusal NotSteep 0 1)
unfolding size_checks not_rising disorder flat lt eq is_nan
ten_before_seven f mode = refl

pub ten_before_nine : (f : Format) (mode : EdgeMode) → outcome_of (grid_of f 2 counts flat_joined vals mode) (λ a. nan) ≡ Err (refusal NotSteep 0 1)
unfolding size_checks not_rising disorder flat lt eq is_nan
ten_before_nine f mode = refl
