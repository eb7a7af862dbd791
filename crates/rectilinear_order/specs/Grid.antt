-- Clauses 2.2 and 2.3, rectilinear: checks 5, 6 and 10, each over all axes before the next.
use Rattle.std.specs.Prelude.{ℕ, suc, ◌<◌, Bool, false, not, ◌||◌, List, [], ◌∷◌, T, length, get_or, take, drop, Float}
use Rattle.std.specs.Float.{nan, Format}
use Rattle.std.specs.Float.Ieee.{is_nan, sub, lt, eq}
use Rattle.ieee.specs.Numbers.{zero}
use Rattle.multicubic.specs.declared.Check.TheVariants.{NotRising, Disordered, NotSteep}
use Rattle.multicubic.specs.Types.{Outcome}
use Rattle.multicubic.specs.Grid.{lowest, ◌then◌}

-- the axes, joined one after the other, by their counts
abbrev pub axes_of : List ℕ → List Float → List (List Float)
axes_of [] joined = []
axes_of (c ∷ cs) joined = take c joined ∷ axes_of cs (drop c joined)

-- 5: entry 1 not above entry 0
unfoldable pub not_rising : List Float → Bool
not_rising g = not (lt (get_or g 0 nan) (get_or g 1 nan))

-- 6: an entry is NaN or below the one before it
unfoldable pub disorder : List Float → Bool
disorder [] = false
disorder (y ∷ []) = is_nan y
disorder (y ∷ z ∷ zs) = is_nan y || lt z y || disorder (z ∷ zs)

-- 10: an entry is equal to the one before it
unfoldable pub flat : List Float → Bool
flat [] = false
flat (y ∷ []) = false
flat (y ∷ z ∷ zs) = eq y z || flat (z ∷ zs)

abbrev pub order_checks : List (List Float) → Outcome
order_checks axes = lowest NotRising not_rising 0 axes then lowest Disordered disorder 0 axes then lowest NotSteep flat 0 axes

-- ---- clause 2.6, what a grid that is taken is relied on for
-- of every entry of every axis and the one before it
abbrev pub Neighbours : (Float → Float → Bool) → List (List Float) → Type 0
Neighbours fact axes = (j : ℕ) → j < length axes → (k : ℕ) → suc k < length (get_or axes j []) → T (fact (get_or (get_or axes j []) k nan) (get_or (get_or axes j []) (suc k) nan))

-- every axis rises strictly throughout
abbrev pub Rising : List (List Float) → Type 0
Rising axes = Neighbours lt axes

-- no gap, as rounded, is zero or below
abbrev pub GapsAbove : Format → List (List Float) → Type 0
GapsAbove f axes = Neighbours (λ before entry. lt zero (sub f entry before)) axes
