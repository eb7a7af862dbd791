-- Clause 8.6, over a list of axes: the index of a query that is, on each axis, at a node or past an end.
use Rattle.std.specs.Prelude.{ℕ, suc, ◌-◌, ◌<◌, ◌≡◌, ◌⊎◌, List, [], ◌∷◌, T, Float}
use Rattle.std.specs.Float.Ieee.{eq}
use Rattle.grid.specs.Query.{GridAxis, below, above}

-- 0 below the first node, the last index above the last, else the node that the coordinate equals as a number
abbrev pub Clamped : GridAxis → ℕ → Float → Type 0
Clamped g i given = (T (below g given) × (i ≡ 0)) ⊎ (T (above g given) × (i ≡ g.count - 1)) ⊎ ((i < g.count) × T (eq given (g.node i)))

abbrev pub AtClamped : ℕ → List GridAxis → List ℕ → (ℕ → Float) → Type 0
AtClamped axis [] [] query = Unit
AtClamped axis (g ∷ gs) (i ∷ is) query = Clamped g i (query axis) × AtClamped (suc axis) gs is query
AtClamped axis [] (i ∷ is) query = ⊥
AtClamped axis (g ∷ gs) [] query = ⊥
