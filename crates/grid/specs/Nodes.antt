-- Clauses 8.1, 8.2 and 8.5, over a list of axes.
use Rattle.std.specs.Prelude.{ℕ, suc, ◌<◌, ◌≡◌, List, [], ◌∷◌, T, length, get_or, Float}
use Rattle.std.specs.Float.{nan, Format}
use Rattle.std.specs.Float.Ieee.{eq, fits}
use Rattle.std.specs.Float.Ieee.Scale.{finite}
use Rattle.multicubic.specs.Place.{Placed}
use Rattle.reduction.specs.Value.{strides_of, value_at}
use Rattle.reduction.specs.Nodes.{InBlock}
use Rattle.grid.specs.Query.{GridAxis, Grid, grid_counts, block_of}

-- of every member of a list
abbrev pub All : {A : Type 0} → (A → Type 0) → List A → Type 0
All P [] = Unit
All P (x ∷ xs) = P x × All P xs

-- a query at a node of the grid, one index per axis: on each axis the coordinate is the node's number
abbrev pub AtIndex : ℕ → List GridAxis → List ℕ → (ℕ → Float) → Type 0
AtIndex axis [] [] query = Unit
AtIndex axis (g ∷ gs) (i ∷ is) query = (i < g.count) × T (eq (query axis) (g.node i)) × AtIndex (suc axis) gs is query
AtIndex axis [] (i ∷ is) query = ⊥
AtIndex axis (g ∷ gs) [] query = ⊥

-- the number stored there: the value at the sum of index × stride
abbrev pub stored : Grid → List ℕ → Float
stored g is = value_at g.vals (strides_of (grid_counts g)) is

-- the premise on the values
abbrev pub FiniteValues : List Float → Type 0
FiniteValues vals = (k : ℕ) → k < length vals → T (finite (get_or vals k nan))

-- typing: floats that the format holds
abbrev pub Fits : Format → List Float → Type 0
Fits f xs = (k : ℕ) → k < length xs → T (fits f (get_or xs k nan))

-- two tables hold the same bits throughout the block at the places
abbrev pub SameBlock : List ℕ → List Placed → List Float → List Float → Type 0
SameBlock counts ps vals vals' = (js : List ℕ) → InBlock (length ps) js → block_of counts vals ps js ≡ block_of counts vals' ps js
