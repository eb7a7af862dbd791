-- What internal functions ask of each other and tell each other: no definition of the specification's, and none of it need be believed, since the
-- entry points' contracts do not mention it.
use Rattle.std.specs.Prelude.{ℕ, ◌+◌, ◌-◌, ◌*◌, ◌≤◌, ◌<◌, ◌≡◌, Bool, false, cond, ◌||◌, List, [], ◌∷◌, eqb, length, get_or, set, Float}
use Rattle.std.specs.Float.{nan, Format}
use Rattle.ieee.specs.Numbers.{zero as nought}
use Rattle.multicubic.specs.Types.{Answer, Outcome}
use Rattle.multicubic.specs.declared.LocError.TheVariants.{Unplaceable}
use Rattle.std.specs.Prelude.{Err, Ok}
use Rattle.multicubic.specs.declared.EdgeMode.{EdgeMode}
use Rattle.multicubic.specs.declared.EdgeMode.TheVariants.{Cubic, Straight, Held}
use Rattle.multicubic.specs.declared.Marks.{Marks}
use Rattle.multicubic.specs.declared.Place.{Place}
use Rattle.multicubic.specs.declared.PlaceAnswer.{PlaceAnswer}
use Rattle.multicubic.specs.Answers.{answered}
use Rattle.multicubic.specs.Place.{Placed}
use Rattle.grid.specs.declared.Quantity.{Quantity}
use Rattle.grid.specs.declared.Quantity.TheVariants.{Value, Component}
use Rattle.grid.specs.Query.{GridAxis, below, above, counts_of, Found, cases, find, value_of, components_of, found_components, found_outcome, four_of, four_places}
use Rattle.grid.specs.Batch.{found_at}

-- ---- a query
-- past the axes
abbrev pub no_axis : GridAxis
no_axis = record { count = 0; loc = λ x. (Err Unplaceable); weights = λ x p. []; derivatives = λ x p. []; node = λ i. nan }

-- what is told of query `number`, by the axes alone
abbrev pub Located : ℕ → List GridAxis → (ℕ → Float) → PlaceAnswer → Type 0
Located number gs query r = (r.outcome ≡ found_outcome number (find 0 gs query)) × (r.places ≡ four_places (found_outcome number (find 0 gs query)) (find 0 gs query))

-- whether an axis enters by its derivative weights
abbrev pub is_component : Quantity → ℕ → Bool
is_component Value axis = false
is_component (Component d) axis = eqb axis d

-- an axis's row at a place: its derivative weights, or its weights
abbrev pub row_at : GridAxis → Float → Place → Bool → List Float
row_at g x p derivative = cond derivative (g.derivatives x p) (g.weights x p)

-- at which ends the setting replaces a query
abbrev pub replaced_in : EdgeMode → GridAxis → Float → Marks
replaced_in Cubic g given = record { below = false; above = false }
replaced_in Straight g given = record { below = false; above = false }
replaced_in Held g given = record { below = below g given; above = above g given }

-- the query as used
abbrev pub used_by : Marks → GridAxis → Float → Float
used_by replaced g given = cond replaced.below (g.node 0) (cond replaced.above (g.node (g.count - 1)) given)

-- its row: four +0 in place of a replaced query's derivative weights
abbrev pub row_by : Marks → GridAxis → Float → Place → Bool → List Float
row_by replaced g used p derivative = cond derivative (cond (replaced.below || replaced.above) (nought ∷ nought ∷ nought ∷ nought ∷ []) (g.derivatives used p)) (g.weights used p)

-- a component is asked for one of the n axes
abbrev pub Asked : ℕ → Quantity → Type 0
Asked n Value = Unit
Asked n (Component d) = d < n

-- what is asked of a query, at its places
abbrev pub quantity_at : Format → List ℕ → List Float → Quantity → List Placed → Float
quantity_at f counts vals Value ps = value_of f counts vals ps
quantity_at f counts vals (Component d) ps = get_or (components_of f counts vals ps) d nought

-- query i's answer to it
abbrev pub answer_to : Format → List GridAxis → List Float → Quantity → ℕ → Found → Answer
answer_to f gs vals quantity i found = answered (found_outcome i found) (cases found (λ check axis. nought) (quantity_at f (counts_of gs) vals quantity))

-- the gradient's four numbers, by the axes alone
abbrev pub gradient_to : Format → List GridAxis → List Float → Found → List Float
gradient_to f gs vals found = four_of (found_outcome 0 found) nought (found_components f (counts_of gs) vals found)

-- ---- a batch
-- what is asked of query i, put at i
abbrev pub put_quantity : Format → List ℕ → List Float → Quantity → ℕ → List Placed → List Float → List Float
put_quantity f counts vals quantity i ps buffer = set buffer i (quantity_at f counts vals quantity ps)

-- how many queries have their answer
abbrev pub answered_before : Outcome → ℕ → ℕ
answered_before (Err r) c = r.query
answered_before (Ok _) c = c

-- component d of query i
abbrev pub component_in : Format → List GridAxis → List Float → ℕ → List Float → ℕ → ℕ → Float
component_in f gs vals c queries d i = get_or (found_components f (counts_of gs) vals (found_at gs c queries i)) d nought

-- the first `stop` entries of a column are as given, the others keep their contents
abbrev pub Filled : (ℕ → Float) → ℕ → List Float → List Float → Type 0
Filled given stop before after = (length after ≡ length before) × ((i : ℕ) → i < stop → get_or after i nan ≡ given i) × ((i : ℕ) → stop ≤ i → i < length before → get_or after i nan ≡ get_or before i nan)

-- so are those of n columns of c entries
abbrev pub FilledColumns : (ℕ → ℕ → Float) → ℕ → ℕ → ℕ → List Float → List Float → Type 0
FilledColumns given n c stop before after =
    (length after ≡ length before)
    × ((d i : ℕ) → d < n → i < stop → get_or after (d * c + i) nan ≡ given d i)
    × ((d i : ℕ) → d < n → stop ≤ i → i < c → get_or after (d * c + i) nan ≡ get_or before (d * c + i) nan)
