-- One query on a grid: the axes in its setting (clause 3.7), its places or its refusal (clauses 2.3 and 3.6), its value and its gradient (clauses
-- 5.4 and 6.2), its marks (clause 3.8).
use Rattle.std.specs.Prelude.{ℕ, suc, ◌-◌, Bool, false, true, cond, ◌||◌, List, [], ◌∷◌, ◌++◌, map, get_or, take, Float}
use Rattle.std.specs.Float.{nan, Format}
use Rattle.std.specs.Float.Ieee.{lt}
use Rattle.ieee.specs.Numbers.{zero}
use Rattle.multicubic.specs.declared.Check.{Check}
use Rattle.multicubic.specs.Types.{Answer, Loc, Outcome, accepted, refusal}
use Rattle.std.specs.Prelude.{Err, Ok}
use Rattle.multicubic.specs.declared.EdgeMode.{EdgeMode}
use Rattle.multicubic.specs.declared.EdgeMode.TheVariants.{Cubic, Straight, Held}
use Rattle.multicubic.specs.Answers.{carried, answered}
use Rattle.multicubic.specs.declared.Marks.{Marks}
use Rattle.multicubic.specs.declared.Place.{Place}
use Rattle.multicubic.specs.Grid.{◌then◌}
use Rattle.multicubic.specs.Place.{nowhere, unmarked, Placed, AxisOutcome, refused, placed, outcome_at}
use Rattle.reduction.specs.Value.{strides_of, block, reduce_of}
use Rattle.reduction.specs.Gradient.{component_of}

-- An axis, to everything above it: its own number of entries; of a query's coordinate its place, and at the place the four weights and the
-- four derivative weights; and its node i.
pub record GridAxis : Type 0 where
  pub count : ℕ
  pub loc : Float → Loc
  pub weights : Float → Place → List Float
  pub derivatives : Float → Place → List Float
  pub node : ℕ → Float

-- its outcome for a coordinate
abbrev pub outcome : GridAxis → Float → AxisOutcome
outcome g x = outcome_at (g.weights x) (g.derivatives x) (g.loc x)

-- ---- Clause 3.7: the setting
-- a query as given, compared as a number with the first node, and with the last
abbrev pub below : GridAxis → Float → Bool
below g given = lt given (g.node 0)

abbrev pub above : GridAxis → Float → Bool
above g given = lt (g.node (g.count - 1)) given

-- the query as used where the edge is held: past an end, the end's node stands in its place
abbrev pub hold : GridAxis → Float → Float
hold g given = cond (below g given) (g.node 0) (cond (above g given) (g.node (g.count - 1)) given)

-- the axis that holds its edge: it places and weighs the query as used, and its derivative weights are four +0 where the query was replaced
abbrev pub held_axis : GridAxis → GridAxis
held_axis g = record {
  count = g.count;
  loc = λ given. g.loc (hold g given);
  weights = λ given. g.weights (hold g given);
  derivatives = λ given p. cond (below g given || above g given) (zero ∷ zero ∷ zero ∷ zero ∷ []) (g.derivatives (hold g given) p);
  node = g.node;
}

-- an axis in each setting, from the cubic one (false) and the straight one (true)
abbrev pub edge_axis : EdgeMode → (Bool → GridAxis) → GridAxis
edge_axis Cubic axis = axis false
edge_axis Straight axis = axis true
edge_axis Held axis = held_axis (axis false)

-- ---- Clauses 2.3, 3.6, 5.4 and 6.2
abbrev pub counts_of : List GridAxis → List ℕ
counts_of gs = map (λ (g : GridAxis). g.count) gs

-- what the axes give for a query: a place on each, or the lowest axis that refuses it, behind the check that refuses it
pub data Found : Type 0 where
  refused_at : Check → ℕ → Found
  places : List Placed → Found

abbrev pub cases : {A : Type 0} → Found → (Check → ℕ → A) → (List Placed → A) → A
cases (refused_at check axis) unanswered answered = unanswered check axis
cases (places ps) unanswered answered = answered ps

abbrev pub located : ℕ → AxisOutcome → Found → Found
located axis (refused check) later = refused_at check axis
located axis (placed p) (refused_at check later) = refused_at check later
located axis (placed p) (places ps) = places (p ∷ ps)

-- from an axis on; the query gives a coordinate for each axis
abbrev pub find : ℕ → List GridAxis → (ℕ → Float) → Found
find axis [] query = places []
find axis (g ∷ gs) query = located axis (outcome g (query axis)) (find (suc axis) gs query)

abbrev pub origins_of : List Placed → List ℕ
origins_of ps = map (λ (p : Placed). p.place.origin) ps

abbrev pub rows_of : List Placed → List (List Float)
rows_of ps = map (λ (p : Placed). p.weights) ps

-- the block at the places, from the values of the grid
abbrev pub block_of : List ℕ → List Float → List Placed → List ℕ → Float
block_of counts vals ps = block vals (strides_of counts) (origins_of ps)

unfoldable pub value_of : Format → List ℕ → List Float → List Placed → Float
value_of f counts vals ps = reduce_of f (rows_of ps) (block_of counts vals ps)

-- at what is found; +0 where the query is refused
abbrev pub found_value : Format → List ℕ → List Float → Found → Float
found_value f counts vals found = cases found (λ check axis. zero) (value_of f counts vals)

-- component d for each axis d: its row replaced by its derivative weights
unfoldable pub component_at : Format → List ℕ → List Float → List Placed → ℕ → Placed → Float
component_at f counts vals ps d p = component_of f (rows_of ps) d p.derivatives (block_of counts vals ps)

abbrev pub components_from : Format → List ℕ → List Float → List Placed → ℕ → List Placed → List Float
components_from f counts vals ps d [] = []
components_from f counts vals ps d (p ∷ later) = component_at f counts vals ps d p ∷ components_from f counts vals ps (suc d) later

abbrev pub components_of : Format → List ℕ → List Float → List Placed → List Float
components_of f counts vals ps = components_from f counts vals ps 0 ps

abbrev pub found_components : Format → List ℕ → List Float → Found → List Float
found_components f counts vals found = cases found (λ check axis. []) (components_of f counts vals)

-- What a grid is to its queries: the outcome of its own checks, its axis count, its axes and its values.
pub record Grid : Type 0 where
  pub checked : Outcome
  pub axis-count : ℕ
  pub axes : List GridAxis
  pub vals : List Float

abbrev pub grid_counts : Grid → List ℕ
grid_counts g = counts_of g.axes

-- the refusal of a query's lowest axis that refuses it, 9 or 8
abbrev pub found_outcome : ℕ → Found → Outcome
found_outcome query found = cases found (λ check axis. Err (refusal check query axis)) (λ ps. accepted)

-- a single query's coordinate on an axis
abbrev pub at : List Float → ℕ → Float
at x axis = get_or x axis nan

-- A single query is query 0: the grid's refusal, or 9 or 8.
abbrev pub outcome_of : Grid → (ℕ → Float) → Outcome
outcome_of g query = g.checked then found_outcome 0 (find 0 g.axes query)

-- its value, where it has one
abbrev pub value_carried : Format → Grid → (ℕ → Float) → List Float
value_carried f g query = carried (outcome_of g query) (found_value f (grid_counts g) g.vals (find 0 g.axes query))

-- its value, or the refusal
abbrev pub value_answer : Format → Grid → (ℕ → Float) → Answer
value_answer f g query = answered (outcome_of g query) (found_value f (grid_counts g) g.vals (find 0 g.axes query))

-- the first four of some, with others in place of what is missing; none of them on refusal
abbrev pub four_of : {A : Type 0} → Outcome → A → List A → List A
four_of (Err r) other xs = take 4 (other ∷ other ∷ other ∷ other ∷ [])
four_of (Ok _) other xs = take 4 (xs ++ (other ∷ other ∷ other ∷ other ∷ []))

-- the gradient's four numbers: +0 past the axis count, all +0 on refusal
abbrev pub gradient_answer : Format → Grid → (ℕ → Float) → List Float
gradient_answer f g query = four_of (outcome_of g query) zero (found_components f (grid_counts g) g.vals (find 0 g.axes query))

-- the four places: origin 0 and None past the axis count, and on refusal
abbrev pub places_of : List Placed → List Place
places_of ps = map (λ (p : Placed). p.place) ps

abbrev pub four_places : Outcome → Found → List Place
four_places outcome found = four_of outcome nowhere (cases found (λ check axis. []) places_of)

abbrev pub place_answer : Grid → (ℕ → Float) → List Place
place_answer g query = four_places (outcome_of g query) (find 0 g.axes query)

-- ---- Clause 3.8: past which ends of each axis the query as given lies. The setting has no say in it.
abbrev pub marks_at : GridAxis → Float → Marks
marks_at g given = record { below = below g given; above = above g given }

abbrev pub marks_from : ℕ → List GridAxis → (ℕ → Float) → List Marks
marks_from axis [] query = []
marks_from axis (g ∷ gs) query = marks_at g (query axis) ∷ marks_from (suc axis) gs query

-- beside an outcome: neither mark past the axis count, and none at all on refusal
abbrev pub marks_beside : Outcome → List GridAxis → (ℕ → Float) → List Marks
marks_beside outcome gs query = four_of outcome unmarked (marks_from 0 gs query)

abbrev pub mark_answer : Grid → (ℕ → Float) → List Marks
mark_answer g query = marks_beside (outcome_of g query) g.axes query
