-- Section 8: what is guaranteed of the calls, over a grid of either kind and any format. The functions of the crates above make the calls, and
-- promise what is owed of each. That the format holds every float lent is typing, and no premise.
use Rattle.std.specs.Prelude.{ℕ, ◌*◌, ◌+◌, ◌/◌, ◌<◌, ◌≡◌, List, ◌⊎◌, Ok, T, length, get_or, Float}
use Rattle.std.specs.Float.{nan, Format}
use Rattle.std.specs.Float.Ieee.{eq}
use Rattle.multicubic.specs.Types.{Answer, Outcome, accepted}
use Rattle.multicubic.specs.Answers.{number_of, query_of}
use Rattle.multicubic.specs.Place.{Placed}
use Rattle.grid.specs.Query.{Grid, places, find, grid_counts, outcome_of, value_answer, gradient_answer}
use Rattle.grid.specs.Batch.{query_at, interp_buffer, grad_buffer}
use Rattle.grid.specs.Edges.{AtClamped}
use Rattle.grid.specs.Nodes.{AtIndex, stored, FiniteValues, SameBlock}

-- accepted: `new` gives 0
abbrev pub IsAccepted : Grid → Type 0
IsAccepted g = g.checked ≡ accepted

-- ---- nodes
-- A query at a node of an accepted grid within the premises: those on the values stand here, those on the axes are the kind's own. The setting
-- is free.
abbrev pub QueryAtNode : Type 0 → Grid → List ℕ → (ℕ → Float) → Type 0
QueryAtNode premises g node query = IsAccepted g × premises × FiniteValues g.vals × AtIndex 0 g.axes node query

-- 8.3: its answer is the number stored there, +0 and -0 as one
abbrev pub NodeRule : Type 0 → Grid → (ℕ → Float) → Answer → Type 0
NodeRule premises g query answer = (node : List ℕ) → QueryAtNode premises g node query → (v : Float) × (answer ≡ Ok v) × T (eq v (stored g node))

-- 8.4: two tables on the same axes, each with its own setting, answer it with the same number exactly where they store the same number
abbrev pub NodeCorollary : Type 0 → Grid → Grid → (ℕ → Float) → Answer → Answer → Type 0
NodeCorollary premises g g' query answer answer' =
    (node : List ℕ) → QueryAtNode premises g node query → QueryAtNode premises g' node query
    → (v : Float) × (v' : Float) × (answer ≡ Ok v) × (answer' ≡ Ok v') × (eq v v' ≡ eq (stored g node) (stored g' node))

-- a batch with this outcome came to query i: the number is not 7, nor 8 or 9 with an earlier query
abbrev pub Reached : Outcome → ℕ → Type 0
Reached outcome i = (number_of outcome ≡ 7 → ⊥) × ((number_of outcome ≡ 8) ⊎ (number_of outcome ≡ 9) → query_of outcome < i → ⊥)

-- after `interp` the entry of a query that is at a node in some sense, and that the batch came to, holds its number
abbrev pub EntryHolds : (List ℕ → (ℕ → Float) → Type 0) → Grid → List Float → Outcome → List Float → List Float → Type 0
EntryHolds at-node g queries outcome before after =
    (i : ℕ) (node : List ℕ) → i < length before → at-node node (query_at (length before) queries i)
    → Reached outcome i → T (eq (get_or after i nan) (stored g node))

-- 8.3
abbrev pub NodeInBatch : Type 0 → Grid → List Float → Outcome → List Float → List Float → Type 0
NodeInBatch premises g = EntryHolds (QueryAtNode premises g) g

-- 8.4 after `interp` of the same queries on both into buffers of one length: where both came to the query, its two entries are the same number exactly
-- where the tables store the same number
abbrev pub CorollaryInBatch : Type 0 → Grid → Grid → List Float → Outcome → Outcome → List Float → List Float → List Float → List Float → Type 0
CorollaryInBatch premises g g' queries outcome outcome' before after before' after' =
    let c = length before in
    c ≡ length before' → (i : ℕ) (node : List ℕ) → i < c → QueryAtNode premises g node (query_at c queries i) → QueryAtNode premises g' node (query_at c queries i)
    → Reached outcome i → Reached outcome' i → eq (get_or after i nan) (get_or after' i nan) ≡ eq (stored g node) (stored g' node)

-- ---- held edges
-- 8.6: a query that is on each axis at a node or past an end, on an accepted grid within the premises, and the index so clamped. The grid holds its
-- edges: its axes do.
abbrev pub QueryClamped : Type 0 → Grid → List ℕ → (ℕ → Float) → Type 0
QueryClamped premises g index query = IsAccepted g × premises × FiniteValues g.vals × AtClamped 0 g.axes index query

-- its answer is the number stored there
abbrev pub HeldEdge : Type 0 → Grid → (ℕ → Float) → Answer → Type 0
HeldEdge premises g query answer = (index : List ℕ) → QueryClamped premises g index query → (v : Float) × (answer ≡ Ok v) × T (eq v (stored g index))

abbrev pub HeldInBatch : Type 0 → Grid → List Float → Outcome → List Float → List Float → Type 0
HeldInBatch premises g = EntryHolds (QueryClamped premises g) g

-- ---- blocks
-- 8.5: two accepted grids with the same axes, which hold the setting too, since they give the weights; the query is placeable, at ps, and the
-- values are the same throughout the block there.
abbrev pub SameOnBlock : Grid → Grid → (ℕ → Float) → List Placed → Type 0
SameOnBlock g g' query ps =
    IsAccepted g × IsAccepted g' × (g.axis-count ≡ g'.axis-count) × (g.axes ≡ g'.axes)
    × (find 0 g.axes query ≡ places ps) × SameBlock (grid_counts g) ps g.vals g'.vals

-- both answer with the same value, and with the same components; the logic has one NaN
abbrev pub BlockRule : Grid → Grid → (ℕ → Float) → Answer → Answer → Type 0
BlockRule g g' query answer answer' = (ps : List Placed) → SameOnBlock g g' query ps → (v : Float) × (answer ≡ Ok v) × (answer' ≡ Ok v)

abbrev pub BlockGradient : Grid → Grid → (ℕ → Float) → Outcome → Outcome → List Float → List Float → Type 0
BlockGradient g g' query outcome outcome' gradient gradient' =
    (ps : List Placed) → SameOnBlock g g' query ps → (outcome ≡ accepted) × (outcome' ≡ accepted) × (gradient ≡ gradient')

-- after `interp` of the same queries into buffers of one length, its entries hold that answer on both, or keep their contents on both
abbrev pub BlockInBatch : Format → Grid → Grid → List Float → List Float → List Float → List Float → List Float → Type 0
BlockInBatch f g g' queries before after before' after' =
    let c = length before in
    c ≡ length before' → (i : ℕ) (ps : List Placed) → i < c → SameOnBlock g g' (query_at c queries i) ps
    → ((value_answer f g (query_at c queries i) ≡ Ok (get_or after i nan)) × (get_or after' i nan ≡ get_or after i nan))
    ⊎ ((get_or after i nan ≡ get_or before i nan) × (get_or after' i nan ≡ get_or before' i nan))

-- so after `interp_grad`: component d of query i of c is entry d * c + i
abbrev pub BlockInColumns : Format → Grid → Grid → List Float → List Float → List Float → List Float → List Float → Type 0
BlockInColumns f g g' queries before after before' after' =
    let c = length before / g.axis-count in
    length before ≡ length before' → (i : ℕ) (ps : List Placed) → i < c → SameOnBlock g g' (query_at c queries i) ps
    → ((d : ℕ) → d < g.axis-count → (get_or (gradient_answer f g (query_at c queries i)) d nan ≡ get_or after (d * c + i) nan) × (get_or after' (d * c + i) nan ≡ get_or after (d * c + i) nan))
    ⊎ ((d : ℕ) → d < g.axis-count → (get_or after (d * c + i) nan ≡ get_or before (d * c + i) nan) × (get_or after' (d * c + i) nan ≡ get_or before' (d * c + i) nan))

-- ---- of what the rules speak
-- the answers are those of `interp_one` and `interp_one_grad`
abbrev pub AnswersOf : Format → Grid → (ℕ → Float) → Answer → Outcome → List Float → Type 0
AnswersOf f g query answer outcome gradient = (answer ≡ value_answer f g query) × (outcome ≡ outcome_of g query) × (gradient ≡ gradient_answer f g query)

-- the buffers are as `interp` and `interp_grad` leave them
abbrev pub BuffersOf : Format → Grid → List Float → List Float → List Float → List Float → List Float → Type 0
BuffersOf f g queries before after grad grad-after = (after ≡ interp_buffer f g queries before) × (grad-after ≡ grad_buffer f g queries grad)

-- ---- what is owed of two tables, each with its own values and setting
-- a query alone: `interp_one` and `interp_one_grad`
pub record OwedAlone (premises : Type 0) (g g' : Grid) (query : ℕ → Float) (answer answer' : Answer) (outcome outcome' : Outcome) (gradient gradient' : List Float) : Type 0 where
  pub node : NodeRule premises g query answer
  pub corollary : NodeCorollary premises g g' query answer answer'
  pub block : BlockRule g g' query answer answer'
  pub gradient-block : BlockGradient g g' query outcome outcome' gradient gradient'

-- in a batch: `interp`, its two outcomes and value buffers, and `interp_grad`, the two gradient buffers
pub record OwedInBatch (f : Format) (premises : Type 0) (g g' : Grid) (queries : List Float) (outcome outcome' : Outcome) (before after before' after' : List Float) (grad grad-after grad' grad-after' : List Float) : Type 0 where
  pub node : NodeInBatch premises g queries outcome before after
  pub corollary : CorollaryInBatch premises g g' queries outcome outcome' before after before' after'
  pub block : BlockInBatch f g g' queries before after before' after'
  pub columns : BlockInColumns f g g' queries grad grad-after grad' grad-after'
