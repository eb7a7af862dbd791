-- What is guaranteed of the calls for C: section 8 as `guarantees` states it, of what a caller reads after a call, on gathered grids of
-- either kind and in any format. A grid is accepted as it is lent to the call: then every slice is long enough too.
use Rattle.std.specs.Prelude.{◌≡◌, ℕ, ◌-◌, min, cond, List, [], ◌∷◌, Err, eqb, length, get_or, take, Float}
use Rattle.std.specs.Float.{nan, Format}
use Rattle.multicubic.specs.declared.Check.{Check}
use Rattle.multicubic.specs.declared.Check.TheVariants.{AxisCount, TooLarge, WrongLength, TooFew, NotRising, Disordered, BatchLength, NoPlace, NoNumber, NotSteep}
use Rattle.multicubic.specs.Types.{Answer, Outcome, accepted, refusal}
use Rattle.multicubic.specs.Answers.{answered}
use Rattle.grid.specs.Query.{Grid, at}
use Rattle.grid.specs.Nodes.{AtIndex, Fits}
use Rattle.guarantees.specs.Statements.{IsAccepted, NodeRule, NodeCorollary, NodeInBatch, CorollaryInBatch, HeldEdge, HeldInBatch, BlockRule, BlockGradient, BlockInBatch, BlockInColumns}
use Rattle.with_grad_guarantees.specs.Together.{BlockSums}
use Rattle.slices.specs.Slices.{query_from}
use Rattle.slices.specs.Lent.{Gathered, lent_to, lent_to_query}
use Rattle.told.specs.Told.{Leaves}
use Rattle.capi.specs.Calls.{get_loc_leaves, interp_one_leaves, interp_one_grad_leaves, interp_one_with_grad_leaves, interp_leaves, interp_grad_leaves}

-- ---- what a caller reads
-- the check of a number; one that is none's, which no call gives, is read as the last
abbrev pub check_read : ℕ → Check
check_read number =
    get_or (AxisCount ∷ TooLarge ∷ WrongLength ∷ TooFew ∷ NotRising ∷ Disordered ∷ BatchLength ∷ NoPlace ∷ NoNumber ∷ NotSteep ∷ []) (number - 1) NotSteep

-- number 0 is acceptance; on any other but 7, query and axis stand in `refusal` where it has two entries or more, as a grid that is accepted as lent asks
abbrev pub outcome_read : {W : Type 0} → Leaves W → Outcome
outcome_read left = cond (eqb left.number 0) accepted (Err (refusal (check_read left.number) (get_or left.refusal 0 0) (get_or left.refusal 1 0)))

-- the value is entry 0 of what is written; the marks stand beside it
abbrev pub answer_read : Leaves (List Float × List ℕ) → Answer
answer_read left = answered (outcome_read left) (get_or left.written.0 0 nan)

-- ---- what is owed of a call on two tables, from the grids as they are lent to it and what it leaves on each
-- `interp_one`
pub record OfValue (premises : Type 0) (g g' : Grid) (query : ℕ → Float) (left left' : Leaves (List Float × List ℕ)) : Type 0 where
  pub node : NodeRule premises g query (answer_read left)
  pub corollary : NodeCorollary premises g g' query (answer_read left) (answer_read left')
  pub block : BlockRule g g' query (answer_read left) (answer_read left')

-- `interp_one_grad`: the gradient is the first entries of what is written, one for each axis
abbrev pub OfGradient : Grid → Grid → (ℕ → Float) → Leaves (List Float × List ℕ) → Leaves (List Float × List ℕ) → Type 0
OfGradient g g' query left left' =
    BlockGradient g g' query (outcome_read left) (outcome_read left') (take g.axis-count left.written.0) (take g'.axis-count left'.written.0)

-- `interp_one_with_grad`: of what it leaves the value's part is read as after `interp_one`, and the gradient's as after `interp_one_grad`
abbrev pub LeavesBoth : Type 0
LeavesBoth = Leaves (((List Float × List Float) × List ℕ) × List ℕ)

abbrev pub value_part : LeavesBoth → Leaves (List Float × List ℕ)
value_part left = record { number = left.number; refusal = left.refusal; written = (left.written.0.0.0, left.written.1) }

abbrev pub gradient_part : LeavesBoth → Leaves (List Float × List ℕ)
gradient_part left = record { number = left.number; refusal = left.refusal; written = (left.written.0.0.1, left.written.1) }

-- the number of sums is entry 0 of its slice
pub record OfBoth (premises : Type 0) (g g' : Grid) (query : ℕ → Float) (left left' : LeavesBoth) : Type 0 where
  pub value : OfValue premises g g' query (value_part left) (value_part left')
  pub gradient : OfGradient g g' query (gradient_part left) (gradient_part left')
  pub sums : BlockSums g g' query (get_or left.written.0.1 0 0) (get_or left'.written.0.1 0 0)

-- `interp`
pub record OfBatch (f : Format) (premises : Type 0) (g g' : Grid) (queries out out' : List Float) (left left' : Leaves (List Float)) : Type 0 where
  pub node : NodeInBatch premises g queries (outcome_read left) out left.written
  pub corollary : CorollaryInBatch premises g g' queries (outcome_read left) (outcome_read left') out left.written out' left'.written
  pub block : BlockInBatch f g g' queries out left.written out' left'.written

-- `interp_grad`
abbrev pub OfColumns : Format → Grid → Grid → List Float → List Float → List Float → Leaves (List Float) → Leaves (List Float) → Type 0
OfColumns f g g' queries out out' left left' = BlockInColumns f g g' queries out left.written out' left'.written

-- ---- a grid as it is lent to `interp_one_with_grad`
abbrev pub lent_to_both : Gathered → List Float → List ℕ → List Float → List Float → List ℕ → List ℕ → Grid
lent_to_both s x refusal value gradient marks sums = lent_to_query s (length x) (length refusal) (min (length value) (length sums)) 1 (min (length gradient) (length marks))

-- ---- the calls, with any slices of the format's floats; each table's call has its own `refusal` and its own slices to write
pub record Owed (f : Format) (premises : Type 0) (s s' : Gathered) : Type 0 where
  pub value : (x value value' : List Float) (refusal refusal' marks marks' : List ℕ) → Fits f x
      → OfValue premises
      (lent_to_query s (length x) (length refusal) (length value) 1 (length marks)) (lent_to_query s' (length x) (length refusal') (length value') 1 (length marks'))
      (at (query_from x)) (interp_one_leaves f s x refusal value marks) (interp_one_leaves f s' x refusal' value' marks')
  pub gradient : (x gradient gradient' : List Float) (refusal refusal' marks marks' : List ℕ)
      → OfGradient
      (lent_to_query s (length x) (length refusal) (length gradient) s.grid.axis-count (length marks))
      (lent_to_query s' (length x) (length refusal') (length gradient') s'.grid.axis-count (length marks'))
      (at (query_from x)) (interp_one_grad_leaves f s x refusal gradient marks) (interp_one_grad_leaves f s' x refusal' gradient' marks')
  pub both : (x value value' gradient gradient' : List Float) (refusal refusal' marks marks' sums sums' : List ℕ) → Fits f x
      → OfBoth premises
      (lent_to_both s x refusal value gradient marks sums) (lent_to_both s' x refusal' value' gradient' marks' sums')
      (at (query_from x)) (interp_one_with_grad_leaves f s x refusal value gradient marks sums) (interp_one_with_grad_leaves f s' x refusal' value' gradient' marks' sums')
  pub batch : (queries out out' : List Float) (refusal refusal' : List ℕ) → Fits f queries
      → OfBatch f premises (lent_to s (length refusal)) (lent_to s' (length refusal'))
      queries out out' (interp_leaves f s queries refusal out) (interp_leaves f s' queries refusal' out')
  pub columns : (queries out out' : List Float) (refusal refusal' : List ℕ)
      → OfColumns f (lent_to s (length refusal)) (lent_to s' (length refusal'))
      queries out out' (interp_grad_leaves f s queries refusal out) (interp_grad_leaves f s' queries refusal' out')

-- ---- `interp_one`, `interp_one_with_grad` and `interp` on a table that holds its edges
pub record OwedHeld (f : Format) (premises : Type 0) (s : Gathered) : Type 0 where
  pub value : (x value : List Float) (refusal marks : List ℕ) → Fits f x
      → HeldEdge premises (lent_to_query s (length x) (length refusal) (length value) 1 (length marks)) (at (query_from x))
      (answer_read (interp_one_leaves f s x refusal value marks))
  pub both : (x value gradient : List Float) (refusal marks sums : List ℕ) → Fits f x
      → HeldEdge premises (lent_to_both s x refusal value gradient marks sums) (at (query_from x))
      (answer_read (value_part (interp_one_with_grad_leaves f s x refusal value gradient marks sums)))
  pub batch : (queries out : List Float) (refusal : List ℕ) → Fits f queries
      → HeldInBatch premises (lent_to s (length refusal)) queries (outcome_read (interp_leaves f s queries refusal out)) out (interp_leaves f s queries refusal out).written

-- ---- clause 8.8: at a node each of the four single calls gives 0 and leaves zeros as the marks, the first entries of their slice, one for each axis
abbrev pub NoMarks : {W : Type 0} → Type 0 → Grid → (ℕ → Float) → Leaves (W × List ℕ) → Type 0
NoMarks premises g query left =
    (node : List ℕ) → IsAccepted g → premises → AtIndex 0 g.axes node query
    → (left.number ≡ 0) × (take g.axis-count left.written.1 ≡ take g.axis-count (0 ∷ 0 ∷ 0 ∷ 0 ∷ []))

pub record OwedUnmarked (f : Format) (premises : Type 0) (s : Gathered) : Type 0 where
  pub place : (x : List Float) (refusal origins classes marks : List ℕ) → Fits f x
      → NoMarks premises (lent_to_query s (length x) (length refusal) (min (length origins) (length classes)) s.grid.axis-count (length marks))
      (at (query_from x)) (get_loc_leaves s x refusal origins classes marks)
  pub value : (x value : List Float) (refusal marks : List ℕ) → Fits f x
      → NoMarks premises (lent_to_query s (length x) (length refusal) (length value) 1 (length marks))
      (at (query_from x)) (interp_one_leaves f s x refusal value marks)
  pub gradient : (x gradient : List Float) (refusal marks : List ℕ) → Fits f x
      → NoMarks premises (lent_to_query s (length x) (length refusal) (length gradient) s.grid.axis-count (length marks))
      (at (query_from x)) (interp_one_grad_leaves f s x refusal gradient marks)
  pub both : (x value gradient : List Float) (refusal marks sums : List ℕ) → Fits f x
      → NoMarks premises (lent_to_both s x refusal value gradient marks sums) (at (query_from x)) (interp_one_with_grad_leaves f s x refusal value gradient marks sums)
