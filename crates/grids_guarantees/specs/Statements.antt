-- Clause 8.7: section 8 as `guarantees` states it, of answers and buffers that meet the contracts of the calls on kept grids, in any format. A kept grid
-- is the plain calls' grid, of its fields as they stand at the call. That the format holds every float lent, and that an array has four entries, is
-- typing, and no premise.
use Rattle.std.specs.Prelude.{ℕ, ◌≡◌, List, length, Float}
use Rattle.std.specs.Float.{Format}
use Rattle.multicubic.specs.Types.{Answer, Outcome}
use Rattle.multicubic.specs.declared.Marks.{Marks}
use Rattle.grid.specs.Query.{Grid, at, value_answer, mark_answer}
use Rattle.grid.specs.Batch.{interp_outcome, interp_buffer}
use Rattle.grid.specs.Nodes.{Fits}
use Rattle.guarantees.specs.Marked.{UnmarkedAtNode}
use Rattle.guarantees.specs.Statements.{AnswersOf, BuffersOf, OwedAlone, OwedInBatch, HeldEdge, HeldInBatch}

-- ---- of two grids on the same axes, each with its own values and setting
pub record OwedKept (f : Format) (premises : Type 0) (g g' : Grid) : Type 0 where
  -- `interp_one` and `interp_one_grad`
  pub alone : (x : List Float) → Fits f x → (answer answer' : Answer) (outcome outcome' : Outcome) (gradient gradient' : List Float)
      → AnswersOf f g (at x) answer outcome gradient → AnswersOf f g' (at x) answer' outcome' gradient'
      → OwedAlone premises g g' (at x) answer answer' outcome outcome' gradient gradient'
  -- `interp` and `interp_grad`
  pub in-batch : (queries : List Float) → Fits f queries → (outcome outcome' : Outcome) (before after before' after' grad grad-after grad' grad-after' : List Float)
      → outcome ≡ interp_outcome f g queries before → BuffersOf f g queries before after grad grad-after
      → outcome' ≡ interp_outcome f g' queries before' → BuffersOf f g' queries before' after' grad' grad-after'
      → OwedInBatch f premises g g' queries outcome outcome' before after before' after' grad grad-after grad' grad-after'
  -- 8.8: the marks of the three single calls
  pub unmarked : (x : List Float) (marks : List Marks) → marks ≡ mark_answer g (at x) → UnmarkedAtNode premises g (at x) marks

-- ---- 8.6, of a grid that holds its edges: `interp_one` and `interp`
pub record HeldKept (f : Format) (premises : Type 0) (g : Grid) : Type 0 where
  pub alone : (x : List Float) → Fits f x → (answer : Answer) → answer ≡ value_answer f g (at x) → HeldEdge premises g (at x) answer
  pub in-batch : (queries : List Float) → Fits f queries → (outcome : Outcome) (before after : List Float)
      → outcome ≡ interp_outcome f g queries before → after ≡ interp_buffer f g queries before → HeldInBatch premises g queries outcome before after

-- ---- the fields of two grids that share their axes: those on which the axes stand, each entry of the width, four in an array
pub record Shared {A : Type 0} (f : Format) (n n' : ℕ) (four four' : List A) (joined joined' vals vals' : List Float) : Type 0 where
  pub same_count : n ≡ n'
  pub same_four : four ≡ four'
  pub same-joined : joined ≡ joined'
  pub long : length four ≡ 4
  pub entries : Fits f joined
  pub held : Fits f vals
  pub held' : Fits f vals'
