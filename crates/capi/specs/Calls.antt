-- What each call for C leaves, on a grid of either kind that is gathered from slices: its number, query and axis, and what it writes.
use Rattle.std.specs.Prelude.{ℕ, min, List, length, Float}
use Rattle.std.specs.Float.{Format}
use Rattle.multicubic.specs.Answers.{answer_outcome}
use Rattle.grid.specs.Query.{at, outcome_of, value_answer, gradient_answer, place_answer, mark_answer}
use Rattle.grid.specs.Batch.{interp_outcome, interp_buffer, grad_outcome, grad_buffer}
use Rattle.shared_sums.specs.Sums.{sums_answer}
use Rattle.slices.specs.Slices.{query_from}
use Rattle.slices.specs.Lent.{Gathered, lent_to, lent_to_query}
use Rattle.told.specs.Told.{with_value, with_first, with_places, with_both, Leaves, leaves, leaves_marked}

-- Clause 11.5: the version of the calls, raised where a call changes what it takes or leaves.
abbrev pub version : ℕ
version = 4

-- `new`: the verdict alone
unfoldable pub new_leaves : Gathered → List ℕ → Leaves Unit
new_leaves s refusal = leaves (lent_to s (length refusal)).checked refusal tt

-- the place: an origin and a class for each axis, and its marks
unfoldable pub get_loc_leaves : Gathered → List Float → List ℕ → List ℕ → List ℕ → List ℕ → Leaves ((List ℕ × List ℕ) × List ℕ)
get_loc_leaves s x refusal origins classes marks =
    let n = s.grid.axis-count in
    let g = lent_to_query s (length x) (length refusal) (min (length origins) (length classes)) n (length marks) in
    let query = at (query_from x) in
    leaves_marked (outcome_of g query) refusal (with_places (outcome_of g query) n (place_answer g query) origins classes) n (mark_answer g query) marks

module _ (f : Format) (s : Gathered) where
  -- the value at one query, and its marks
  unfoldable pub interp_one_leaves : List Float → List ℕ → List Float → List ℕ → Leaves (List Float × List ℕ)
  interp_one_leaves x refusal value marks =
      let g = lent_to_query s (length x) (length refusal) (length value) 1 (length marks) in
      let query = at (query_from x) in
      let answer = value_answer f g query in
      leaves_marked (answer_outcome answer) refusal (with_value answer value) s.grid.axis-count (mark_answer g query) marks

  -- the gradient at one query: a component for each axis, and its marks
  unfoldable pub interp_one_grad_leaves : List Float → List ℕ → List Float → List ℕ → Leaves (List Float × List ℕ)
  interp_one_grad_leaves x refusal gradient marks =
      let n = s.grid.axis-count in
      let g = lent_to_query s (length x) (length refusal) (length gradient) n (length marks) in
      let query = at (query_from x) in
      leaves_marked (outcome_of g query) refusal (with_first (outcome_of g query) n (gradient_answer f g query) gradient) n (mark_answer g query) marks

  -- value and gradient at one query, with the number of sums that they took together: one entry of value and sums, one for each axis of gradient and marks
  unfoldable pub interp_one_with_grad_leaves : List Float → List ℕ → List Float → List Float → List ℕ → List ℕ → Leaves (((List Float × List Float) × List ℕ) × List ℕ)
  interp_one_with_grad_leaves x refusal value gradient marks sums =
      let n = s.grid.axis-count in
      let g = lent_to_query s (length x) (length refusal) (min (length value) (length sums)) 1 (min (length gradient) (length marks)) in
      let query = at (query_from x) in
      let answer = value_answer f g query in
      leaves_marked (answer_outcome answer) refusal (with_both answer n (gradient_answer f g query) (sums_answer g query) value gradient sums) n (mark_answer g query) marks

  -- the values of a batch, one for each query
  unfoldable pub interp_leaves : List Float → List ℕ → List Float → Leaves (List Float)
  interp_leaves queries refusal out =
      let g = lent_to s (length refusal) in
      leaves (interp_outcome f g queries out) refusal (interp_buffer f g queries out)

  -- the gradients of a batch: joined columns, the component along axis 0 of each query, then along axis 1
  unfoldable pub interp_grad_leaves : List Float → List ℕ → List Float → Leaves (List Float)
  interp_grad_leaves queries refusal out =
      let g = lent_to s (length refusal) in
      leaves (grad_outcome f g queries out) refusal (grad_buffer f g queries out)
