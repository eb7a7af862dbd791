-- At a node a gathered grid's single calls leave zeros as the marks: the query is placed, so they are written, and the marks of its kind's grid are unset.
use mathlib.Core.Path.{◌≡◌, sym, ap, ◌∙◌, subst}
use mathlib.Core.List.{List, [], ◌∷◌}
use Prim.Native.Nat.{ℕ, ◌≤◌, min}
use native.Mathlib.Nat.{min-le_right}
use native.Mathlib.Omega.{arith}
use lib.ListN.{length, take}
use lib.Ieee.{Float, Format}
use Rattle.multicubic.specs.Types.{Outcome, accepted}
use Rattle.multicubic.specs.declared.Marks.{Marks}
use Rattle.multicubic.specs.Place.{unmarked}
use Rattle.multicubic.specs.Grid.{◌then◌}
use Rattle.multicubic.specs.Answers.{number_of, answer_outcome}
use Rattle.multicubic.proofs.Said.{outcome_of_lem}
use Rattle.grid.specs.Query.{Grid, at, found_outcome, outcome_of, value_answer, gradient_answer, place_answer, mark_answer}
use Rattle.grid.specs.Nodes.{AtIndex, Fits}
use Rattle.grid.proofs.AtNodes.{at_each, found_at}
use Rattle.guarantees.specs.Statements.{IsAccepted}
use Rattle.guarantees.specs.Marked.{UnmarkedAtNode}
use Rattle.guarantees.proofs.Typing.{Typed}
use Rattle.guarantees.proofs.Nodes.{Supplied}
use Rattle.guarantees.proofs.Blocks.{Counted}
use Rattle.shared_sums.specs.Sums.{sums_answer}
use Rattle.slices.specs.Slices.{query_from}
use Rattle.slices.specs.Lent.{Gathered, lent_to_query}
use Rattle.told.specs.Told.{with_marks, with_value, with_first, with_places, with_both, leaves_marked}
use Rattle.capi.specs.Calls.{get_loc_leaves, interp_one_leaves, interp_one_grad_leaves, interp_one_with_grad_leaves}
use Rattle.capi_guarantees.specs.Statements.{NoMarks, lent_to_both, OwedUnmarked}
use Rattle.capi_guarantees.proofs.Typing.{query-typed}
use Rattle.capi_guarantees.proofs.Lent.{supplied-to-query, counted-to-query, has-marks, whole-query}
use Rattle.capi_guarantees.proofs.Read.{over_first}

-- on any grid: at a node a query is placed
module _ (f : Format) (premises : Type 0) (g : Grid) (kind : Supplied f premises g) (query : ℕ → Float) (typed : Typed f query) (node : List ℕ)
    (taken : IsAccepted g) (within : premises) (here : AtIndex 0 g.axes node query) where
  placed : outcome_of g query ≡ accepted
  placed =
      let found = (found_at query 0 g.axes node (kind.sized taken).long (at_each f query typed 0 g.axes node (kind.laws taken within) here)).found in
      λ i. taken i then found_outcome 0 (found i)

-- marks that are unset are written as zeros
zeros : (n : ℕ) (pairs : List Marks) (before : List ℕ) → n ≤ 4 → n ≤ length before → pairs ≡ unmarked ∷ unmarked ∷ unmarked ∷ unmarked ∷ []
    → take n (with_marks accepted n pairs before) ≡ take n (0 ∷ 0 ∷ 0 ∷ 0 ∷ [])
zeros n pairs before few room e = ap (λ (ms : List Marks). take n (with_marks accepted n ms before)) e ∙ over_first n (0 ∷ 0 ∷ 0 ∷ 0 ∷ []) before few room

module _ (f : Format) (premises : Type 0) (s : Gathered) (kind : Supplied f premises s.grid) (counted : Counted s.grid)
    (unset : (query : ℕ → Float) → UnmarkedAtNode premises s.grid query (mark_answer s.grid query)) where
  abbrev n : ℕ
  n = s.grid.axis-count

  -- the length that is asked of the marks may be less than their own
  module _ (x : List Float) (refusal marks : List ℕ) (room need least : ℕ) (within-marks : least ≤ length marks) (fit : Fits f x) where
    abbrev query : ℕ → Float
    query = at (query_from x)

    abbrev one : Grid
    one = lent_to_query s (length x) (length refusal) room need least

    no-marks : {W : Type 0} (written : W) → NoMarks premises one query (leaves_marked (outcome_of one query) refusal written n (mark_answer one query) marks)
    no-marks written node taken within here =
        let supplied = supplied-to-query s (length x) (length refusal) room need least kind in
        let o = placed f premises one supplied query (query-typed f x fit) node taken within here in
        let whole = whole-query s (length x) (length refusal) room need least taken in
        let few = (counted-to-query s (length x) (length refusal) room need least counted taken).1 in
        let enough = has-marks s (length x) (length refusal) room need least taken in
        let long : n ≤ length marks = omega arith in
        let none = unset query node (subst (λ (g : Grid). g.checked ≡ accepted) (sym whole) taken) within here in (
          ap number_of o,
          ap (λ (u : Outcome). take n (with_marks u n (mark_answer one query) marks)) o
              ∙ zeros n (mark_answer one query) marks few long
              (subst (λ (g : Grid). mark_answer g query ≡ unmarked ∷ unmarked ∷ unmarked ∷ unmarked ∷ []) whole none),
        )

    -- where the outcome is told from the answer
    no-marks-of : {W : Type 0} (written : W) → NoMarks premises one query (leaves_marked (answer_outcome (value_answer f one query)) refusal written n (mark_answer one query) marks)
    no-marks-of written =
        subst (λ (o : Outcome). NoMarks premises one query (leaves_marked o refusal written n (mark_answer one query) marks)) (sym (outcome_of_lem (outcome_of one query) _)) (no-marks written)

  place-unmarked : (x : List Float) (refusal origins classes marks : List ℕ) → Fits f x
      → NoMarks premises (lent_to_query s (length x) (length refusal) (min (length origins) (length classes)) n (length marks)) (at (query_from x)) (get_loc_leaves s x refusal origins classes marks)
  unfolding get_loc_leaves
  place-unmarked x refusal origins classes marks fit =
      let g = lent_to_query s (length x) (length refusal) (min (length origins) (length classes)) n (length marks) in
      let query = at (query_from x) in
      no-marks x refusal marks (min (length origins) (length classes)) n (length marks) (omega arith) fit (with_places (outcome_of g query) n (place_answer g query) origins classes)

  value-unmarked : (x value : List Float) (refusal marks : List ℕ) → Fits f x
      → NoMarks premises (lent_to_query s (length x) (length refusal) (length value) 1 (length marks)) (at (query_from x)) (interp_one_leaves f s x refusal value marks)
  unfolding interp_one_leaves
  value-unmarked x value refusal marks fit =
      let g = lent_to_query s (length x) (length refusal) (length value) 1 (length marks) in
      let query = at (query_from x) in
      no-marks-of x refusal marks (length value) 1 (length marks) (omega arith) fit (with_value (value_answer f g query) value)

  gradient-unmarked : (x gradient : List Float) (refusal marks : List ℕ) → Fits f x
      → NoMarks premises (lent_to_query s (length x) (length refusal) (length gradient) n (length marks)) (at (query_from x)) (interp_one_grad_leaves f s x refusal gradient marks)
  unfolding interp_one_grad_leaves
  gradient-unmarked x gradient refusal marks fit =
      let g = lent_to_query s (length x) (length refusal) (length gradient) n (length marks) in
      let query = at (query_from x) in
      no-marks x refusal marks (length gradient) n (length marks) (omega arith) fit (with_first (outcome_of g query) n (gradient_answer f g query) gradient)

  both-unmarked : (x value gradient : List Float) (refusal marks sums : List ℕ) → Fits f x
      → NoMarks premises (lent_to_both s x refusal value gradient marks sums) (at (query_from x)) (interp_one_with_grad_leaves f s x refusal value gradient marks sums)
  unfolding interp_one_with_grad_leaves
  both-unmarked x value gradient refusal marks sums fit =
      let g = lent_to_both s x refusal value gradient marks sums in
      let query = at (query_from x) in
      no-marks-of x refusal marks (min (length value) (length sums)) 1 (min (length gradient) (length marks)) (min-le_right (length gradient) (length marks)) fit
      (with_both (value_answer f g query) n (gradient_answer f g query) (sums_answer g query) value gradient sums)

  pub owed-unmarked : OwedUnmarked f premises s
  owed-unmarked = record { place = place-unmarked; value = value-unmarked; gradient = gradient-unmarked; both = both-unmarked }
