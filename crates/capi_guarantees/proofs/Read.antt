-- A caller reads what a call answered: after one query on a grid that is accepted its value or its gradient, after a batch its number and,
-- on 8 and 9, its query.
use mathlib.Core.Path.{◌≡◌, refl, sym, ap, ◌∙◌, subst}
use mathlib.Core.Bool.{Bool, true, false, cond}
use mathlib.Core.Logic.{◌⊎◌, inl, inr}
use mathlib.Core.List.{List, [], ◌∷◌, ◌++◌}
use Prim.Native.Nat.{ℕ, zero, suc, ◌≤◌, ◌<◌, min}
use native.Mathlib.Nat.{min-le_left, min-le_right}
use native.Mathlib.Omega.{arith}
use lib.Dec.{eqb}
use lib.ListN.{length, get_or, take, set, length-append}
use lib.Seq.{get_or-set_same, get_or-set_other, length-take-le}
use lib.Ieee.{Float, nan, Format}
use borrow.Author.Tests.{eqb-true, le-ltb}
use Rattle.std.specs.Prelude.{Err, Ok}
use Rattle.multicubic.specs.declared.Check.{Check}
use Rattle.multicubic.specs.declared.Check.TheVariants.{AxisCount, TooLarge, WrongLength, TooFew, NotRising, Disordered, BatchLength, NoPlace, NoNumber, NotSteep}
use Rattle.multicubic.specs.declared.Refusal.{Refusal}
use Rattle.multicubic.specs.Types.{Answer, Outcome, accepted, refusal}
use Rattle.multicubic.proofs.Passed.{not-accepted}
use Rattle.multicubic.specs.declared.Marks.{Marks}
use Rattle.multicubic.specs.Answers.{check_number, number_of, query_of, axis_of, answered, answer_outcome}
use Rattle.multicubic.proofs.Said.{outcome_of_lem}
use Rattle.grid.specs.Query.{Grid, at, four_of, outcome_of, value_answer, gradient_answer, mark_answer}
use Rattle.guarantees.specs.Statements.{IsAccepted, Reached}
use Rattle.shared_sums.specs.Sums.{steps_of, sums_of, sums_answer}
use Rattle.slices.specs.Slices.{query_from}
use Rattle.slices.specs.Lent.{Gathered, lent_to_query}
use Rattle.told.specs.Told.{over, with_value, with_first, with_sums, Leaves, leaves, leaves_marked}
use Rattle.capi.specs.Calls.{interp_one_leaves, interp_one_grad_leaves, interp_one_with_grad_leaves}
use Rattle.capi_guarantees.specs.Statements.{check_read, outcome_read, answer_read, LeavesBoth, value_part, gradient_part, lent_to_both}
use Rattle.capi_guarantees.proofs.Lent.{has_room, has-marks}

-- ---- a batch
check-kept : (check : Check) (q a : ℕ) → number_of (cond (eqb (check_number check) 0) accepted (Err (refusal (check_read (check_number check)) q a))) ≡ check_number check
check-kept AxisCount q a = refl
check-kept TooLarge q a = refl
check-kept WrongLength q a = refl
check-kept TooFew q a = refl
check-kept NotRising q a = refl
check-kept Disordered q a = refl
check-kept BatchLength q a = refl
check-kept NoPlace q a = refl
check-kept NoNumber q a = refl
check-kept NotSteep q a = refl

number-kept : (o : Outcome) (q a : ℕ) → number_of (cond (eqb (number_of o) 0) accepted (Err (refusal (check_read (number_of o)) q a))) ≡ number_of o
number-kept (Ok _) q a = refl
number-kept (Err by) q a = check-kept by.check q a

-- the number that is read is 8 or 9 where the outcome's is
pub as_read : {k n : ℕ} → k ≡ n → (n ≡ 8) ⊎ (n ≡ 9) → (k ≡ 8) ⊎ (k ≡ 9)
as_read e (inl h) = inl (e ∙ h)
as_read e (inr h) = inr (e ∙ h)

module _ {W : Type 0} (refusal : List ℕ) (written : W) where
  there : (o : Outcome) → 2 ≤ length refusal → get_or (set (set refusal 0 (query_of o)) 1 (axis_of o)) 0 0 ≡ query_of o
  there o two = get_or-set_other (set refusal 0 (query_of o)) 1 0 (axis_of o) 0 (λ z. omega arith) ∙ get_or-set_same refusal 0 (query_of o) 0 (omega arith)

  pub number_read : (o : Outcome) → number_of (outcome_read (leaves o refusal written)) ≡ number_of o
  number_read o = number-kept o _ _

  pub query-read : (o : Outcome) → 2 ≤ length refusal → (number_of o ≡ 8) ⊎ (number_of o ≡ 9) → query_of (outcome_read (leaves o refusal written)) ≡ query_of o
  query-read o two (inl e) = rw (e, le-ltb (length refusal) 2 two) (there o two)
  query-read o two (inr e) = rw (e, le-ltb (length refusal) 2 two) (there o two)

  -- as a caller reads it, the batch came to query i only where it did
  pub reached-read : (o : Outcome) (i : ℕ) → 2 ≤ length refusal → Reached (outcome_read (leaves o refusal written)) i → Reached o i
  reached-read o i two r = (
    (λ seven. r.0 (number_read o ∙ seven)),
    (λ which earlier. r.1 (as_read (number_read o) which) (subst (λ (q : ℕ). q < i) (sym (query-read o two which)) earlier)),
  )

-- ---- one query
-- the first n of what is written over others
pub over_first : {A : Type 0} (n : ℕ) (xs before : List A) → n ≤ length xs → n ≤ length before → take n (over (take n xs) before) ≡ take n xs
over_first zero xs before h room = refl
over_first (suc n) [] before h room = absurd (omega arith)
over_first (suc n) (x ∷ xs) [] h room = absurd (omega arith)
over_first (suc n) (x ∷ xs) (y ∷ before) h room = ap (λ zs. x ∷ zs) (over_first n xs before (omega arith) (omega arith))

four-long : {A : Type 0} (o : Outcome) (other : A) (xs : List A) → length (four_of o other xs) ≡ 4
four-long (Err r) other xs = refl
four-long (Ok _) other xs = length-take-le 4 (xs ++ (other ∷ other ∷ other ∷ other ∷ [])) (omega (arith, length-append xs (other ∷ other ∷ other ∷ other ∷ [])))

-- a value that is told and written, and a gradient, where there is room
module _ (refusal marks : List ℕ) (out : List Float) (n : ℕ) (pairs : List Marks) where
  value-told : {answer : Answer} (v : Float) → 1 ≤ length out → answer ≡ Ok v → answer_read (leaves_marked (answer_outcome answer) refusal (with_value answer out) n pairs marks) ≡ Ok v
  value-told v room e =
      let entry : answer_read (leaves_marked accepted refusal (set out 0 v) n pairs marks) ≡ Ok v = ap Ok (get_or-set_same out 0 v nan (omega arith)) in
      ap (λ a. answer_read (leaves_marked (answer_outcome a) refusal (with_value a out) n pairs marks)) e ∙ entry

  gradient-told : {o : Outcome} (xs : List Float) → length xs ≡ 4 → n ≤ 4 → n ≤ length out → o ≡ accepted
      → (outcome_read (leaves_marked o refusal (with_first o n xs out) n pairs marks) ≡ accepted) × (take n (with_first o n xs out) ≡ take n xs)
  gradient-told xs four few room e =
      (ap (λ o. outcome_read (leaves_marked o refusal (with_first o n xs out) n pairs marks)) e, ap (λ o. take n (with_first o n xs out)) e ∙ over_first n xs out (omega arith) room)

-- what is lent to a call lets a value be read after it, and a gradient
module _ (f : Format) (g : Grid) (query : ℕ → Float) (left : Leaves (List Float × List ℕ)) where
  abbrev pub ReadsValue : Type 0
  ReadsValue = (v : Float) → IsAccepted g → value_answer f g query ≡ Ok v → answer_read left ≡ Ok v

  abbrev pub ReadsGradient : Type 0
  ReadsGradient = g.axis-count ≤ 4 → IsAccepted g → outcome_of g query ≡ accepted
      → (outcome_read left ≡ accepted) × (take g.axis-count left.written.0 ≡ take g.axis-count (gradient_answer f g query))

module _ (f : Format) (s : Gathered) (x : List Float) (refusal marks : List ℕ) where
  abbrev query : ℕ → Float
  query = at (query_from x)

  abbrev n : ℕ
  n = s.grid.axis-count

  module _ (out : List Float) where
    abbrev one : Grid
    one = lent_to_query s (length x) (length refusal) (length out) 1 (length marks)

    abbrev each : Grid
    each = lent_to_query s (length x) (length refusal) (length out) n (length marks)

    pub value_read : ReadsValue f one query (interp_one_leaves f s x refusal out marks)
    unfolding interp_one_leaves
    value_read v taken e = value-told refusal marks out n (mark_answer one query) v (has_room s (length x) (length refusal) (length out) 1 (length marks) taken) e

    pub gradient-read : ReadsGradient f each query (interp_one_grad_leaves f s x refusal out marks)
    unfolding interp_one_grad_leaves
    gradient-read few taken e =
        gradient-told refusal marks out n (mark_answer each query) (gradient_answer f each query) (four-long (outcome_of each query) _ _)
        few (has_room s (length x) (length refusal) (length out) n (length marks) taken) e

  -- both in one call, and the number of sums
  module _ (value gradient : List Float) (sums : List ℕ) where
    abbrev both : Grid
    both = lent_to_both s x refusal value gradient marks sums

    abbrev left : LeavesBoth
    left = interp_one_with_grad_leaves f s x refusal value gradient marks sums

    abbrev pairs : List Marks
    pairs = mark_answer both query

    -- each slice has the room that is asked of it and the one beside it
    room : IsAccepted both → 1 ≤ min (length value) (length sums)
    room = has_room s (length x) (length refusal) (min (length value) (length sums)) 1 (min (length gradient) (length marks))

    pub both-value-read : ReadsValue f both query (value_part left)
    unfolding interp_one_with_grad_leaves
    both-value-read v taken e =
        let enough = room taken in
        value-told refusal marks value n pairs v (omega (arith, min-le_left (length value) (length sums))) e

    pub both-gradient-read : ReadsGradient f both query (gradient_part left)
    unfolding interp_one_with_grad_leaves
    both-gradient-read few taken e =
        let enough = has-marks s (length x) (length refusal) (min (length value) (length sums)) 1 (min (length gradient) (length marks)) taken in
        gradient-told refusal marks gradient n pairs (gradient_answer f both query) (four-long (outcome_of both query) _ _)
        few (omega (arith, min-le_left (length gradient) (length marks))) (outcome_of_lem (outcome_of both query) _ ∙ e)

    pub sums-read : IsAccepted both → outcome_of both query ≡ accepted → get_or left.written.0.1 0 0 ≡ steps_of n
    unfolding interp_one_with_grad_leaves
    sums-read taken e =
        let enough = room taken in
        ap (λ o. get_or (with_sums o (sums_answer both query) sums) 0 0) (outcome_of_lem (outcome_of both query) _ ∙ e)
        ∙ get_or-set_same sums 0 (sums_answer both query) 0 (omega (arith, min-le_right (length value) (length sums))) ∙ ap (λ o. sums_of o n) e

-- ---- and what is read stands there: the number is 0, and the value is entry 0
pub accepted_there : {W : Type 0} (left : Leaves W) → outcome_read left ≡ accepted → left.number ≡ 0
accepted_there left e = go (eqb left.number 0) refl e
  where
    by : Refusal
    by = refusal (check_read left.number) (get_or left.refusal 0 0) (get_or left.refusal 1 0)

    go : (b : Bool) → eqb left.number 0 ≡ b → ◌≡◌ {A = Outcome} (cond b accepted (Err by)) accepted → left.number ≡ 0
    go true z e = eqb-true left.number 0 z
    go false z e = absurd (not-accepted by e)

pub value_there : (left : Leaves (List Float × List ℕ)) (v : Float) → answer_read left ≡ Ok v → (left.number ≡ 0) × (get_or left.written.0 0 nan ≡ v)
value_there left v = go (outcome_read left) refl
  where
    go : (o : Outcome) → outcome_read left ≡ o → answered o (get_or left.written.0 0 nan) ≡ Ok v → (left.number ≡ 0) × (get_or left.written.0 0 nan ≡ v)
    go (Ok _) e r = (accepted_there left e, cc)
    go (Err by) e r = let z : ◌≡◌ {A = ℕ} 0 1 = cc in absurd (omega arith)
