-- What the calls for C and the call for value and gradient leave, one law for each over a grid of either kind: a grid that is refused, slices that are
-- long enough, and the call as what was asked, told and written.
use mathlib.Core.Path.{◌≡◌, refl, sym, ap, ◌∙◌, subst}
use mathlib.Core.List.{List}
use Prim.Native.Nat.{ℕ, min}
use lib.ListN.{length}
use lib.Ieee.{Float, Format}
use Rattle.ieee.specs.Numbers.{zero as nought}
use Rattle.std.specs.Prelude.{Err}
use Rattle.multicubic.specs.declared.Marks.{Marks}
use Rattle.multicubic.specs.declared.Place.{Place}
use Rattle.multicubic.specs.declared.Refusal.{Refusal}
use Rattle.multicubic.specs.Types.{Answer, Outcome, accepted}
use Rattle.multicubic.specs.Answers.{Says, answer_outcome, value_in}
use Rattle.grid.specs.Query.{Grid, at, outcome_of, value_answer, value_carried, gradient_answer, place_answer, mark_answer}
use Rattle.grid.proofs.Singles.{value-refused, value-says}
use Rattle.shared_sums.specs.Sums.{sums_answer}
use Rattle.shared_sums.specs.Internal.{RefusedBy}
use Rattle.slices.specs.Slices.{query_from}
use Rattle.slices.specs.Lent.{Gathered, lent, lent_to_query}
use Rattle.slices.specs.Internal.{PlacesOn, ValueOn, BothOn}
use Rattle.told.specs.Told.{with_value, with_places, with_both, Leaves, leaves_marked}
use Rattle.capi.specs.Calls.{get_loc_leaves, interp_one_leaves, interp_one_with_grad_leaves}

-- ---- `interp_one_with_grad` of a grid that is refused
module _ (f : Format) (g : Grid) (x : List Float) where
  abbrev Promised : Answer → List Float → List Marks → ℕ → Type 0
  Promised answer gradient marks taken =
      (answer ≡ value_answer f g (at x))
      × ((gradient ≡ gradient_answer f g (at x))
      × ((marks ≡ mark_answer g (at x)) × ((taken ≡ sums_answer g (at x)) × (Says (answer_outcome answer) (outcome_of g (at x)) × (value_in answer ≡ value_carried f g (at x))))))

  promised : {answer : Answer} {gradient : List Float} {marks : List Marks} {taken : ℕ} → answer ≡ value_answer f g (at x) → gradient ≡ gradient_answer f g (at x)
      → marks ≡ mark_answer g (at x) → taken ≡ sums_answer g (at x) → Promised answer gradient marks taken
  promised a h m t = let w = value-says f g x a in (w.0, (h, (m, (t, w.1))))

  pub call-refused : {checked : Outcome} {by : Refusal} {answer : Answer} {gradient : List Float} {marks : List Marks} {taken : ℕ} → checked ≡ g.checked
      → checked ≡ Err by → RefusedBy checked answer gradient marks taken → Promised answer gradient marks taken
  call-refused {checked} {by} e r p =
      let t : g.checked ≡ Err by = sym e ∙ r in
      promised (p.0 ∙ value-refused f g x checked nought e r) (p.1 ∙ rw t refl) (p.2 ∙ rw t refl) (p.3 ∙ rw t refl)

-- ---- slices that are long enough
pub whole-both : (f : Format) {slices : Outcome} (g : Grid) (x : List Float) {answer : Answer} {gradient : List Float} {pairs : List Marks} {taken : ℕ}
    → slices ≡ accepted → BothOn f g x answer gradient pairs taken → BothOn f (lent slices g) x answer gradient pairs taken
whole-both f g x {answer} {gradient} {pairs} {taken} e b = subst (λ (g : Grid). BothOn f g x answer gradient pairs taken) (λ i. lent (sym e i) g) b

-- ---- a call for C
module _ (s : Gathered) (x : List Float) (refusal marks : List ℕ) {at_x : List Float} (query : at_x ≡ query_from x) {g : Grid} {pairs : List Marks} where
  module _ (f : Format) (value : List Float) {left : Leaves (List Float × List ℕ)} where
    pub interp-one-leaves : {answer : Answer} → g ≡ lent_to_query s (length x) (length refusal) (length value) 1 (length marks)
        → left ≡ leaves_marked (answer_outcome answer) refusal (with_value answer value) s.grid.axis-count pairs marks
        → ValueOn f g at_x answer pairs → left ≡ interp_one_leaves f s x refusal value marks
    unfolding interp_one_leaves
    interp-one-leaves lent p e =
        let answer = e.0 ∙ (λ i. value_answer f (lent i) (at (query i))) in
        let pairs = e.1 ∙ (λ i. mark_answer (lent i) (at (query i))) in
        p ∙ (λ i. leaves_marked (answer_outcome (answer i)) refusal (with_value (answer i) value) s.grid.axis-count (pairs i) marks)

  pub get-loc-leaves : (origins classes : List ℕ) {room : ℕ} {left : Leaves ((List ℕ × List ℕ) × List ℕ)} {o : Outcome} {places : List Place}
      → room ≡ min (length origins) (length classes) → g ≡ lent_to_query s (length x) (length refusal) room s.grid.axis-count (length marks)
      → left ≡ leaves_marked o refusal (with_places o s.grid.axis-count places origins classes) s.grid.axis-count pairs marks
      → PlacesOn g at_x o places pairs → left ≡ get_loc_leaves s x refusal origins classes marks
  unfolding get_loc_leaves
  get-loc-leaves origins classes room lent p e =
      let lent' = lent ∙ ap (λ r. lent_to_query s (length x) (length refusal) r s.grid.axis-count (length marks)) room in
      let outcome = e.0 ∙ (λ i. outcome_of (lent' i) (at (query i))) in
      let places = e.1 ∙ (λ i. place_answer (lent' i) (at (query i))) in
      let pairs = e.2 ∙ (λ i. mark_answer (lent' i) (at (query i))) in
      p ∙ (λ i. leaves_marked (outcome i) refusal (with_places (outcome i) s.grid.axis-count (places i) origins classes) s.grid.axis-count (pairs i) marks)

  module _ (f : Format) (value gradient : List Float) (sums : List ℕ) {left : Leaves (((List Float × List Float) × List ℕ) × List ℕ)} where
    pub interp-one-with-grad-leaves : {room least taken : ℕ} {answer : Answer} {components : List Float}
        → room ≡ min (length value) (length sums) → least ≡ min (length gradient) (length marks) → g ≡ lent_to_query s (length x) (length refusal) room 1 least
        → left ≡ leaves_marked (answer_outcome answer) refusal (with_both answer s.grid.axis-count components taken value gradient sums) s.grid.axis-count pairs marks
        → BothOn f g at_x answer components pairs taken → left ≡ interp_one_with_grad_leaves f s x refusal value gradient marks sums
    unfolding interp_one_with_grad_leaves
    interp-one-with-grad-leaves room least lent p e =
        let n = s.grid.axis-count in
        let lent' = lent ∙ (λ i. lent_to_query s (length x) (length refusal) (room i) 1 (least i)) in
        let answer = e.0 ∙ (λ i. value_answer f (lent' i) (at (query i))) in
        let components = e.1 ∙ (λ i. gradient_answer f (lent' i) (at (query i))) in
        let pairs = e.2 ∙ (λ i. mark_answer (lent' i) (at (query i))) in
        let taken = e.3 ∙ (λ i. sums_answer (lent' i) (at (query i))) in
        p ∙ (λ i. leaves_marked (answer_outcome (answer i)) refusal (with_both (answer i) n (components i) (taken i) value gradient sums) n (pairs i) marks)
