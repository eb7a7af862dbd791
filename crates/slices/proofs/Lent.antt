-- Where no slice is too short the grid is as it was; where one is, every call has the refusal for its answer.
use mathlib.Core.Path.{◌≡◌, refl, sym, ap, ◌∙◌}
use mathlib.Core.Bool.{Bool, true, false, cond}
use mathlib.Core.List.{List, [], ◌∷◌}
use Prim.Native.Nat.{ℕ}
use lib.Ieee.{Float, Format}
use Rattle.ieee.specs.Numbers.{zero}
use Rattle.std.specs.Prelude.{Err, Ok}
use Rattle.multicubic.specs.declared.Refusal.{Refusal}
use Rattle.multicubic.specs.Types.{Answer, Outcome, accepted}
use Rattle.multicubic.specs.declared.Marks.{Marks}
use Rattle.multicubic.specs.Answers.{answered}
use Rattle.multicubic.specs.Internal.{four_nowhere, four_unmarked}
use Rattle.grid.specs.Query.{Grid, at, outcome_of, value_answer, gradient_answer, place_answer, mark_answer}
use Rattle.grid.specs.Batch.{interp_outcome, interp_buffer, grad_outcome, grad_buffer}
use Rattle.shared_sums.specs.Sums.{sums_answer}
use Rattle.shared_sums.specs.Internal.{RefusedBy}
use Rattle.slices.specs.Slices.{grid_first, earlier}
use Rattle.slices.specs.Lent.{lent}
use Rattle.slices.specs.Internal.{PlacesOn, ValueOn, GradientOn, BothOn, InterpOn, InterpGradOn}

pub whole : {slices : Outcome} (g : Grid) → slices ≡ accepted → g ≡ lent slices g
whole g e = λ i. lent (sym e i) g

-- the grid, its checks aside
abbrev checked_by : Outcome → Grid → Grid
checked_by outcome g = record { checked = outcome; axis-count = g.axis-count; axes = g.axes; vals = g.vals }

earlier-refuses : (short : Refusal) (o : Outcome) → (by : Refusal) × (earlier (Err short) o ≡ Err by)
earlier-refuses short (Ok _) = (short, refl)
earlier-refuses short (Err own) = go (grid_first own.check short.check)
  where
    go : (b : Bool) → (by : Refusal) × (◌≡◌ {A = Outcome} (cond b (Err own) (Err short)) (Err by))
    go true = (own, refl)
    go false = (short, refl)

module _ {o slices : Outcome} {short : Refusal} (g : Grid) (p : o ≡ earlier slices g.checked) (e : slices ≡ Err short) where
  -- what a call answers on every refused grid is its answer here
  refused : {X : Type 0} (call : Grid → X) (answer : Outcome → X) → ((by : Refusal) → answer (Err by) ≡ call (checked_by (Err by) g)) → answer o ≡ call (lent slices g)
  refused call answer each =
      let l = earlier-refuses short g.checked in
      let r = ap (λ s. earlier s g.checked) e ∙ l.1 in
      ap answer (p ∙ r) ∙ each l.0 ∙ sym (ap (λ o. call (checked_by o g)) r)

  module _ (x : List Float) where
    outcome : o ≡ outcome_of (lent slices g) (at x)
    outcome = refused (λ g. outcome_of g (at x)) (λ o. o) (λ by. refl)

    marks : four_unmarked ≡ mark_answer (lent slices g) (at x)
    marks = refused (λ g. mark_answer g (at x)) (λ o. four_unmarked) (λ by. refl)

    pub refused-value : (f : Format) (value : Float) → ValueOn f (lent slices g) x (answered o value) four_unmarked
    refused-value f value = (refused (λ g. value_answer f g (at x)) (λ o. answered o value) (λ by. refl), marks)

    pub refused-gradient : (f : Format) → GradientOn f (lent slices g) x o (zero ∷ zero ∷ zero ∷ zero ∷ []) four_unmarked
    refused-gradient f = (outcome, refused (λ g. gradient_answer f g (at x)) (λ o. zero ∷ zero ∷ zero ∷ zero ∷ []) (λ by. refl), marks)

    pub refused-both : (f : Format) {answer : Answer} {gradient : List Float} {pairs : List Marks} {taken : ℕ}
        → RefusedBy o answer gradient pairs taken → BothOn f (lent slices g) x answer gradient pairs taken
    refused-both f r =
        let none = refused (λ g. sums_answer g (at x)) (λ o. 0) (λ by. refl) in
        (r.0 ∙ (refused-value f zero).0, r.1 ∙ (refused-gradient f).1, r.2 ∙ marks, r.3 ∙ none)

    pub refused-places : PlacesOn (lent slices g) x o four_nowhere four_unmarked
    refused-places = (outcome, refused (λ g. place_answer g (at x)) (λ o. four_nowhere) (λ by. refl), marks)

  module _ (f : Format) (queries out : List Float) where
    pub refused-interp : InterpOn f (lent slices g) queries out o out
    refused-interp = (refused (λ g. interp_outcome f g queries out) (λ o. o) (λ by. refl), refused (λ g. interp_buffer f g queries out) (λ o. out) (λ by. refl))

    pub refused-interp-grad : InterpGradOn f (lent slices g) queries out o out
    refused-interp-grad = (refused (λ g. grad_outcome f g queries out) (λ o. o) (λ by. refl), refused (λ g. grad_buffer f g queries out) (λ o. out) (λ by. refl))
