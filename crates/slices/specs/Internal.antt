-- What the calls on gathered grids promise to the calls for C: no definition of the specification's, and none of it need be believed, since the contracts of
-- the calls for C do not mention it.
use Rattle.std.specs.Prelude.{ℕ, ◌≡◌, List, Float}
use Rattle.std.specs.Float.{Format}
use Rattle.multicubic.specs.Types.{Answer, Outcome}
use Rattle.multicubic.specs.declared.Marks.{Marks}
use Rattle.multicubic.specs.declared.Place.{Place}
use Rattle.grid.specs.Query.{Grid, at, outcome_of, value_answer, gradient_answer, place_answer, mark_answer}
use Rattle.grid.specs.Batch.{interp_outcome, interp_buffer, grad_outcome, grad_buffer}
use Rattle.shared_sums.specs.Sums.{sums_answer}

abbrev pub PlacesOn : Grid → List Float → Outcome → List Place → List Marks → Type 0
PlacesOn g x outcome places marks = (outcome ≡ outcome_of g (at x)) × (places ≡ place_answer g (at x)) × (marks ≡ mark_answer g (at x))

abbrev pub ValueOn : Format → Grid → List Float → Answer → List Marks → Type 0
ValueOn f g x answer marks = (answer ≡ value_answer f g (at x)) × (marks ≡ mark_answer g (at x))

abbrev pub GradientOn : Format → Grid → List Float → Outcome → List Float → List Marks → Type 0
GradientOn f g x outcome gradient marks = (outcome ≡ outcome_of g (at x)) × (gradient ≡ gradient_answer f g (at x)) × (marks ≡ mark_answer g (at x))

abbrev pub BothOn : Format → Grid → List Float → Answer → List Float → List Marks → ℕ → Type 0
BothOn f g x answer gradient marks taken =
    (answer ≡ value_answer f g (at x)) × (gradient ≡ gradient_answer f g (at x)) × (marks ≡ mark_answer g (at x)) × (taken ≡ sums_answer g (at x))

abbrev pub InterpOn : Format → Grid → List Float → List Float → Outcome → List Float → Type 0
InterpOn f g queries before outcome after = (outcome ≡ interp_outcome f g queries before) × (after ≡ interp_buffer f g queries before)

abbrev pub InterpGradOn : Format → Grid → List Float → List Float → Outcome → List Float → Type 0
InterpGradOn f g queries before outcome after = (outcome ≡ grad_outcome f g queries before) × (after ≡ grad_buffer f g queries before)
