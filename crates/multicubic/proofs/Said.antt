-- An answer that is the defined one says what that one says.
use mathlib.Core.Path.{◌≡◌, refl, ap, ◌∙◌}
use lib.Ieee.{Float}
use Rattle.std.specs.Prelude.{Err, Ok}
use Rattle.multicubic.specs.Types.{Answer, Outcome}
use Rattle.multicubic.specs.Answers.{number_of, query_of, axis_of, Says, carried, answer_outcome, value_in, answered}

pub says : {outcome defined : Outcome} → outcome ≡ defined → Says outcome defined
says e = (ap number_of e, ap query_of e, ap axis_of e)

pub outcome_of_lem : (outcome : Outcome) (x : Float) → answer_outcome (answered outcome x) ≡ outcome
outcome_of_lem (Ok _) x = refl
outcome_of_lem (Err r) x = refl

carried_of : (outcome : Outcome) (x : Float) → value_in (answered outcome x) ≡ carried outcome x
carried_of (Ok _) x = refl
carried_of (Err r) x = refl

-- a value's answer, beside what it is
pub answer-says : {answer : Answer} (outcome : Outcome) (x : Float) → answer ≡ answered outcome x
    → (answer ≡ answered outcome x) × (Says (answer_outcome answer) outcome × (value_in answer ≡ carried outcome x))
answer-says outcome x e = (e, (says (ap answer_outcome e ∙ outcome_of_lem outcome x), ap value_in e ∙ carried_of outcome x))

-- an outcome beside what it is, alone and with something else that is promised
pub also_says : {outcome defined : Outcome} → outcome ≡ defined → (outcome ≡ defined) × Says outcome defined
also_says e = (e, says e)

pub both_say : {outcome defined : Outcome} {B : Type 0} → (outcome ≡ defined) × B → (outcome ≡ defined) × (B × Says outcome defined)
both_say p = (p.0, (p.1, says p.0))
