-- Clause 2.5, what each answer says: the number, query and axis of an outcome, the outcome of every other answer, and the value or the place that it carries.
use Rattle.std.specs.Prelude.{ℕ, ◌≡◌, List, [], ◌∷◌, Result, Ok, Err}
use Rattle.multicubic.specs.declared.Check.{Check}
use Rattle.multicubic.specs.declared.Check.TheVariants.{AxisCount, TooLarge, WrongLength, TooFew, NotRising, Disordered, BatchLength, NoPlace, NoNumber, NotSteep}
use Rattle.multicubic.specs.declared.LocError.{LocError}
use Rattle.multicubic.specs.declared.LocError.TheVariants.{NotANumber, Unplaceable}
use Rattle.multicubic.specs.declared.Place.{Place}
use Rattle.multicubic.specs.declared.Refusal.{Refusal}
use Rattle.multicubic.specs.Types.{Loc, Outcome, accepted, refusal}

-- the numbers of the checks
abbrev pub check_number : Check → ℕ
check_number AxisCount = 1
check_number TooLarge = 2
check_number WrongLength = 3
check_number TooFew = 4
check_number NotRising = 5
check_number Disordered = 6
check_number BatchLength = 7
check_number NoPlace = 8
check_number NoNumber = 9
check_number NotSteep = 10

abbrev pub number_of : Outcome → ℕ
number_of (Ok _) = 0
number_of (Err r) = check_number r.check

abbrev pub query_of : Outcome → ℕ
query_of (Ok _) = 0
query_of (Err r) = r.query

abbrev pub axis_of : Outcome → ℕ
axis_of (Ok _) = 0
axis_of (Err r) = r.axis

-- an outcome says the number, the query and the axis of one that is defined
abbrev pub Says : Outcome → Outcome → Type 0
Says outcome defined = (number_of outcome ≡ number_of defined) × (query_of outcome ≡ query_of defined) × (axis_of outcome ≡ axis_of defined)

-- what is carried beside an outcome: one where it accepts, none where it refuses
abbrev pub carried : {A : Type 0} → Outcome → A → List A
carried (Ok _) x = x ∷ []
carried (Err r) x = []

-- of a value's answer
abbrev pub answer_outcome : {A : Type 0} → Result A Refusal → Outcome
answer_outcome (Ok x) = accepted
answer_outcome (Err r) = Err r

abbrev pub value_in : {A : Type 0} → Result A Refusal → List A
value_in (Ok x) = x ∷ []
value_in (Err r) = []

-- a value, or the refusal
abbrev pub answered : {A : Type 0} → Outcome → A → Result A Refusal
answered (Err r) value = Err r
answered (Ok _) value = Ok value

-- of a query without a place on an axis: 9 where its coordinate is no number, 8 where it is unplaceable
abbrev pub check_of : LocError → Check
check_of NotANumber = NoNumber
check_of Unplaceable = NoPlace

abbrev pub place_at : ℕ → ℕ → Loc → Result Place Refusal
place_at query axis (Ok place) = Ok place
place_at query axis (Err e) = Err (refusal (check_of e) query axis)

abbrev pub place_outcome : ℕ → ℕ → Loc → Outcome
place_outcome query axis loc = answer_outcome (place_at query axis loc)

abbrev pub place_in : Loc → List Place
place_in (Ok place) = place ∷ []
place_in (Err e) = []
