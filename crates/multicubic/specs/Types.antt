-- The types that the code's results stand for, as the definitions name them: f32 and f64 are floats alike.
use Rattle.std.specs.Prelude.{ℕ, Result, Ok, Float}
use Rattle.multicubic.specs.declared.Axis.{Axis as AxisOver}
use Rattle.multicubic.specs.declared.Check.{Check}
use Rattle.multicubic.specs.declared.LocError.{LocError}
use Rattle.multicubic.specs.declared.Place.{Place}
use Rattle.multicubic.specs.declared.Refusal.{Refusal}

abbrev pub Axis : Type 0
Axis = AxisOver Float

-- the place on one axis, or why there is none
abbrev pub Loc : Type 0
Loc = Result Place LocError

abbrev pub Outcome : Type 0
Outcome = Result Unit Refusal

-- a value, or the refusal
abbrev pub Answer : Type 0
Answer = Result Float Refusal

abbrev pub refusal : Check → ℕ → ℕ → Refusal
refusal check query axis = record { check = check; query = query; axis = axis }

abbrev pub accepted : Outcome
accepted = Ok tt
