-- Which of two refusals is told, by computation: the checks run 1 to 6, then 10, then 7.
use mathlib.Core.Path.{◌≡◌, refl}
use Rattle.multicubic.specs.declared.Check.TheVariants.{TooLarge, WrongLength, Disordered, BatchLength, NotSteep}
use Rattle.multicubic.specs.Types.{refusal}
use Rattle.std.specs.Prelude.{Err}
use Rattle.slices.specs.Slices.{earlier}

-- a flat axis, 10, comes before a slice to be written that is too short, 7, and after one to be read, 3
pub ten_before_seven : earlier (Err (refusal BatchLength 0 0)) (Err (refusal NotSteep 0 1)) ≡ Err (refusal NotSteep 0 1)
ten_before_seven = refl

pub three_before_ten : earlier (Err (refusal WrongLength 0 0)) (Err (refusal NotSteep 0 1)) ≡ Err (refusal WrongLength 0 0)
three_before_ten = refl

-- disorder likewise; the axis count and the sizes come before both
pub six_before_seven : earlier (Err (refusal BatchLength 0 0)) (Err (refusal Disordered 0 1)) ≡ Err (refusal Disordered 0 1)
six_before_seven = refl

pub two_before_three : earlier (Err (refusal WrongLength 0 0)) (Err (refusal TooLarge 0 0)) ≡ Err (refusal TooLarge 0 0)
two_before_three = refl
