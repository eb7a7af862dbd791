-- Checks 1 to 4 on counts that are easily misread, by computation.
use mathlib.Core.Path.{◌≡◌, refl}
use mathlib.Core.List.{[], ◌∷◌}
use Rattle.std.specs.Prelude.{Err, None, Some}
use Rattle.multicubic.specs.declared.Check.TheVariants.{WrongLength, TooFew}
use Rattle.multicubic.specs.Types.{accepted, refusal}
use Rattle.multicubic.specs.Grid.{size_checks}

-- the whole product is 0, which is not over
pub whole-product : size_checks 3 (4096 ∷ 4096 ∷ 0 ∷ 9 ∷ []) 0 None ≡ Err (refusal TooFew 0 2)
unfolding size_checks
whole-product = refl

-- a wrong length before a short axis
pub length_first : size_checks 2 (4 ∷ 3 ∷ 0 ∷ 0 ∷ []) 13 None ≡ Err (refusal WrongLength 0 0)
unfolding size_checks
length_first = refl

-- counts past the axis count do not matter
pub past_the_count : size_checks 1 (4 ∷ 4097 ∷ 0 ∷ 1 ∷ []) 4 (Some 4) ≡ accepted
unfolding size_checks
past_the_count = refl
