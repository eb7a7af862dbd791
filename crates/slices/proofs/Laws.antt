-- The checks that refuse slices.
use mathlib.Core.Path.{◌≡◌, refl}
use mathlib.Core.Bool.{Bool, true, false}
use mathlib.Core.Logic.{◌⊎◌, inl, inr}
use Prim.Native.Nat.{ℕ, min}
use lib.Dec.{ltb}
use Rattle.std.specs.Prelude.{Err, Ok}
use Rattle.multicubic.specs.declared.Check.TheVariants.{WrongLength, BatchLength}
use Rattle.multicubic.specs.Types.{Outcome}
use Rattle.multicubic.specs.Grid.{refuse, ◌then◌}
use Rattle.slices.specs.Slices.{slices_of, query_slices_of}

-- slices are refused with 3 or 7 alone
abbrev pub ThreeOrSeven : Outcome → Type 0
ThreeOrSeven (Ok _) = Unit
ThreeOrSeven (Err r) = (r.check ≡ WrongLength) ⊎ (r.check ≡ BatchLength)

either : (a b : Outcome) → ThreeOrSeven a → ThreeOrSeven b → ThreeOrSeven (a then b)
either (Ok _) b p q = q
either (Err r) b p q = p

three : (fault : Bool) → ThreeOrSeven (refuse fault WrongLength)
three true = inl refl
three false = tt

seven : (fault : Bool) → ThreeOrSeven (refuse fault BatchLength)
seven true = inr refl
seven false = tt

pub slices_numbers : (n shortest refusal : ℕ) → ThreeOrSeven (slices_of n shortest refusal)
unfolding slices_of
slices_numbers n shortest refusal = either (refuse (ltb shortest n) WrongLength) (refuse (ltb refusal 2) BatchLength) (three (ltb shortest n)) (seven (ltb refusal 2))

pub query_slices_numbers : (n shortest query refusal room need marks : ℕ) → ThreeOrSeven (query_slices_of n shortest query refusal room need marks)
unfolding query_slices_of
query_slices_numbers n shortest query refusal room need marks =
    either (slices_of n (min shortest query) refusal) (refuse (ltb room need) BatchLength then refuse (ltb marks n) BatchLength) (slices_numbers n (min shortest query) refusal)
    (either (refuse (ltb room need) BatchLength) (refuse (ltb marks n) BatchLength) (seven (ltb room need)) (seven (ltb marks n)))
