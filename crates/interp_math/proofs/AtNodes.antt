-- The basis at one and at a zero of either sign, by computation in each format.
use mathlib.Core.Path.{◌≡◌, refl}
use mathlib.Core.Bool.{Bool, true, false}
use mathlib.Core.List.{[], ◌∷◌}
use lib.IntN.{pos}
use lib.Ieee.{fin, Format, binary32, binary64, add, sub, mul, neg, of_bits}
use Rattle.ieee.specs.Numbers.{zero, one}
use Rattle.interp_math.specs.Basis.{hermite_basis}

pub basis_one : (f : Format) → hermite_basis f one ≡ zero ∷ zero ∷ one ∷ zero ∷ []
unfolding hermite_basis of_bits add sub mul neg
basis_one binary32 = refl
basis_one binary64 = refl

pub basis_zero : (f : Format) (s : Bool) → hermite_basis f (fin s 0 (pos 0)) ≡ one ∷ zero ∷ zero ∷ zero ∷ []
unfolding hermite_basis of_bits add sub mul neg
basis_zero binary32 true = refl
basis_zero binary32 false = refl
basis_zero binary64 true = refl
basis_zero binary64 false = refl
