-- What tells a NaN, and what is none. There is one NaN.
use mathlib.Core.Path.{◌≡◌, refl, sym, ap, subst}
use mathlib.Core.Bool.{true, false}
use lib.Dec.{T}
use lib.Ieee.{Float, nan, inf, fin, is_nan, lt, eq, ne}
use lib.Ieee.Compare.{differs_from_itself}
use Rattle.ieee.proofs.Order.{numbers, lt→le}

pub nan_is : (x : Float) → is_nan x ≡ true → x ≡ nan
unfolding is_nan
nan_is nan e = refl
nan_is (inf s) e = absurd (subst T (sym e) tt)
nan_is (fin s m k) e = absurd (subst T (sym e) tt)

-- the comparison of a float with itself
pub differs_nan : (x : Float) → ne x x ≡ true → is_nan x ≡ true
unfolding is_nan
differs_nan x e = ap is_nan (differs_from_itself x (subst T (sym e) tt))

pub same_number : (x : Float) → ne x x ≡ false → is_nan x ≡ false
unfolding is_nan ne eq
same_number nan e = absurd (subst T e tt)
same_number (inf s) e = refl
same_number (fin s m k) e = refl

-- what equals something, and both sides of what is below something
pub eq_number : (x y : Float) → T (eq x y) → is_nan x ≡ false
unfolding is_nan eq
eq_number nan y h = absurd h
eq_number (inf s) y h = refl
eq_number (fin s m e) y h = refl

pub lt-numbers : (x y : Float) → lt x y ≡ true → (is_nan x ≡ false) × (is_nan y ≡ false)
lt-numbers x y e = numbers x y (lt→le x y e)
