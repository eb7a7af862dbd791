-- What a comparison of two values of a float type tells of the floats.
use Rattle.std.proofs.Common.{◌≡◌, refl, sym, ◌∙◌, ap, Bool, true, false, cond, not, ◌||◌, Option, Some, None, Ordering, Less, Equal, Greater}
use Rattle.std.specs.Ordering.{is_some_and, is_lt, is_le, is_ge, partial_lt, partial_le, partial_ge, float_partial_cmp}
use lib.Ieee.{Float, lt, le, eq, ne}
use Rattle.ieee.proofs.Order.{eq-sym, lt_not_le}

-- what `float_partial_cmp` answers, by lt x y, eq x y and lt y x
abbrev told : Bool → Bool → Bool → Option Ordering
told p q s = cond p (Some Less) (cond q (Some Equal) (cond s (Some Greater) None))

less : (p q s : Bool) → is_some_and is_lt (told p q s) ≡ p
less true q s = refl
less false true s = refl
less false false true = refl
less false false false = refl

upto : (p q s : Bool) → is_some_and is_le (told p q s) ≡ (p || q)
upto true q s = refl
upto false true s = refl
upto false false true = refl
upto false false false = refl

from : (p q s u : Bool) → (p ≡ true → (s || u) ≡ false) → (q ≡ true → u ≡ true) → (u ≡ true → q ≡ true) → is_some_and is_ge (told p q s) ≡ (s || u)
from true q s u a f b = sym (a refl)
from false true true u a f b = refl
from false true false u a f b = sym (f refl)
from false false true u a f b = refl
from false false false true a f b = b refl
from false false false false a f b = refl

upto-is : (x y : Float) → partial_le float_partial_cmp x y ≡ le x y
unfolding le
upto-is x y = upto (lt x y) (eq x y) (lt y x)

from-is : (x y : Float) → partial_ge float_partial_cmp x y ≡ le y x
unfolding le
from-is x y = from (lt x y) (eq x y) (lt y x) (eq y x) (lt_not_le x y) (eq-sym x y) (eq-sym y x)

-- The comparison's answer r is v, and the values' floats are x and y.
module _ {A : Type 0} (float : A → Float) where
  module _ {equal : A → A → Bool} (law : (a b : A) → equal a b ≡ eq (float a) (float b)) where
    pub differ : {r v : Bool} (a b : A) → r ≡ not (equal a b) → r ≡ v → ne (float a) (float b) ≡ v
    unfolding ne
    differ a b e t = ap not (sym (law a b)) ∙ sym e ∙ t

  module _ {order : A → A → Option Ordering} (law : (a b : A) → order a b ≡ float_partial_cmp (float a) (float b)) {x y : Float} {r v : Bool} (a b : A) (at : float a ≡ x) (over : float b ≡ y) where
    pub below : r ≡ partial_lt order a b → r ≡ v → lt x y ≡ v
    below e t = (λ i. lt (sym at i) (sym over i)) ∙ sym (less (lt (float a) (float b)) (eq (float a) (float b)) (lt (float b) (float a))) ∙ ap (is_some_and is_lt) (sym (law a b)) ∙ sym e ∙ t

    pub not_above : r ≡ partial_le order a b → r ≡ v → le x y ≡ v
    not_above e t = (λ i. le (sym at i) (sym over i)) ∙ sym (upto-is (float a) (float b)) ∙ ap (is_some_and is_le) (sym (law a b)) ∙ sym e ∙ t

    pub not_below : r ≡ partial_ge order a b → r ≡ v → le y x ≡ v
    not_below e t = (λ i. le (sym over i) (sym at i)) ∙ sym (from-is (float a) (float b)) ∙ ap (is_some_and is_ge) (sym (law a b)) ∙ sym e ∙ t
