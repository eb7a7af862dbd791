-- Checks 5, 6 and 10 on axes that are easily misread, by computation.
use mathlib.Core.Path.{◌≡◌, refl}
use mathlib.Core.Bool.{true, false}
use mathlib.Core.List.{[], ◌∷◌}
use Prim.Native.Nat.{ℕ}
use lib.IntN.{pos}
use lib.Ieee.{Float, nan, inf, fin, is_nan, lt, eq}
use Rattle.std.specs.Prelude.{Err}
use Rattle.multicubic.specs.declared.Check.TheVariants.{NotRising, Disordered, NotSteep}
use Rattle.multicubic.specs.Types.{Outcome, accepted, refusal}
use Rattle.rectilinear_order.specs.Grid.{not_rising, disorder, flat, order_checks}

abbrev n0 : Float
n0 = fin false 0 (pos 0)

abbrev n1 : Float
n1 = fin false 1 (pos 0)

abbrev n2 : Float
n2 = fin false 1 (pos 1)

-- -0 and -1
abbrev m0 : Float
m0 = fin true 0 (pos 0)

abbrev m1 : Float
m1 = fin true 1 (pos 0)

-- axis 0 is in disorder at entry 3, and entry 1 of axis 1 is not above entry 0: 5 is tried on all axes first
pub five_first : order_checks ((n0 ∷ n1 ∷ n2 ∷ n1 ∷ []) ∷ (n1 ∷ n1 ∷ n2 ∷ n2 ∷ []) ∷ []) ≡ Err (refusal NotRising 0 1)
unfolding not_rising disorder flat lt eq is_nan
five_first = refl

-- a NaN among the first two entries is 5, and one after them is 6
pub nan_early : order_checks ((n0 ∷ nan ∷ n1 ∷ n2 ∷ []) ∷ []) ≡ Err (refusal NotRising 0 0)
unfolding not_rising disorder flat lt eq is_nan
nan_early = refl

pub nan_late : order_checks ((n0 ∷ n1 ∷ n2 ∷ nan ∷ []) ∷ []) ≡ Err (refusal Disordered 0 0)
unfolding not_rising disorder flat lt eq is_nan
nan_late = refl

-- ---- check 10
abbrev pub flat_on : ℕ → Outcome
flat_on axis = Err (refusal NotSteep 0 axis)

-- equal neighbours after entry 1 are 10, the last pair too
pub flat_inside : order_checks ((n0 ∷ n1 ∷ n1 ∷ n2 ∷ []) ∷ []) ≡ flat_on 0
unfolding not_rising disorder flat lt eq is_nan
flat_inside = refl

pub flat_last : order_checks ((n0 ∷ n1 ∷ n2 ∷ n2 ∷ []) ∷ []) ≡ flat_on 0
unfolding not_rising disorder flat lt eq is_nan
flat_last = refl

-- equal as numbers: the two zeros in either order, and two infinities; the zeros at entries 0 and 1 are 5
pub flat-zeros : order_checks ((m1 ∷ m0 ∷ n0 ∷ n1 ∷ []) ∷ []) ≡ flat_on 0
unfolding not_rising disorder flat lt eq is_nan
flat-zeros = refl

pub flat-zeros-back : order_checks ((m1 ∷ n0 ∷ m0 ∷ n1 ∷ []) ∷ []) ≡ flat_on 0
unfolding not_rising disorder flat lt eq is_nan
flat-zeros-back = refl

pub flat_infinite : order_checks ((n0 ∷ n1 ∷ inf false ∷ inf false ∷ []) ∷ []) ≡ flat_on 0
unfolding not_rising disorder flat lt eq is_nan
flat_infinite = refl

pub zeros_early : order_checks ((m0 ∷ n0 ∷ n1 ∷ n2 ∷ []) ∷ []) ≡ Err (refusal NotRising 0 0)
unfolding not_rising disorder flat lt eq is_nan
zeros_early = refl

-- each check over all axes before the next: a flat axis 0 does not come before 6 or 5 on axis 1
pub six_before_ten : order_checks ((n0 ∷ n1 ∷ n1 ∷ n2 ∷ []) ∷ (n0 ∷ n1 ∷ n2 ∷ n1 ∷ []) ∷ []) ≡ Err (refusal Disordered 0 1)
unfolding not_rising disorder flat lt eq is_nan
six_before_ten = refl

pub five_before_ten : order_checks ((n0 ∷ n1 ∷ n1 ∷ n2 ∷ []) ∷ (n1 ∷ n1 ∷ n2 ∷ n2 ∷ []) ∷ []) ≡ Err (refusal NotRising 0 1)
unfolding not_rising disorder flat lt eq is_nan
five_before_ten = refl

-- the lowest flat axis
pub second_flat : order_checks ((n0 ∷ n1 ∷ n2 ∷ inf false ∷ []) ∷ (n0 ∷ n1 ∷ n1 ∷ n2 ∷ []) ∷ []) ≡ flat_on 1
unfolding not_rising disorder flat lt eq is_nan
second_flat = refl

pub lower_flat : order_checks ((n0 ∷ n1 ∷ n1 ∷ n2 ∷ []) ∷ (n0 ∷ n1 ∷ n2 ∷ inf false ∷ []) ∷ (n0 ∷ n1 ∷ n2 ∷ n2 ∷ []) ∷ []) ≡ flat_on 0
unfolding not_rising disorder flat lt eq is_nan
lower_flat = refl

-- an infinite last entry rises
pub rising_to_infinity : order_checks ((n0 ∷ n1 ∷ n2 ∷ inf false ∷ []) ∷ []) ≡ accepted
unfolding not_rising disorder flat lt eq is_nan
rising_to_infinity = refl
