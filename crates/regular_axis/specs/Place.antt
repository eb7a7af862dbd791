-- Clauses 3.3, 3.5 and 3.9: the place on a regular axis.
use Rattle.std.specs.Prelude.{ℕ, ◌+◌, ◌-◌, ◌*◌, ◌/◌, Bool, true, false, cond, not, ◌||◌, List, [], ◌∷◌, ℤ, pos, ◌-ℤ◌, neg_ℤ, is_nan, Float}
use Rattle.std.specs.Float.{nan, inf, fin, Format}
use Rattle.std.specs.Float.Ieee.{up, down, sub, div, lt, le}
use Rattle.std.specs.Float.Ieee.Scale.{finite}
use Rattle.multicubic.specs.declared.Place.{Place}
use Rattle.multicubic.specs.Types.{Loc, refusal}
use Rattle.multicubic.specs.declared.LocError.TheVariants.{Unplaceable}
use Rattle.std.specs.Prelude.{Err, Ok}
use Rattle.multicubic.specs.Place.{place_of, if_number}

-- (query minus start) / step, two rounded operations
abbrev pub quotient : Format → Float → Float → Float → Float
quotient f start step x = div f (sub f x start) step

-- the largest whole number not above x: m * 2 ^ e cut to a whole number, or, below zero, rounded up and negated. A quotient that is
-- not finite is refused before.
unfoldable pub floor_of : Float → ℤ
floor_of nan = pos 0
floor_of (inf s) = pos 0
floor_of (fin false m e) = pos (m * up e / down e)
floor_of (fin true m e) = neg_ℤ (pos ((m * up e + (down e - 1)) / down e))

-- refusal 8 of a number: the quotient is NaN, infinite, at least 2^63 or below -2^63
unfoldable pub refused8 : Float → Bool
refused8 q = not (finite q) || le (fin false 1 (pos 63)) q || lt q (fin true 1 (pos 63))

-- L is the floor of the quotient, minus 1
abbrev pub loc_of : Format → Float → Float → ℕ → Float → Loc
loc_of f start step n x =
    let q = quotient f start step x in
    if_number x (cond (refused8 q) (Err Unplaceable) (Ok (place_of n (floor_of q -ℤ pos 1))))

-- the same told apart: the number, and the place where there is one
abbrev pub loc_number : Format → Float → Float → Float → ℕ
loc_number f start step x = cond (is_nan x) 9 (cond (refused8 (quotient f start step x)) 8 0)

abbrev pub loc_place : Format → Float → Float → ℕ → Float → List Place
loc_place f start step n x =
    let q = quotient f start step x in
    cond (is_nan x) [] (cond (refused8 q) [] (place_of n (floor_of q -ℤ pos 1) ∷ []))
