-- Clauses 3.2, 3.5 and 3.9: the place on a rectilinear axis.
use Rattle.std.specs.Prelude.{ℕ, suc, cond, List, [], ◌∷◌, pos, ◌-ℤ◌, length, Float}
use Rattle.std.specs.Float.Ieee.{lt, is_nan}
use Rattle.multicubic.specs.declared.Place.{Place}
use Rattle.multicubic.specs.Types.{Loc}
use Rattle.std.specs.Prelude.{Ok}
use Rattle.multicubic.specs.Place.{origin_of, rectilinear_class, place_of, if_number}

-- the number of entries below the query
abbrev pub count_below : Float → List Float → ℕ
count_below x [] = 0
count_below x (y ∷ ys) = cond (lt y x) (suc (count_below x ys)) (count_below x ys)

-- L is the number of entries below the query, minus 2
abbrev pub loc_of : List Float → Float → Loc
loc_of g x = if_number x (Ok (place_of (length g) (pos (count_below x g) -ℤ pos 2)))

-- the same told apart: the number, and the place where there is one, its class by the rectilinear list
abbrev pub loc_number : Float → ℕ
loc_number x = cond (is_nan x) 9 0

abbrev pub loc_place : List Float → Float → List Place
loc_place g x =
    let l = pos (count_below x g) -ℤ pos 2 in
    cond (is_nan x) [] (record { origin = origin_of (length g) l; class = rectilinear_class (length g) l } ∷ [])
