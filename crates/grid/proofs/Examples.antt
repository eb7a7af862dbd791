-- A query is refused axis by axis, on each with 9 before 8, by computation: on axes each of which has the same place, or none, for every number.
use mathlib.Core.Path.{◌≡◌, refl}
use mathlib.Core.List.{[], ◌∷◌}
use Prim.Native.Nat.{ℕ, zero, suc}
use lib.Ieee.{Float, nan, is_nan, lt}
use Rattle.multicubic.specs.declared.Check.TheVariants.{NoPlace, NoNumber}
use Rattle.ieee.specs.Numbers.{one}
use Rattle.multicubic.specs.Types.{Loc}
use Rattle.multicubic.specs.declared.LocError.TheVariants.{Unplaceable}
use Rattle.std.specs.Prelude.{Err, Ok}
use Rattle.multicubic.specs.Place.{nowhere, if_number}
use Rattle.grid.specs.Query.{GridAxis, held_axis, refused_at, places, find}

abbrev toy : Loc → GridAxis
toy loc = record { count = 4; loc = λ x. if_number x loc; weights = λ x p. []; derivatives = λ x p. []; node = λ i. one }

abbrev two_of : Float → Float → ℕ → Float
two_of x y zero = x
two_of x y (suc axis) = y

pub eight_first : find 0 (toy (Err Unplaceable) ∷ toy (Ok nowhere) ∷ []) (two_of one nan) ≡ refused_at NoPlace 0
unfolding is_nan
eight_first = refl

pub nine_first : find 0 (toy (Err Unplaceable) ∷ toy (Err Unplaceable) ∷ []) (two_of nan one) ≡ refused_at NoNumber 0
unfolding is_nan
nine_first = refl

pub nine_later : find 0 (toy (Ok nowhere) ∷ toy (Err Unplaceable) ∷ []) (two_of one nan) ≡ refused_at NoNumber 1
unfolding is_nan
nine_later = refl

-- held it is not replaced, and a coordinate past the axes is not looked at
pub nine_held : find 0 (held_axis (toy (Err Unplaceable)) ∷ []) (two_of nan one) ≡ refused_at NoNumber 0
unfolding is_nan lt
nine_held = refl

pub past_the_axes : find 0 (toy (Ok nowhere) ∷ []) (two_of one nan) ≡ places (record { place = nowhere; weights = []; derivatives = [] } ∷ [])
unfolding is_nan
past_the_axes = refl
