-- Regular axes gathered from slices.
use Rattle.std.specs.Prelude.{ℕ, List, [], ◌∷◌, get_or, Float}
use Rattle.ieee.specs.Numbers.{zero}
use Rattle.multicubic.specs.Types.{Axis}

-- axis i
abbrev pub axis_from : List ℕ → List Float → List Float → ℕ → Axis
axis_from counts starts steps i = record { start = get_or starts i zero; step = get_or steps i zero; count = get_or counts i 1 }

-- the first four
abbrev pub axes_from : List ℕ → List Float → List Float → List Axis
axes_from counts starts steps = axis_from counts starts steps 0 ∷ axis_from counts starts steps 1 ∷ axis_from counts starts steps 2 ∷ axis_from counts starts steps 3 ∷ []
