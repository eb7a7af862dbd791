-- The zeros of either sign.
use mathlib.Core.Path.{◌≡◌}
use mathlib.Core.Bool.{Bool}
use lib.IntN.{pos}
use lib.Ieee.{Float, fin}

-- +0 or -0
abbrev pub IsZero : Float → Type 0
IsZero x = (s : Bool) × (x ≡ fin s 0 (pos 0))
