-- Laws of the lists of axes that the functions of src/ lean on.
use mathlib.Core.Path.{◌≡◌, refl, ap}
use Prim.Native.Nat.{suc}
use mathlib.Core.List.{List, [], ◌∷◌}
use lib.ListN.{length}
use lib.Ieee.{nan}
use Rattle.multicubic.specs.Types.{Axis}
use Rattle.regular_query.specs.Grid.{counts_of}

-- what stands past the end of a list of axes
abbrev pub no_axis : Axis
no_axis = record { start = nan; step = nan; count = 0 }

pub counts-length : (axes : List Axis) → length (counts_of axes) ≡ length axes
counts-length [] = refl
counts-length (a ∷ axes) = ap suc (counts-length axes)
