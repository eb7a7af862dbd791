-- What a pass over the axes looks for, by its check. Internal functions say it; no entry point's contract mentions it.
use Rattle.std.specs.Prelude.{Bool, ◌||◌, List, Float}
use Rattle.multicubic.specs.declared.Check.{Check}
use Rattle.multicubic.specs.declared.Check.TheVariants.{NotRising, Disordered}
use Rattle.rectilinear_order.specs.Grid.{not_rising, disorder, flat}

-- an axis that does not rise strictly throughout: 5, 6 or 10 refuses it
abbrev pub not_steep : List Float → Bool
not_steep g = not_rising g || disorder g || flat g

abbrev pub fault_of : Check → List Float → Bool
fault_of NotRising g = not_rising g
fault_of Disordered g = disorder g
fault_of check g = not_steep g
