-- What an internal function tells; no entry point's contract mentions it.
use Rattle.std.specs.Prelude.{List, [], ◌∷◌}
use Rattle.multicubic.specs.declared.Place.{Place}
use Rattle.multicubic.specs.declared.Marks.{Marks}
use Rattle.multicubic.specs.Place.{nowhere, unmarked}

-- the four places of a refusal
abbrev pub four_nowhere : List Place
four_nowhere = nowhere ∷ nowhere ∷ nowhere ∷ nowhere ∷ []

-- its four pairs of marks
abbrev pub four_unmarked : List Marks
four_unmarked = unmarked ∷ unmarked ∷ unmarked ∷ unmarked ∷ []
