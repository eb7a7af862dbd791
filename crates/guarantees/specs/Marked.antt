-- Clause 8.8: a query at a node of an accepted grid within the premises, the end nodes too, has no mark on any axis. The setting and the
-- values are free.
use Rattle.std.specs.Prelude.{ℕ, ◌≡◌, List, [], ◌∷◌, Float}
use Rattle.multicubic.specs.declared.Marks.{Marks}
use Rattle.multicubic.specs.Place.{unmarked}
use Rattle.grid.specs.Query.{Grid}
use Rattle.grid.specs.Nodes.{AtIndex}
use Rattle.guarantees.specs.Statements.{IsAccepted}

abbrev pub UnmarkedAtNode : Type 0 → Grid → (ℕ → Float) → List Marks → Type 0
UnmarkedAtNode premises g query marks = (node : List ℕ) → IsAccepted g → premises → AtIndex 0 g.axes node query → marks ≡ unmarked ∷ unmarked ∷ unmarked ∷ unmarked ∷ []
