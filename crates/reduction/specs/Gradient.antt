-- Clause 6.1.
use Rattle.std.specs.Prelude.{ℕ, List, set, Float}
use Rattle.std.specs.Float.{Format}
use Rattle.reduction.specs.Value.{reduce_of}

-- component d: the block reduced as for the value, but on axis d by the derivative weights
abbrev pub component_of : Format → List (List Float) → ℕ → List Float → (List ℕ → Float) → Float
component_of f ws d derivatives v = reduce_of f (set ws d derivatives) v
