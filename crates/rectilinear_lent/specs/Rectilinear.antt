-- The rectilinear grid that slices describe.
use Rattle.std.specs.Prelude.{ℕ, List, length, Float}
use Rattle.std.specs.Float.{Format}
use Rattle.multicubic.specs.declared.EdgeMode.{EdgeMode}
use Rattle.slices.specs.Slices.{counts_from}
use Rattle.rectilinear_query.specs.Grid.{grid_of}
use Rattle.slices.specs.Lent.{Gathered}

unfoldable pub rectilinear_from : Format → ℕ → List ℕ → List Float → List Float → EdgeMode → Gathered
rectilinear_from f n counts axes vals mode = record { grid = grid_of f n (counts_from counts) axes vals mode; shortest = length counts }
