-- The regular grid that slices describe.
use Rattle.std.specs.Prelude.{ℕ, min, List, length, Float}
use Rattle.std.specs.Float.{Format}
use Rattle.multicubic.specs.declared.EdgeMode.{EdgeMode}
use Rattle.slices.specs.Axes.{axes_from}
use Rattle.regular_query.specs.Grid.{grid_of}
use Rattle.slices.specs.Lent.{Gathered}

unfoldable pub regular_from : Format → ℕ → List ℕ → List Float → List Float → List Float → EdgeMode → Gathered
regular_from f n counts starts steps vals mode = record {
  grid = grid_of f n (axes_from counts starts steps) vals mode;
  shortest = min (length counts) (min (length starts) (length steps));
}
