-- Section 2 and clause 3.7, regular: an axis is its start, its step and its count.
use Rattle.std.specs.Prelude.{ℕ, Bool, not, List, None, map, length, take, Float}
use Rattle.std.specs.Float.{Format}
use Rattle.std.specs.Float.Ieee.{lt}
use Rattle.ieee.specs.Numbers.{zero}
use Rattle.multicubic.specs.declared.Check.TheVariants.{NotRising}
use Rattle.multicubic.specs.Types.{Axis, Outcome}
use Rattle.multicubic.specs.declared.EdgeMode.{EdgeMode}
use Rattle.multicubic.specs.Grid.{lowest, ◌then◌, size_checks}
use Rattle.regular_axis.specs.Place.{loc_of}
use Rattle.regular_axis.specs.Weights.{node, weights_at, derivatives_at}
use Rattle.regular_axis.specs.Nodes.{Premises}
use Rattle.grid.specs.Query.{GridAxis, edge_axis, Grid}
use Rattle.grid.specs.Nodes.{All}

-- check 5: the step is not above 0
abbrev pub not_rising : Axis → Bool
not_rising a = not (lt zero a.step)

abbrev pub counts_of : List Axis → List ℕ
counts_of axes = map (λ (a : Axis). a.count) axes

-- checks 1 to 5; a regular grid has no 6 and no 10
abbrev pub checks_of : ℕ → List Axis → ℕ → Outcome
checks_of n axes values = size_checks n (counts_of axes) values None then lowest NotRising not_rising 0 (take n axes)

abbrev pub grid_axis : Format → Bool → Axis → GridAxis
grid_axis f straight a = record {
  count = a.count;
  loc = loc_of f a.start a.step a.count;
  weights = weights_at f a.start a.step straight;
  derivatives = derivatives_at f a.start a.step straight;
  node = node f a.start a.step;
}

-- in a setting
abbrev pub axis_in : Format → EdgeMode → Axis → GridAxis
axis_in f mode a = edge_axis mode (λ straight. grid_axis f straight a)

abbrev pub grid_axes : Format → EdgeMode → List Axis → List GridAxis
grid_axes f mode axes = map (axis_in f mode) axes

-- the first n of them
abbrev pub axes_in : Format → EdgeMode → ℕ → List Axis → List GridAxis
axes_in f mode n axes = grid_axes f mode (take n axes)

abbrev pub grid_of : Format → ℕ → List Axis → List Float → EdgeMode → Grid
grid_of f n axes vals mode = record {
  checked = checks_of n axes (length vals);
  axis-count = n;
  axes = axes_in f mode n axes;
  vals = vals;
}

-- the premises on every axis
abbrev pub AllPremises : List Axis → Type 0
AllPremises axes = All (λ (a : Axis). Premises a.start a.step) axes
