-- Section 2 and clause 3.7, rectilinear: the axes are joined, and an axis is a part of them.
use Rattle.std.specs.Prelude.{ℕ, Bool, List, Some, map, length, get_or, take, Float}
use Rattle.std.specs.Float.{nan, Format}
use Rattle.multicubic.specs.Types.{Outcome}
use Rattle.multicubic.specs.declared.EdgeMode.{EdgeMode}
use Rattle.multicubic.specs.Grid.{◌then◌, size_checks}
use Rattle.rectilinear_order.specs.Grid.{axes_of, order_checks}
use Rattle.rectilinear_axis.specs.Place.{loc_of}
use Rattle.rectilinear_axis.specs.Nodes.{Premises}
use Rattle.rectilinear_axis.specs.Weights.{weights_at, derivatives_at}
use Rattle.grid.specs.Query.{GridAxis, edge_axis, Grid}
use Rattle.grid.specs.Nodes.{All}

-- checks 1 to 6, then 10
abbrev pub checks_of : ℕ → List ℕ → List Float → ℕ → Outcome
checks_of n counts joined values = size_checks n counts values (Some (length joined)) then order_checks (axes_of (take n counts) joined)

abbrev pub grid_axis : Format → Bool → List Float → GridAxis
grid_axis f straight entries = record {
  count = length entries;
  loc = loc_of entries;
  weights = weights_at f entries straight;
  derivatives = derivatives_at f entries straight;
  node = λ i. get_or entries i nan;
}

-- in a setting
abbrev pub axis_in : Format → EdgeMode → List Float → GridAxis
axis_in f mode entries = edge_axis mode (λ straight. grid_axis f straight entries)

abbrev pub grid_axes : Format → EdgeMode → List (List Float) → List GridAxis
grid_axes f mode axes = map (axis_in f mode) axes

-- the first n of them, as parts of the joined axes
abbrev pub axes_in : Format → EdgeMode → ℕ → List ℕ → List Float → List GridAxis
axes_in f mode n counts joined = grid_axes f mode (axes_of (take n counts) joined)

abbrev pub grid_of : Format → ℕ → List ℕ → List Float → List Float → EdgeMode → Grid
grid_of f n counts joined vals mode = record {
  checked = checks_of n counts joined (length vals);
  axis-count = n;
  axes = axes_in f mode n counts joined;
  vals = vals;
}

-- the premises on every axis
abbrev pub AllPremises : Format → List (List Float) → Type 0
AllPremises f axes = All (Premises f) axes
