-- A grid gathered from slices of any length, as a call sees it: the refusals of slices that are too short are among its checks.
use Rattle.std.specs.Prelude.{ℕ}
use Rattle.multicubic.specs.declared.EdgeMode.{EdgeMode}
use Rattle.multicubic.specs.Types.{Outcome}
use Rattle.grid.specs.Query.{Grid}
use Rattle.slices.specs.Slices.{mode_of, named_by, slices_of, query_slices_of, earlier}

-- a grid, and the length of the shortest slice that it is gathered from
pub record Gathered : Type 0 where
  pub grid : Grid
  pub shortest : ℕ

-- the grid in the setting that a number names; a number that names none is refused as a slice that is too short, 3
abbrev pub set_by : (EdgeMode → Gathered) → ℕ → Gathered
set_by from mode = record { grid = (from (mode_of mode)).grid; shortest = named_by mode (from (mode_of mode)).shortest }

abbrev pub lent : Outcome → Grid → Grid
lent slices g = record { checked = earlier slices g.checked; axis-count = g.axis-count; axes = g.axes; vals = g.vals }

-- to a call without a single query, by the length of `refusal`
abbrev pub lent_to : Gathered → ℕ → Grid
lent_to s refusal = lent (slices_of s.grid.axis-count s.shortest refusal) s.grid

-- to a single query, by its length, that of `refusal`, the room that is lent, the entries that are needed and the length of `marks`
abbrev pub lent_to_query : Gathered → ℕ → ℕ → ℕ → ℕ → ℕ → Grid
lent_to_query s query refusal room need marks = lent (query_slices_of s.grid.axis-count s.shortest query refusal room need marks) s.grid
