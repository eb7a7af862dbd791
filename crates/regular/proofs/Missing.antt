-- Refusal 9 on a regular grid, of any counts, in any setting: the laws of grid/proofs/Missing.antt apply by `numbered`.
use mathlib.Core.List.{List}
use Prim.Native.Nat.{ℕ}
use lib.ListN.{take}
use lib.Ieee.{Float, Format}
use Rattle.multicubic.specs.Types.{Axis}
use Rattle.multicubic.specs.declared.EdgeMode.{EdgeMode}
use Rattle.regular_axis.proofs.Missing.{loc_missing}
use Rattle.grid.specs.Nodes.{All}
use Rattle.grid.proofs.Missing.{Numbered, edge_numbered, numbered-each}
use Rattle.regular_query.specs.Grid.{grid_axis, axis_in, grid_of}

pub numbered : (f : Format) (n : ℕ) (axes : List Axis) (vals : List Float) (mode : EdgeMode) → All Numbered (grid_of f n axes vals mode).axes
numbered f n axes vals mode =
    numbered-each (axis_in f mode)
    (λ a. edge_numbered mode (λ straight. grid_axis f straight a) (λ straight. loc_missing f a.start a.step a.count))
    (take n axes)
