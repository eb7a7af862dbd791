-- Refusal 9 on a rectilinear grid, of any counts, in any setting: the laws of grid/proofs/Missing.antt apply by `numbered`.
use mathlib.Core.List.{List}
use Prim.Native.Nat.{ℕ}
use lib.ListN.{take}
use lib.Ieee.{Float, Format}
use Rattle.multicubic.specs.declared.EdgeMode.{EdgeMode}
use Rattle.rectilinear_order.specs.Grid.{axes_of}
use Rattle.rectilinear_axis.proofs.Missing.{loc_missing}
use Rattle.grid.specs.Nodes.{All}
use Rattle.grid.proofs.Missing.{Numbered, edge_numbered, numbered-each}
use Rattle.rectilinear_query.specs.Grid.{grid_axis, axis_in, grid_of}

pub numbered : (f : Format) (n : ℕ) (counts : List ℕ) (joined vals : List Float) (mode : EdgeMode)
    → All Numbered (grid_of f n counts joined vals mode).axes
numbered f n counts joined vals mode =
    numbered-each (axis_in f mode) (λ g. edge_numbered mode (λ straight. grid_axis f straight g) (λ straight. loc_missing g)) (axes_of (take n counts) joined)
