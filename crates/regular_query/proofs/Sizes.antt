-- What checks 1 to 4 leave of a regular grid that is accepted.
use mathlib.Core.Path.{◌≡◌, refl, ap, ◌∙◌}
use Rattle.std.specs.Prelude.{None}
use mathlib.Core.List.{List, [], ◌∷◌}
use Prim.Native.Nat.{ℕ, zero, suc}
use lib.ListN.{length, take}
use lib.Ieee.{Float, Format}
use Rattle.multicubic.specs.Types.{Axis, accepted}
use Rattle.multicubic.specs.declared.EdgeMode.{EdgeMode}
use Rattle.multicubic.proofs.Passed.{then_accepted, Passed, accepted as passed_by}
use Rattle.grid.specs.Query as Query
use Rattle.grid.proofs.Premises.{Sized}
use Rattle.grid.proofs.Edges.{edge_count}
use Rattle.grid.proofs.Sizes.{sized-by}
use Rattle.regular_query.specs.Grid.{counts_of, checks_of, grid_axis, grid_axes, grid_of}

pub counts-taken : (n : ℕ) (axes : List Axis) → counts_of (take n axes) ≡ take n (counts_of axes)
counts-taken zero axes = refl
counts-taken (suc n) [] = refl
counts-taken (suc n) (a ∷ axes) = ap (λ (cs : List ℕ). a.count ∷ cs) (counts-taken n axes)

pub grid_counts_lem : (f : Format) (mode : EdgeMode) (axes : List Axis) → Query.counts_of (grid_axes f mode axes) ≡ counts_of axes
grid_counts_lem f mode [] = refl
grid_counts_lem f mode (a ∷ axes) = λ k. edge_count mode (λ straight. grid_axis f straight a) a.count (λ straight. refl) k ∷ grid_counts_lem f mode axes k

pub passed : (n : ℕ) (axes : List Axis) (values : ℕ) → checks_of n axes values ≡ accepted → Passed n (counts_of axes) values None
passed n axes values e = passed_by n (counts_of axes) values None (then_accepted _ _ e).0

pub sized : (f : Format) (n : ℕ) (axes : List Axis) (vals : List Float) (mode : EdgeMode) → (grid_of f n axes vals mode).checked ≡ accepted → Sized (grid_of f n axes vals mode)
sized f n axes vals mode e = sized-by (grid_of f n axes vals mode) (passed n axes (length vals) e) (grid_counts_lem f mode (take n axes) ∙ counts-taken n axes)
