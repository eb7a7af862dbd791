-- Clause 8.5: tables that agree throughout a query's block give the same value and the same components.
use mathlib.Core.Path.{◌≡◌, refl, subst}
use mathlib.Core.List.{List, [], ◌∷◌}
use Prim.Native.Nat.{ℕ, suc}
use lib.Ieee.{Float, Format}
use Rattle.multicubic.specs.Place.{Placed}
use Rattle.reduction.specs.Value.{strides_of}
use Rattle.reduction.proofs.Blocks.{value_of_block, component_of_block}
use Rattle.grid.specs.Query.{Grid, places, find, grid_counts, origins_of, rows_of, value_of, component_at, components_from, components_of, value_answer, gradient_answer}
use Rattle.grid.specs.Nodes.{SameBlock}
use Rattle.grid.proofs.AtNodes.{rows-length}
use Rattle.reduction.specs.Nodes.{InBlock}

module _ (f : Format) (counts : List ℕ) (vals vals' : List Float) (ps : List Placed) (same : SameBlock counts ps vals vals') where
  pub block-value : value_of f counts vals ps ≡ value_of f counts vals' ps
  unfolding value_of
  block-value = value_of_block f (rows_of ps) (strides_of counts) (origins_of ps) vals vals' (λ js b. same js (subst (λ (n : ℕ). InBlock n js) (rows-length ps) b))

  block-component : (d : ℕ) (p : Placed) → component_at f counts vals ps d p ≡ component_at f counts vals' ps d p
  unfolding component_at
  block-component d p = component_of_block f (rows_of ps) d p.derivatives (strides_of counts) (origins_of ps) vals vals' (λ js b. same js (subst (λ (n : ℕ). InBlock n js) (rows-length ps) b))

  from : (d : ℕ) (later : List Placed) → components_from f counts vals ps d later ≡ components_from f counts vals' ps d later
  from d [] = refl
  from d (p ∷ later) = λ i. block-component d p i ∷ from (suc d) later i

  pub block-components : components_of f counts vals ps ≡ components_of f counts vals' ps
  block-components = from 0 ps

-- single answers on two grids with the same axes, both accepted or both refused alike
module _ (f : Format) (g g' : Grid) (query : ℕ → Float) (ps : List Placed) (checks : g.checked ≡ g'.checked) (axes : g.axes ≡ g'.axes) (found : find 0 g.axes query ≡ places ps) (same : SameBlock (grid_counts g) ps g.vals g'.vals) where
  pub same-value : value_answer f g query ≡ value_answer f g' query
  same-value = rw (← axes, found, ← checks, block-value f (grid_counts g) g.vals g'.vals ps same)

  pub same-gradient : gradient_answer f g query ≡ gradient_answer f g' query
  same-gradient = rw (← axes, found, ← checks, block-components f (grid_counts g) g.vals g'.vals ps same)
