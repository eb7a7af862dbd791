-- Section 8 on a rectilinear grid, of the definitions. The laws of `grid` on batches and blocks apply by `node-case`, `alike` and `axes-counted`.
use mathlib.Core.Path.{◌≡◌, refl, sym, ap, ◌∙◌}
use mathlib.Core.List.{List}
use Prim.Native.Nat.{ℕ, ◌≤◌}
use lib.Dec.{T}
use lib.ListN.{length, take}
use lib.Ieee.{Float, Format, eq, fits}
use Rattle.std.specs.Prelude.{Ok}
use Rattle.multicubic.specs.declared.EdgeMode.{EdgeMode}
use Rattle.multicubic.specs.declared.EdgeMode.TheVariants.{Cubic, Held}
use Rattle.multicubic.specs.Types.{accepted}
use Rattle.rectilinear_order.specs.Grid.{axes_of}
use Rattle.grid.specs.Query.{GridAxis, Grid, value_answer, place_answer}
use Rattle.grid.specs.Nodes.{AtIndex, stored, FiniteValues, Fits}
use Rattle.grid.proofs.AtNodes.{at_each, NodeCase, node-answer}
use Rattle.grid.proofs.InBatches.{Alike}
use Rattle.grid.proofs.AsUsed.{held_grid, Uses, value-as-used, place-as-used}
use Rattle.rectilinear_query.specs.Grid.{checks_of, axes_in, grid_of, AllPremises}
use Rattle.rectilinear_query.proofs.Sizes.{sized}
use Rattle.rectilinear.proofs.Laws.{held_axes, node_laws}
use Rattle.rectilinear_query.proofs.Locating.{axes-long}

module _ (f : Format) (n : ℕ) (counts : List ℕ) (joined : List Float) (entries : Fits f joined) (premises : AllPremises f (axes_of (take n counts) joined)) (is : List ℕ) (query : ℕ → Float) (typed : (a : ℕ) → T (fits f (query a))) where
  pub node-case : (vals : List Float) (mode : EdgeMode) → (grid_of f n counts joined vals mode).checked ≡ accepted → FiniteValues vals → Fits f vals → AtIndex 0 (grid_of f n counts joined vals mode).axes is query → NodeCase f (grid_of f n counts joined vals mode) is query
  node-case vals mode accepted whole held at = record {
    sized = sized f n counts joined vals mode accepted;
    whole = whole;
    held = held;
    rows = at_each f query typed 0 (grid_of f n counts joined vals mode).axes is (node_laws f n counts joined vals mode accepted entries premises) at;
  }

  -- clause 8.3, in every setting
  pub node : (vals : List Float) (mode : EdgeMode) → (grid_of f n counts joined vals mode).checked ≡ accepted → FiniteValues vals → Fits f vals → AtIndex 0 (grid_of f n counts joined vals mode).axes is query
      → (v : Float) × (value_answer f (grid_of f n counts joined vals mode) query ≡ Ok v) × T (eq v (stored (grid_of f n counts joined vals mode) is))
  node vals mode accepted whole held at = node-answer f (grid_of f n counts joined vals mode) is query accepted (node-case vals mode accepted whole held at)

-- held, a query is answered as its coordinates as used are in the cubic setting
module _ (n : ℕ) (counts : List ℕ) (joined vals : List Float) (f : Format) (query used : ℕ → Float) (u : Uses 0 (axes_in f Cubic n counts joined) query used) where
  held-grid : held_grid (grid_of f n counts joined vals Cubic) ≡ grid_of f n counts joined vals Held
  held-grid = ap (λ (gs : List GridAxis). record { checked = checks_of n counts joined (length vals); axis-count = n; axes = gs; vals = vals }) (held_axes f (axes_of (take n counts) joined))

  pub held-value : value_answer f (grid_of f n counts joined vals Held) query ≡ value_answer f (grid_of f n counts joined vals Cubic) used
  held-value = ap (λ (g : Grid). value_answer f g query) (sym held-grid) ∙ value-as-used (grid_of f n counts joined vals Cubic) query used u f

  pub held_place : place_answer (grid_of f n counts joined vals Held) query ≡ place_answer (grid_of f n counts joined vals Cubic) used
  held_place = ap (λ (g : Grid). place_answer g query) (sym held-grid) ∙ place-as-used (grid_of f n counts joined vals Cubic) query used u

-- two tables on the same axes, with the same setting
pub alike : (f : Format) (n : ℕ) (counts : List ℕ) (joined vals vals' : List Float) (mode : EdgeMode) → (grid_of f n counts joined vals mode).checked ≡ accepted → (grid_of f n counts joined vals' mode).checked ≡ accepted → Alike (grid_of f n counts joined vals mode) (grid_of f n counts joined vals' mode)
alike f n counts joined vals vals' mode taken taken' = record { taken = taken; taken' = taken'; count = refl; axes = refl }

-- as many axes as the axis count
pub axes-counted : (f : Format) (n : ℕ) (counts : List ℕ) (joined vals : List Float) (mode : EdgeMode) → n ≤ length counts → length (grid_of f n counts joined vals mode).axes ≡ n
axes-counted f n counts joined vals mode h = axes-long f mode n counts joined h
