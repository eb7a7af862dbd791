-- What the laws below ask of a grid and its axes. Each kind of grid has it from its checks and from the premises of clause 8.2.
use Prim.Native.Nat.{ℕ, ◌≤◌, ◌<◌}
use mathlib.Core.Path.{◌≡◌}
use mathlib.Core.List.{List}
use lib.Dec.{T}
use lib.IntN.{ℤ}
use lib.ListN.{length}
use lib.Ieee.{Float, Format, eq, fits}
use Rattle.multicubic.specs.Grid.{product}
use Rattle.multicubic.proofs.Nodes.{AtNode}
use Rattle.grid.specs.Query.{GridAxis, outcome, Grid, grid_counts}
use Rattle.grid.specs.Nodes.{All}

-- what an axis within its kind's premises has: at each node, the row that is one at the node's place
abbrev pub NodeLaw : Format → GridAxis → Type 0
NodeLaw f g = (i : ℕ) → i < g.count → (x : Float) → T (fits f x) → T (eq x (g.node i)) → (l : ℤ) × AtNode g.count l i (outcome g x)

abbrev pub NodeLaws : Format → List GridAxis → Type 0
NodeLaws f gs = All (NodeLaw f) gs

-- what checks 3 and 4 leave: four entries or more on each axis, and as many values as the product of counts
abbrev pub Long : List ℕ → Type 0
Long counts = All (λ c. 4 ≤ c) counts

pub record Sized (g : Grid) : Type 0 where
  pub long : Long (grid_counts g)
  pub size : length g.vals ≡ product (grid_counts g)
