-- What a rectilinear grid supplies to the laws of `guarantees`: its sizes and its number of axes by its checks, the law of each axis within
-- the premise on gaps.
use mathlib.Core.Path.{◌≡◌}
use mathlib.Core.List.{List}
use Prim.Native.Nat.{ℕ, ◌≤◌}
use native.Mathlib.Omega.{arith}
use lib.ListN.{length, take}
use lib.Ieee.{Float, Format}
use Rattle.multicubic.specs.declared.EdgeMode.{EdgeMode}
use Rattle.multicubic.specs.declared.EdgeMode.TheVariants.{Held}
use Rattle.grid.specs.Query.{at, mark_answer}
use Rattle.grid.specs.Edges.{AtClamped}
use Rattle.grid.proofs.AtNodes.{AtEach}
use Rattle.grid.proofs.Unmarked.{nodes_unmarked}
use Rattle.rectilinear_order.specs.Grid.{axes_of}
use Rattle.rectilinear_query.specs.Grid.{grid_of, AllPremises}
use Rattle.rectilinear_query.proofs.Sizes.{passed, sized}
use Rattle.rectilinear.proofs.Laws.{node_laws, in_order, clamped-rows}
use Rattle.rectilinear.proofs.Guarantees.{axes-counted}
use Rattle.guarantees.specs.Statements.{IsAccepted}
use Rattle.guarantees.specs.Marked.{UnmarkedAtNode}
use Rattle.guarantees.proofs.Typing.{Typed}
use Rattle.guarantees.proofs.Nodes.{Supplied}
use Rattle.guarantees.proofs.Blocks.{Counted}

module _ (f : Format) (n : ℕ) (counts : List ℕ) (joined vals : List Float) (mode : EdgeMode) where
  pub supplied : Typed f (at joined) → Typed f (at vals) → Supplied f (AllPremises f (axes_of (take n counts) joined)) (grid_of f n counts joined vals mode)
  supplied entries held = record { sized = sized f n counts joined vals mode; laws = λ taken. node_laws f n counts joined vals mode taken (λ k l. entries k); held = λ k l. held k }

  pub counted : length counts ≡ 4 → Counted (grid_of f n counts joined vals mode)
  counted four taken =
      let few : n ≤ 4 = (passed n counts joined (length vals) taken).few in
      (axes-counted f n counts joined vals mode (omega arith), few)

-- the rows of a query that is at a node or past an end, where the edges are held
pub clamped : (f : Format) (n : ℕ) (counts : List ℕ) (joined vals : List Float) → Typed f (at joined) → (query : ℕ → Float) → Typed f query
    → IsAccepted (grid_of f n counts joined vals Held) → AllPremises f (axes_of (take n counts) joined) → (is : List ℕ) → AtClamped 0 (grid_of f n counts joined vals Held).axes is query → AtEach 0 (grid_of f n counts joined vals Held).axes is query
clamped f n counts joined vals entries query typed taken premises is at = clamped-rows f n counts joined vals Held taken (λ k l. entries k) premises is query typed at

-- at a node no mark is set, in any setting
pub at_nodes : (f : Format) (n : ℕ) (counts : List ℕ) (joined vals : List Float) (mode : EdgeMode) → Typed f (at joined) → (query : ℕ → Float)
    → UnmarkedAtNode (AllPremises f (axes_of (take n counts) joined)) (grid_of f n counts joined vals mode) query (mark_answer (grid_of f n counts joined vals mode) query)
at_nodes f n counts joined vals mode entries query node taken premises at =
    nodes_unmarked f (grid_of f n counts joined vals mode) query node (in_order f n counts joined vals mode taken (λ k l. entries k) premises) at
