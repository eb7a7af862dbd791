-- What a regular grid supplies to the laws of `guarantees`: its sizes and its number of axes by its checks, the law of each axis within the
-- premises on steps and starts.
use mathlib.Core.Path.{◌≡◌}
use mathlib.Core.List.{List}
use Prim.Native.Nat.{ℕ, ◌≤◌}
use native.Mathlib.Omega.{arith}
use lib.ListN.{length, take}
use lib.Ieee.{Float, Format}
use Rattle.multicubic.specs.Types.{Axis}
use Rattle.multicubic.specs.declared.EdgeMode.{EdgeMode}
use Rattle.multicubic.specs.declared.EdgeMode.TheVariants.{Held}
use Rattle.grid.specs.Query.{at, mark_answer}
use Rattle.grid.specs.Edges.{AtClamped}
use Rattle.grid.proofs.AtNodes.{AtEach}
use Rattle.grid.proofs.Unmarked.{nodes_unmarked}
use Rattle.regular_query.specs.Grid.{grid_of, AllPremises}
use Rattle.regular_query.proofs.Sizes.{passed, sized}
use Rattle.regular.proofs.Laws.{node_laws, in_order, clamped-rows}
use Rattle.regular.proofs.Guarantees.{axes-counted}
use Rattle.guarantees.specs.Statements.{IsAccepted}
use Rattle.guarantees.specs.Marked.{UnmarkedAtNode}
use Rattle.guarantees.proofs.Typing.{Typed}
use Rattle.guarantees.proofs.Nodes.{Supplied}
use Rattle.guarantees.proofs.Blocks.{Counted}

module _ (f : Format) (n : ℕ) (axes : List Axis) (vals : List Float) (mode : EdgeMode) where
  pub supplied : Typed f (at vals) → Supplied f (AllPremises (take n axes)) (grid_of f n axes vals mode)
  supplied held = record { sized = sized f n axes vals mode; laws = node_laws f n axes vals mode; held = λ k l. held k }

  pub counted : length axes ≡ 4 → Counted (grid_of f n axes vals mode)
  counted four taken =
      let few : n ≤ 4 = (passed n axes (length vals) taken).few in
      (axes-counted f n axes vals mode (omega arith), few)

-- the rows of a query that is at a node or past an end, where the edges are held
pub clamped : (f : Format) (n : ℕ) (axes : List Axis) (vals : List Float) (query : ℕ → Float) → Typed f query
    → IsAccepted (grid_of f n axes vals Held) → AllPremises (take n axes) → (is : List ℕ) → AtClamped 0 (grid_of f n axes vals Held).axes is query → AtEach 0 (grid_of f n axes vals Held).axes is query
clamped f n axes vals query typed taken premises is at = clamped-rows f n axes vals Held taken premises is query typed at

-- at a node no mark is set, in any setting
pub at_nodes : (f : Format) (n : ℕ) (axes : List Axis) (vals : List Float) (mode : EdgeMode) (query : ℕ → Float)
    → UnmarkedAtNode (AllPremises (take n axes)) (grid_of f n axes vals mode) query (mark_answer (grid_of f n axes vals mode) query)
at_nodes f n axes vals mode query node taken premises at = nodes_unmarked f (grid_of f n axes vals mode) query node (in_order f n axes vals mode taken premises) at
