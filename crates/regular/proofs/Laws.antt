-- Clauses 8.3 and 8.6 of each axis of a regular grid that is accepted and within the premises.
use mathlib.Core.Path.{◌≡◌, refl, sym, ap, subst}
use mathlib.Core.Bool.{Bool, false}
use mathlib.Core.List.{List, [], ◌∷◌, map}
use Prim.Native.Nat.{ℕ, ◌≤◌}
use native.Mathlib.Omega.{arith}
use lib.Dec.{T, ltb}
use lib.IntN.{pos, ◌-ℤ◌}
use lib.ListN.{length, take}
use lib.Ieee.{Float, Format, mul, of_int, fits}
use lib.Ieee.Fits.{add-fits}
use borrow.Author.Tests.{ltb-false}
use Rattle.multicubic.specs.Types.{Axis, accepted}
use Rattle.multicubic.specs.declared.EdgeMode.{EdgeMode}
use Rattle.multicubic.specs.declared.EdgeMode.TheVariants.{Cubic, Held}
use Rattle.multicubic.specs.Grid.{any_over}
use Rattle.multicubic.proofs.Sizes.{or_false}
use Rattle.regular_axis.specs.Nodes.{Premises}
use Rattle.regular_axis.proofs.Exact.{node-finite, nodes_rise}
use Rattle.regular_axis.proofs.AtNodes.{at-node}
use Rattle.grid.specs.Query.{GridAxis, held_axis}
use Rattle.grid.specs.Edges.{AtClamped}
use Rattle.grid.specs.Nodes.{All}
use Rattle.grid.proofs.Premises.{NodeLaw, NodeLaws, Long}
use Rattle.grid.proofs.AtNodes.{AtEach}
use Rattle.grid.proofs.Edges.{InOrder, edge_order, edge_law, clamped-each}
use Rattle.grid.proofs.Sizes.{all-long}
use Rattle.regular_query.specs.Grid.{counts_of, grid_axis, axis_in, grid_axes, axes_in, grid_of, AllPremises}
use Rattle.regular_query.proofs.Sizes.{counts-taken, passed}

module _ (f : Format) (a : Axis) (within : ltb 4096 a.count ≡ false) (long : 4 ≤ a.count) (premises : Premises a.start a.step) where
  most : a.count ≤ 4096
  most = ltb-false 4096 a.count within

  axis-law : (straight : Bool) → NodeLaw f (grid_axis f straight a)
  axis-law straight i inside x fit at = (pos i -ℤ pos 1, at-node f straight a.start a.step premises a.count long most i inside x fit at)

  axis-order : (straight : Bool) → InOrder f (grid_axis f straight a)
  axis-order straight = record {
    some = omega arith;
    fit = λ i h. add-fits f a.start (mul f a.step (of_int f (pos i)));
    whole = λ i h. let m = most in node-finite f a.start a.step premises i (omega arith);
    rising = λ i j l h. let m = most in nodes_rise f a.start a.step premises i j l (omega arith);
  }

laws : (f : Format) (mode : EdgeMode) (axes : List Axis) → any_over (counts_of axes) ≡ false → Long (counts_of axes) → AllPremises axes → NodeLaws f (grid_axes f mode axes)
laws f mode [] within long premises = tt
laws f mode (a ∷ axes) within long premises =
    let w = or_false (ltb 4096 a.count) (any_over (counts_of axes)) within in (
      edge_law f mode (λ straight. grid_axis f straight a) (axis-law f a w.0 long.0 premises.0) (axis-order f a w.0 long.0 premises.0 false),
      laws f mode axes w.1 long.1 premises.1,
    )

orders : (f : Format) (mode : EdgeMode) (axes : List Axis) → any_over (counts_of axes) ≡ false → Long (counts_of axes) → AllPremises axes → All (InOrder f) (grid_axes f mode axes)
orders f mode [] within long premises = tt
orders f mode (a ∷ axes) within long premises =
    let w = or_false (ltb 4096 a.count) (any_over (counts_of axes)) within in
    (edge_order f mode (λ straight. grid_axis f straight a) (axis-order f a w.0 long.0 premises.0), orders f mode axes w.1 long.1 premises.1)

-- the axes that hold their edges are the cubic ones, held
pub held_axes : (f : Format) (axes : List Axis) → map held_axis (grid_axes f Cubic axes) ≡ grid_axes f Held axes
held_axes f [] = refl
held_axes f (a ∷ axes) = ap (λ (gs : List GridAxis). axis_in f Held a ∷ gs) (held_axes f axes)

module _ (f : Format) (n : ℕ) (axes : List Axis) (vals : List Float) (mode : EdgeMode) (e : (grid_of f n axes vals mode).checked ≡ accepted) (premises : AllPremises (take n axes)) where
  within-taken : any_over (counts_of (take n axes)) ≡ false
  within-taken = subst (λ (cs : List ℕ). any_over cs ≡ false) (sym (counts-taken n axes)) (passed n axes (length vals) e).within

  long-taken : Long (counts_of (take n axes))
  long-taken = subst Long (sym (counts-taken n axes)) (all-long (take n (counts_of axes)) (passed n axes (length vals) e).long)

  pub node_laws : NodeLaws f (axes_in f mode n axes)
  node_laws = laws f mode (take n axes) within-taken long-taken premises

  -- their nodes are in order
  pub in_order : All (InOrder f) (axes_in f mode n axes)
  in_order = orders f mode (take n axes) within-taken long-taken premises

  -- in held mode, of a query at a node or past an end
  pub clamped-rows : (is : List ℕ) (query : ℕ → Float) → ((a : ℕ) → T (fits f (query a))) → AtClamped 0 (axes_in f Held n axes) is query → AtEach 0 (axes_in f Held n axes) is query
  clamped-rows is query typed at =
      subst (λ (gs : List GridAxis). AtEach 0 gs is query) (held_axes f (take n axes))
      (clamped-each f query typed 0 (grid_axes f Cubic (take n axes)) is (laws f Cubic (take n axes) within-taken long-taken premises) (orders f Cubic (take n axes) within-taken long-taken premises)
      (subst (λ (gs : List GridAxis). AtClamped 0 gs is query) (sym (held_axes f (take n axes))) at))
