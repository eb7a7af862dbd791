-- Clauses 8.3 and 8.6 of each axis of a rectilinear grid that is accepted and within the premises.
use mathlib.Core.Path.{◌≡◌, refl, sym, ap, subst}
use mathlib.Core.Bool.{Bool, false}
use mathlib.Core.List.{List, [], ◌∷◌, map}
use Prim.Native.Nat.{ℕ, ◌+◌, ◌-◌, ◌≤◌, ◌<◌, min}
use native.Mathlib.Omega.{arith}
use lib.Dec.{T}
use lib.IntN.{pos, ◌-ℤ◌}
use lib.ListN.{length, take, drop, length-take, length-drop}
use lib.Seq.{get_or-take, get_or-drop}
use lib.Ieee.{Float, nan, Format, fits}
use Rattle.multicubic.specs.declared.EdgeMode.{EdgeMode}
use Rattle.multicubic.specs.declared.EdgeMode.TheVariants.{Cubic, Held}
use Rattle.multicubic.specs.Types.{accepted}
use Rattle.multicubic.specs.Grid.{sum}
use Rattle.rectilinear_order.specs.Grid.{axes_of}
use Rattle.rectilinear_axis.specs.Nodes.{Premises}
use Rattle.rectilinear_axis.proofs.AtNodes.{node-finite, nodes_rise, at-node}
use Rattle.grid.specs.Query.{GridAxis, held_axis}
use Rattle.grid.specs.Edges.{AtClamped}
use Rattle.grid.specs.Nodes.{All, Fits}
use Rattle.grid.proofs.Premises.{NodeLaw, NodeLaws, Long}
use Rattle.grid.proofs.AtNodes.{AtEach}
use Rattle.grid.proofs.Edges.{InOrder, edge_order, edge_law, clamped-each}
use Rattle.grid.proofs.Sizes.{all-long}
use Rattle.rectilinear_query.specs.Grid.{grid_axis, axis_in, grid_axes, axes_in, grid_of, AllPremises}
use Rattle.rectilinear_query.proofs.Sizes.{part_length, rest-length, passed, joined_length}

-- a part's entries are entries of the whole
module _ (f : Format) (c : ℕ) (joined : List Float) (fit : Fits f joined) where
  part-fits : Fits f (take c joined)
  part-fits k h =
      let l : k < min c (length joined) = rw length-take at h in
      rw (get_or-take c joined k nan (omega arith)) (fit k (omega arith))

  rest-fits : Fits f (drop c joined)
  rest-fits k h =
      let l : k < length joined - c = rw length-drop at h in
      rw (get_or-drop c joined k nan) (fit (c + k) (omega arith))

module _ (f : Format) (g : List Float) (long : 4 ≤ length g) (fit : Fits f g) (premises : Premises f g) where
  axis-law : (straight : Bool) → NodeLaw f (grid_axis f straight g)
  axis-law straight i inside x held at = (pos i -ℤ pos 2, at-node f straight g long fit premises i inside x held at)

  axis-order : (straight : Bool) → InOrder f (grid_axis f straight g)
  axis-order straight = record {
    some = omega arith;
    fit = fit;
    whole = λ i h. node-finite f g long fit premises i h;
    rising = λ i j l h. nodes_rise f g long fit premises i j l h;
  }

laws : (f : Format) (mode : EdgeMode) (cs : List ℕ) (joined : List Float) → length joined ≡ sum cs → Long cs → Fits f joined → AllPremises f (axes_of cs joined) → NodeLaws f (grid_axes f mode (axes_of cs joined))
laws f mode [] joined e long fit premises = tt
laws f mode (c ∷ cs) joined e long fit premises =
    let l = part_length c cs joined e in
    let four : 4 ≤ length (take c joined) = omega (arith, long.0) in (
      edge_law f mode (λ straight. grid_axis f straight (take c joined)) (axis-law f (take c joined) four (part-fits f c joined fit) premises.0)
          (axis-order f (take c joined) four (part-fits f c joined fit) premises.0 false),
      laws f mode cs (drop c joined) (rest-length c cs joined e) long.1 (rest-fits f c joined fit) premises.1,
    )

orders : (f : Format) (mode : EdgeMode) (cs : List ℕ) (joined : List Float) → length joined ≡ sum cs → Long cs → Fits f joined
    → AllPremises f (axes_of cs joined) → All (InOrder f) (grid_axes f mode (axes_of cs joined))
orders f mode [] joined e long fit premises = tt
orders f mode (c ∷ cs) joined e long fit premises =
    let l = part_length c cs joined e in (
      edge_order f mode (λ straight. grid_axis f straight (take c joined))
          (axis-order f (take c joined) (omega (arith, long.0)) (part-fits f c joined fit) premises.0),
      orders f mode cs (drop c joined) (rest-length c cs joined e) long.1 (rest-fits f c joined fit) premises.1,
    )

-- the axes that hold their edges are the cubic ones, held
pub held_axes : (f : Format) (axes : List (List Float)) → map held_axis (grid_axes f Cubic axes) ≡ grid_axes f Held axes
held_axes f [] = refl
held_axes f (g ∷ axes) = ap (λ (gs : List GridAxis). axis_in f Held g ∷ gs) (held_axes f axes)

module _ (f : Format) (n : ℕ) (counts : List ℕ) (joined vals : List Float) (mode : EdgeMode) (e : (grid_of f n counts joined vals mode).checked ≡ accepted) (fit : Fits f joined) (premises : AllPremises f (axes_of (take n counts) joined)) where
  total : length joined ≡ sum (take n counts)
  total = joined_length n counts joined (length vals) e

  long : Long (take n counts)
  long = all-long (take n counts) (passed n counts joined (length vals) e).long

  pub node_laws : NodeLaws f (axes_in f mode n counts joined)
  node_laws = laws f mode (take n counts) joined total long fit premises

  -- their nodes are in order
  pub in_order : All (InOrder f) (axes_in f mode n counts joined)
  in_order = orders f mode (take n counts) joined total long fit premises

  -- in held mode, of a query at a node or past an end
  pub clamped-rows : (is : List ℕ) (query : ℕ → Float) → ((a : ℕ) → T (fits f (query a))) → AtClamped 0 (axes_in f Held n counts joined) is query → AtEach 0 (axes_in f Held n counts joined) is query
  clamped-rows is query typed at =
      let parts = axes_of (take n counts) joined in
      subst (λ (gs : List GridAxis). AtEach 0 gs is query) (held_axes f parts)
      (clamped-each f query typed 0 (grid_axes f Cubic parts) is (laws f Cubic (take n counts) joined total long fit premises) (orders f Cubic (take n counts) joined total long fit premises)
      (subst (λ (gs : List GridAxis). AtClamped 0 gs is query) (sym (held_axes f parts)) at))
