-- The setting of a grid's axes (clause 3.7): what the code does of it, the query as used, and clause 8.6. An axis that holds its edge gives to a
-- query what it gives in the cubic setting to the query as used, the derivative weights of a replaced query aside.
use mathlib.Core.Path.{◌≡◌, refl, sym, ap, ◌∙◌, subst}
use mathlib.Core.Logic.{inl, inr}
use mathlib.Core.Bool.{Bool, true, false}
use mathlib.Core.List.{List, [], ◌∷◌, map}
use Prim.Native.Nat.{ℕ, zero, suc, ◌-◌, ◌≤◌, ◌<◌}
use native.Mathlib.Omega.{arith}
use lib.Dec.{T}
use lib.IntN.{ℤ}
use lib.ListN.{get_or}
use lib.Ieee.{Float, Format, lt, eq, fits}
use lib.Ieee.Bits.{is_true}
use lib.Ieee.Scale.{finite}
use Rattle.ieee.proofs.Order.{true-not-false, lt_irrefl, lt_trans, eq-lt-left, eq_lt_right}
use Rattle.ieee.proofs.ZeroOne.{same_refl}
use Rattle.ieee.proofs.Cancel.{same→eq}
use Rattle.multicubic.specs.declared.EdgeMode.{EdgeMode}
use Rattle.multicubic.specs.declared.EdgeMode.TheVariants.{Cubic, Straight, Held}
use Rattle.multicubic.specs.Types.{Loc}
use Rattle.multicubic.specs.declared.LocError.TheVariants.{NotANumber, Unplaceable}
use Rattle.std.specs.Prelude.{Err, Ok}
use Rattle.multicubic.specs.declared.Marks.{Marks}
use Rattle.multicubic.specs.declared.Place.{Place}
use Rattle.multicubic.specs.Place.{straight_of, Placed, placed, outcome_at}
use Rattle.multicubic.proofs.Nodes.{AtNode}
use Rattle.grid.specs.Query.{GridAxis, outcome, below, above, hold, held_axis, edge_axis}
use Rattle.grid.specs.Edges.{Clamped, AtClamped}
use Rattle.grid.specs.Nodes.{All}
use Rattle.grid.specs.Internal.{row_at, replaced_in, used_by, row_by}
use Rattle.grid.proofs.Premises.{NodeLaw, NodeLaws}
use Rattle.grid.proofs.AtNodes.{AtEach}
use Rattle.grid.proofs.Fit.{Roomy}

-- ---- as the code does it: on the axis of the setting's line, from the ends at which the query is replaced
abbrev lined : EdgeMode → (Bool → GridAxis) → GridAxis
lined mode axis = axis (straight_of mode)

edge_loc : (mode : EdgeMode) (axis : Bool → GridAxis) (given : Float) → (lined mode axis).loc (used_by (replaced_in mode (lined mode axis) given) (lined mode axis) given) ≡ (edge_axis mode axis).loc given
edge_loc Cubic axis given = refl
edge_loc Straight axis given = refl
edge_loc Held axis given = refl

edge_row : (mode : EdgeMode) (axis : Bool → GridAxis) (given : Float) (p : Place) (derivative : Bool)
    → row_by (replaced_in mode (lined mode axis) given) (lined mode axis) (used_by (replaced_in mode (lined mode axis) given) (lined mode axis) given) p derivative ≡ row_at (edge_axis mode axis) given p derivative
edge_row Cubic axis given p derivative = refl
edge_row Straight axis given p derivative = refl
edge_row Held axis given p derivative = refl

module _ (mode : EdgeMode) (axis : Bool → GridAxis) (given : Float) (replaced : Marks) (used : Float) (r : (straight : Bool) → replaced ≡ replaced_in mode (axis straight) given) (u : used ≡ used_by replaced (lined mode axis) given) where
  used-is : used ≡ used_by (replaced_in mode (lined mode axis) given) (lined mode axis) given
  used-is = u ∙ ap (λ (m : Marks). used_by m (lined mode axis) given) (r (straight_of mode))

  pub own-loc : (l : Loc) → l ≡ (lined mode axis).loc used → l ≡ (edge_axis mode axis).loc given
  own-loc l e = e ∙ ap (lined mode axis).loc used-is ∙ edge_loc mode axis given

  pub own_row : (straight : Bool) → straight ≡ straight_of mode → (row : List Float) (p : Place) (derivative : Bool) → row ≡ row_by replaced (axis straight) used p derivative → row ≡ row_at (edge_axis mode axis) given p derivative
  own_row straight s row p derivative e =
      e
      ∙ ap (λ (t : Bool). row_by replaced (axis t) used p derivative) s
      ∙ ap (λ (m : Marks). row_by m (lined mode axis) used p derivative) (r (straight_of mode))
      ∙ ap (λ (x : Float). row_by (replaced_in mode (lined mode axis) given) (lined mode axis) x p derivative) used-is
      ∙ edge_row mode axis given p derivative

-- ---- what holds in every setting
pub edge_count : (mode : EdgeMode) (axis : Bool → GridAxis) (n : ℕ) → ((straight : Bool) → (axis straight).count ≡ n) → (edge_axis mode axis).count ≡ n
edge_count Cubic axis n e = e false
edge_count Straight axis n e = e true
edge_count Held axis n e = e false

pub edge_roomy : (mode : EdgeMode) (axis : Bool → GridAxis) → ((straight : Bool) → Roomy (axis straight)) → Roomy (edge_axis mode axis)
edge_roomy Cubic axis r = r false
edge_roomy Straight axis r = r true
edge_roomy Held axis r = λ given p e. r false (hold (axis false) given) p e

-- ---- the query as used
pub refuted : (b : Bool) → (b ≡ true → ⊥) → b ≡ false
refuted true h = absurd (h refl)
refuted false h = refl

not-both : {b : Bool} → b ≡ true → b ≡ false → ⊥
not-both p q = true-not-false (sym p ∙ q)

-- the last node is not below the first
abbrev pub EndsInOrder : GridAxis → Type 0
EndsInOrder g = lt (g.node (g.count - 1)) (g.node 0) ≡ false

module _ (g : GridAxis) (given : Float) where
  -- inside the span it is the query as given; so it is at an end node
  pub hold-inside : below g given ≡ false → above g given ≡ false → hold g given ≡ given
  hold-inside b a = rw (b, a) refl

  pub hold-below : below g given ≡ true → hold g given ≡ g.node 0
  hold-below b = rw b refl

  pub hold-above : below g given ≡ false → above g given ≡ true → hold g given ≡ g.node (g.count - 1)
  hold-above b a = rw (b, a) refl

  -- past one end alone
  pub one_end : EndsInOrder g → above g given ≡ true → below g given ≡ false
  one_end rises a = refuted (below g given) (λ e. not-both (lt_trans (g.node (g.count - 1)) given (g.node 0) a e) rises)

-- held twice it is held once
pub hold-twice : (g : GridAxis) → EndsInOrder g → (given : Float) → hold g (hold g given) ≡ hold g given
hold-twice g rises given = go (below g given) (above g given) refl refl
  where
    settled : (x : Float) → hold g given ≡ x → hold g x ≡ x → hold g (hold g given) ≡ hold g given
    settled x e s = ap (hold g) e ∙ s ∙ sym e

    go : (b a : Bool) → below g given ≡ b → above g given ≡ a → hold g (hold g given) ≡ hold g given
    go true a e d = settled (g.node 0) (hold-below g given e) (hold-inside g (g.node 0) (lt_irrefl (g.node 0)) rises)
    go false true e d = settled (g.node (g.count - 1)) (hold-above g given e d) (hold-inside g (g.node (g.count - 1)) rises (lt_irrefl (g.node (g.count - 1))))
    go false false e d = ap (hold g) (hold-inside g given e d)

pub holds_once : (gs : List GridAxis) → All EndsInOrder gs → All (λ (g : GridAxis). (given : Float) → hold g (hold g given) ≡ hold g given) gs
holds_once [] ok = tt
holds_once (g ∷ gs) ok = (hold-twice g ok.0, holds_once gs ok.1)

pub edge_ends : (mode : EdgeMode) (axis : Bool → GridAxis) → ((straight : Bool) → EndsInOrder (axis straight)) → EndsInOrder (edge_axis mode axis)
edge_ends Cubic axis ok = ok false
edge_ends Straight axis ok = ok true
edge_ends Held axis ok = ok false

-- ---- clause 8.6: the nodes are numbers of the format, and in order
pub record InOrder (f : Format) (g : GridAxis) : Type 0 where
  pub some : 0 < g.count
  pub fit : (i : ℕ) → i < g.count → T (fits f (g.node i))
  pub whole : (i : ℕ) → i < g.count → T (finite (g.node i))
  pub rising : (i j : ℕ) → i ≤ j → j < g.count → lt (g.node j) (g.node i) ≡ false

-- a query at a node, an end node too, is past no end
pub node-within : (f : Format) (g : GridAxis) → InOrder f g → (i : ℕ) → i < g.count → (given : Float) → T (eq given (g.node i)) → (below g given ≡ false) × (above g given ≡ false)
node-within f g ok i here given at =
    let same = is_true (eq given (g.node i)) at in
    let last : g.count - 1 < g.count = let s = ok.some in omega arith in (
      refuted (below g given) (λ e. not-both (eq-lt-left given (g.node i) (g.node 0) same e) (ok.rising 0 i (omega arith) here)),
      refuted (above g given) (λ e. not-both (eq_lt_right given (g.node i) (g.node (g.count - 1)) same e) (ok.rising i (g.count - 1) (omega arith) last)),
    )

-- the nodes of an axis are in order in every setting
pub edge_order : (f : Format) (mode : EdgeMode) (axis : Bool → GridAxis) → ((straight : Bool) → InOrder f (axis straight)) → InOrder f (edge_axis mode axis)
edge_order f Cubic axis ok = ok false
edge_order f Straight axis ok = ok true
edge_order f Held axis ok = record { some = (ok false).some; fit = (ok false).fit; whole = (ok false).whole; rising = (ok false).rising }

-- other derivative weights at the same place
weighed : (w d d' : Place → List Float) (l : Loc) (q : Placed) → outcome_at w d l ≡ placed q → outcome_at w d' l ≡ placed (record { place = q.place; weights = q.weights; derivatives = d' q.place })
weighed w d d' (Err NotANumber) q e = absurd (let y : ◌≡◌ {A = ℕ} 0 1 = cc in omega arith)
weighed w d d' (Err Unplaceable) q e = absurd (let y : ◌≡◌ {A = ℕ} 0 1 = cc in omega arith)
weighed w d d' (Ok p) q e =
    let z : record { place = p; weights = w p; derivatives = d p } ≡ q = cc in
    ap (λ (r : Placed). placed (record { place = r.place; weights = r.weights; derivatives = d' r.place })) z

held_at : (g : GridAxis) (given x : Float) (n : ℕ) (l : ℤ) (i : ℕ) → hold g given ≡ x → AtNode n l i (outcome g x) → AtNode n l i (outcome (held_axis g) given)
held_at g given x n l i e at =
    let a : AtNode n l i (outcome g (hold g given)) = subst (λ (y : Float). AtNode n l i (outcome g y)) (sym e) at in
    record {
      found = record { place = a.found.place; weights = a.found.weights; derivatives = (held_axis g).derivatives given a.found.place };
      is = weighed (g.weights (hold g given)) (g.derivatives (hold g given)) ((held_axis g).derivatives given) (g.loc (hold g given)) a.found a.is;
      place_is = a.place_is;
      low = a.low;
      row = a.row;
    }

module _ (f : Format) (g : GridAxis) (law : NodeLaw f g) (ok : InOrder f g) where
  last : g.count - 1 < g.count
  last = let s = ok.some in omega arith

  at-itself : (i : ℕ) → i < g.count → (l : ℤ) × AtNode g.count l i (outcome g (g.node i))
  at-itself i h = law i h (g.node i) (ok.fit i h) (same→eq (g.node i) (g.node i) (ok.whole i h) (same_refl (g.node i)))

  pub clamped-node : (i : ℕ) (given : Float) → T (fits f given) → Clamped g i given → (l : ℤ) × AtNode g.count l i (outcome (held_axis g) given)
  clamped-node i given typed (inl low) =
      let n = at-itself 0 ok.some in
      subst (λ (k : ℕ). (l : ℤ) × AtNode g.count l k (outcome (held_axis g) given)) (sym low.1)
      (n.0, held_at g given (g.node 0) g.count n.0 0 (hold-below g given (is_true (below g given) low.0)) n.1)
  clamped-node i given typed (inr (inl high)) =
      let a = is_true (above g given) high.0 in
      let b = one_end g given (ok.rising 0 (g.count - 1) (omega arith) last) a in
      let n = at-itself (g.count - 1) last in
      subst (λ (k : ℕ). (l : ℤ) × AtNode g.count l k (outcome (held_axis g) given)) (sym high.1)
      (n.0, held_at g given (g.node (g.count - 1)) g.count n.0 (g.count - 1) (hold-above g given b a) n.1)
  clamped-node i given typed (inr (inr at)) =
      let n = law i at.0 given typed at.1 in
      let within = node-within f g ok i at.0 given at.1 in
      (n.0, held_at g given given g.count n.0 i (hold-inside g given within.0 within.1) n.1)

  pub held-law : NodeLaw f (held_axis g)
  held-law i here given typed at = clamped-node i given typed (inr (inr (here, at)))

-- the node law in every setting
pub edge_law : (f : Format) (mode : EdgeMode) (axis : Bool → GridAxis) → ((straight : Bool) → NodeLaw f (axis straight)) → InOrder f (axis false) → NodeLaw f (edge_axis mode axis)
edge_law f Cubic axis law ok = law false
edge_law f Straight axis law ok = law true
edge_law f Held axis law ok = held-law f (axis false) (law false) ok

-- on every axis that holds its edge
pub clamped-each : (f : Format) (query : ℕ → Float) → ((a : ℕ) → T (fits f (query a))) → (axis : ℕ) (gs : List GridAxis) (is : List ℕ) → NodeLaws f gs → All (InOrder f) gs → AtClamped axis (map held_axis gs) is query → AtEach axis (map held_axis gs) is query
clamped-each f query typed axis [] [] laws ok at = tt
clamped-each f query typed axis [] (i ∷ is) laws ok at = absurd at
clamped-each f query typed axis (g ∷ gs) [] laws ok at = absurd at
clamped-each f query typed axis (g ∷ gs) (i ∷ is) laws ok at =
    (clamped-node f g laws.0 ok.0 i (query axis) (typed axis) at.0, clamped-each f query typed (suc axis) gs is laws.1 ok.1 at.1)
