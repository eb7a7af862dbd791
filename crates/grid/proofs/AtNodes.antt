-- Clause 8.3: on a grid whose axes have the node law, the value of a query at a node is the number stored there. The axis count is a
-- parameter.
use mathlib.Core.Path.{◌≡◌, refl, sym, ap, subst}
use mathlib.Core.List.{List, [], ◌∷◌}
use Prim.Native.Nat.{ℕ, zero, suc, ◌+◌, ◌-◌, ◌*◌, ◌≤◌, ◌<◌}
use native.Mathlib.Nat.{mul-le-mul_right, add-mul, one-mul}
use native.Mathlib.Omega.{arith}
use mathlib.Core.Bool.{Bool, true, false}
use lib.Dec.{T}
use lib.IntN.{ℤ, pos, negsuc}
use lib.ListN.{length}
use lib.Ieee.{Float, Format, eq, fits}
use lib.Ieee.Bits.{is_true}
use Rattle.std.specs.Prelude.{Ok}
use Rattle.ieee.proofs.Order.{eq-sym, eq_trans}
use Rattle.multicubic.specs.Types.{accepted, refusal}
use Rattle.multicubic.specs.Grid.{product, ◌then◌}
use Rattle.multicubic.specs.Answers.{answered}
use Rattle.multicubic.specs.Place.{origin_of, Placed}
use Rattle.multicubic.proofs.Nodes.{AtNode}
use Rattle.reduction.specs.Value.{strides_of, offset, shifted, value_at, reduce_of}
use Rattle.reduction.specs.Nodes.{InBlock}
use Rattle.reduction.proofs.Blocks.{Held, value-at-node, OneAtEach}
use Rattle.grid.specs.Query.{GridAxis, outcome, Grid, places, located, find, counts_of, grid_counts, origins_of, rows_of, block_of, value_of, found_value, found_outcome, value_answer}
use Rattle.grid.specs.Nodes.{AtIndex, stored, FiniteValues, Fits}
use Rattle.grid.proofs.Premises.{NodeLaws, Long, Sized}

-- ---- an index within every axis is stored within the values
abbrev pub Within : List ℕ → List ℕ → Type 0
Within [] [] = Unit
Within (i ∷ is) (c ∷ cs) = (i < c) × Within is cs
Within [] (c ∷ cs) = ⊥
Within (i ∷ is) [] = ⊥

pub in_range : (is cs : List ℕ) → Within is cs → offset is (strides_of cs) < product cs
in_range [] [] h = omega arith
in_range [] (c ∷ cs) h = absurd h
in_range (i ∷ is) [] h = absurd h
in_range (i ∷ is) (c ∷ cs) h =
    let r = in_range is cs h.1 in
    let m : suc i * product cs ≤ c * product cs = mul-le-mul_right (product cs) h.0 in
    let s : suc i * product cs ≡ i * product cs + product cs = rw (← native.Mathlib.Numerals.add-one, add-mul, one-mul) in
    omega (arith, r, m, s)

-- ---- a block of four from each origin lies within the axes
abbrev pub Room : List ℕ → List ℕ → Type 0
Room [] [] = Unit
Room (o ∷ os) (c ∷ cs) = (o + 4 ≤ c) × Room os cs
Room [] (c ∷ cs) = ⊥
Room (o ∷ os) [] = ⊥

pub block_within : (n : ℕ) (os cs js : List ℕ) → length os ≡ n → Room os cs → InBlock n js → Within (shifted os js) cs
block_within n [] [] js e r b = tt
block_within n [] (c ∷ cs) js e r b = absurd r
block_within n (o ∷ os) [] js e r b = absurd r
block_within zero (o ∷ os) (c ∷ cs) js e r b = absurd (omega arith)
block_within (suc n) (o ∷ os) (c ∷ cs) [] e r b = absurd b
block_within (suc n) (o ∷ os) (c ∷ cs) (j ∷ js) e r b = (let h = r.0 in let k = b.0 in omega arith, block_within n os cs js (omega arith) r.1 b.1)

pub origin_most : (n : ℕ) (l : ℤ) → origin_of n l ≤ n - 4
unfolding origin_of
origin_most n (pos l) = omega arith
origin_most n (negsuc k) = omega arith

pub origins_length : (ps : List Placed) → length (origins_of ps) ≡ length ps
origins_length [] = refl
origins_length (p ∷ ps) = ap suc (origins_length ps)

pub rows-length : (ps : List Placed) → length (rows_of ps) ≡ length ps
rows-length [] = refl
rows-length (p ∷ ps) = ap suc (rows-length ps)

-- ---- what is found at a node
pub record FoundAt (axis : ℕ) (gs : List GridAxis) (is : List ℕ) (query : ℕ → Float) : Type 0 where
  pub ps : List Placed
  pub found : find axis gs query ≡ places ps
  pub js : List ℕ
  pub rows : OneAtEach js (rows_of ps)
  pub indices : shifted (origins_of ps) js ≡ is
  pub inside : InBlock (length ps) js
  pub room : Room (origins_of ps) (counts_of gs)

-- on every axis the row that is one at the index's place
abbrev pub AtEach : ℕ → List GridAxis → List ℕ → (ℕ → Float) → Type 0
AtEach axis [] [] query = Unit
AtEach axis (g ∷ gs) (i ∷ is) query = ((l : ℤ) × AtNode g.count l i (outcome g (query axis))) × AtEach (suc axis) gs is query
AtEach axis [] (i ∷ is) query = ⊥
AtEach axis (g ∷ gs) [] query = ⊥

-- it is there at a node, by the axes' laws
pub at_each : (f : Format) (query : ℕ → Float) → ((a : ℕ) → T (fits f (query a))) → (axis : ℕ) (gs : List GridAxis) (is : List ℕ) → NodeLaws f gs → AtIndex axis gs is query → AtEach axis gs is query
at_each f query typed axis [] [] laws at = tt
at_each f query typed axis [] (i ∷ is) laws at = absurd at
at_each f query typed axis (g ∷ gs) [] laws at = absurd at
at_each f query typed axis (g ∷ gs) (i ∷ is) laws at = (laws.0 i at.0 (query axis) (typed axis) at.1, at_each f query typed (suc axis) gs is laws.1 at.2)

pub found_at : (query : ℕ → Float) (axis : ℕ) (gs : List GridAxis) (is : List ℕ) → Long (counts_of gs) → AtEach axis gs is query → FoundAt axis gs is query
found_at query axis [] [] long at = record { ps = []; found = refl; js = []; rows = tt; indices = refl; inside = tt; room = tt }
found_at query axis [] (i ∷ is) long at = absurd at
found_at query axis (g ∷ gs) [] long at = absurd at
found_at query axis (g ∷ gs) (i ∷ is) long at =
    let a = at.0.1 in
    let r = found_at query (suc axis) gs is long.1 at.1 in
    let o = a.found.place.origin in
    let most : o ≤ g.count - 4 = subst (λ (k : ℕ). k ≤ g.count - 4) (sym (ap (λ p. p.origin) a.place_is)) (origin_most g.count at.0.0) in
    let four : 4 ≤ g.count = long.0 in
    let low : o ≤ i = a.low in
    record {
      ps = a.found ∷ r.ps;
      found = λ k. located axis (a.is k) (r.found k);
      js = (i - o) ∷ r.js;
      rows = (a.row, r.rows);
      indices = λ k. (let e : o + (i - o) ≡ i = omega arith in e k) ∷ r.indices k;
      inside = (a.row.inside, r.inside);
      room = (omega arith, r.room);
    }

-- ---- the value there
pub answer_found : (f : Format) (g : Grid) (query : ℕ → Float) (ps : List Placed) → g.checked ≡ accepted → find 0 g.axes query ≡ places ps → value_answer f g query ≡ Ok (value_of f (grid_counts g) g.vals ps)
answer_found f g query ps accepted found = λ i. answered (accepted i then found_outcome 0 (found i)) (found_value f (grid_counts g) g.vals (found i))

module _ (f : Format) (g : Grid) (is : List ℕ) (query : ℕ → Float) (sized : Sized g) (whole : FiniteValues g.vals) (held : Fits f g.vals) (h : FoundAt 0 g.axes is query) where
  block_held : (ks : List ℕ) → InBlock (length (rows_of h.ps)) ks → Held f (block_of (grid_counts g) g.vals h.ps ks)
  block_held ks b =
      let w = block_within (length h.ps) (origins_of h.ps) (grid_counts g) ks (origins_length h.ps) h.room (subst (λ (n : ℕ). InBlock n ks) (rows-length h.ps) b) in
      let r : offset (shifted (origins_of h.ps) ks) (strides_of (grid_counts g)) < length g.vals = subst (λ (n : ℕ). offset (shifted (origins_of h.ps) ks) (strides_of (grid_counts g)) < n) (sym sized.size) (in_range (shifted (origins_of h.ps) ks) (grid_counts g) w) in
      (whole _ r, held _ r)

  pub value-stored : T (eq (value_of f (grid_counts g) g.vals h.ps) (stored g is))
  unfolding value_of
  value-stored =
      subst (λ (ks : List ℕ). T (eq (reduce_of f (rows_of h.ps) (block_of (grid_counts g) g.vals h.ps)) (value_at g.vals (strides_of (grid_counts g)) ks))) h.indices
      (value-at-node f (rows_of h.ps) h.js g.vals (strides_of (grid_counts g)) (origins_of h.ps) block_held h.rows
      (block_held h.js (subst (λ (n : ℕ). InBlock n h.js) (sym (rows-length h.ps)) h.inside)).0)

-- what holds of a grid within the premises, and of a query whose rows are those of a node
pub record NodeCase (f : Format) (g : Grid) (is : List ℕ) (query : ℕ → Float) : Type 0 where
  pub sized : Sized g
  pub whole : FiniteValues g.vals
  pub held : Fits f g.vals
  pub rows : AtEach 0 g.axes is query

-- its places, and the value at them: the number stored there, the sign of zero aside
pub node-value : (f : Format) (g : Grid) (is : List ℕ) (query : ℕ → Float) → NodeCase f g is query → (ps : List Placed) × (find 0 g.axes query ≡ places ps) × T (eq (value_of f (grid_counts g) g.vals ps) (stored g is))
node-value f g is query c =
    let h = found_at query 0 g.axes is c.sized.long c.rows in
    (h.ps, h.found, value-stored f g is query c.sized c.whole c.held h)

-- the answer is no refusal, and is that number
pub node-answer : (f : Format) (g : Grid) (is : List ℕ) (query : ℕ → Float) → g.checked ≡ accepted → NodeCase f g is query → (v : Float) × (value_answer f g query ≡ Ok v) × T (eq v (stored g is))
node-answer f g is query accepted c =
    let n = node-value f g is query c in
    (value_of f (grid_counts g) g.vals n.0, answer_found f g query n.0 accepted n.1, n.2)

-- ---- two tables
same_bool : (a b : Bool) → (a ≡ true → b ≡ true) → (b ≡ true → a ≡ true) → a ≡ b
same_bool true b h k = sym (h refl)
same_bool false true h k = k refl
same_bool false false h k = refl

pub same_numbers : (v v' s s' : Float) → T (eq v s) → T (eq v' s') → eq v v' ≡ eq s s'
same_numbers v v' s s' p q =
    let a = is_true (eq v s) p in
    let b = is_true (eq v' s') q in
    same_bool (eq v v') (eq s s') (λ e. eq_trans s v s' (eq-sym v s a) (eq_trans v v' s' e b)) (λ e. eq_trans v s v' a (eq_trans s s' v' e (eq-sym v' s' b)))

-- within the premises, each in a setting of its own, two tables' answers at a node are different numbers if and only if the stored ones are
pub node_differs : (f : Format) (g g' : Grid) (is : List ℕ) (query : ℕ → Float) → g.checked ≡ accepted → g'.checked ≡ accepted → NodeCase f g is query → NodeCase f g' is query
    → (v : Float) × (v' : Float) × (value_answer f g query ≡ Ok v) × (value_answer f g' query ≡ Ok v') × (eq v v' ≡ eq (stored g is) (stored g' is))
node_differs f g g' is query a a' c c' =
    let n = node-answer f g is query a c in
    let n' = node-answer f g' is query a' c' in
    (n.0, n'.0, n.1, n'.1, same_numbers n.0 n'.0 (stored g is) (stored g' is) n.2 n'.2)
