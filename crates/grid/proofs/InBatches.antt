-- Clauses 8.3 and 8.5 in batches: the entry of a query at a node, and the entries of a query on two tables that agree throughout its block.
use mathlib.Core.Path.{◌≡◌, refl, sym, ap, ◌∙◌, subst}
use mathlib.Core.List.{List}
use mathlib.Core.Logic.{◌⊎◌, inl, inr}
use Prim.Native.Nat.{ℕ, ◌+◌, ◌*◌, ◌/◌, ◌≤◌, ◌<◌}
use native.Mathlib.Nat.{eq-or-lt_of_le}
use native.Mathlib.Omega.{arith}
use lib.Dec.{T}
use lib.ListN.{length, get_or}
use lib.Ieee.{Float, nan, Format, eq}
use Rattle.multicubic.specs.declared.Check.{Check}
use Rattle.multicubic.specs.Types.{Outcome, accepted, refusal}
use Rattle.std.specs.Prelude.{Err, Ok}
use Rattle.multicubic.specs.Grid.{◌then◌}
use Rattle.multicubic.specs.Place.{Placed}
use Rattle.grid.specs.Query.{Grid, Found, places, refused_at, grid_counts, counts_of, value_of, components_of}
use Rattle.grid.specs.Batch.{query_at, found_at, check_batch, value_checks, gradient_checks, interp_buffer, grad_buffer}
use Rattle.grid.specs.Nodes.{stored, SameBlock}
use Rattle.grid.proofs.AtNodes.{NodeCase, node-value}
use Rattle.grid.proofs.OfBlocks.{block-value, block-components}
use Rattle.grid.proofs.Batches.{PlacedAt, placed-or-lowest, interp-unwritten, grad-unwritten, interp-holds, interp-keeps, grad-holds, grad-keeps}

-- ---- nodes: where check 7 passes and no query before it is refused, the query's entry is the stored number afterwards
pub node-entry : (f : Format) (g : Grid) (is : List ℕ) (queries buffer : List Float) → value_checks f g queries buffer ≡ accepted → (i : ℕ) → i < length buffer → ((j : ℕ) → j < i → PlacedAt (found_at g.axes (length buffer) queries) j)
    → NodeCase f g is (query_at (length buffer) queries i) → T (eq (get_or (interp_buffer f g queries buffer) i nan) (stored g is))
node-entry f g is queries buffer checked i h before c =
    let n = node-value f g is (query_at (length buffer) queries i) c in
    let upto : (j : ℕ) → j ≤ i → PlacedAt (found_at g.axes (length buffer) queries) j =
    λ j l. elim (eq-or-lt_of_le l) [ inl e ↦ subst (PlacedAt (found_at g.axes (length buffer) queries)) (sym e) (n.0, n.1) | inr k ↦ before j k ] in
    subst (λ (v : Float). T (eq v (stored g is))) (sym (interp-holds f g queries buffer checked i h upto n.0 n.1)) n.2

-- ---- blocks: one of two, by the checks and by whether every query up to i is placed
either : {A B : Type 0} (checks : Outcome) (found : ℕ → Found) (i : ℕ) → ((check : Check) (query axis : ℕ) → checks ≡ Err (refusal check query axis) → B) → (checks ≡ accepted → ((j : ℕ) → j ≤ i → PlacedAt found j) → A)
    → (checks ≡ accepted → (k : Check) (j a : ℕ) → j ≤ i → found j ≡ refused_at k a → B) → A ⊎ B
either (Err r) found i refused answered kept = inr (refused r.check r.query r.axis refl)
either (Ok _) found i refused answered kept = elim (placed-or-lowest found i) [
  | inl all ↦ inl (answered refl all)
  | inr low ↦ inr (kept refl low.0 low.1 low.2 (let l = low.3.inside in omega arith) low.3.fails)
]

-- two accepted grids with the same axes and setting
pub record Alike (g g' : Grid) : Type 0 where
  pub taken : g.checked ≡ accepted
  pub taken' : g'.checked ≡ accepted
  pub count : g.axis-count ≡ g'.axis-count
  pub axes : g.axes ≡ g'.axes

module _ (f : Format) (g g' : Grid) (alike : Alike g g') (queries buffer buffer' : List Float) (len : length buffer ≡ length buffer') (ps : List Placed) (same : SameBlock (grid_counts g) ps g.vals g'.vals) where
  checks-agree : value_checks f g queries buffer ≡ value_checks f g' queries buffer'
  checks-agree = λ k. (alike.taken ∙ sym alike.taken') k then check_batch (alike.count k) (len k) (length queries) (len k) (len k)

  found-agrees : (j : ℕ) → found_at g.axes (length buffer) queries j ≡ found_at g'.axes (length buffer') queries j
  found-agrees j = λ k. found_at (alike.axes k) (len k) queries j

  values_agree : value_of f (grid_counts g) g.vals ps ≡ value_of f (grid_counts g') g'.vals ps
  values_agree = block-value f (grid_counts g) g.vals g'.vals ps same ∙ ap (λ gs. value_of f (counts_of gs) g'.vals ps) alike.axes

  -- either both entries hold the same answer, or both keep their contents
  pub same_entries : (i : ℕ) → i < length buffer → found_at g.axes (length buffer) queries i ≡ places ps
      → ((get_or (interp_buffer f g queries buffer) i nan ≡ value_of f (grid_counts g) g.vals ps) × (get_or (interp_buffer f g' queries buffer') i nan ≡ get_or (interp_buffer f g queries buffer) i nan))
      ⊎ ((get_or (interp_buffer f g queries buffer) i nan ≡ get_or buffer i nan) × (get_or (interp_buffer f g' queries buffer') i nan ≡ get_or buffer' i nan))
  same_entries i h found =
      let h' : i < length buffer' = subst (λ (n : ℕ). i < n) len h in
      either (value_checks f g queries buffer) (found_at g.axes (length buffer) queries) i
      (λ n q a r. (ap (λ b. get_or b i nan) (interp-unwritten f g queries buffer n q a r), ap (λ b. get_or b i nan) (interp-unwritten f g' queries buffer' n q a (sym checks-agree ∙ r))))
      (λ ok all.
      let v = interp-holds f g queries buffer ok i h all ps found in
      let v' = interp-holds f g' queries buffer' (sym checks-agree ∙ ok) i h' (λ j l. ((all j l).0, sym (found-agrees j) ∙ (all j l).1)) ps (sym (found-agrees i) ∙ found) in
      (v, v' ∙ sym values_agree ∙ sym v))
      (λ ok m j a l e. (interp-keeps f g queries buffer ok i m j a h l e, interp-keeps f g' queries buffer' (sym checks-agree ∙ ok) i m j a h' l (sym (found-agrees j) ∙ e)))

module _ (f : Format) (g g' : Grid) (alike : Alike g g') (queries buffer buffer' : List Float) (len : length buffer ≡ length buffer') (whole : length g.axes ≡ g.axis-count) (ps : List Placed) (same : SameBlock (grid_counts g) ps g.vals g'.vals) where
  abbrev c : ℕ
  c = length buffer / g.axis-count

  abbrev c' : ℕ
  c' = length buffer' / g'.axis-count

  count-agrees : c ≡ c'
  count-agrees = λ k. len k / alike.count k

  grad-checks-agree : gradient_checks f g queries buffer ≡ gradient_checks f g' queries buffer'
  grad-checks-agree = λ k. (alike.taken ∙ sym alike.taken') k then check_batch (alike.count k) (count-agrees k) (length queries) (alike.count k * count-agrees k) (len k)

  grad-found-agrees : (j : ℕ) → found_at g.axes c queries j ≡ found_at g'.axes c' queries j
  grad-found-agrees j = λ k. found_at (alike.axes k) (count-agrees k) queries j

  components-agree : components_of f (grid_counts g) g.vals ps ≡ components_of f (grid_counts g') g'.vals ps
  components-agree = block-components f (grid_counts g) g.vals g'.vals ps same ∙ ap (λ gs. components_of f (counts_of gs) g'.vals ps) alike.axes

  whole' : length g'.axes ≡ g'.axis-count
  whole' = ap length (sym alike.axes) ∙ whole ∙ alike.count

  -- the same of all components at once: entry d * c + i of each buffer is component d of query i
  pub same-columns : (i : ℕ) → i < length buffer / g.axis-count → found_at g.axes (length buffer / g.axis-count) queries i ≡ places ps
      → ((d : ℕ) → d < g.axis-count → (get_or (grad_buffer f g queries buffer) (d * (length buffer / g.axis-count) + i) nan ≡ get_or (components_of f (grid_counts g) g.vals ps) d nan)
      × (get_or (grad_buffer f g' queries buffer') (d * (length buffer' / g'.axis-count) + i) nan ≡ get_or (grad_buffer f g queries buffer) (d * (length buffer / g.axis-count) + i) nan))
      ⊎ ((d : ℕ) → d < g.axis-count → (get_or (grad_buffer f g queries buffer) (d * (length buffer / g.axis-count) + i) nan ≡ get_or buffer (d * (length buffer / g.axis-count) + i) nan)
      × (get_or (grad_buffer f g' queries buffer') (d * (length buffer' / g'.axis-count) + i) nan ≡ get_or buffer' (d * (length buffer' / g'.axis-count) + i) nan))
  same-columns i h found =
      let h' : i < c' = subst (λ (n : ℕ). i < n) count-agrees h in
      let k' : (d : ℕ) → d < g.axis-count → d < g'.axis-count = λ d k. subst (λ (n : ℕ). d < n) alike.count k in
      either (gradient_checks f g queries buffer) (found_at g.axes c queries) i
      (λ n q a r d k. (ap (λ b. get_or b (d * c + i) nan) (grad-unwritten f g queries buffer n q a r), ap (λ b. get_or b (d * c' + i) nan) (grad-unwritten f g' queries buffer' n q a (sym grad-checks-agree ∙ r))))
      (λ ok all d k.
      let v = grad-holds f g queries buffer ok i d h k whole all ps found in
      let v' = grad-holds f g' queries buffer' (sym grad-checks-agree ∙ ok) i d h' (k' d k) whole' (λ j l. ((all j l).0, sym (grad-found-agrees j) ∙ (all j l).1)) ps (sym (grad-found-agrees i) ∙ found) in
      (v, v' ∙ ap (λ xs. get_or xs d nan) (sym components-agree) ∙ sym v))
      (λ ok m j a l e d k.
      (grad-keeps f g queries buffer ok i d h k m j a l e, grad-keeps f g' queries buffer' (sym grad-checks-agree ∙ ok) i d h' (k' d k) m j a l (sym (grad-found-agrees j) ∙ e)))
