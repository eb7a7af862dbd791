-- The statements about blocks hold of what the definitions give, on any two grids. Nothing is asked of what the two buffers held before.
use mathlib.Core.Path.{◌≡◌, refl, sym, ap, ◌∙◌, subst}
use mathlib.Core.Logic.{inl, inr, ⊎_elim}
use mathlib.Core.List.{List, [], ◌∷◌, ◌++◌}
use Prim.Native.Nat.{ℕ, ◌+◌, ◌*◌, ◌/◌, ◌≤◌, ◌<◌}
use native.Mathlib.Omega.{arith}
use lib.ListN.{length, get_or, get_or-append}
use lib.Seq.{get_or-take}
use lib.Ieee.{Float, nan, Format}
use Rattle.std.specs.Prelude.{Ok}
use Rattle.ieee.specs.Numbers.{zero as nought}
use Rattle.multicubic.specs.Types.{Answer, Outcome}
use Rattle.multicubic.specs.Place.{Placed}
use Rattle.grid.specs.Query.{Grid, grid_counts, components_of, outcome_of, value_answer, gradient_answer}
use Rattle.grid.specs.Batch.{query_at, interp_buffer, grad_buffer}
use Rattle.grid.proofs.AtNodes.{answer_found}
use Rattle.grid.proofs.OfBlocks.{same-value, same-gradient}
use Rattle.grid.proofs.Batches.{found_length, components-length}
use Rattle.grid.proofs.InBatches.{Alike, same_entries, same-columns}
use Rattle.guarantees.specs.Statements.{IsAccepted, SameOnBlock, BlockRule, BlockGradient, BlockInBatch, BlockInColumns}

-- what a kind supplies for columns: an accepted grid has as many axes as its axis count, and at most four
abbrev pub Counted : Grid → Type 0
Counted g = IsAccepted g → (length g.axes ≡ g.axis-count) × (g.axis-count ≤ 4)

module _ (f : Format) (g g' : Grid) where
  both : (query : ℕ → Float) (ps : List Placed) → SameOnBlock g g' query ps → Alike g g'
  both query ps s = record { taken = s.0; taken' = s.1; count = s.2; axes = s.3 }

  pub block-rule : (query : ℕ → Float) (answer answer' : Answer) → answer ≡ value_answer f g query → answer' ≡ value_answer f g' query → BlockRule g g' query answer answer'
  block-rule query answer answer' e e' ps s =
      let v = answer_found f g query ps s.0 s.4 in
      (_, e ∙ v, e' ∙ sym (same-value f g g' query ps (s.0 ∙ sym s.1) s.3 s.4 s.5) ∙ v)

  pub block-gradient : (query : ℕ → Float) (o o' : Outcome) (xs xs' : List Float) → o ≡ outcome_of g query → xs ≡ gradient_answer f g query → o' ≡ outcome_of g' query → xs' ≡ gradient_answer f g' query → BlockGradient g g' query o o' xs xs'
  block-gradient query o o' xs xs' e d e' d' ps s =
      (e ∙ rw (s.0, s.4) refl, e' ∙ rw (s.1, ← s.3, s.4) refl, d ∙ same-gradient f g g' query ps (s.0 ∙ sym s.1) s.3 s.4 s.5 ∙ sym d')

  module _ (queries before after before' after' : List Float) where
    pub block-in-batch : after ≡ interp_buffer f g queries before → after' ≡ interp_buffer f g' queries before' → BlockInBatch f g g' queries before after before' after'
    block-in-batch b b' len i ps h s =
        rw (b, b') (⊎_elim
        (λ e. inl (answer_found f g (query_at (length before) queries i) ps s.0 s.4 ∙ ap Ok (sym e.0), e.1))
        (λ e. inr e)
        (same_entries f g g' (both (query_at (length before) queries i) ps s) queries before before' len ps s.5 i h s.4))

    abbrev c : ℕ
    c = length before / g.axis-count

    gradient-entry : Counted g → (query : ℕ → Float) (ps : List Placed) → SameOnBlock g g' query ps → (d : ℕ) → d < g.axis-count → get_or (gradient_answer f g query) d nan ≡ get_or (components_of f (grid_counts g) g.vals ps) d nan
    gradient-entry counted query ps s d h =
        let many : length (components_of f (grid_counts g) g.vals ps) ≡ g.axis-count = components-length f (grid_counts g) g.vals ps 0 ps ∙ found_length 0 g.axes query ps s.4 ∙ (counted s.0).0 in
        let few = (counted s.0).1 in
        let xs = components_of f (grid_counts g) g.vals ps in
        let zeros : List Float = nought ∷ nought ∷ nought ∷ nought ∷ [] in
        rw (s.0, s.4) (get_or-take 4 (xs ++ zeros) d nan (omega arith) ∙ get_or-append xs zeros nan d (omega arith))

    pub block-in-columns : Counted g → after ≡ grad_buffer f g queries before → after' ≡ grad_buffer f g' queries before' → BlockInColumns f g g' queries before after before' after'
    block-in-columns counted b b' len i ps h s =
        let z : length before' / g'.axis-count ≡ c = λ k. sym len k / sym s.2 k in
        rw (b, b') (⊎_elim
        (λ e. inl (λ d l. (gradient-entry counted (query_at c queries i) ps s d l ∙ sym (e d l).0, subst (λ (m : ℕ). get_or (grad_buffer f g' queries before') (d * m + i) nan ≡ get_or (grad_buffer f g queries before) (d * c + i) nan) z (e d l).1)))
        (λ e. inr (λ d l. ((e d l).0, subst (λ (m : ℕ). get_or (grad_buffer f g' queries before') (d * m + i) nan ≡ get_or before' (d * m + i) nan) z (e d l).1)))
        (same-columns f g g' (both (query_at c queries i) ps s) queries before before' len (counted s.0).0 ps s.5 i h s.4))
