-- The statements about nodes hold of what the definitions give, on any grid that has what its kind supplies. In a batch, check 7 and the
-- earlier queries have passed, so the query's entry is written.
use mathlib.Core.Path.{◌≡◌, refl, sym, ap, ◌∙◌, subst}
use mathlib.Core.Bool.{Bool, true, false, not, ◌||◌}
use mathlib.Core.Logic.{◌⊎◌, inl, inr, ⊎_elim}
use mathlib.Core.List.{List}
use Prim.Native.Nat.{ℕ, ◌*◌, ◌<◌}
use native.Mathlib.Omega.{arith}
use lib.Dec.{T, ltb, eqb}
use lib.ListN.{length, get_or}
use lib.Ieee.{Float, nan, Format, eq}
use borrow.Author.Tests.{ltb-true, ltb-false}
use Rattle.multicubic.specs.Types.{Answer, Outcome, accepted}
use Rattle.std.specs.Prelude.{Err, Ok}
use Rattle.multicubic.specs.declared.Check.TheVariants.{BatchLength}
use Rattle.multicubic.specs.Answers.{check_number, number_of, query_of}
use Rattle.grid.specs.Query.{Grid, Found, at, value_answer}
use Rattle.grid.specs.Batch.{query_at, found_at, outcome_from, value_checks, interp_outcome, interp_buffer}
use Rattle.grid.specs.Edges.{AtClamped}
use Rattle.grid.specs.Nodes.{stored, Fits}
use Rattle.grid.proofs.Premises.{NodeLaws, Sized}
use Rattle.grid.proofs.AtNodes.{AtEach, at_each, NodeCase, node-answer, same_numbers, node_differs}
use Rattle.grid.proofs.Batches.{PlacedAt, Lowest, refused-lowest, accepted-all, found_number, interp-refused, interp-answers}
use Rattle.grid.proofs.InBatches.{node-entry}
use Rattle.guarantees.specs.Statements.{IsAccepted, QueryAtNode, NodeRule, NodeCorollary, Reached, NodeInBatch, CorollaryInBatch, QueryClamped, HeldEdge, HeldInBatch}
use Rattle.guarantees.proofs.Typing.{Typed}

-- what a kind supplies of a grid: its sizes by the checks, the laws of its axes within the kind's premises, and the values by typing
pub record Supplied (f : Format) (premises : Type 0) (g : Grid) : Type 0 where
  pub sized : IsAccepted g → Sized g
  pub laws : IsAccepted g → premises → NodeLaws f g.axes
  pub held : Fits f g.vals

module _ (f : Format) (premises : Type 0) (g : Grid) (kind : Supplied f premises g) where
  at-node : (query : ℕ → Float) → Typed f query → (node : List ℕ) → QueryAtNode premises g node query → NodeCase f g node query
  at-node query typed node h =
      record { sized = kind.sized h.0; whole = h.2; held = kind.held; rows = at_each f query typed 0 g.axes node (kind.laws h.0 h.1) h.3 }

  pub node-rule : (query : ℕ → Float) → Typed f query → (answer : Answer) → answer ≡ value_answer f g query → NodeRule premises g query answer
  node-rule query typed answer e node h =
      let n = node-answer f g node query h.0 (at-node query typed node h) in
      (n.0, e ∙ n.1, n.2)

  module _ (queries before after : List Float) (outcome : Outcome) (o : outcome ≡ interp_outcome f g queries before) (taken : IsAccepted g) (not-seven : number_of outcome ≡ 7 → ⊥) where
    abbrev found : ℕ → Found
    found = found_at g.axes (length before) queries

    abbrev seven : Bool
    seven = ltb 1048576 (length before) || not (eqb (length queries) (g.axis-count * length before)) || not (eqb (length before) (length before))

    checked : value_checks f g queries before ≡ accepted
    checked = go seven refl
      where
        go : (fault : Bool) → seven ≡ fault → value_checks f g queries before ≡ accepted
        go true e = absurd (not-seven (ap number_of (o ∙ interp-refused f g queries before BatchLength 0 0 (rw (taken, e) refl))))
        go false e = rw (taken, e) refl

    -- a query before this one is placed, or the outcome would name one
    earlier : (i : ℕ) → i < length before → ((number_of outcome ≡ 8) ⊎ (number_of outcome ≡ 9) → query_of outcome < i → ⊥) → (j : ℕ) → j < i → PlacedAt found j
    earlier i h not-Earlier j l = go (outcome_from found 0 (length before)) refl
      where
        told : outcome ≡ outcome_from found 0 (length before)
        told = o ∙ interp-answers f g queries before checked

        go : (p : Outcome) → outcome_from found 0 (length before) ≡ p → PlacedAt found j
        go (Ok _) e = accepted-all found (length before) e j (omega arith)
        go (Err by) e =
            let w = refused-lowest found (length before) by.check by.query by.axis e in
            let own = found_number 0 g.axes (query_at (length before) queries by.query) by.check by.axis w.fails in
            let number : number_of outcome ≡ check_number by.check = ap number_of (told ∙ e) in
            let which : (number_of outcome ≡ 8) ⊎ (number_of outcome ≡ 9) = ⊎_elim (λ z. inl (number ∙ ap check_number z)) (λ z. inr (number ∙ ap check_number z)) own in
            let here : query_of outcome ≡ by.query = ap query_of (told ∙ e) in
            branch (ltb j by.query) refl w which here
          where
            branch : (t : Bool) → ltb j by.query ≡ t → Lowest found (length before) by.check by.query by.axis → (number_of outcome ≡ 8) ⊎ (number_of outcome ≡ 9) → query_of outcome ≡ by.query → PlacedAt found j
            branch true t w which here = w.before j (ltb-true j by.query t)
            branch false t w which here = absurd (not-Earlier which (let m = ltb-false j by.query t in omega arith))

  -- a query whose rows are those of a node has the number stored there in its entry
  in-batch : (queries before after : List Float) (outcome : Outcome) → outcome ≡ interp_outcome f g queries before → after ≡ interp_buffer f g queries before → IsAccepted g
      → (i : ℕ) (is : List ℕ) → i < length before → Reached outcome i
      → NodeCase f g is (query_at (length before) queries i) → T (eq (get_or after i nan) (stored g is))
  in-batch queries before after outcome o b taken i is h reached case =
      let ok = checked queries before after outcome o taken reached.0 in
      let placed = earlier queries before after outcome o taken reached.0 i h reached.1 in
      subst (λ (l : List Float). T (eq (get_or l i nan) (stored g is))) (sym b) (node-entry f g is queries before ok i h placed case)

  pub node-in-batch : (queries before after : List Float) (outcome : Outcome) → Typed f (at queries) → outcome ≡ interp_outcome f g queries before → after ≡ interp_buffer f g queries before → NodeInBatch premises g queries outcome before after
  node-in-batch queries before after outcome typed o b i node h q reached =
      in-batch queries before after outcome o b q.0 i node h reached (at-node (query_at (length before) queries i) (λ axis. typed _) node q)

  -- where the edges are held, a kind supplies the rows of a query at a node or past an end, too
  module _ (rows : (query : ℕ → Float) → Typed f query → IsAccepted g → premises → (is : List ℕ) → AtClamped 0 g.axes is query → AtEach 0 g.axes is query) where
    clamped : (query : ℕ → Float) → Typed f query → (index : List ℕ) → QueryClamped premises g index query → NodeCase f g index query
    clamped query typed index h = record { sized = kind.sized h.0; whole = h.2; held = kind.held; rows = rows query typed h.0 h.1 index h.3 }

    pub held-edge : (query : ℕ → Float) → Typed f query → (answer : Answer) → answer ≡ value_answer f g query → HeldEdge premises g query answer
    held-edge query typed answer e index h =
        let n = node-answer f g index query h.0 (clamped query typed index h) in
        (n.0, e ∙ n.1, n.2)

    pub held-in-batch : (queries before after : List Float) (outcome : Outcome) → Typed f (at queries) → outcome ≡ interp_outcome f g queries before → after ≡ interp_buffer f g queries before → HeldInBatch premises g queries outcome before after
    held-in-batch queries before after outcome typed o b i index h q reached =
        in-batch queries before after outcome o b q.0 i index h reached (clamped (query_at (length before) queries i) (λ axis. typed _) index q)

pub node_corollary : (f : Format) (premises : Type 0) (g g' : Grid) → Supplied f premises g → Supplied f premises g' → (query : ℕ → Float) → Typed f query → (answer answer' : Answer) → answer ≡ value_answer f g query → answer' ≡ value_answer f g' query
    → NodeCorollary premises g g' query answer answer'
node_corollary f premises g g' kind kind' query typed answer answer' e e' node h h' =
    let n = node_differs f g g' node query h.0 h'.0 (at-node f premises g kind query typed node h) (at-node f premises g' kind' query typed node h') in
    (n.0, n.1, e ∙ n.2, e' ∙ n.3, n.4)

-- in a batch: each entry is the number that its own table stores
pub corollary_in_batch : (f : Format) (premises : Type 0) (g g' : Grid) → Supplied f premises g → Supplied f premises g' → (queries before after before' after' : List Float) (outcome outcome' : Outcome) → Typed f (at queries)
    → outcome ≡ interp_outcome f g queries before → after ≡ interp_buffer f g queries before → outcome' ≡ interp_outcome f g' queries before' → after' ≡ interp_buffer f g' queries before'
    → CorollaryInBatch premises g g' queries outcome outcome' before after before' after'
corollary_in_batch f premises g g' kind kind' queries before after before' after' outcome outcome' typed o b o' b' len i node h q q' reached reached' =
    same_numbers (get_or after i nan) (get_or after' i nan) (stored g node) (stored g' node)
    (node-in-batch f premises g kind queries before after outcome typed o b i node h q reached)
    (node-in-batch f premises g' kind' queries before' after' outcome' typed o' b' i node (subst (λ (c : ℕ). i < c) len h)
    (subst (λ (c : ℕ). QueryAtNode premises g' node (query_at c queries i)) len q') reached')
