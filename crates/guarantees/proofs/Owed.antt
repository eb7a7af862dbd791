-- Two tables that answer as the definitions give have what is owed of them.
use mathlib.Core.Path.{◌≡◌}
use mathlib.Core.List.{List}
use Prim.Native.Nat.{ℕ}
use lib.Ieee.{Float, Format}
use Rattle.multicubic.specs.Types.{Answer, Outcome}
use Rattle.grid.specs.Query.{Grid, at, outcome_of, value_answer, gradient_answer}
use Rattle.grid.specs.Batch.{interp_outcome, interp_buffer, grad_buffer}
use Rattle.guarantees.specs.Statements.{AnswersOf, BuffersOf, OwedAlone, OwedInBatch}
use Rattle.guarantees.proofs.Typing.{Typed}
use Rattle.guarantees.proofs.Nodes.{Supplied, node-rule, node_corollary, node-in-batch, corollary_in_batch}
use Rattle.guarantees.proofs.Blocks.{Counted, block-rule, block-gradient, block-in-batch, block-in-columns}

pub owed_alone : {f : Format} {premises : Type 0} {g g' : Grid} {query : ℕ → Float} {answer answer' : Answer} {o o' : Outcome} {xs xs' : List Float}
    → Supplied f premises g → Supplied f premises g' → Typed f query
    → answer ≡ value_answer f g query → answer' ≡ value_answer f g' query
    → (o ≡ outcome_of g query) × (xs ≡ gradient_answer f g query) → (o' ≡ outcome_of g' query) × (xs' ≡ gradient_answer f g' query)
    → OwedAlone premises g g' query answer answer' o o' xs xs'
owed_alone {f} {premises} {g} {g'} {query} {answer} {answer'} {o} {o'} {xs} {xs'} kind kind' typed e e' d d' = record {
  node = node-rule f premises g kind query typed answer e;
  corollary = node_corollary f premises g g' kind kind' query typed answer answer' e e';
  block = block-rule f g g' query answer answer' e e';
  gradient-block = block-gradient f g g' query o o' xs xs' d.0 d.1 d'.0 d'.1;
}

pub owed_in_batch : {f : Format} {premises : Type 0} {g g' : Grid} {queries : List Float} {outcome outcome' : Outcome} {before after before' after' grad grad-after grad' grad-after' : List Float}
    → Supplied f premises g → Supplied f premises g' → Counted g → Typed f (at queries)
    → (outcome ≡ interp_outcome f g queries before) × (after ≡ interp_buffer f g queries before)
    → (outcome' ≡ interp_outcome f g' queries before') × (after' ≡ interp_buffer f g' queries before')
    → grad-after ≡ grad_buffer f g queries grad → grad-after' ≡ grad_buffer f g' queries grad'
    → OwedInBatch f premises g g' queries outcome outcome' before after before' after' grad grad-after grad' grad-after'
owed_in_batch {f} {premises} {g} {g'} {queries} {outcome} {outcome'} {before} {after} {before'} {after'} {grad} {grad-after} {grad'} {grad-after'} kind kind' counted typed e e' d d' = record {
  node = node-in-batch f premises g kind queries before after outcome typed e.0 e.1;
  corollary = corollary_in_batch f premises g g' kind kind' queries before after before' after' outcome outcome' typed e.0 e.1 e'.0 e'.1;
  block = block-in-batch f g g' queries before after before' after' e.1 e'.1;
  columns = block-in-columns f g g' queries grad grad-after grad' grad-after' counted d d';
}

-- beside it, of what the rules speak
pub promised_alone : {f : Format} {premises : Type 0} {g g' : Grid} {query : ℕ → Float} {answer answer' : Answer} {o o' : Outcome} {xs xs' : List Float}
    → Supplied f premises g → Supplied f premises g' → Typed f query → AnswersOf f g query answer o xs → AnswersOf f g' query answer' o' xs'
    → OwedAlone premises g g' query answer answer' o o' xs xs' × (AnswersOf f g query answer o xs × AnswersOf f g' query answer' o' xs')
promised_alone kind kind' typed e e' = (owed_alone kind kind' typed e.0 e'.0 (e.1, e.2) (e'.1, e'.2), (e, e'))

pub promised_in_batch : {f : Format} {premises : Type 0} {g g' : Grid} {queries : List Float} {outcome outcome' : Outcome} {before after before' after' grad grad-after grad' grad-after' : List Float}
    → Supplied f premises g → Supplied f premises g' → Counted g → Typed f (at queries)
    → outcome ≡ interp_outcome f g queries before → BuffersOf f g queries before after grad grad-after
    → outcome' ≡ interp_outcome f g' queries before' → BuffersOf f g' queries before' after' grad' grad-after'
    → OwedInBatch f premises g g' queries outcome outcome' before after before' after' grad grad-after grad' grad-after'
    × ((outcome ≡ interp_outcome f g queries before) × ((outcome' ≡ interp_outcome f g' queries before')
    × (BuffersOf f g queries before after grad grad-after × BuffersOf f g' queries before' after' grad' grad-after')))
promised_in_batch kind kind' counted typed o e o' e' = (owed_in_batch kind kind' counted typed (o, e.0) (o', e'.0) e.1 e'.1, (o, (o', (e, e'))))
