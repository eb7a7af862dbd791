-- Two gathered grids that have what their kind supplies have what is owed: the laws of `guarantees` hold of the grids as they are lent, and
-- a caller reads what was answered.
use mathlib.Core.Path.{refl, sym, ap, ◌∙◌}
use mathlib.Core.List.{List}
use Prim.Native.Nat.{ℕ, min}
use lib.ListN.{length, take}
use lib.Ieee.{Float, Format}
use Rattle.grid.specs.Query.{Grid, at, outcome_of, value_answer, gradient_answer}
use Rattle.grid.specs.Batch.{interp_outcome, interp_buffer, grad_buffer}
use Rattle.grid.specs.Edges.{AtClamped}
use Rattle.grid.specs.Nodes.{Fits}
use Rattle.grid.proofs.AtNodes.{AtEach}
use Rattle.guarantees.specs.Statements.{IsAccepted, HeldEdge, HeldInBatch, BlockGradient}
use Rattle.guarantees.proofs.Typing.{Typed, typed}
use Rattle.guarantees.proofs.Nodes.{Supplied, node-rule, node_corollary, node-in-batch, corollary_in_batch, held-edge, held-in-batch}
use Rattle.guarantees.proofs.Blocks.{Counted, block-rule, block-gradient, block-in-batch, block-in-columns}
use Rattle.shared_sums.specs.Sums.{steps_of}
use Rattle.slices.specs.Slices.{query_from}
use Rattle.slices.specs.Lent.{Gathered, lent_to, lent_to_query}
use Rattle.told.specs.Told.{Leaves}
use Rattle.capi.specs.Calls.{interp_one_leaves, interp_one_grad_leaves, interp_one_with_grad_leaves, interp_leaves, interp_grad_leaves}
use Rattle.capi_guarantees.specs.Statements.{outcome_read, answer_read, OfValue, OfGradient, LeavesBoth, value_part, gradient_part, OfBoth, OfBatch, OfColumns, lent_to_both, Owed, OwedHeld}
use Rattle.capi_guarantees.proofs.Typing.{query-typed}
use Rattle.capi_guarantees.proofs.Lent.{accepted-to, supplied-to, counted-to, refusal-holds, accepted-query, supplied-to-query, counted-to-query}
use Rattle.capi_guarantees.proofs.Read.{ReadsValue, ReadsGradient, value_read, gradient-read, both-value-read, both-gradient-read, sums-read, reached-read}

-- in the same block both have a gradient, the same
on_block : (f : Format) (g g' : Grid) (query : ℕ → Float) → BlockGradient g g' query (outcome_of g query) (outcome_of g' query) (gradient_answer f g query) (gradient_answer f g' query)
on_block f g g' query = block-gradient f g g' query _ _ _ _ refl refl refl refl

-- of any two grids and what a single call leaves on them, where its value or its gradient can be read
module _ (f : Format) (premises : Type 0) (g g' : Grid) (query : ℕ → Float) (left left' : Leaves (List Float × List ℕ)) where
  value-owed : Supplied f premises g → Supplied f premises g' → Typed f query → ReadsValue f g query left → ReadsValue f g' query left' → OfValue premises g g' query left left'
  value-owed supplied supplied' fits read read' = record {
    node = λ node h. let r = node-rule f premises g supplied query fits (value_answer f g query) refl node h in (r.0, read r.0 h.0 r.1, r.2);
    corollary = λ node h h'.
        let r = node_corollary f premises g g' supplied supplied' query fits (value_answer f g query) (value_answer f g' query) refl refl node h h' in
        (r.0, r.1, read r.0 h.0 r.2, read' r.1 h'.0 r.3, r.4);
    block = λ ps h.
        let r = block-rule f g g' query (value_answer f g query) (value_answer f g' query) refl refl ps h in
        (r.0, read r.0 h.0 r.1, read' r.0 h.1 r.2);
  }

  gradient-owed : Counted g → Counted g' → ReadsGradient f g query left → ReadsGradient f g' query left' → OfGradient g g' query left left'
  gradient-owed counted counted' reads reads' ps h =
      let r = on_block f g g' query ps h in
      let read = reads (counted h.0).1 h.0 r.0 in
      let read' = reads' (counted' h.1).1 h.1 r.1 in
      (read.0, read'.0, read.1 ∙ (λ i. take (h.2 i) (r.2 i)) ∙ sym read'.1)

module _ (f : Format) (premises : Type 0) (s s' : Gathered) where
  module _ (x : List Float) (refusal refusal' marks marks' : List ℕ) where
    abbrev query : ℕ → Float
    query = at (query_from x)

    of-value : (out out' : List Float) → Supplied f premises s.grid → Supplied f premises s'.grid → Fits f x
        → OfValue premises
        (lent_to_query s (length x) (length refusal) (length out) 1 (length marks)) (lent_to_query s' (length x) (length refusal') (length out') 1 (length marks'))
        query (interp_one_leaves f s x refusal out marks) (interp_one_leaves f s' x refusal' out' marks')
    of-value out out' kind kind' fit =
        value-owed f premises _ _ query (interp_one_leaves f s x refusal out marks) (interp_one_leaves f s' x refusal' out' marks')
        (supplied-to-query s (length x) (length refusal) (length out) 1 (length marks) kind) (supplied-to-query s' (length x) (length refusal') (length out') 1 (length marks') kind')
        (query-typed f x fit) (value_read f s x refusal marks out) (value_read f s' x refusal' marks' out')

    of-gradient : (out out' : List Float) → Counted s.grid → Counted s'.grid
        → OfGradient
        (lent_to_query s (length x) (length refusal) (length out) s.grid.axis-count (length marks))
        (lent_to_query s' (length x) (length refusal') (length out') s'.grid.axis-count (length marks'))
        query (interp_one_grad_leaves f s x refusal out marks) (interp_one_grad_leaves f s' x refusal' out' marks')
    of-gradient out out' counted counted' =
        gradient-owed f premises _ _ query (interp_one_grad_leaves f s x refusal out marks) (interp_one_grad_leaves f s' x refusal' out' marks')
        (counted-to-query s (length x) (length refusal) (length out) s.grid.axis-count (length marks) counted)
        (counted-to-query s' (length x) (length refusal') (length out') s'.grid.axis-count (length marks') counted')
        (gradient-read f s x refusal marks out) (gradient-read f s' x refusal' marks' out')

    module _ (value value' gradient gradient' : List Float) (sums sums' : List ℕ) where
      abbrev both : Grid
      both = lent_to_both s x refusal value gradient marks sums

      abbrev both' : Grid
      both' = lent_to_both s' x refusal' value' gradient' marks' sums'

      abbrev left : LeavesBoth
      left = interp_one_with_grad_leaves f s x refusal value gradient marks sums

      abbrev left' : LeavesBoth
      left' = interp_one_with_grad_leaves f s' x refusal' value' gradient' marks' sums'

      of-both : Supplied f premises s.grid → Supplied f premises s'.grid → Counted s.grid → Counted s'.grid → Fits f x → OfBoth premises both both' query left left'
      of-both kind kind' counted counted' fit = record {
        value = value-owed f premises both both' query (value_part left) (value_part left')
            (supplied-to-query s (length x) (length refusal) (min (length value) (length sums)) 1 (min (length gradient) (length marks)) kind)
            (supplied-to-query s' (length x) (length refusal') (min (length value') (length sums')) 1 (min (length gradient') (length marks')) kind')
            (query-typed f x fit) (both-value-read f s x refusal marks value gradient sums) (both-value-read f s' x refusal' marks' value' gradient' sums');
        gradient = gradient-owed f premises both both' query (gradient_part left) (gradient_part left')
            (counted-to-query s (length x) (length refusal) (min (length value) (length sums)) 1 (min (length gradient) (length marks)) counted)
            (counted-to-query s' (length x) (length refusal') (min (length value') (length sums')) 1 (min (length gradient') (length marks')) counted')
            (both-gradient-read f s x refusal marks value gradient sums) (both-gradient-read f s' x refusal' marks' value' gradient' sums');
        sums = λ ps h.
            let r = on_block f both both' query ps h in
            sums-read f s x refusal marks value gradient sums h.0 r.0 ∙ ap steps_of h.2 ∙ sym (sums-read f s' x refusal' marks' value' gradient' sums' h.1 r.1);
      }

  module _ (queries out out' : List Float) (refusal refusal' : List ℕ) where
    abbrev many : Grid
    many = lent_to s (length refusal)

    abbrev many' : Grid
    many' = lent_to s' (length refusal')

    of-batch : Supplied f premises s.grid → Supplied f premises s'.grid → Fits f queries → OfBatch f premises many many' queries out out' (interp_leaves f s queries refusal out) (interp_leaves f s' queries refusal' out')
    unfolding interp_leaves
    of-batch kind kind' fit =
        let o = interp_outcome f many queries out in
        let o' = interp_outcome f many' queries out' in
        let after = interp_buffer f many queries out in
        let after' = interp_buffer f many' queries out' in
        let supplied = supplied-to s (length refusal) kind in
        let fits = typed f queries fit in
        record {
          node = λ i node l h reached.
              node-in-batch f premises many supplied queries out after o fits refl refl i node l h (reached-read refusal after o i (refusal-holds s (length refusal) h.0) reached);
          corollary = λ same i node l h h' reached reached'.
              corollary_in_batch f premises many many' supplied (supplied-to s' (length refusal') kind') queries out after out' after' o o' fits refl refl refl refl same i node l h h'
              (reached-read refusal after o i (refusal-holds s (length refusal) h.0) reached) (reached-read refusal' after' o' i (refusal-holds s' (length refusal') h'.0) reached');
          block = block-in-batch f many many' queries out after out' after' refl refl;
        }

    of-columns : Counted s.grid → OfColumns f many many' queries out out' (interp_grad_leaves f s queries refusal out) (interp_grad_leaves f s' queries refusal' out')
    unfolding interp_grad_leaves
    of-columns counted =
        block-in-columns f many many' queries out (grad_buffer f many queries out) out' (grad_buffer f many' queries out') (counted-to s (length refusal) counted) refl refl

  pub owed : Supplied f premises s.grid → Supplied f premises s'.grid → Counted s.grid → Counted s'.grid → Owed f premises s s'
  owed kind kind' counted counted' = record {
    value = λ x out out' refusal refusal' marks marks'. of-value x refusal refusal' marks marks' out out' kind kind';
    gradient = λ x out out' refusal refusal' marks marks'. of-gradient x refusal refusal' marks marks' out out' counted counted';
    both = λ x value value' gradient gradient' refusal refusal' marks marks' sums sums'.
        of-both x refusal refusal' marks marks' value value' gradient gradient' sums sums' kind kind' counted counted';
    batch = λ queries out out' refusal refusal'. of-batch queries out out' refusal refusal' kind kind';
    columns = λ queries out out' refusal refusal'. of-columns queries out out' refusal refusal' counted;
  }

-- of one table that holds its edges, where the kind supplies the rows of a query past an end
module _ (f : Format) (premises : Type 0) (s : Gathered) (kind : Supplied f premises s.grid) (rows : (query : ℕ → Float) → Typed f query → IsAccepted s.grid → premises → (is : List ℕ) → AtClamped 0 s.grid.axes is query → AtEach 0 s.grid.axes is query) where
  held-single : (x : List Float) (refusal room need marks : ℕ) (left : Leaves (List Float × List ℕ)) → Fits f x
      → ReadsValue f (lent_to_query s (length x) refusal room need marks) (at (query_from x)) left
      → HeldEdge premises (lent_to_query s (length x) refusal room need marks) (at (query_from x)) (answer_read left)
  held-single x refusal room need marks left fit read index h =
      let one = lent_to_query s (length x) refusal room need marks in
      let r = held-edge f premises one (supplied-to-query s (length x) refusal room need marks kind)
      (λ query typed e. rows query typed (accepted-query s (length x) refusal room need marks e))
      (at (query_from x)) (query-typed f x fit) (value_answer f one (at (query_from x))) refl index h in
      (r.0, read r.0 h.0 r.1, r.2)

  held-value : (x out : List Float) (refusal marks : List ℕ) → Fits f x
      → HeldEdge premises (lent_to_query s (length x) (length refusal) (length out) 1 (length marks)) (at (query_from x))
      (answer_read (interp_one_leaves f s x refusal out marks))
  held-value x out refusal marks fit =
      held-single x (length refusal) (length out) 1 (length marks) (interp_one_leaves f s x refusal out marks) fit (value_read f s x refusal marks out)

  held_both : (x value gradient : List Float) (refusal marks sums : List ℕ) → Fits f x
      → HeldEdge premises (lent_to_both s x refusal value gradient marks sums) (at (query_from x))
      (answer_read (value_part (interp_one_with_grad_leaves f s x refusal value gradient marks sums)))
  held_both x value gradient refusal marks sums fit =
      held-single x (length refusal) (min (length value) (length sums)) 1 (min (length gradient) (length marks))
      (value_part (interp_one_with_grad_leaves f s x refusal value gradient marks sums)) fit (both-value-read f s x refusal marks value gradient sums)

  held-batch : (queries out : List Float) (refusal : List ℕ) → Fits f queries
      → HeldInBatch premises (lent_to s (length refusal)) queries (outcome_read (interp_leaves f s queries refusal out)) out (interp_leaves f s queries refusal out).written
  unfolding interp_leaves
  held-batch queries out refusal fit i index l h reached =
      let many = lent_to s (length refusal) in
      let o = interp_outcome f many queries out in
      let after = interp_buffer f many queries out in
      held-in-batch f premises many (supplied-to s (length refusal) kind) (λ query typed e. rows query typed (accepted-to s (length refusal) e)) queries out after o (typed f queries fit) refl refl i index l h
      (reached-read refusal after o i (refusal-holds s (length refusal) h.0) reached)

  pub owed_held : OwedHeld f premises s
  owed_held = record { value = held-value; both = held_both; batch = held-batch }
