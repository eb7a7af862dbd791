-- Answers that are those of `interp_one_with_grad` have what is owed of them.
use mathlib.Core.Path.{◌≡◌, sym, ap, ◌∙◌}
use mathlib.Core.List.{List}
use Prim.Native.Nat.{ℕ}
use lib.Ieee.{Float, Format}
use Rattle.multicubic.specs.Types.{Answer, Outcome}
use Rattle.multicubic.specs.declared.Marks.{Marks}
use Rattle.multicubic.specs.Answers.{answer_outcome}
use Rattle.multicubic.specs.Grid.{◌then◌}
use Rattle.multicubic.specs.Place.{Placed}
use Rattle.multicubic.proofs.Said.{outcome_of_lem}
use Rattle.grid.specs.Query.{GridAxis, Grid, places, find, found_outcome, outcome_of, value_answer, gradient_answer, mark_answer}
use Rattle.grid.specs.Edges.{AtClamped}
use Rattle.grid.proofs.AtNodes.{AtEach}
use Rattle.shared_sums.specs.Sums.{steps_of, sums_of, sums_answer}
use Rattle.guarantees.specs.Marked.{UnmarkedAtNode}
use Rattle.guarantees.specs.Statements.{IsAccepted, HeldEdge, OwedAlone}
use Rattle.guarantees.proofs.Typing.{Typed}
use Rattle.guarantees.proofs.Nodes.{Supplied, held-edge}
use Rattle.guarantees.proofs.Owed.{promised_alone}
use Rattle.with_grad_guarantees.specs.Together.{BlockSums, TogetherOf, AsApart}

-- its first four clauses
abbrev Clauses : Format → Grid → (ℕ → Float) → Answer → List Float → List Marks → ℕ → Type 0
Clauses f g query answer gradient marks sums =
    (answer ≡ value_answer f g query) × (gradient ≡ gradient_answer f g query) × (marks ≡ mark_answer g query) × (sums ≡ sums_answer g query)

together : {f : Format} {g : Grid} {query : ℕ → Float} {answer : Answer} {gradient : List Float} {marks : List Marks} {sums : ℕ}
    → Clauses f g query answer gradient marks sums → TogetherOf f g query answer gradient marks sums
together {f} {g} {query} e = record {
  answers = (e.0, ap answer_outcome e.0 ∙ outcome_of_lem (outcome_of g query) _, e.1);
  marks-are = e.2;
  sums-are = e.3;
}

-- ---- two tables
sums_found : (g : Grid) (query : ℕ → Float) (ps : List Placed) → IsAccepted g → find 0 g.axes query ≡ places ps → sums_answer g query ≡ steps_of g.axis-count
sums_found g query ps taken found = λ i. sums_of (taken i then found_outcome 0 (found i)) g.axis-count

block_sums : (g g' : Grid) (query : ℕ → Float) (sums sums' : ℕ) → sums ≡ sums_answer g query → sums' ≡ sums_answer g' query → BlockSums g g' query sums sums'
block_sums g g' query sums sums' e e' ps s =
    let found : find 0 g'.axes query ≡ places ps = ap (λ (gs : List GridAxis). find 0 gs query) (sym s.3) ∙ s.4 in
    e ∙ sums_found g query ps s.0 s.4 ∙ ap steps_of s.2 ∙ sym (e' ∙ sums_found g' query ps s.1 found)

pub two-together : {f : Format} {premises : Type 0} {g g' : Grid} {query : ℕ → Float} {answer answer' : Answer}
    {xs xs' : List Float} {marks marks' : List Marks} {sums sums' : ℕ}
    → Supplied f premises g → Supplied f premises g' → Typed f query
    → Clauses f g query answer xs marks sums → Clauses f g' query answer' xs' marks' sums'
    → OwedAlone premises g g' query answer answer' (answer_outcome answer) (answer_outcome answer') xs xs'
    × (BlockSums g g' query sums sums' × (TogetherOf f g query answer xs marks sums × TogetherOf f g' query answer' xs' marks' sums'))
two-together {f} {premises} {g} {g'} {query} {answer} {answer'} {xs} {xs'} {marks} {marks'} {sums} {sums'} kind kind' typed e e' =
    let own : TogetherOf f g query answer xs marks sums = together e in
    let other : TogetherOf f g' query answer' xs' marks' sums' = together e' in
    ((promised_alone kind kind' typed own.answers other.answers).0, (block_sums g g' query sums sums' e.3 e'.3, (own, other)))

-- ---- one table
module _ {f : Format} {premises : Type 0} {g : Grid} {query : ℕ → Float} {answer : Answer} {gradient : List Float} {marks : List Marks} {sums : ℕ} where
  pub held-together : Supplied f premises g
      → ((query : ℕ → Float) → Typed f query → IsAccepted g → premises → (is : List ℕ) → AtClamped 0 g.axes is query → AtEach 0 g.axes is query)
      → Typed f query → Clauses f g query answer gradient marks sums → HeldEdge premises g query answer × TogetherOf f g query answer gradient marks sums
  held-together kind rows typed e = (held-edge f premises g kind rows query typed answer e.0, together e)

  pub unmarked-together : UnmarkedAtNode premises g query (mark_answer g query)
      → Clauses f g query answer gradient marks sums → UnmarkedAtNode premises g query marks × TogetherOf f g query answer gradient marks sums
  unmarked-together unmarked e = (λ node taken within here. e.2 ∙ unmarked node taken within here, together e)

-- ---- together and apart
pub as_apart : {f : Format} {g : Grid} {query : ℕ → Float} {answer value : Answer} {outcome : Outcome}
    {gradient components : List Float} {marks value-marks gradient-marks : List Marks} {sums : ℕ}
    → Clauses f g query answer gradient marks sums
    → (value ≡ value_answer f g query) × (value-marks ≡ mark_answer g query)
    → (outcome ≡ outcome_of g query) × (components ≡ gradient_answer f g query) × (gradient-marks ≡ mark_answer g query)
    → AsApart g.axis-count answer value outcome gradient components marks value-marks gradient-marks sums × TogetherOf f g query answer gradient marks sums
as_apart {f} {g} {query} {answer} {value} {outcome} {gradient} {components} {marks} {value-marks} {gradient-marks} {sums} e v d =
    let own : TogetherOf f g query answer gradient marks sums = together e in
    let told : answer_outcome answer ≡ outcome_of g query = own.answers.1 in (
      record {
        same_answer = e.0 ∙ sym v.0;
        same_outcome = told ∙ sym d.0;
        same-gradient = e.1 ∙ sym d.1;
        same_marks = (e.2 ∙ sym v.1, e.2 ∙ sym d.2);
        number = e.3 ∙ ap (λ (o : Outcome). sums_of o g.axis-count) (sym told);
      },
      own,
    )
