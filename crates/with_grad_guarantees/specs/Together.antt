-- What is guaranteed of `interp_one_with_grad` beside the statements of `guarantees`, over a grid of either kind and any format. Its answer serves
-- both: the outcome of the gradient is that of the value.
use Rattle.std.specs.Prelude.{ℕ, ◌≡◌, List, Float}
use Rattle.std.specs.Float.{Format}
use Rattle.multicubic.specs.Types.{Answer, Outcome}
use Rattle.multicubic.specs.declared.Marks.{Marks}
use Rattle.multicubic.specs.Answers.{answer_outcome}
use Rattle.multicubic.specs.Place.{Placed}
use Rattle.grid.specs.Query.{Grid, mark_answer}
use Rattle.shared_sums.specs.Sums.{sums_of, sums_answer}
use Rattle.guarantees.specs.Statements.{SameOnBlock, AnswersOf}

-- 8.5: under the premises of the block rule both tables take the same number of sums
abbrev pub BlockSums : Grid → Grid → (ℕ → Float) → ℕ → ℕ → Type 0
BlockSums g g' query sums sums' = (ps : List Placed) → SameOnBlock g g' query ps → sums ≡ sums'

-- of what the rules speak: the answer is that of `interp_one_with_grad`
pub record TogetherOf (f : Format) (g : Grid) (query : ℕ → Float) (answer : Answer) (gradient : List Float) (marks : List Marks) (sums : ℕ) : Type 0 where
  pub answers : AnswersOf f g query answer (answer_outcome answer) gradient
  pub marks-are : marks ≡ mark_answer g query
  pub sums-are : sums ≡ sums_answer g query

-- 6.3: asked together, a query has the value or the refusal of `interp_one`, the outcome and the gradient of `interp_one_grad`, and the marks of both;
-- the logic has one NaN. 6.4: for n axes its number of sums follows from the answer.
pub record AsApart (n : ℕ) (answer value : Answer) (outcome : Outcome) (gradient components : List Float) (marks value-marks gradient-marks : List Marks) (sums : ℕ) : Type 0 where
  pub same_answer : answer ≡ value
  pub same_outcome : answer_outcome answer ≡ outcome
  pub same-gradient : gradient ≡ components
  pub same_marks : (marks ≡ value-marks) × (marks ≡ gradient-marks)
  pub number : sums ≡ sums_of (answer_outcome answer) n
