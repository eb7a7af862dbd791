-- What internal functions tell each other; none of it need be believed, since no entry point's contract mentions it.
use Rattle.std.specs.Prelude.{ℕ, ◌≤◌, ◌<◌, ◌≡◌, List, [], ◌∷◌, get_or, take, Float}
use Rattle.std.specs.Float.{nan, Format}
use Rattle.ieee.specs.Numbers.{zero}
use Rattle.multicubic.specs.Types.{Answer, Outcome}
use Rattle.multicubic.specs.declared.Marks.{Marks}
use Rattle.multicubic.specs.Answers.{answered}
use Rattle.multicubic.specs.Internal.{four_unmarked}
use Rattle.reduction.specs.Value.{reduce_of}
use Rattle.reduction.specs.Gradient.{component_of}
use Rattle.grid.specs.declared.Quantity.TheVariants.{Value}
use Rattle.grid.specs.Query.{GridAxis, find, found_outcome, marks_beside}
use Rattle.grid.specs.Internal.{answer_to, gradient_to}
use Rattle.shared_sums.specs.Sums.{sums_of}

-- over the first k axes a block v is reduced to value, and to the components of these axes; past them +0
pub record Reduced (f : Format) (k : ℕ) (ws ds : List (List Float)) (v : List ℕ → Float) (value : Float) (gradient : List Float) : Type 0 where
  pub value-is : value ≡ reduce_of f (take k ws) v
  pub component-is : (d : ℕ) → d < k → get_or gradient d nan ≡ component_of f (take k ws) d (get_or ds d []) v
  pub past : (d : ℕ) → k ≤ d → d < 4 → get_or gradient d nan ≡ zero

-- what a refusal answers
abbrev pub RefusedBy : Outcome → Answer → List Float → List Marks → ℕ → Type 0
RefusedBy outcome answer gradient marks taken =
    (answer ≡ answered outcome zero) × (gradient ≡ zero ∷ zero ∷ zero ∷ zero ∷ []) × (marks ≡ four_unmarked) × (taken ≡ 0)

-- what is answered to a query, by the n axes alone
abbrev pub BothTo : Format → ℕ → List GridAxis → List Float → (ℕ → Float) → Answer → List Float → List Marks → ℕ → Type 0
BothTo f n gs vals query answer gradient marks taken =
    (answer ≡ answer_to f gs vals Value 0 (find 0 gs query))
    × (gradient ≡ gradient_to f gs vals (find 0 gs query))
    × (marks ≡ marks_beside (found_outcome 0 (find 0 gs query)) gs query)
    × (taken ≡ sums_of (found_outcome 0 (find 0 gs query)) n)
