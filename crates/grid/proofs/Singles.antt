-- Single answers: a single query is the only one of its batch, and its gradient is asked component by component.
use mathlib.Core.Path.{◌≡◌, refl, sym, ap, ◌∙◌}
use mathlib.Core.List.{List, []}
use Prim.Native.Nat.{ℕ, ◌+◌, ◌*◌, ◌<◌}
use native.Mathlib.Numerals.{add-one}
use native.Mathlib.Omega.{arith}
use lib.ListN.{length, get_or, take, set, length-set}
use lib.Seq.{length-take-le, take_all, take-suc}
use lib.Ieee.{Float, nan, Format}
use Rattle.multicubic.specs.declared.Refusal.{Refusal}
use Rattle.ieee.specs.Numbers.{zero as nought}
use Rattle.multicubic.specs.Types.{Answer, Outcome, accepted, refusal}
use Rattle.std.specs.Prelude.{Err, Ok}
use Rattle.multicubic.specs.Answers.{Says, answer_outcome, value_in, answered}
use Rattle.multicubic.specs.Place.{Placed}
use Rattle.multicubic.proofs.Said.{answer-says}
use Rattle.grid.specs.declared.Quantity.TheVariants.{Value, Component}
use Rattle.grid.specs.Query.{GridAxis, counts_of, Grid, grid_counts, Found, places, find, at, found_value, found_components, four_of, found_outcome, outcome_of, value_carried, value_answer, gradient_answer}
use Rattle.grid.specs.Batch.{found_at}
use Rattle.grid.specs.Internal.{answer_to, gradient_to}
use Rattle.grid.proofs.Answering.{answer-refused, answer-value}
use Rattle.grid.proofs.Batches.{found_length, components-length}
use Rattle.grid.proofs.Fit.{Fit}
use Rattle.grid.proofs.Locating.{put_four}

-- the only query of its batch
pub found_single : (gs : List GridAxis) (x : List Float) → found_at gs 1 x 0 ≡ find 0 gs (at x)
found_single gs x = ap (find 0 gs) (λ i axis. get_or x (here axis i) nan)
  where
    here : (axis : ℕ) → axis * 1 + 0 ≡ axis
    here axis = omega arith

-- ---- the value
module _ (f : Format) (g : Grid) (x : List Float) where
  pub value-refused : (checked : Outcome) (v : Float) {by : Refusal} → checked ≡ g.checked → checked ≡ Err by → answered checked v ≡ value_answer f g (at x)
  value-refused checked v {by} e r = let t : g.checked ≡ Err by = sym e ∙ r in rw (r, t) refl

  pub value-single : g.checked ≡ accepted → answer_to f g.axes g.vals Value 0 (found_at g.axes 1 x 0) ≡ value_answer f g (at x)
  value-single e = rw e (ap (answer_to f g.axes g.vals Value 0) (found_single g.axes x))

  -- an answer that is so says it
  pub value-says : {answer : Answer} → answer ≡ value_answer f g (at x)
      → (answer ≡ value_answer f g (at x)) × (Says (answer_outcome answer) (outcome_of g (at x)) × (value_in answer ≡ value_carried f g (at x)))
  value-says e = answer-says (outcome_of g (at x)) (found_value f (grid_counts g) g.vals (find 0 g.axes (at x))) e

  -- ---- the gradient, from what the axes give
  pub gradient-refused : (by : Refusal) → g.checked ≡ Err by → (g.checked ≡ outcome_of g (at x)) × (four_of (Err by) nought [] ≡ gradient_answer f g (at x))
  gradient-refused by e = (rw e refl, rw e refl)

  pub gradient-single : (o : Outcome) (gradient : List Float) → g.checked ≡ accepted → o ≡ found_outcome 0 (find 0 g.axes (at x)) → gradient ≡ gradient_to f g.axes g.vals (find 0 g.axes (at x)) → (o ≡ outcome_of g (at x)) × (gradient ≡ gradient_answer f g (at x))
  gradient-single o gradient e h k = (rw e h, rw e k)

-- ---- component by component: the first d of them, and that there are any
pub record Grading (f : Format) (gs : List GridAxis) (vals x : List Float) (d : ℕ) (gradient : List Float) : Type 0 where
  pub known : 0 < d → (ps : List Placed) × (find 0 gs (at x) ≡ places ps)
  pub four : length gradient ≡ 4
  pub gradient-is : gradient ≡ four_of accepted nought (take d (found_components f (counts_of gs) vals (find 0 gs (at x))))

pub grading_none : (f : Format) (gs : List GridAxis) (vals x gradient : List Float) → gradient ≡ four_of accepted nought [] → Grading f gs vals x 0 gradient
grading_none f gs vals x gradient e = record { known = λ h. absurd (omega arith); four = ap length e; gradient-is = e }

module _ {n : ℕ} {f : Format} {gs : List GridAxis} {values : ℕ} {vals x : List Float} {d : ℕ} {gradient : List Float} (fit : Fit n gs values) (s : Grading f gs vals x d gradient) where
  abbrev components : List Float
  components = found_components f (counts_of gs) vals (find 0 gs (at x))

  many : (ps : List Placed) → find 0 gs (at x) ≡ places ps → length components ≡ n
  many ps e = rw e (components-length f (counts_of gs) vals ps 0 ps ∙ found_length 0 gs (at x) ps e) ∙ fit.counted

  pub grading-done : d ≡ n → (accepted ≡ found_outcome 0 (find 0 gs (at x))) × (gradient ≡ gradient_to f gs vals (find 0 gs (at x)))
  grading-done z =
      let some = fit.some in
      let p = s.known (omega arith) in
      let all = s.gradient-is ∙ ap (four_of accepted nought) (take_all d components (omega (arith, many p.0 p.1))) in
      (rw p.1 refl, all ∙ rw p.1 refl)

  module _ (h : d < n) {answer : Answer} (a : answer ≡ answer_to f gs vals (Component d) 0 (found_at gs 1 x 0)) where
    single : answer ≡ answer_to f gs vals (Component d) 0 (find 0 gs (at x))
    single = a ∙ ap (answer_to f gs vals (Component d) 0) (found_single gs x)

    pub grading-refused : {by : Refusal} → answer ≡ Err by → (answer_outcome answer ≡ found_outcome 0 (find 0 gs (at x))) × (four_of (Err by) nought [] ≡ gradient_to f gs vals (find 0 gs (at x)))
    grading-refused {by} e =
        let w = answer-refused f gs vals (Component d) 0 (find 0 gs (at x)) by (sym e ∙ single) in
        (ap answer_outcome e ∙ ap Err w.1 ∙ rw w.0 refl, rw w.0 refl)

    pub grading-turn : {v : Float} → answer ≡ Ok v → Grading f gs vals x (d + 1) (set gradient d v)
    grading-turn {v} e =
        let few = fit.few in
        let w = answer-value f gs vals (Component d) 0 (find 0 gs (at x)) v (sym e ∙ single) in
        let m = many w.0 w.1 in
        let own : v ≡ get_or components d nought = w.2 ∙ sym (ap (λ (r : Found). get_or (found_components f (counts_of gs) vals r) d nought) w.1) in
        let k : d < length components = omega arith in
        record {
          known = λ z. (w.0, w.1);
          four = length-set gradient d v ∙ s.four;
          gradient-is = rw (s.gradient-is, own) (put_four nought (take d components) (get_or components d nought) d (length-take-le d components (omega arith)) (omega arith) ∙ rw (add-one, take-suc components d nought k) refl);
        }
