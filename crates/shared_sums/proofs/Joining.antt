-- One axis more, of the value and of every component, the number of axes a parameter; and the number of steps.
use mathlib.Core.Path.{◌≡◌, refl, sym, ap, ◌∙◌, subst}
use mathlib.Core.List.{List, [], ◌∷◌}
use Prim.Native.Nat.{ℕ, zero, suc, ◌+◌, ◌≤◌, ◌<◌}
use mathlib.Core.Logic.{◌≢◌, ⊎_elim}
use native.Mathlib.Nat.{eq-or-lt_of_le}
use native.Mathlib.Omega.{arith}
use lib.ListN.{length, get_or, take, set, length-set}
use lib.Seq.{take-set-lt, take-set-le, get_or-set_same, get_or-set_other}
use lib.Ieee.{Float, nan, Format}
use Rattle.ieee.specs.Numbers.{zero as nought}
use Rattle.interp_math.specs.Dot.{dot4}
use Rattle.reduction.specs.Value.{four, reduce_of}
use Rattle.reduction.specs.Gradient.{component_of}
use Rattle.reduction.specs.Internal.{from, Along}
use Rattle.reduction.proofs.Reduction.{reduce-step, leaf}
use Rattle.shared_sums.specs.Sums.{steps_of}
use Rattle.shared_sums.specs.Internal.{Reduced}

pub steps_are : (steps_of 1 ≡ 2) × (steps_of 2 ≡ 11) × (steps_of 3 ≡ 48) × (steps_of 4 ≡ 197)
steps_are = (refl, refl, refl, refl)

-- is: the indices along axis k
module _ (f : Format) (vals : List Float) (w : List (List Float)) (ss : List ℕ) (k base : ℕ) (kw : k < length w) (ks : k < length ss) (is : List ℕ) (along : Along base (get_or ss k 0) is) where
  -- the values of the four parts, and the component of axis d of each, which enters by row
  abbrev values : List Float
  values = four (λ j. reduce_of f (take k w) (from vals ss (get_or is j 0)))

  abbrev components : ℕ → List Float → List Float
  components d row = four (λ j. component_of f (take k w) d row (from vals ss (get_or is j 0)))

  -- `reduce-step` where axis d enters by row
  replaced : (d : ℕ) (row : List Float) → d ≤ k
      → component_of f (take (suc k) w) d row (from vals ss base) ≡ dot4 f (get_or (set w d row) k []) (four (λ j. reduce_of f (take k (set w d row)) (from vals ss (get_or is j 0))))
  replaced d row h =
      ap (λ (ws : List (List Float)). reduce_of f ws (from vals ss base)) (sym (take-set-lt (suc k) w d row (omega arith)))
      ∙ reduce-step f vals (set w d row) ss k base (omega (arith, length-set w d row)) ks is along

  -- a component of an axis before k: the sum over axis k, by its weights, of that component of the four parts
  pub component-below : (d : ℕ) (row : List Float) → d < k → component_of f (take (suc k) w) d row (from vals ss base) ≡ dot4 f (get_or w k []) (components d row)
  component-below d row h =
      replaced d row (omega arith)
      ∙ ap (λ (r : List Float). dot4 f r (four (λ j. reduce_of f (take k (set w d row)) (from vals ss (get_or is j 0))))) (get_or-set_other w d k row [] (λ e. omega arith))
      ∙ ap (λ (ws : List (List Float)). dot4 f (get_or w k []) (four (λ j. reduce_of f ws (from vals ss (get_or is j 0))))) (take-set-lt k w d row h)

  -- the component of axis k: the sum over it, by its derivative weights, of the values of the four parts
  pub component-here : (row : List Float) → component_of f (take (suc k) w) k row (from vals ss base) ≡ dot4 f row values
  component-here row =
      replaced k row (omega arith)
      ∙ ap (λ (r : List Float). dot4 f r (four (λ j. reduce_of f (take k (set w k row)) (from vals ss (get_or is j 0))))) (get_or-set_same w k row [] kw)
      ∙ ap (λ (ws : List (List Float)). dot4 f row (four (λ j. reduce_of f ws (from vals ss (get_or is j 0))))) (take-set-le k w k row (omega arith))

-- ---- the components of the axes before, one after the other
pub record Graded (f : Format) (w g0 g1 g2 g3 : List Float) (d : ℕ) (gradient : List Float) : Type 0 where
  pub long : length gradient ≡ 4
  pub done : (k : ℕ) → k < d → get_or gradient k nan ≡ dot4 f w (get_or g0 k nan ∷ get_or g1 k nan ∷ get_or g2 k nan ∷ get_or g3 k nan ∷ [])
  pub left : (k : ℕ) → d ≤ k → k < 4 → get_or gradient k nan ≡ nought

four_nought : (k : ℕ) → k < 4 → get_or (nought ∷ nought ∷ nought ∷ nought ∷ []) k nan ≡ nought
four_nought zero h = refl
four_nought (suc zero) h = refl
four_nought (suc (suc zero)) h = refl
four_nought (suc (suc (suc zero))) h = refl
four_nought (suc (suc (suc (suc k)))) h = absurd (omega arith)

pub graded_none : (f : Format) (w g0 g1 g2 g3 gradient : List Float) → gradient ≡ nought ∷ nought ∷ nought ∷ nought ∷ [] → Graded f w g0 g1 g2 g3 0 gradient
graded_none f w g0 g1 g2 g3 gradient e = record {
  long = ap length e;
  done = λ k h. absurd (omega arith);
  left = λ k h l. ap (λ (g : List Float). get_or g k nan) e ∙ four_nought k l;
}

module _ {f : Format} {w g0 g1 g2 g3 : List Float} {d : ℕ} {gradient : List Float} (s : Graded f w g0 g1 g2 g3 d gradient) (h : d < 4) (v : Float) where
  kept : (k : ℕ) → k ≢ d → get_or (set gradient d v) k nan ≡ get_or gradient k nan
  kept k e = get_or-set_other gradient d k v nan e

  put : get_or (set gradient d v) d nan ≡ v
  put = let l = s.long in get_or-set_same gradient d v nan (omega arith)

  pub graded-turn : v ≡ dot4 f w (get_or g0 d nan ∷ get_or g1 d nan ∷ get_or g2 d nan ∷ get_or g3 d nan ∷ []) → Graded f w g0 g1 g2 g3 (d + 1) (set gradient d v)
  graded-turn e = record {
    long = length-set gradient d v ∙ s.long;
    done = λ k l. ⊎_elim (λ (z : k ≡ d). rw z (put ∙ e)) (λ (m : k < d). kept k (λ z. omega arith) ∙ s.done k m) (eq-or-lt_of_le (omega arith));
    left = λ k l m. kept k (λ z. omega arith) ∙ s.left k (omega arith) m;
  }

  -- and the axis's own, where no axis before it is left
  abbrev Owned : ℕ → Type 0
  Owned axis =
      ((k : ℕ) → k < axis → get_or (set gradient axis v) k nan ≡ dot4 f w (get_or g0 k nan ∷ get_or g1 k nan ∷ get_or g2 k nan ∷ get_or g3 k nan ∷ []))
      × (get_or (set gradient axis v) axis nan ≡ v)
      × ((k : ℕ) → axis < k → k < 4 → get_or (set gradient axis v) k nan ≡ nought)

  pub graded-own : (axis : ℕ) → d ≡ axis → Owned axis
  graded-own axis e = subst Owned e (
    (λ k l. kept k (λ z. omega arith) ∙ s.done k l),
    put,
    (λ k l m. kept k (λ z. omega arith) ∙ s.left k (omega arith) m),
  )

-- ---- four parts and one step give the next level
module _ (f : Format) (vals : List Float) (w ds : List (List Float)) (ss : List ℕ) (k base : ℕ) (kw : k < length w) (ks : k < length ss) (is : List ℕ) (along : Along base (get_or ss k 0) is) where
  abbrev Part : ℕ → Float → List Float → Type 0
  Part j value gradient = Reduced f k w ds (from vals ss (get_or is j 0)) value gradient

  module _ {x0 x1 x2 x3 : Float} {g0 g1 g2 g3 : List Float} (p0 : Part 0 x0 g0) (p1 : Part 1 x1 g1) (p2 : Part 2 x2 g2) (p3 : Part 3 x3 g3) where
    -- what `over_axis` promises of them
    pub joined : {r : Float} {g : List Float}
        → r ≡ dot4 f (get_or w k []) (x0 ∷ x1 ∷ x2 ∷ x3 ∷ [])
        → ((d : ℕ) → d < k → get_or g d nan ≡ dot4 f (get_or w k []) (get_or g0 d nan ∷ get_or g1 d nan ∷ get_or g2 d nan ∷ get_or g3 d nan ∷ []))
        → get_or g k nan ≡ dot4 f (get_or ds k []) (x0 ∷ x1 ∷ x2 ∷ x3 ∷ [])
        → ((d : ℕ) → k < d → d < 4 → get_or g d nan ≡ nought)
        → Reduced f (suc k) w ds (from vals ss base) r g
    joined {r} {g} value below own past = record {
      value-is = let s = reduce-step f vals w ss k base kw ks is along in let e0 = p0.value-is in let e1 = p1.value-is in let e2 = p2.value-is in let e3 = p3.value-is in cc;
      component-is = λ d l. ⊎_elim (λ (z : d ≡ k). here d z) (λ (m : d < k). before d m) (eq-or-lt_of_le (omega arith));
      past = λ d l m. past d (omega arith) m;
    }
      where
        before : (d : ℕ) → d < k → get_or g d nan ≡ component_of f (take (suc k) w) d (get_or ds d []) (from vals ss base)
        before d m =
            let s = component-below f vals w ss k base kw ks is along d (get_or ds d []) m in
            let b = below d m in
            let e0 = p0.component-is d m in
            let e1 = p1.component-is d m in
            let e2 = p2.component-is d m in
            let e3 = p3.component-is d m in
            cc

        here : (d : ℕ) → d ≡ k → get_or g d nan ≡ component_of f (take (suc k) w) d (get_or ds d []) (from vals ss base)
        here d z = rw z (
            let s = component-here f vals w ss k base kw ks is along (get_or ds k []) in
            let e0 = p0.value-is in
            let e1 = p1.value-is in
            let e2 = p2.value-is in
            let e3 = p3.value-is in
            cc)

-- over no axis, a value of the table
pub part_none : (f : Format) (vals : List Float) (w ds : List (List Float)) (ss : List ℕ) (i : ℕ) {x : Float} {g : List Float} → x ≡ get_or vals i nan → g ≡ nought ∷ nought ∷ nought ∷ nought ∷ []
    → Reduced f 0 w ds (from vals ss i) x g
part_none f vals w ds ss i e n = record {
  value-is = e ∙ leaf f vals ss i;
  component-is = λ d h. absurd (omega arith);
  past = λ d h l. ap (λ (g : List Float). get_or g d nan) n ∙ four_nought d l;
}

-- ---- over as many axes as are asked, from no sum on
pub at_count : (f : Format) (w ds : List (List Float)) (v : List ℕ → Float) {x : Float} {g : List Float} {n k taken before : ℕ} → n ≡ k
    → Reduced f k w ds v x g → taken ≡ before + steps_of k → before ≡ 0 → Reduced f n w ds v x g × (taken ≡ steps_of n)
at_count f w ds v {x} {g} {n} {k} {taken} {before} e r h z =
    let m : taken ≡ steps_of k = omega (arith, h, z) in
    (subst (λ (j : ℕ). Reduced f j w ds v x g) (sym e) r, m ∙ ap steps_of (sym e))
