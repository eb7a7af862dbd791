-- A coordinate that is no number: it is refused as given, in every setting. So where a query has its places every coordinate is a number, and
-- where it has none the coordinate on the axis that is named tells which number it is refused with.
use mathlib.Core.Path.{◌≡◌, refl, sym, ap, ◌∙◌, subst}
use mathlib.Core.Bool.{Bool, true, false, cond}
use mathlib.Core.Logic.{⊎_elim}
use mathlib.Core.List.{List, [], ◌∷◌, map}
use Prim.Native.Nat.{ℕ, zero, suc, ◌+◌, ◌-◌, ◌/◌, ◌≤◌, ◌<◌}
use native.Mathlib.Omega.{arith}
use native.Mathlib.Nat.{eq-or-lt_of_le}
use lib.ListN.{length, get_or}
use lib.Ieee.{Float, Format, is_nan}
use Rattle.multicubic.specs.declared.Refusal.{Refusal}
use Rattle.grid.proofs.Batches.{same_refusal}
use Rattle.multicubic.specs.declared.Check.{Check}
use Rattle.multicubic.specs.declared.Check.TheVariants.{NoPlace, NoNumber}
use Rattle.ieee.proofs.Nan.{lt-numbers}
use Rattle.multicubic.specs.declared.EdgeMode.{EdgeMode}
use Rattle.multicubic.specs.declared.EdgeMode.TheVariants.{Cubic, Straight, Held}
use Rattle.multicubic.specs.Types.{Outcome, accepted, refusal}
use Rattle.std.specs.Prelude.{Err}
use Rattle.multicubic.specs.Grid.{◌then◌}
use Rattle.multicubic.specs.Place.{Placed, AxisOutcome, refused, placed}
use Rattle.multicubic.proofs.Passed.{then_accepted}
use Rattle.multicubic.proofs.Numbers.{missing, refused-by, placed-present}
use Rattle.grid.specs.Query.{GridAxis, outcome, below, above, hold, edge_axis, Grid, Found, refused_at, places, located, find, found_outcome, outcome_of}
use Rattle.grid.specs.Batch.{query_at, found_at, value_checks, gradient_checks, interp_outcome, grad_outcome}
use Rattle.grid.specs.Internal.{no_axis}
use Rattle.grid.specs.Nodes.{All}
use Rattle.grid.proofs.Batches.{PlacedAt, find-lowest, interp-lowest, grad-lowest}

-- ---- held: what is replaced is a number, and so is what replaces it
pub hold-number : (g : GridAxis) (given : Float) → is_nan (hold g given) ≡ is_nan given
hold-number g given = go (below g given) (above g given) refl refl
  where
    go : (b a : Bool) → below g given ≡ b → above g given ≡ a → is_nan (hold g given) ≡ is_nan given
    go true a e d = let n = lt-numbers given (g.node 0) e in rw e (n.1 ∙ sym n.0)
    go false true e d = let n = lt-numbers (g.node (g.count - 1)) given d in rw (e, d) (n.0 ∙ sym n.1)
    go false false e d = rw (e, d) refl

-- ---- an axis that finds no number exactly where there is none
abbrev pub Numbered : GridAxis → Type 0
Numbered g = (x : Float) → missing (g.loc x) ≡ is_nan x

pub edge_numbered : (mode : EdgeMode) (axis : Bool → GridAxis) → ((straight : Bool) → Numbered (axis straight)) → Numbered (edge_axis mode axis)
edge_numbered Cubic axis n = n false
edge_numbered Straight axis n = n true
edge_numbered Held axis n = λ x. n false (hold (axis false) x) ∙ hold-number (axis false) x

pub numbered-each : {A : Type 0} (axis : A → GridAxis) → ((x : A) → Numbered (axis x)) → (xs : List A) → All Numbered (map axis xs)
numbered-each axis n [] = tt
numbered-each axis n (x ∷ xs) = (n x, numbered-each axis n xs)

module _ (g : GridAxis) (n : Numbered g) (x : Float) where
  axis-placed : (p : Placed) → outcome g x ≡ placed p → is_nan x ≡ false
  axis-placed p e = sym (n x) ∙ placed-present (g.weights x) (g.derivatives x) (g.loc x) p e

  -- 9 exactly where the coordinate is no number, 8 exactly where it is one
  pub axis-number : (check : Check) → outcome g x ≡ refused check → check ≡ cond (is_nan x) NoNumber NoPlace
  axis-number check e = refused-by (g.weights x) (g.derivatives x) (g.loc x) check e ∙ ap (λ (b : Bool). cond b NoNumber NoPlace) (n x)

numbered-at : (gs : List GridAxis) → All Numbered gs → (k : ℕ) → k < length gs → Numbered (get_or gs k no_axis)
numbered-at [] n k h = absurd (omega arith)
numbered-at (g ∷ gs) n zero h = n.0
numbered-at (g ∷ gs) n (suc k) h = numbered-at gs n.1 k (omega arith)

-- ---- a query, its axes counted from s
module _ (s : ℕ) (gs : List GridAxis) (query : ℕ → Float) (n : All Numbered gs) where
  -- the number of its refusal is told by the coordinate on the lowest axis that refuses
  pub which-number : (check : Check) (a : ℕ) → find s gs query ≡ refused_at check a → check ≡ cond (is_nan (query a)) NoNumber NoPlace
  which-number check a e =
      let low = find-lowest s gs query check a e in
      axis-number (get_or gs (a - s) no_axis) (numbered-at gs n (a - s) (let f = low.from in let i = low.inside in omega arith)) (query a) check low.fails

-- where it has its places, every coordinate on the axes is a number
pub placed_numbers : (s : ℕ) (gs : List GridAxis) (query : ℕ → Float) → All Numbered gs → (ps : List Placed) → find s gs query ≡ places ps
    → (k : ℕ) → s ≤ k → k < s + length gs → is_nan (query k) ≡ false
placed_numbers s [] query n ps e k l h = absurd (omega arith)
placed_numbers s (g ∷ gs) query n ps e k l h = go (outcome g (query s)) refl (find (suc s) gs query) refl (placed_numbers (suc s) gs query n.1) e
  where
    go : (o : AxisOutcome) → outcome g (query s) ≡ o → (f : Found) → find (suc s) gs query ≡ f
        → ((qs : List Placed) → find (suc s) gs query ≡ places qs → (k : ℕ) → suc s ≤ k → k < suc s + length gs → is_nan (query k) ≡ false)
        → located s o f ≡ places ps → is_nan (query k) ≡ false
    go (refused m) q f r rec e = absurd (let y : ◌≡◌ {A = ℕ} 0 1 = cc in omega arith)
    go (placed p) q (refused_at m a) r rec e = absurd (let y : ◌≡◌ {A = ℕ} 0 1 = cc in omega arith)
    go (placed p) q (places qs) r rec e =
        ⊎_elim
        (λ (z : s ≡ k). subst (λ (j : ℕ). is_nan (query j) ≡ false) z (axis-placed g n.0 (query s) p q))
        (λ (m : s < k). rec qs r k m (omega arith))
        (eq-or-lt_of_le l)

-- ---- the calls on a grid of such axes: what is answered has a number on every axis, and past the checks a refusal is 9 exactly where its query
-- has none on the axis that it names
module _ (g : Grid) (n : All Numbered g.axes) where
  pub answered-numbers : (query : ℕ → Float) → outcome_of g query ≡ accepted → (k : ℕ) → k < length g.axes → is_nan (query k) ≡ false
  answered-numbers query e = go (find 0 g.axes query) refl (then_accepted g.checked (found_outcome 0 (find 0 g.axes query)) e).1
    where
      go : (r : Found) → find 0 g.axes query ≡ r → found_outcome 0 r ≡ accepted → (k : ℕ) → k < length g.axes → is_nan (query k) ≡ false
      go (refused_at m a) q e k h = absurd (let y : ◌≡◌ {A = ℕ} 0 1 = cc in omega arith)
      go (places ps) q e k h = placed_numbers 0 g.axes query n ps q k (omega arith) (omega arith)

  -- so has every query of a batch that has its places
  pub batch-numbers : (c : ℕ) (queries : List Float) (i : ℕ) → PlacedAt (found_at g.axes c queries) i
      → (k : ℕ) → k < length g.axes → is_nan (query_at c queries i k) ≡ false
  batch-numbers c queries i p k h = placed_numbers 0 g.axes (query_at c queries i) n p.0 p.1 k (omega arith) (omega arith)

  pub refused-number : (query : ℕ → Float) (check : Check) (q a : ℕ) → g.checked ≡ accepted → outcome_of g query ≡ Err (refusal check q a) → check ≡ cond (is_nan (query a)) NoNumber NoPlace
  refused-number query check q a ok e = go (find 0 g.axes query) refl (sym (ap (λ (o : Outcome). o then found_outcome 0 (find 0 g.axes query)) ok) ∙ e)
    where
      go : (r : Found) → find 0 g.axes query ≡ r → found_outcome 0 r ≡ Err (refusal check q a) → check ≡ cond (is_nan (query a)) NoNumber NoPlace
      go (refused_at m b) f e =
          let t = same_refusal e in
          let k : m ≡ check = ap (λ (by : Refusal). by.check) t in
          let z : b ≡ a = ap (λ (by : Refusal). by.axis) t in
          which-number 0 g.axes query n check a (f ∙ (λ i. refused_at (k i) (z i)))
      go (places ps) f e = absurd (let y : ◌≡◌ {A = ℕ} 0 1 = cc in omega arith)

  module _ (f : Format) (queries buffer : List Float) (check : Check) (j a : ℕ) where
    pub interp-number : value_checks f g queries buffer ≡ accepted → interp_outcome f g queries buffer ≡ Err (refusal check j a)
        → check ≡ cond (is_nan (query_at (length buffer) queries j a)) NoNumber NoPlace
    interp-number ok e = which-number 0 g.axes (query_at (length buffer) queries j) n check a ((interp-lowest f g queries buffer ok check j a).0 e).fails

    pub grad-number : gradient_checks f g queries buffer ≡ accepted → grad_outcome f g queries buffer ≡ Err (refusal check j a)
        → check ≡ cond (is_nan (query_at (length buffer / g.axis-count) queries j a)) NoNumber NoPlace
    grad-number ok e = which-number 0 g.axes (query_at (length buffer / g.axis-count) queries j) n check a ((grad-lowest f g queries buffer ok check j a).0 e).fails
