-- What a batch leaves in its buffer and what it answers: entry by entry, and the lowest query that has no place.
use mathlib.Core.Path.{◌≡◌, refl, sym, ap, ◌∙◌}
use mathlib.Core.Logic.{◌↔◌, ◌≢◌, ◌⊎◌, inl, inr, ⊎_elim}
use mathlib.Core.Bool.{Bool, true, false, not, ◌||◌, cond}
use mathlib.Core.List.{List, [], ◌∷◌}
use Prim.Native.Nat.{ℕ, zero, suc, ◌+◌, ◌-◌, ◌*◌, ◌/◌, ◌%◌, ◌≤◌, ◌<◌}
use native.Mathlib.Nat.{eq-or-lt_of_le, add_comm, add-mod_right, add-mul-mod_self_right, mod-eq_of_lt, suc-mul, mul-le-mul_right}
use native.Mathlib.Omega.{arith}
use lib.Dec.{ltb, eqb}
use lib.ListN.{length, get_or, set, length-set}
use lib.Seq.{get_or-set_same, get_or-set_other}
use lib.Ieee.{Float, nan, Format}
use borrow.Author.Tests.{eqb-true, not-false}
use Rattle.multicubic.specs.declared.Refusal.{Refusal}
use Rattle.multicubic.specs.declared.Check.TheVariants.{NoPlace, NoNumber}
use Rattle.multicubic.specs.declared.Check.{Check}
use Rattle.multicubic.specs.declared.Check.TheVariants.{BatchLength}
use Rattle.multicubic.specs.Types.{Outcome, accepted, refusal}
use Rattle.std.specs.Prelude.{Err, Ok}
use Rattle.multicubic.specs.Grid.{◌then◌}
use Rattle.multicubic.specs.Place.{Placed, AxisOutcome, refused, placed}
use Rattle.multicubic.proofs.Numbers.{missing, refused-by}
use Rattle.multicubic.proofs.Sizes.{or_false}
use Rattle.multicubic.proofs.Passed.{then_accepted, refuse-accepted}
use Rattle.grid.specs.Query.{GridAxis, outcome, Grid, Found, refused_at, places, located, grid_counts, find, value_of, components_from, components_of}
use Rattle.grid.specs.Internal.{no_axis}
use Rattle.grid.specs.Batch.{found_at, check_batch, outcome_from, run_from, buffer_of, put_value, put_columns, put_gradient, value_checks, gradient_checks, interp_outcome, interp_buffer, grad_outcome, grad_buffer}

-- ---- a run over any queries and any write
-- query j has a place on every axis
abbrev pub PlacedAt : (ℕ → Found) → ℕ → Type 0
PlacedAt found j = (ps : List Placed) × (found j ≡ places ps)

-- entry e of a buffer of a size is query i's, of c queries over n axes: its write leaves val there, the others leave it alone
pub record Entry (write : ℕ → List Placed → List Float → List Float) (c n size i e : ℕ) (val : List Placed → Float) : Type 0 where
  pub own : (ps : List Placed) (b : List Float) → length ps ≡ n → length b ≡ size → get_or (write i ps b) e nan ≡ val ps
  pub other : (j : ℕ) (ps : List Placed) (b : List Float) → j < c → j ≢ i → get_or (write j ps b) e nan ≡ get_or b e nan
  pub same_length : (j : ℕ) (ps : List Placed) (b : List Float) → length (write j ps b) ≡ length b

module _ (found : ℕ → Found) (write : ℕ → List Placed → List Float → List Float) (same : (j : ℕ) (ps : List Placed) (b : List Float) → length (write j ps b) ≡ length b) where
  length_from : (left s : ℕ) (b : List Float) (o : Found) → found s ≡ o → length (run_from found write s left b) ≡ length b
  length_from zero s b o e = refl
  length_from (suc left) s b (refused_at k a) e = rw e refl
  length_from (suc left) s b (places ps) e = rw e (length_from left (suc s) (write s ps b) (found (suc s)) refl ∙ same s ps b)

  -- a run keeps the length
  pub run_length : (c : ℕ) (b : List Float) → length (run_from found write 0 c b) ≡ length b
  run_length c b = length_from c 0 b (found 0) refl

module _ (found : ℕ → Found) (write : ℕ → List Placed → List Float → List Float) (c n size i e : ℕ) (val : List Placed → Float) (entry : Entry write c n size i e val) where
  -- queries other than i
  others-from : (left s : ℕ) (b : List Float) (o : Found) → found s ≡ o → s + left ≤ c → ((j : ℕ) → s ≤ j → j < s + left → j ≢ i) → get_or (run_from found write s left b) e nan ≡ get_or b e nan
  others-from zero s b o q l h = refl
  others-from (suc left) s b (refused_at k a) q l h = rw q
  others-from (suc left) s b (places ps) q l h =
      rw q
      (others-from left (suc s) (write s ps b) (found (suc s)) refl (omega arith) (λ j g m. h j (omega arith) (omega arith))
      ∙ entry.other s ps b (omega arith) (h s (omega arith) (omega arith)))

  keeps-from : (left s : ℕ) (b : List Float) (o : Found) → found s ≡ o → s + left ≤ c → (check : Check) (j a : ℕ) → s ≤ j → j ≤ i → found j ≡ refused_at check a
      → get_or (run_from found write s left b) e nan ≡ get_or b e nan
  keeps-from zero s b o q l check j a h k u = refl
  keeps-from (suc left) s b (refused_at m a') q l check j a h k u = rw q
  keeps-from (suc left) s b (places ps) q l check j a h k u =
      rw q (⊎_elim
      (λ (z : s ≡ j). absurd (let y : ◌≡◌ {A = ℕ} 0 1 = cc in omega arith))
      (λ (m : s < j). keeps-from left (suc s) (write s ps b) (found (suc s)) refl (omega arith) check j a m k u ∙ entry.other s ps b (omega arith) (λ z. omega arith))
      (eq-or-lt_of_le h))

  module _ (whole : (j : ℕ) (ps : List Placed) → found j ≡ places ps → length ps ≡ n) where
    holds-from : (left s : ℕ) (b : List Float) (o : Found) → found s ≡ o → s + left ≤ c → length b ≡ size → s ≤ i → i < s + left → ((j : ℕ) → s ≤ j → j ≤ i → PlacedAt found j) → (ps : List Placed) → found i ≡ places ps → get_or (run_from found write s left b) e nan ≡ val ps
    holds-from zero s b o q l z h k all ps p = absurd (omega arith)
    holds-from (suc left) s b (refused_at m a) q l z h k all ps p = absurd (let w = all s (omega arith) h in let y : ◌≡◌ {A = ℕ} 0 1 = cc in omega arith)
    holds-from (suc left) s b (places qs) q l z h k all ps p =
        rw q (⊎_elim
        (λ (m : s ≡ i). let t = others-from left (suc s) (write s qs b) (found (suc s)) refl (omega arith) (λ j g r y. omega arith) in let w = entry.own ps b (whole i ps p) z in cc)
        (λ (m : s < i).
        holds-from left (suc s) (write s qs b) (found (suc s)) refl (omega arith) (entry.same_length s qs b ∙ z) m (omega arith) (λ j g r. all j (omega arith) r) ps p)
        (eq-or-lt_of_le h))

    -- query i and all before it have a place: its entry holds its answer
    pub holds : (b : List Float) → length b ≡ size → i < c → ((j : ℕ) → j ≤ i → PlacedAt found j) → (ps : List Placed) → found i ≡ places ps → get_or (run_from found write 0 c b) e nan ≡ val ps
    holds b z h all ps p = holds-from c 0 b (found 0) refl (omega arith) z (omega arith) (omega arith) (λ j g. all j) ps p

  -- query i or one before it has none: its entry is as it was
  pub keeps : (b : List Float) (check : Check) (j a : ℕ) → j ≤ i → found j ≡ refused_at check a → get_or (run_from found write 0 c b) e nan ≡ get_or b e nan
  keeps b check j a h u = keeps-from c 0 b (found 0) refl (omega arith) check j a (omega arith) h u

  -- so is that of a query past the run
  pub keeps-beyond : (b : List Float) → c ≤ i → get_or (run_from found write 0 c b) e nan ≡ get_or b e nan
  keeps-beyond b h = others-from c 0 b (found 0) refl (omega arith) (λ j g l z. omega arith)

-- what two refusals that are one tell
pub same_refusal : {r r' : Refusal} → ◌≡◌ {A = Outcome} (Err r) (Err r') → r ≡ r'
same_refusal e = cc

-- ---- the outcome names the lowest query without a place, and the number of its refusal
pub record Lowest (found : ℕ → Found) (c : ℕ) (check : Check) (j a : ℕ) : Type 0 where
  pub inside : j < c
  pub fails : found j ≡ refused_at check a
  pub before : (k : ℕ) → k < j → PlacedAt found k

module _ (found : ℕ → Found) where
  abbrev LowestFrom : ℕ → ℕ → Check → ℕ → ℕ → Type 0
  LowestFrom s left check j a = (s ≤ j) × (j < s + left) × (found j ≡ refused_at check a) × ((k : ℕ) → s ≤ k → k < j → PlacedAt found k)

  refused-from : (left s : ℕ) (o : Found) → found s ≡ o → (check : Check) (j a : ℕ) → outcome_from found s left ≡ Err (refusal check j a) → LowestFrom s left check j a
  refused-from zero s o q check j a r = absurd (let y : ◌≡◌ {A = ℕ} 0 1 = cc in omega arith)
  refused-from (suc left) s (refused_at k b) q check j a r =
      let t : Err (refusal k s b) ≡ Err (refusal check j a) = rw q at r in
      let e = same_refusal t in
      let m : s ≡ j = ap (λ (by : Refusal). by.query) e in
      (omega arith, omega arith, ap found (sym m) ∙ q ∙ (λ i. refused_at (e i).check (e i).axis), λ k h l. absurd (omega arith))
  refused-from (suc left) s (places ps) q check j a r =
      let t : outcome_from found (suc s) left ≡ Err (refusal check j a) = rw q at r in
      let w = refused-from left (suc s) (found (suc s)) refl check j a t in
      (omega arith, omega arith, w.2, λ k h l. ⊎_elim (λ (z : s ≡ k). (ps, rw (sym z) q)) (λ (g : s < k). w.3 k g l) (eq-or-lt_of_le h))

  lowest-from : (left s : ℕ) (o : Found) → found s ≡ o → (check : Check) (j a : ℕ) → LowestFrom s left check j a → outcome_from found s left ≡ Err (refusal check j a)
  lowest-from zero s o q check j a h = absurd (omega arith)
  lowest-from (suc left) s (refused_at k b) q check j a h =
      rw q (⊎_elim
      (λ (z : s ≡ j). let f = sym q ∙ (ap found z ∙ h.2) in let k' : k ≡ check = cc in let b' : b ≡ a = cc in λ i. Err (refusal (k' i) (z i) (b' i)))
      (λ (m : s < j). absurd (let w = h.3 s (omega arith) m in let y : ◌≡◌ {A = ℕ} 0 1 = cc in omega arith))
      (eq-or-lt_of_le h.0))
  lowest-from (suc left) s (places ps) q check j a h =
      rw q (⊎_elim
      (λ (z : s ≡ j). absurd (let f = h.2 in let y : ◌≡◌ {A = ℕ} 0 1 = cc in omega arith))
      (λ (m : s < j). lowest-from left (suc s) (found (suc s)) refl check j a (m, omega arith, h.2, λ k g l. h.3 k (omega arith) l))
      (eq-or-lt_of_le h.0))

  accepted-from : (left s : ℕ) (o : Found) → found s ≡ o → outcome_from found s left ≡ accepted → (k : ℕ) → s ≤ k → k < s + left → PlacedAt found k
  accepted-from zero s o q r k h l = absurd (omega arith)
  accepted-from (suc left) s (refused_at m b) q r k h l = absurd (let t : Err (refusal m s b) ≡ accepted = rw q at r in let y : ◌≡◌ {A = ℕ} 0 1 = cc in omega arith)
  accepted-from (suc left) s (places ps) q r k h l =
      let t : outcome_from found (suc s) left ≡ accepted = rw q at r in
      ⊎_elim (λ (z : s ≡ k). (ps, rw (sym z) q)) (λ (g : s < k). accepted-from left (suc s) (found (suc s)) refl t k g (omega arith)) (eq-or-lt_of_le h)

  all_from : (left s : ℕ) (o : Found) → found s ≡ o → ((k : ℕ) → s ≤ k → k < s + left → PlacedAt found k) → outcome_from found s left ≡ accepted
  all_from zero s o q all = refl
  all_from (suc left) s (refused_at m b) q all = absurd (let w = all s (omega arith) (omega arith) in let y : ◌≡◌ {A = ℕ} 0 1 = cc in omega arith)
  all_from (suc left) s (places ps) q all = rw q (all_from left (suc s) (found (suc s)) refl (λ k h l. all k (omega arith) (omega arith)))

  -- a refusal is the lowest's own, and the lowest is refused
  pub refused-lowest : (c : ℕ) (check : Check) (j a : ℕ) → outcome_from found 0 c ≡ Err (refusal check j a) → Lowest found c check j a
  refused-lowest c check j a r =
      let w = refused-from c 0 (found 0) refl check j a r in
      record { inside = omega arith; fails = w.2; before = λ k l. w.3 k (omega arith) l }

  pub lowest-refused : (c : ℕ) (check : Check) (j a : ℕ) → Lowest found c check j a → outcome_from found 0 c ≡ Err (refusal check j a)
  lowest-refused c check j a h = lowest-from c 0 (found 0) refl check j a (omega arith, omega arith, h.fails, λ k g l. h.before k l)

  -- accepted exactly when every query has a place
  pub accepted-all : (c : ℕ) → outcome_from found 0 c ≡ accepted → (k : ℕ) → k < c → PlacedAt found k
  accepted-all c r k l = accepted-from c 0 (found 0) refl r k (omega arith) (omega arith)

  pub all-accepted : (c : ℕ) → ((k : ℕ) → k < c → PlacedAt found k) → outcome_from found 0 c ≡ accepted
  all-accepted c all = all_from c 0 (found 0) refl (λ k h l. all k (omega arith))

  pub none-accepted : outcome_from found 0 0 ≡ accepted
  none-accepted = refl

  -- one of the two holds of every query: it and all before it have a place, or there is a lowest that has none
  pub placed-or-lowest : (i : ℕ) → ((j : ℕ) → j ≤ i → PlacedAt found j) ⊎ ((check : Check) × (j : ℕ) × (a : ℕ) × Lowest found (suc i) check j a)
  placed-or-lowest i = go (outcome_from found 0 (suc i)) refl
    where
      go : (o : Outcome) → outcome_from found 0 (suc i) ≡ o → ((j : ℕ) → j ≤ i → PlacedAt found j) ⊎ ((check : Check) × (j : ℕ) × (a : ℕ) × Lowest found (suc i) check j a)
      go (Ok _) r = inl (λ j l. accepted-all (suc i) r j (omega arith))
      go (Err by) r = inr (by.check, by.query, by.axis, refused-lowest (suc i) by.check by.query by.axis r)

-- ---- the axes name the lowest without a place
-- axis k's outcome, the axes counted from s
abbrev pub outcome_on : ℕ → List GridAxis → (ℕ → Float) → ℕ → AxisOutcome
outcome_on s gs query k = outcome (get_or gs (k - s) no_axis) (query k)

pub record LowestAxis (s : ℕ) (gs : List GridAxis) (query : ℕ → Float) (check : Check) (a : ℕ) : Type 0 where
  pub from : s ≤ a
  pub inside : a < s + length gs
  pub fails : outcome_on s gs query a ≡ refused check
  pub before : (k : ℕ) → s ≤ k → k < a → (p : Placed) × (outcome_on s gs query k ≡ placed p)

here : (s : ℕ) (g : GridAxis) (gs : List GridAxis) (query : ℕ → Float) → outcome_on s (g ∷ gs) query s ≡ outcome g (query s)
here s g gs query = let z : s - s ≡ 0 = omega arith in ap (λ (i : ℕ). outcome (get_or (g ∷ gs) i no_axis) (query s)) z

later : (s : ℕ) (g : GridAxis) (gs : List GridAxis) (query : ℕ → Float) (k : ℕ) → s < k → outcome_on s (g ∷ gs) query k ≡ outcome_on (suc s) gs query k
later s g gs query k h = let z : k - s ≡ suc (k - suc s) = omega arith in ap (λ (i : ℕ). outcome (get_or (g ∷ gs) i no_axis) (query k)) z

-- a query without a place names the lowest such axis, and the lowest is named
pub find-lowest : (s : ℕ) (gs : List GridAxis) (query : ℕ → Float) (check : Check) (a : ℕ) → find s gs query ≡ refused_at check a → LowestAxis s gs query check a
find-lowest s [] query check a r = absurd (let y : ◌≡◌ {A = ℕ} 0 1 = cc in omega arith)
find-lowest s (g ∷ gs) query check a r = go (outcome g (query s)) refl (find (suc s) gs query) refl (find-lowest (suc s) gs query) r
  where
    go : (o : AxisOutcome) → outcome g (query s) ≡ o → (f : Found) → find (suc s) gs query ≡ f
        → ((m : Check) (b : ℕ) → find (suc s) gs query ≡ refused_at m b → LowestAxis (suc s) gs query m b)
        → located s o f ≡ refused_at check a → LowestAxis s (g ∷ gs) query check a
    go (refused k) e f q rec r =
        let z : s ≡ a = cc in
        let n : k ≡ check = cc in
        record { from = omega arith; inside = omega arith; fails = rw (sym z) (here s g gs query ∙ e ∙ ap refused n); before = λ k h l. absurd (omega arith) }
    go (placed p) e (places ps) q rec r = absurd (let y : ◌≡◌ {A = ℕ} 0 1 = cc in omega arith)
    go (placed p) e (refused_at k b) q rec r =
        let w = rec check a (q ∙ r) in
        let l : s < a = w.from in
        record {
          from = omega arith;
          inside = omega arith;
          fails = later s g gs query a l ∙ w.fails;
          before = λ k h m. ⊎_elim
              (λ (z : s ≡ k). (p, rw (sym z) (here s g gs query ∙ e)))
              (λ (n : s < k). let v = w.before k n m in (v.0, later s g gs query k n ∙ v.1))
              (eq-or-lt_of_le h);
        }

pub lowest-find : (s : ℕ) (gs : List GridAxis) (query : ℕ → Float) (check : Check) (a : ℕ) → LowestAxis s gs query check a → find s gs query ≡ refused_at check a
lowest-find s [] query check a h = absurd (let l = h.from in let m = h.inside in omega arith)
lowest-find s (g ∷ gs) query check a h = ⊎_elim first (second (lowest-find (suc s) gs query check a)) (eq-or-lt_of_le h.from)
  where
    first : s ≡ a → find s (g ∷ gs) query ≡ refused_at check a
    first z =
        let e : outcome g (query s) ≡ refused check = sym (here s g gs query) ∙ ap (outcome_on s (g ∷ gs) query) z ∙ h.fails in
        ap (λ (o : AxisOutcome). located s o (find (suc s) gs query)) e ∙ ap (refused_at check) z

    second : (LowestAxis (suc s) gs query check a → find (suc s) gs query ≡ refused_at check a) → s < a → find s (g ∷ gs) query ≡ refused_at check a
    second rec l =
        let v = h.before s (omega arith) l in
        let e : outcome g (query s) ≡ placed v.0 = sym (here s g gs query) ∙ v.1 in
        let r : find (suc s) gs query ≡ refused_at check a =
        rec (record {
          from = l;
          inside = let m = h.inside in omega arith;
          fails = sym (later s g gs query a l) ∙ h.fails;
          before = λ k n m. let w = h.before k (omega arith) m in (w.0, sym (later s g gs query k n) ∙ w.1);
        }) in
        ap (λ (o : AxisOutcome). located s o (find (suc s) gs query)) e ∙ ap (located s (placed v.0)) r

-- places on every axis: one for each of them
pub found_length : (s : ℕ) (gs : List GridAxis) (query : ℕ → Float) (ps : List Placed) → find s gs query ≡ places ps → length ps ≡ length gs
found_length s [] query ps r = let z : [] ≡ ps = cc in sym (ap length z)
found_length s (g ∷ gs) query ps r = go (outcome g (query s)) (find (suc s) gs query) (found_length (suc s) gs query) r
  where
    go : (o : AxisOutcome) (f : Found) → ((qs : List Placed) → f ≡ places qs → length qs ≡ length gs) → located s o f ≡ places ps → length ps ≡ suc (length gs)
    go (refused k) f rec r = absurd (let y : ◌≡◌ {A = ℕ} 0 1 = cc in omega arith)
    go (placed p) (refused_at k b) rec r = absurd (let y : ◌≡◌ {A = ℕ} 0 1 = cc in omega arith)
    go (placed p) (places qs) rec r = let z : p ∷ qs ≡ ps = cc in sym (ap length z) ∙ ap suc (rec qs refl)

-- the number is 8 or 9
pub found_number : (s : ℕ) (gs : List GridAxis) (query : ℕ → Float) (check : Check) (a : ℕ) → find s gs query ≡ refused_at check a → (check ≡ NoPlace) ⊎ (check ≡ NoNumber)
found_number s gs query check a e =
    let g = get_or gs (a - s) no_axis in
    go (missing (g.loc (query a))) (refused-by (g.weights (query a)) (g.derivatives (query a)) (g.loc (query a)) check (find-lowest s gs query check a e).fails)
  where
    go : (b : Bool) → check ≡ cond b NoNumber NoPlace → (check ≡ NoPlace) ⊎ (check ≡ NoNumber)
    go true z = inr z
    go false z = inl z

-- ---- the two writes
-- query i's number is at i
pub put_entry : (val : List Placed → Float) (c n i : ℕ) → i < c → Entry (λ j ps b. set b j (val ps)) c n c i i val
put_entry val c n i h =
    record {
      own = λ ps b w l. get_or-set_same b i (val ps) nan (rw l h);
      other = λ j ps b k m. get_or-set_other b j i (val ps) nan (λ z. m (sym z));
      same_length = λ j ps b. length-set b j (val ps);
    }

module _ (c : ℕ) where
  columns-length : (xs : List Float) (at : ℕ) (b : List Float) → length (put_columns c at xs b) ≡ length b
  columns-length [] at b = refl
  columns-length (x ∷ xs) at b = columns-length xs (at + c) (set b at x) ∙ length-set b at x

  -- entries before the first column's
  columns-before : (xs : List Float) (at : ℕ) (b : List Float) (e : ℕ) → e < at → get_or (put_columns c at xs b) e nan ≡ get_or b e nan
  columns-before [] at b e h = refl
  columns-before (x ∷ xs) at b e h = columns-before xs (at + c) (set b at x) e (omega arith) ∙ get_or-set_other b at e x nan (λ z. omega arith)

  -- entries of other queries
  columns-other : (xs : List Float) (at : ℕ) (b : List Float) (e : ℕ) → e % c ≢ at % c → get_or (put_columns c at xs b) e nan ≡ get_or b e nan
  columns-other [] at b e h = refl
  columns-other (x ∷ xs) at b e h =
      columns-other xs (at + c) (set b at x) e (λ z. h (z ∙ add-mod_right at c)) ∙ get_or-set_other b at e x nan (λ z. h (ap (λ (k : ℕ). k % c) z))

  columns-own : 0 < c → (xs : List Float) (at : ℕ) (b : List Float) (d : ℕ) → d < length xs → at + d * c < length b → get_or (put_columns c at xs b) (at + d * c) nan ≡ get_or xs d nan
  columns-own p [] at b d h l = absurd (omega arith)
  columns-own p (x ∷ xs) at b zero h l =
      let z : at + 0 * c ≡ at = omega arith in
      rw z (columns-before xs (at + c) (set b at x) at (omega arith) ∙ get_or-set_same b at x nan (omega arith))
  columns-own p (x ∷ xs) at b (suc d) h l =
      let z : at + suc d * c ≡ at + c + d * c = omega (arith, suc-mul d c) in
      rw z (columns-own p xs (at + c) (set b at x) d (omega arith) (omega (arith, length-set b at x)))

module _ (f : Format) (counts : List ℕ) (vals : List Float) where
  pub components-length : (ps : List Placed) (d : ℕ) (rest : List Placed) → length (components_from f counts vals ps d rest) ≡ length rest
  components-length ps d [] = refl
  components-length ps d (p ∷ rest) = ap suc (components-length ps (suc d) rest)

  -- query i's component d is at i in column d
  pub gradient-entry : (c n i d : ℕ) → i < c → d < n → Entry (put_gradient f counts vals c) c n (n * c) i (d * c + i) (λ ps. get_or (components_of f counts vals ps) d nan)
  gradient-entry c n i d h k =
      record {
        own = λ ps b w l.
            rw (add_comm (d * c) i) (columns-own c (omega arith) (components_of f counts vals ps) i b d
            (omega (arith, components-length ps 0 ps))
            (omega (arith, suc-mul d c, mul-le-mul_right c k)));
        other = λ j ps b m u.
            columns-other c (components_of f counts vals ps) j b (d * c + i)
            (λ z. u (sym (mod-eq_of_lt m) ∙ sym z ∙ ap (λ (x : ℕ). x % c) (add_comm (d * c) i) ∙ add-mul-mod_self_right i d c ∙ mod-eq_of_lt h));
        same_length = λ j ps b. columns-length c (components_of f counts vals ps) j b;
      }

-- ---- the two calls
-- the checks before the queries: their refusal is the answer, and leaves the buffer as it was
module _ (checks : Outcome) where
  refused-buffer : (check : Check) (query axis : ℕ) (before after : List Float) → checks ≡ Err (refusal check query axis) → buffer_of checks before after ≡ before
  refused-buffer check query axis before after e = rw e

  accepted-buffer : (before after : List Float) → checks ≡ accepted → buffer_of checks before after ≡ after
  accepted-buffer before after e = rw e

  refused-first : (check : Check) (query axis : ℕ) (next : Outcome) → checks ≡ Err (refusal check query axis) → (checks then next) ≡ Err (refusal check query axis)
  refused-first check query axis next e = rw e

  accepted-first : (next : Outcome) → checks ≡ accepted → (checks then next) ≡ next
  accepted-first next e = rw e

  either-length : (before after : List Float) → length after ≡ length before → length (buffer_of checks before after) ≡ length before
  either-length before after e = go checks
    where
      go : (o : Outcome) → length (buffer_of o before after) ≡ length before
      go (Ok _) = e
      go (Err r) = refl

  -- the lengths, where check 7 passes
  pub lengths-checked : (n c queries entries buffer : ℕ) → (checks then check_batch n c queries entries buffer) ≡ accepted → (queries ≡ n * c) × (buffer ≡ entries)
  lengths-checked n c queries entries buffer e =
      let two = or_false (ltb 1048576 c || not (eqb queries (n * c))) (not (eqb buffer entries)) (refuse-accepted _ BatchLength (then_accepted checks (check_batch n c queries entries buffer) e).1) in
      let one = or_false (ltb 1048576 c) (not (eqb queries (n * c))) two.0 in
      (eqb-true queries (n * c) (not-false _ one.1), eqb-true buffer entries (not-false _ two.1))

module _ (f : Format) (g : Grid) (queries buffer : List Float) where
  -- what the axes give for each query of either call
  abbrev value_found : ℕ → Found
  value_found = found_at g.axes (length buffer) queries

  abbrev gradient_count : ℕ
  gradient_count = length buffer / g.axis-count

  abbrev gradient_found : ℕ → Found
  gradient_found = found_at g.axes gradient_count queries

  -- the checks, as the code runs them
  pub value-checked : (checked r : Outcome) → checked ≡ g.checked → r ≡ (checked then check_batch g.axis-count (length buffer) (length queries) (length buffer) (length buffer)) → value_checks f g queries buffer ≡ r
  value-checked checked r e k = sym (k ∙ ap (λ (o : Outcome). o then check_batch g.axis-count (length buffer) (length queries) (length buffer) (length buffer)) e)

  pub gradient-checked : (checked r : Outcome) → checked ≡ g.checked → r ≡ (checked then check_batch g.axis-count gradient_count (length queries) (g.axis-count * gradient_count) (length buffer)) → gradient_checks f g queries buffer ≡ r
  gradient-checked checked r e k = sym (k ∙ ap (λ (o : Outcome). o then check_batch g.axis-count gradient_count (length queries) (g.axis-count * gradient_count) (length buffer)) e)

  -- refused by a check of the grid, or by 7
  pub interp-unwritten : (check : Check) (query axis : ℕ) → value_checks f g queries buffer ≡ Err (refusal check query axis) → interp_buffer f g queries buffer ≡ buffer
  interp-unwritten check query axis e = refused-buffer (value_checks f g queries buffer) check query axis buffer _ e

  pub grad-unwritten : (check : Check) (query axis : ℕ) → gradient_checks f g queries buffer ≡ Err (refusal check query axis) → grad_buffer f g queries buffer ≡ buffer
  grad-unwritten check query axis e = refused-buffer (gradient_checks f g queries buffer) check query axis buffer _ e

  pub interp-refused : (check : Check) (query axis : ℕ) → value_checks f g queries buffer ≡ Err (refusal check query axis) → interp_outcome f g queries buffer ≡ Err (refusal check query axis)
  interp-refused check query axis e = refused-first (value_checks f g queries buffer) check query axis _ e

  pub grad-refused : (check : Check) (query axis : ℕ) → gradient_checks f g queries buffer ≡ Err (refusal check query axis) → grad_outcome f g queries buffer ≡ Err (refusal check query axis)
  grad-refused check query axis e = refused-first (gradient_checks f g queries buffer) check query axis _ e

  -- either call keeps the length
  pub interp-length : length (interp_buffer f g queries buffer) ≡ length buffer
  interp-length =
      either-length (value_checks f g queries buffer) buffer _
      (run_length value_found (put_value f (grid_counts g) g.vals) (λ j ps b. length-set b j (value_of f (grid_counts g) g.vals ps)) (length buffer) buffer)

  pub grad-length : length (grad_buffer f g queries buffer) ≡ length buffer
  grad-length =
      either-length (gradient_checks f g queries buffer) buffer _
      (run_length gradient_found (put_gradient f (grid_counts g) g.vals gradient_count) (λ j ps b. columns-length gradient_count (components_of f (grid_counts g) g.vals ps) j b) gradient_count buffer)

  -- `interp` past its checks
  module _ (checked : value_checks f g queries buffer ≡ accepted) where
    pub interp-lengths : length queries ≡ g.axis-count * length buffer
    interp-lengths = (lengths-checked g.checked g.axis-count (length buffer) (length queries) (length buffer) (length buffer) checked).0

    pub interp-answers : interp_outcome f g queries buffer ≡ outcome_from value_found 0 (length buffer)
    interp-answers = accepted-first (value_checks f g queries buffer) _ checked

    pub interp-runs : interp_buffer f g queries buffer ≡ run_from value_found (put_value f (grid_counts g) g.vals) 0 (length buffer) buffer
    interp-runs = accepted-buffer (value_checks f g queries buffer) buffer _ checked

    pub interp-lowest : (check : Check) (j a : ℕ) → (interp_outcome f g queries buffer ≡ Err (refusal check j a)) ↔ Lowest value_found (length buffer) check j a
    interp-lowest check j a = (λ r. refused-lowest value_found (length buffer) check j a (sym interp-answers ∙ r), λ h. interp-answers ∙ lowest-refused value_found (length buffer) check j a h)

    pub interp-accepted : (interp_outcome f g queries buffer ≡ accepted) ↔ ((k : ℕ) → k < length buffer → PlacedAt value_found k)
    interp-accepted = (λ r. accepted-all value_found (length buffer) (sym interp-answers ∙ r), λ h. interp-answers ∙ all-accepted value_found (length buffer) h)

    pub interp-holds : (i : ℕ) → i < length buffer → ((j : ℕ) → j ≤ i → PlacedAt value_found j) → (ps : List Placed) → value_found i ≡ places ps → get_or (interp_buffer f g queries buffer) i nan ≡ value_of f (grid_counts g) g.vals ps
    interp-holds i h all ps p =
        ap (λ (b : List Float). get_or b i nan) (accepted-buffer (value_checks f g queries buffer) buffer _ checked)
        ∙ holds value_found (put_value f (grid_counts g) g.vals) (length buffer) (length g.axes) (length buffer) i i (value_of f (grid_counts g) g.vals)
        (put_entry (value_of f (grid_counts g) g.vals) (length buffer) (length g.axes) i h) (λ j qs q. found_length 0 g.axes _ qs q) buffer refl h all ps p

    pub interp-keeps : (i : ℕ) (check : Check) (j a : ℕ) → i < length buffer → j ≤ i → value_found j ≡ refused_at check a → get_or (interp_buffer f g queries buffer) i nan ≡ get_or buffer i nan
    interp-keeps i check j a h l u =
        ap (λ (b : List Float). get_or b i nan) (accepted-buffer (value_checks f g queries buffer) buffer _ checked)
        ∙ keeps value_found (put_value f (grid_counts g) g.vals) (length buffer) (length g.axes) (length buffer) i i (value_of f (grid_counts g) g.vals)
        (put_entry (value_of f (grid_counts g) g.vals) (length buffer) (length g.axes) i h) buffer check j a l u

  -- `interp_grad` past its checks
  module _ (checked : gradient_checks f g queries buffer ≡ accepted) where
    pub grad-lengths : (length queries ≡ g.axis-count * gradient_count) × (length buffer ≡ g.axis-count * gradient_count)
    grad-lengths = lengths-checked g.checked g.axis-count gradient_count (length queries) (g.axis-count * gradient_count) (length buffer) checked

    pub grad-answers : grad_outcome f g queries buffer ≡ outcome_from gradient_found 0 gradient_count
    grad-answers = accepted-first (gradient_checks f g queries buffer) _ checked

    pub grad-lowest : (check : Check) (j a : ℕ) → (grad_outcome f g queries buffer ≡ Err (refusal check j a)) ↔ Lowest gradient_found gradient_count check j a
    grad-lowest check j a = (λ r. refused-lowest gradient_found gradient_count check j a (sym grad-answers ∙ r), λ h. grad-answers ∙ lowest-refused gradient_found gradient_count check j a h)

    pub grad-accepted : (grad_outcome f g queries buffer ≡ accepted) ↔ ((k : ℕ) → k < gradient_count → PlacedAt gradient_found k)
    grad-accepted = (λ r. accepted-all gradient_found gradient_count (sym grad-answers ∙ r), λ h. grad-answers ∙ all-accepted gradient_found gradient_count h)

    -- component d of query i
    module _ (i d : ℕ) (h : i < gradient_count) (k : d < g.axis-count) where
      -- for a grid with as many axes as it counts
      pub grad-holds : length g.axes ≡ g.axis-count → ((j : ℕ) → j ≤ i → PlacedAt gradient_found j) → (ps : List Placed) → gradient_found i ≡ places ps → get_or (grad_buffer f g queries buffer) (d * gradient_count + i) nan ≡ get_or (components_of f (grid_counts g) g.vals ps) d nan
      grad-holds counted all ps p =
          ap (λ (b : List Float). get_or b (d * gradient_count + i) nan) (accepted-buffer (gradient_checks f g queries buffer) buffer _ checked)
          ∙ holds gradient_found (put_gradient f (grid_counts g) g.vals gradient_count) gradient_count g.axis-count (g.axis-count * gradient_count) i (d * gradient_count + i)
          (λ qs. get_or (components_of f (grid_counts g) g.vals qs) d nan) (gradient-entry f (grid_counts g) g.vals gradient_count g.axis-count i d h k)
          (λ j qs q. found_length 0 g.axes _ qs q ∙ counted) buffer
          (lengths-checked g.checked g.axis-count gradient_count (length queries) (g.axis-count * gradient_count) (length buffer) checked).1 h all ps p

      pub grad-keeps : (check : Check) (j a : ℕ) → j ≤ i → gradient_found j ≡ refused_at check a
          → get_or (grad_buffer f g queries buffer) (d * gradient_count + i) nan ≡ get_or buffer (d * gradient_count + i) nan
      grad-keeps check j a l u =
          ap (λ (b : List Float). get_or b (d * gradient_count + i) nan) (accepted-buffer (gradient_checks f g queries buffer) buffer _ checked)
          ∙ keeps gradient_found (put_gradient f (grid_counts g) g.vals gradient_count) gradient_count g.axis-count (g.axis-count * gradient_count) i (d * gradient_count + i)
          (λ qs. get_or (components_of f (grid_counts g) g.vals qs) d nan) (gradient-entry f (grid_counts g) g.vals gradient_count g.axis-count i d h k) buffer check j a l u
