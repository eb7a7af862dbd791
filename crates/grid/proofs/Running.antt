-- A batch query by query and column by column, as the code does it: what is left of the queries gives the outcome and the buffer of all.
use mathlib.Core.Path.{◌≡◌, refl, sym, ap, ◌∙◌, subst}
use mathlib.Core.Logic.{⊎_elim}
use mathlib.Core.Bool.{Bool, true, false}
use mathlib.Core.List.{List, [], ◌∷◌, ◌++◌}
use Prim.Native.Nat.{ℕ, zero, suc, ◌+◌, ◌-◌, ◌*◌, ◌/◌, ◌%◌, ◌≤◌, ◌<◌}
use native.Mathlib.Nat.{eq-or-lt_of_le, mul-zero, suc-mul, mod-lt, div-add-mod', div-lt_iff_lt-mul, mul-le-mul_right}
use native.Mathlib.Numerals.{add-one}
use native.Mathlib.Omega.{arith}
use lib.Dec.{ltb}
use lib.ListN.{length, get_or, take, drop, set, length-append, length-drop, length-set, get_or-append}
use lib.Seq.{ext_get_or, get_or-take, get_or-drop, get_or-append-add, length-take-le}
use lib.Ieee.{Float, nan, Format}
use borrow.Author.Tests.{ltb-true, ltb-false}
use Rattle.multicubic.specs.declared.Refusal.{Refusal}
use Rattle.multicubic.specs.declared.Check.{Check}
use Rattle.ieee.specs.Numbers.{zero as nought}
use Rattle.multicubic.specs.Types.{Answer, Outcome, accepted, refusal}
use Rattle.std.specs.Prelude.{Err, Ok}
use Rattle.multicubic.specs.Answers.{answer_outcome}
use Rattle.multicubic.specs.Place.{Placed}
use Rattle.grid.specs.declared.Quantity.{Quantity}
use Rattle.grid.specs.declared.Quantity.TheVariants.{Component}
use Rattle.grid.specs.Query.{GridAxis, counts_of, Grid, grid_counts, Found, refused_at, places, components_of}
use Rattle.grid.specs.Batch.{query_at, found_at, outcome_from, run_from, gradient_checks, grad_buffer}
use Rattle.grid.specs.Internal.{quantity_at, answer_to, put_quantity, answered_before, component_in, Filled, FilledColumns}
use Rattle.grid.proofs.Answering.{answer-refused, answer-value}
use Rattle.grid.proofs.Batches.{PlacedAt, run_length, holds, keeps, put_entry, refused-lowest, accepted-all, components-length, found_length, grad-length, lengths-checked, grad-holds, grad-keeps}

-- ---- the queries in order: what is left of the c answers for all
module _ (found : ℕ → Found) (write : ℕ → List Placed → List Float → List Float) (c i : ℕ) (h : i < c) where
  left : c - i ≡ suc (c - (i + 1))
  left = omega arith

  outcome-placed : (ps : List Placed) → found i ≡ places ps → outcome_from found i (c - i) ≡ outcome_from found (i + 1) (c - (i + 1))
  outcome-placed ps e = rw (left, e, add-one) refl

  outcome-refused : (k : Check) (a : ℕ) → found i ≡ refused_at k a → outcome_from found i (c - i) ≡ Err (refusal k i a)
  outcome-refused k a e = rw (left, e) refl

  run-placed : (ps : List Placed) (b : List Float) → found i ≡ places ps → run_from found write i (c - i) b ≡ run_from found write (i + 1) (c - (i + 1)) (write i ps b)
  run-placed ps b e = rw (left, e, add-one) refl

  run-refused : (k : Check) (a : ℕ) (b : List Float) → found i ≡ refused_at k a → run_from found write i (c - i) b ≡ b
  run-refused k a b e = rw (left, e) refl

module _ (found : ℕ → Found) (write : ℕ → List Placed → List Float → List Float) (c i : ℕ) (e : i ≡ c) where
  outcome-done : outcome_from found i (c - i) ≡ accepted
  outcome-done = let z : c - i ≡ 0 = omega arith in rw z refl

  run-done : (b : List Float) → run_from found write i (c - i) b ≡ b
  run-done b = let z : c - i ≡ 0 = omega arith in rw z refl

-- ---- one loop over the queries
-- the first i of c have their answers; the others are still to be asked
pub record Filling (f : Format) (gs : List GridAxis) (vals queries : List Float) (quantity : Quantity) (c : ℕ) (before : List Float) (i : ℕ) (out : List Float) : Type 0 where
  pub same_length : length out ≡ length before
  pub outcome-left : outcome_from (found_at gs c queries) 0 c ≡ outcome_from (found_at gs c queries) i (c - i)
  pub run-left : run_from (found_at gs c queries) (put_quantity f (counts_of gs) vals quantity) 0 c before ≡ run_from (found_at gs c queries) (put_quantity f (counts_of gs) vals quantity) i (c - i) out

pub filling_none : (f : Format) (gs : List GridAxis) (vals queries : List Float) (quantity : Quantity) (c : ℕ) (before : List Float) → Filling f gs vals queries quantity c before 0 before
filling_none f gs vals queries quantity c before = let z : c - 0 ≡ c = omega arith in record { same_length = refl; outcome-left = rw z refl; run-left = rw z refl }

module _ {f : Format} {gs : List GridAxis} {vals queries : List Float} {quantity : Quantity} {c : ℕ} {before : List Float} {i : ℕ} {out : List Float} (s : Filling f gs vals queries quantity c before i out) where
  abbrev asked : ℕ → Found
  asked = found_at gs c queries

  abbrev write : ℕ → List Placed → List Float → List Float
  write = put_quantity f (counts_of gs) vals quantity

  pub filling-done : i ≡ c → (accepted ≡ outcome_from asked 0 c) × (out ≡ run_from asked write 0 c before)
  filling-done e = (sym (s.outcome-left ∙ outcome-done asked write c i e), sym (s.run-left ∙ run-done asked write c i e out))

  module _ (h : i < c) {answer : Answer} (a : answer ≡ answer_to f gs vals quantity i (asked i)) where
    pub filling-turn : {v : Float} → answer ≡ Ok v → Filling f gs vals queries quantity c before (i + 1) (set out i v)
    filling-turn {v} e =
        let w = answer-value f gs vals quantity i (asked i) v (sym e ∙ a) in
        record {
          same_length = length-set out i v ∙ s.same_length;
          outcome-left = s.outcome-left ∙ outcome-placed asked write c i h w.0 w.1;
          run-left = s.run-left ∙ run-placed asked write c i h w.0 out w.1 ∙ ap (λ (x : Float). run_from asked write (i + 1) (c - (i + 1)) (set out i x)) (sym w.2);
        }

    pub filling-refused : {by : Refusal} → answer ≡ Err by → (answer_outcome answer ≡ outcome_from asked 0 c) × (out ≡ run_from asked write 0 c before)
    filling-refused {by} e =
        let w = answer-refused f gs vals quantity i (asked i) by (sym e ∙ a) in (
          ap answer_outcome e ∙ ap Err w.1 ∙ sym (s.outcome-left ∙ outcome-refused asked write c i h by.check by.axis w.0),
          sym (s.run-left ∙ run-refused asked write c i h by.check by.axis out w.0),
        )

-- ---- a part of the buffer that was lent
module _ (out ys : List Float) (a k : ℕ) (room : a + k ≤ length out) (long : length ys ≡ k) where
  abbrev after : List Float
  after = take a out ++ (ys ++ drop k (drop a out))

  front : length (take a out) ≡ a
  front = length-take-le a out (omega arith)

  part_length : length after ≡ length out
  part_length = simp (length-append, front, length-drop) (omega arith)

  part-before : (j : ℕ) → j < a → get_or after j nan ≡ get_or out j nan
  part-before j h = get_or-append (take a out) _ nan j (omega (arith, front)) ∙ get_or-take a out j nan h

  part-inside : (i : ℕ) → i < k → get_or after (a + i) nan ≡ get_or ys i nan
  part-inside i h =
      ap (λ (m : ℕ). get_or after (m + i) nan) (sym front) ∙ get_or-append-add (take a out) (ys ++ drop k (drop a out)) i nan ∙ get_or-append ys _ nan i (omega arith)

  part-after : (j : ℕ) → a + k ≤ j → get_or after j nan ≡ get_or out j nan
  part-after j h =
      let m : j ≡ a + (k + (j - a - k)) = omega arith in
      rw m
      (ap (λ (p : ℕ). get_or after (p + (k + (j - a - k))) nan) (sym front)
      ∙ get_or-append-add (take a out) (ys ++ drop k (drop a out)) (k + (j - a - k)) nan
      ∙ ap (λ (p : ℕ). get_or (ys ++ drop k (drop a out)) (p + (j - a - k)) nan) (sym long)
      ∙ get_or-append-add ys (drop k (drop a out)) (j - a - k) nan
      ∙ get_or-drop k (drop a out) (j - a - k) nan
      ∙ get_or-drop a out (k + (j - a - k)) nan)

-- ---- the columns, one after the other
-- column d of n stands among them all
column_room : (d n c : ℕ) → d < n → d * c + c ≤ n * c
column_room d n c h = omega (arith, suc-mul d c, mul-le-mul_right c h)

-- the first d columns are filled; the rest is as it was
pub record ColumnsTo (given : ℕ → ℕ → Float) (c stop : ℕ) (before : List Float) (d : ℕ) (out : List Float) : Type 0 where
  pub same_length : length out ≡ length before
  pub filled : (k i : ℕ) → k < d → i < stop → get_or out (k * c + i) nan ≡ given k i
  pub kept : (k i : ℕ) → k < d → stop ≤ i → i < c → get_or out (k * c + i) nan ≡ get_or before (k * c + i) nan
  pub rest : (j : ℕ) → d * c ≤ j → get_or out j nan ≡ get_or before j nan

module _ (given : ℕ → ℕ → Float) (c stop : ℕ) (before : List Float) where
  columns-none : ColumnsTo given c stop before 0 before
  columns-none = record { same_length = refl; filled = λ k i h. absurd (omega arith); kept = λ k i h. absurd (omega arith); rest = λ j h. refl }

  -- column d was lent and has become ys. k is the part's length, as the borrow checker writes it
  module _ (n d k : ℕ) (out ys : List Float) (h : d < n) (within : stop ≤ c) (e : k ≡ c) (size : length before ≡ n * c) (s : ColumnsTo given c stop before d out) (y : Filled (given d) stop (take k (drop (d * c) out)) ys) where
    room : d * c + k ≤ length out
    room = omega (arith, column_room d n c h, s.same_length)

    lent_length : length (take k (drop (d * c) out)) ≡ k
    lent_length = length-take-le k (drop (d * c) out) (simp length-drop (omega (arith, room)))

    long : length ys ≡ k
    long = y.0 ∙ lent_length

    earlier : (m i : ℕ) → m < d → i < c → m * c + i < d * c
    earlier m i l b = omega (arith, column_room m d c l)

    columns-turn : ColumnsTo given c stop before (d + 1) (take (d * c) out ++ (ys ++ drop k (drop (d * c) out)))
    columns-turn = record {
      same_length = part_length out ys (d * c) k room long ∙ s.same_length;
      filled = λ m i l b. ⊎_elim
          (λ (z : m ≡ d). rw z (part-inside out ys (d * c) k room long i (omega arith) ∙ y.1 i b))
          (λ (l : m < d). part-before out ys (d * c) k room long (m * c + i) (earlier m i l (omega arith)) ∙ s.filled m i l b)
          (eq-or-lt_of_le (omega arith));
      kept = λ m i l b t. ⊎_elim
          (λ (z : m ≡ d).
          rw z
          (part-inside out ys (d * c) k room long i (omega arith) ∙ y.2 i b (omega (arith, lent_length)) ∙ get_or-take k (drop (d * c) out) i nan (omega arith) ∙ get_or-drop (d * c) out i nan ∙ s.rest (d * c + i) (omega arith)))
          (λ (l : m < d). part-before out ys (d * c) k room long (m * c + i) (earlier m i l t) ∙ s.kept m i l b t)
          (eq-or-lt_of_le (omega arith));
      rest = λ j l. part-after out ys (d * c) k room long j (omega (arith, suc-mul d c, add-one d, l)) ∙ s.rest j (omega (arith, suc-mul d c, add-one d, l));
    }

  columns-all : (n d : ℕ) (out : List Float) → d ≡ n → ColumnsTo given c stop before d out → FilledColumns given n c stop before out
  columns-all n d out e s = (s.same_length, (λ k i h. s.filled k i (omega arith)), (λ k i h. s.kept k i (omega arith)))

-- ---- a column so run over
module _ (found : ℕ → Found) (c : ℕ) where
  -- the queries before the lowest that is refused have a place
  placeable : (i : ℕ) → i < answered_before (outcome_from found 0 c) c → PlacedAt found i
  placeable = go (outcome_from found 0 c) refl
    where
      go : (o : Outcome) → outcome_from found 0 c ≡ o → (i : ℕ) → i < answered_before o c → PlacedAt found i
      go (Ok _) e i h = accepted-all found c e i h
      go (Err r) e i h = (refused-lowest found c r.check r.query r.axis e).before i h

  stop-within : answered_before (outcome_from found 0 c) c ≤ c
  stop-within = go (outcome_from found 0 c) refl
    where
      go : (o : Outcome) → outcome_from found 0 c ≡ o → answered_before o c ≤ c
      go (Ok _) e = omega arith
      go (Err r) e = let l = (refused-lowest found c r.check r.query r.axis e).inside in omega arith

module _ (f : Format) (gs : List GridAxis) (vals queries : List Float) (d c : ℕ) (before : List Float) (size : length before ≡ c) where
  abbrev in_column : ℕ → Found
  in_column = found_at gs c queries

  abbrev component : List Placed → Float
  component = quantity_at f (counts_of gs) vals (Component d)

  column-filled : Filled (component_in f gs vals c queries d) (answered_before (outcome_from in_column 0 c) c) before (run_from in_column (put_quantity f (counts_of gs) vals (Component d)) 0 c before)
  column-filled = (run_length in_column _ (λ j ps b. length-set b j (component ps)) c before, held, kept)
    where
      held : (i : ℕ) → i < answered_before (outcome_from in_column 0 c) c → get_or (run_from in_column (put_quantity f (counts_of gs) vals (Component d)) 0 c before) i nan ≡ component_in f gs vals c queries d i
      held i h =
          let p = placeable in_column c i h in
          let l = stop-within in_column c in
          holds in_column _ c (length gs) c i i component (put_entry component c (length gs) i (omega arith)) (λ j qs q. found_length 0 gs _ qs q) before size (omega arith) (λ j m. placeable in_column c j (omega arith)) p.0 p.1 ∙ rw p.1 refl

      kept : (i : ℕ) → answered_before (outcome_from in_column 0 c) c ≤ i → i < length before → get_or (run_from in_column (put_quantity f (counts_of gs) vals (Component d)) 0 c before) i nan ≡ get_or before i nan
      kept i h k = go (outcome_from in_column 0 c) refl h
        where
          go : (o : Outcome) → outcome_from in_column 0 c ≡ o → answered_before o c ≤ i → get_or (run_from in_column (put_quantity f (counts_of gs) vals (Component d)) 0 c before) i nan ≡ get_or before i nan
          go (Ok _) e l = absurd (omega arith)
          go (Err r) e l =
              keeps in_column _ c (length gs) c i i component (put_entry component c (length gs) i (omega arith)) before r.check r.query r.axis l
              (refused-lowest in_column c r.check r.query r.axis e).fails

-- ---- the columns, each filled by the loop above
-- d of them are filled, and have met the outcome
pub record Columns (f : Format) (gs : List GridAxis) (vals queries : List Float) (n c : ℕ) (before : List Float) (d : ℕ) (outcome : Outcome) (out : List Float) : Type 0 where
  pub within : d ≤ n
  pub size : length before ≡ n * c
  pub to : ColumnsTo (component_in f gs vals c queries) c (answered_before (outcome_from (found_at gs c queries) 0 c) c) before d out
  pub met : 0 < d → outcome ≡ outcome_from (found_at gs c queries) 0 c

pub columns_start : (f : Format) (gs : List GridAxis) (vals queries : List Float) (n c : ℕ) (before : List Float) (outcome : Outcome) → length before ≡ n * c → Columns f gs vals queries n c before 0 outcome before
columns_start f gs vals queries n c before outcome size = record { within = omega arith; size = size; to = columns-none _ c _ before; met = λ h. absurd (omega arith) }

module _ {f : Format} {gs : List GridAxis} {vals queries : List Float} {n c : ℕ} {before : List Float} {d : ℕ} {outcome : Outcome} {out : List Float} (s : Columns f gs vals queries n c before d outcome out) where
  pub columns-end : 1 ≤ n → n ≤ d → (outcome ≡ outcome_from (found_at gs c queries) 0 c) × FilledColumns (component_in f gs vals c queries) n c (answered_before (outcome_from (found_at gs c queries) 0 c) c) before out
  columns-end some left = let w = s.within in (s.met (omega arith), columns-all _ c _ before n d out (omega arith) s.to)

  module _ (h : d < n) where
    -- column d stands in the buffer, and has as many entries as there are queries
    pub column-in : d * c + c ≤ length out
    column-in = omega (arith, column_room d n c h, s.size, s.to.same_length)

    abbrev pub column : List Float
    column = take (d * c + c - d * c) (drop (d * c) out)

    pub column-length : length column ≡ c
    column-length =
        let e : d * c + c - d * c ≡ c = omega arith in
        rw e (length-take-le c (drop (d * c) out) (simp length-drop (omega (arith, column-in))))

    pub columns-next : (o : Outcome) (ys : List Float) → o ≡ outcome_from (found_at gs (length column) queries) 0 (length column) → ys ≡ run_from (found_at gs (length column) queries) (put_quantity f (counts_of gs) vals (Component d)) 0 (length column) column
        → Columns f gs vals queries n c before (d + 1) o (take (d * c) out ++ (ys ++ drop (d * c + c - d * c) (drop (d * c) out)))
    columns-next o ys e r =
        let k : d * c + c - d * c ≡ c = omega arith in
        let run : ys ≡ run_from (found_at gs c queries) (put_quantity f (counts_of gs) vals (Component d)) 0 c column = r ∙ ap (λ (m : ℕ). run_from (found_at gs m queries) (put_quantity f (counts_of gs) vals (Component d)) 0 m column) column-length in
        record {
          within = omega arith;
          size = s.size;
          to = columns-turn _ c _ before n d (d * c + c - d * c) out ys h (stop-within (found_at gs c queries) c) k s.size s.to (rw run (column-filled f gs vals queries d c column column-length));
          met = λ z. e ∙ ap (λ (m : ℕ). outcome_from (found_at gs m queries) 0 m) column-length;
        }

-- ---- columns so filled are what `interp_grad` leaves
-- an entry that is there does not depend on what would stand past the end
pub default : {A : Type 0} (xs : List A) (d : ℕ) (a b : A) → d < length xs → get_or xs d a ≡ get_or xs d b
default [] d a b h = absurd (omega arith)
default (x ∷ xs) zero a b h = refl
default (x ∷ xs) (suc d) a b h = default xs d a b (omega arith)

module _ (f : Format) (g : Grid) (queries before after : List Float) (counted : length g.axes ≡ g.axis-count) (some : 1 ≤ g.axis-count) (checked : gradient_checks f g queries before ≡ accepted) where
  abbrev c : ℕ
  c = length before / g.axis-count

  abbrev found : ℕ → Found
  found = found_at g.axes c queries

  module _ (filled : FilledColumns (component_in f g.axes g.vals c queries) g.axis-count c (answered_before (outcome_from found 0 c) c) before after) where
    entry : (d i : ℕ) → d < g.axis-count → i < c → get_or after (d * c + i) nan ≡ get_or (grad_buffer f g queries before) (d * c + i) nan
    entry d i h k = go (outcome_from found 0 c) refl (ltb i (answered_before (outcome_from found 0 c) c)) refl
      where
        go : (o : Outcome) → outcome_from found 0 c ≡ o → (b : Bool) → ltb i (answered_before (outcome_from found 0 c) c) ≡ b → get_or after (d * c + i) nan ≡ get_or (grad_buffer f g queries before) (d * c + i) nan
        go o e true t =
            let l = ltb-true i (answered_before (outcome_from found 0 c) c) t in
            let p = placeable found c i l in
            let same : component_in f g.axes g.vals c queries d i ≡ get_or (components_of f (grid_counts g) g.vals p.0) d nan =
            rw p.1
            (default (components_of f (grid_counts g) g.vals p.0) d nought nan
            (omega (arith, components-length f (grid_counts g) g.vals p.0 0 p.0, found_length 0 g.axes (query_at c queries i) p.0 p.1, counted))) in
            filled.1 d i h l ∙ same ∙ sym (grad-holds f g queries before checked i d k h counted (λ j m. placeable found c j (omega arith)) p.0 p.1)
        go (Ok _) e false t =
            absurd (let l : c ≤ i = rw e at (ltb-false i (answered_before (outcome_from found 0 c) c) t) in omega arith)
        go (Err r) e false t =
            let l = ltb-false i (answered_before (outcome_from found 0 c) c) t in
            let m : r.query ≤ i = rw e at l in
            filled.2 d i h l k ∙ sym (grad-keeps f g queries before checked i d k h r.check r.query r.axis m (refused-lowest found c r.check r.query r.axis e).fails)

    size : length before ≡ g.axis-count * c
    size = (lengths-checked g.checked g.axis-count c (length queries) (g.axis-count * c) (length before) checked).1

    pub columns-are : after ≡ grad_buffer f g queries before
    columns-are =
        ext_get_or nan after (grad_buffer f g queries before) (filled.0 ∙ sym (grad-length f g queries before))
        (λ k h.
        let l : k < g.axis-count * c = omega (arith, filled.0, size, h) in
        let some : 0 < c = positive k c g.axis-count l in
        let z : k / c * c + k % c ≡ k = div-add-mod' k c in
        subst (λ (m : ℕ). get_or after m nan ≡ get_or (grad_buffer f g queries before) m nan) z (entry (k / c) (k % c) ((div-lt_iff_lt-mul some).1 l) (mod-lt k some)))
      where
        positive : (k c n : ℕ) → k < n * c → 0 < c
        positive k zero n l = absurd (omega (arith, mul-zero n))
        positive k (suc c) n l = omega arith
