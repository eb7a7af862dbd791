-- Laws of the reduction, the axis count a parameter: only the block is read; the last axis is summed at the end; reading by a running index
-- from a base index and strides.
use mathlib.Core.Path.{◌≡◌, refl, sym, ap, ◌∙◌}
use mathlib.Core.List.{List, [], ◌∷◌, ◌++◌, map}
use Prim.Native.Nat.{ℕ, zero, suc, ◌+◌, ◌*◌, ◌≤◌, ◌<◌}
use native.Mathlib.Nat.{add-zero, add-mul, suc-mul, mul-le-mul_right}
use native.Mathlib.Omega.{arith}
use lib.Dec.{lit<}
use lib.ListN.{length, get_or, take, length-append}
use lib.Seq.{take-suc, length-take-le}
use lib.Ieee.{Float, nan, Format}
use Rattle.interp_math.specs.Dot.{dot4}
use Rattle.interp_math.proofs.Lists.{float_at, row_at, rows_length}
use Rattle.reduction.specs.Value.{offset, shifted, block, four, reduce_of}
use Rattle.reduction.specs.Internal.{reach, from, added, Along, Reads}
use Rattle.reduction.specs.Nodes.{InBlock}

-- one step: the values after axis 0 is summed
abbrev pub step : Format → List Float → (List ℕ → Float) → List ℕ → Float
step f w v js = dot4 f w (four (λ j. v (j ∷ js)))

same_four : (g h : ℕ → Float) → ((j : ℕ) → j < 4 → g j ≡ h j) → four g ≡ four h
same_four g h e =
    let e0 = e 0 (lit< tt) in
    let e1 = e 1 (lit< tt) in
    let e2 = e 2 (lit< tt) in
    let e3 = e 3 (lit< tt) in
    cc

-- ---- only the values of the block are read
pub reduce_agree : (f : Format) (ws : List (List Float)) (v v' : List ℕ → Float) → ((js : List ℕ) → InBlock (length ws) js → v js ≡ v' js) → reduce_of f ws v ≡ reduce_of f ws v'
unfolding reduce_of
reduce_agree f [] v v' h = h [] tt
reduce_agree f (w ∷ ws) v v' h = reduce_agree f ws (step f w v) (step f w v') (λ js i. ap (dot4 f w) (same_four (λ j. v (j ∷ js)) (λ j. v' (j ∷ js)) (λ j l. h (j ∷ js) (l, i))))

-- ---- the last axis at the end
pub reduce_last : (f : Format) (ws : List (List Float)) (w : List Float) (v : List ℕ → Float) → reduce_of f (ws ++ (w ∷ [])) v ≡ dot4 f w (four (λ j. reduce_of f ws (λ js. v (js ++ (j ∷ [])))))
unfolding reduce_of
reduce_last f [] w v = refl
reduce_last f (x ∷ ws) w v = reduce_last f ws w (step f x v)

-- ---- a running index
pub added_is : (s j i : ℕ) → added s j i ≡ i + j * s
added_is s zero i = omega arith
added_is s (suc j) i = let e = added_is s j i in omega (arith, suc-mul j s)

-- where three strides and r more lie within the values, r lies within them from each of the four indices along an axis
pub along_room : (base stride r values j : ℕ) (is : List ℕ) → Along base stride is → j < 4 → base + r + 3 * stride < values → get_or is j 0 + r < values
along_room base stride r values j is along l room =
    let m : j * stride ≤ 3 * stride = mul-le-mul_right stride (omega arith) in
    let a = along j l in
    let e = added_is stride j base in
    omega arith

pub offset_last : (js : List ℕ) (j : ℕ) (ss : List ℕ) → length js < length ss → offset (js ++ (j ∷ [])) ss ≡ offset js ss + j * get_or ss (length js) 0
offset_last [] j [] h = absurd (omega arith)
offset_last [] j (s ∷ ss) h = omega arith
offset_last (i ∷ is) j [] h = absurd (omega arith)
offset_last (i ∷ is) j (s ∷ ss) h = let e = offset_last is j ss (omega arith) in omega (arith, e)

-- from the index for j along axis k on, the values for js are those for js and j from base on
handed_on : (k base j : ℕ) (is ss js : List ℕ) → k < length ss → Along base (get_or ss k 0) is → j < 4 → length js ≡ k → base + offset (js ++ (j ∷ [])) ss ≡ get_or is j 0 + offset js ss
handed_on k base j is ss js h along l n =
    let a = along j l in
    let e = added_is (get_or ss k 0) j base in
    let o = offset_last js j ss (omega arith) ∙ ap (λ (x : ℕ). offset js ss + j * get_or ss x 0) n in
    omega arith

-- each way leads as far from its base as the sum of index × stride
pub reads_offset : (n base : ℕ) (ss js : List ℕ) (i : ℕ) → n ≤ length ss → Reads n base ss js i → (length js ≡ n) × (i ≡ base + offset js ss)
reads_offset zero base ss js i h r = (ap length r.0, r.1 ∙ sym (add-zero base) ∙ ap (λ (l : List ℕ). base + offset l ss) (sym r.0))
reads_offset (suc k) base ss js i h r =
    let e = reads_offset k (get_or r.0 r.1 0) ss r.2 i (omega arith) r.6 in
    let o = handed_on k base r.1 r.0 ss r.2 (omega arith) r.3 r.4 e.0 in (
      ap length r.5 ∙ length-append r.2 (r.1 ∷ []) ∙ omega (arith, e.0),
      e.1 ∙ sym o ∙ ap (λ (l : List ℕ). base + offset l ss) (sym r.5),
    )

-- ---- from a base index
in_length : (n : ℕ) (js : List ℕ) → InBlock n js → length js ≡ n
in_length zero [] h = refl
in_length zero (j ∷ js) h = absurd h
in_length (suc n) [] h = absurd h
in_length (suc n) (j ∷ js) h = ap suc (in_length n js h.1)

-- is: the indices along axis k
module _ (f : Format) (vals : List Float) (w : List (List Float)) (ss : List ℕ) (k base : ℕ) (kw : k < length w) (ks : k < length ss) (is : List ℕ) (along : Along base (get_or ss k 0) is) where
  at : (j : ℕ) → j < 4 → reduce_of f (take k w) (λ js. from vals ss base (js ++ (j ∷ []))) ≡ reduce_of f (take k w) (from vals ss (get_or is j 0))
  at j l =
      reduce_agree f (take k w) (λ js. from vals ss base (js ++ (j ∷ []))) (from vals ss (get_or is j 0))
      (λ js b. ap (λ (o : ℕ). get_or vals o nan) (handed_on k base j is ss js ks along l (in_length (length (take k w)) js b ∙ length-take-le k w (omega arith))))

  -- the reduction over axes 0 to k is the four-term sum, over axis k, of the reductions over the axes before it
  pub reduce-step : reduce_of f (take (suc k) w) (from vals ss base) ≡ dot4 f (get_or w k []) (four (λ j. reduce_of f (take k w) (from vals ss (get_or is j 0))))
  reduce-step =
      ap (λ (ws : List (List Float)). reduce_of f ws (from vals ss base)) (take-suc w k [] kw)
      ∙ reduce_last f (take k w) (get_or w k []) (from vals ss base)
      ∙ ap (dot4 f (get_or w k [])) (same_four (λ j. reduce_of f (take k w) (λ js. from vals ss base (js ++ (j ∷ [])))) (λ j. reduce_of f (take k w) (from vals ss (get_or is j 0))) at)

  -- the same of the numbers that the code has
  pub step_is : (v0 v1 v2 v3 r : Float)
      → v0 ≡ reduce_of f (take k w) (from vals ss (get_or is 0 0))
      → v1 ≡ reduce_of f (take k w) (from vals ss (get_or is 1 0))
      → v2 ≡ reduce_of f (take k w) (from vals ss (get_or is 2 0))
      → v3 ≡ reduce_of f (take k w) (from vals ss (get_or is 3 0))
      → r ≡ dot4 f (get_or w k []) (v0 ∷ v1 ∷ v2 ∷ v3 ∷ []) → r ≡ reduce_of f (take (suc k) w) (from vals ss base)
  step_is v0 v1 v2 v3 r e0 e1 e2 e3 e = cc reduce-step

-- over no axis, the value itself
pub leaf : (f : Format) (vals : List Float) (ss : List ℕ) (base : ℕ) → get_or vals base nan ≡ reduce_of f [] (from vals ss base)
unfolding reduce_of
leaf f vals ss base = ap (λ (z : ℕ). get_or vals z nan) (sym (add-zero base))

-- ---- the same of values that are read as floats; the last axis as the code has it
module _ {A : Type 0} {float : A → Float} {floats : List A → List Float} {rows : List (List A) → List (List Float)} (law : (xs : List A) → map float xs ≡ floats xs) (rows_law : (xs : List (List A)) → map (map float) xs ≡ rows xs) (f : Format) (vals : List A) (w : List (List A)) (ss : List ℕ) (base : ℕ) where
  pub leaf_read : (x : A) → base < length vals → x ≡ get_or vals base x → float x ≡ reduce_of f [] (from (floats vals) ss base)
  leaf_read x l e = sym (float_at law vals base x l e) ∙ leaf f (floats vals) ss base

  pub step_read : (last k : ℕ) → last ≡ k → k < length w → k < length ss → (is : List ℕ) → Along base (get_or ss last 0) is
      → (v0 v1 v2 v3 r : A)
      → float v0 ≡ reduce_of f (take k (rows w)) (from (floats vals) ss (get_or is 0 0))
      → float v1 ≡ reduce_of f (take k (rows w)) (from (floats vals) ss (get_or is 1 0))
      → float v2 ≡ reduce_of f (take k (rows w)) (from (floats vals) ss (get_or is 2 0))
      → float v3 ≡ reduce_of f (take k (rows w)) (from (floats vals) ss (get_or is 3 0))
      → float r ≡ dot4 f (floats (get_or w last [])) (floats (v0 ∷ v1 ∷ v2 ∷ v3 ∷ [])) → float r ≡ reduce_of f (take (suc k) (rows w)) (from (floats vals) ss base)
  step_read last k n kw ks is along v0 v1 v2 v3 r e0 e1 e2 e3 e =
      step_is f (floats vals) (rows w) ss k base (rw (rows_length law rows_law w) kw) ks is (rw n at along) (float v0) (float v1) (float v2) (float v3) (float r) e0 e1 e2 e3
      ((rw n at e) ∙ sym (λ i. dot4 f (row_at law rows_law w k kw i) (law (v0 ∷ v1 ∷ v2 ∷ v3 ∷ []) i)))

-- ---- the block at its origins is read from the base index
offset-shifted : (os js ss : List ℕ) → length js ≡ length os → length os ≤ length ss → offset (shifted os js) ss ≡ offset os ss + offset js ss
offset-shifted [] [] ss e d = refl
offset-shifted [] (j ∷ js) ss e d = absurd (omega arith)
offset-shifted (o ∷ os) [] ss e d = absurd (omega arith)
offset-shifted (o ∷ os) (j ∷ js) [] e d = absurd (omega arith)
offset-shifted (o ∷ os) (j ∷ js) (s ∷ ss) e d =
    let i = offset-shifted os js ss (omega arith) (omega arith) in
    omega (arith, i, add-mul o j s)

shifted-most : (os js : List ℕ) → length (shifted os js) ≤ length os
shifted-most [] js = omega arith
shifted-most (o ∷ os) [] = omega arith
shifted-most (o ∷ os) (j ∷ js) = let i = shifted-most os js in omega arith

-- the strides of the first n of four axes
pub offset-take : (js ss : List ℕ) (n : ℕ) → length js ≤ n → offset js (take n ss) ≡ offset js ss
offset-take [] ss n h = refl
offset-take (j ∷ js) [] zero h = refl
offset-take (j ∷ js) [] (suc n) h = refl
offset-take (j ∷ js) (s ∷ ss) zero h = absurd (omega arith)
offset-take (j ∷ js) (s ∷ ss) (suc n) h = ap (λ (z : ℕ). j * s + z) (offset-take js ss n (omega arith))

-- from the sum of origin × stride on: the sum of (origin + j) × stride
from_origins : (n base : ℕ) (os js ss : List ℕ) → length os ≡ n → length js ≡ n → n ≤ length ss → base ≡ offset os ss → base + offset js ss ≡ offset (shifted os js) (take n ss)
from_origins n base os js ss lo lj ls e =
    let o = offset-shifted os js ss (omega arith) (omega arith) in
    let sum : base + offset js ss ≡ offset (shifted os js) ss = omega arith in
    sum ∙ sym (offset-take (shifted os js) ss n (let m = shifted-most os js in omega arith))

-- clause 5.5, in a call on n axes whose strides are the first n of ss: every way from the sum of origin × stride leads to the sum of (origin + j) × stride
pub read_at : (n base : ℕ) (os js ss : List ℕ) (i : ℕ) → length os ≡ n → n ≤ length ss → base ≡ offset os ss → Reads n base ss js i → i ≡ offset (shifted os js) (take n ss)
read_at n base os js ss i lo ls e r = let h = reads_offset n base ss js i ls r in h.1 ∙ from_origins n base os js ss lo h.0 ls e

pub from_block : (f : Format) (vals : List Float) (ws : List (List Float)) (ss os : List ℕ) (n base : ℕ) → length ws ≡ n → length os ≡ n → n ≤ length ss → base ≡ offset os ss
    → reduce_of f ws (from vals ss base) ≡ reduce_of f ws (block vals (take n ss) os)
from_block f vals ws ss os n base lw lo ls e =
    reduce_agree f ws (from vals ss base) (block vals (take n ss) os)
    (λ js i. ap (λ (o : ℕ). get_or vals o nan) (from_origins n base os js ss lo (in_length (length ws) js i ∙ lw) ls e))

-- ---- how far a block reaches: by its last axis, and by those before it
pub reach_next : (ss : List ℕ) (k : ℕ) → k < length ss → reach (take (suc k) ss) ≡ reach (take k ss) + 3 * get_or ss k 0
reach_next [] k h = absurd (omega arith)
reach_next (s ∷ ss) zero h = omega arith
reach_next (s ∷ ss) (suc k) h = let e = reach_next ss k (omega arith) in omega (arith, e)

-- from each of the four indices along the last axis on, the block over the axes before it lies within the values; the last axis as the code has it
pub hand_room : (last k base values : ℕ) (ss is : List ℕ) → last ≡ k → k < length ss → Along base (get_or ss last 0) is → base + reach (take (suc k) ss) < values → (j : ℕ) → j < 4 → get_or is j 0 + reach (take k ss) < values
hand_room last k base values ss is n h along room j l = along_room base (get_or ss k 0) (reach (take k ss)) values j is (rw n at along) l (let e = reach_next ss k h in omega arith)

-- how far the reductions over one to four axes reach
pub reaches : (ss : List ℕ) → length ss ≡ 4 → (reach (take 1 ss) ≡ 3 * get_or ss 0 0) × (reach (take 2 ss) ≡ 3 * get_or ss 0 0 + 3 * get_or ss 1 0) × (reach (take 3 ss) ≡ 3 * get_or ss 0 0 + 3 * get_or ss 1 0 + 3 * get_or ss 2 0) × (reach (take 4 ss) ≡ 3 * get_or ss 0 0 + 3 * get_or ss 1 0 + 3 * get_or ss 2 0 + 3 * get_or ss 3 0)
reaches [] h = absurd (omega arith)
reaches (a ∷ []) h = absurd (omega arith)
reaches (a ∷ b ∷ []) h = absurd (omega arith)
reaches (a ∷ b ∷ c ∷ []) h = absurd (omega arith)
reaches (a ∷ b ∷ c ∷ d ∷ []) h = (omega arith, omega arith, omega arith, omega arith)
reaches (a ∷ b ∷ c ∷ d ∷ e ∷ rest) h = absurd (omega arith)
