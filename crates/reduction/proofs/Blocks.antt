-- Section 8 of the reduction: two tables that agree in the block give the same result, also with a replaced row; rows that are one at a
-- node's place give the number stored there. The axis count is a parameter.
use mathlib.Core.Path.{◌≡◌, refl, sym, ap, ◌∙◌, subst}
use mathlib.Core.List.{List, [], ◌∷◌}
use mathlib.Core.Logic.{inl}
use Prim.Native.Nat.{ℕ, zero, suc, ◌<◌}
use native.Mathlib.Omega.{arith}
use lib.Dec.{T, lit<}
use lib.ListN.{length, get_or, set, length-set}
use lib.Ieee.{Float, nan, Format, mul, eq, fits}
use lib.Ieee.Scale.{finite}
use Rattle.ieee.proofs.Zero.{IsZero}
use Rattle.ieee.proofs.ZeroOne.{Same, same_trans, same_finite, same_fits, mul-one-left, mul-zero-left, add-zeros, add_same_zero, add_zero_same}
use Rattle.ieee.proofs.Cancel.{same→eq}
use Rattle.interp_math.specs.Dot.{dot4}
use Rattle.reduction.specs.Value.{block, four, reduce_of}
use Rattle.reduction.specs.Gradient.{component_of}
use Rattle.multicubic.proofs.Nodes.{OneAt}
use Rattle.reduction.specs.Nodes.{InBlock}
use Rattle.reduction.proofs.Reduction.{step, reduce_agree}

-- ---- only the block
abbrev pub SameBlock : ℕ → List ℕ → List ℕ → List Float → List Float → Type 0
SameBlock n ss os vals vals' = (js : List ℕ) → InBlock n js → block vals ss os js ≡ block vals' ss os js

pub value_of_block : (f : Format) (ws : List (List Float)) (ss os : List ℕ) (vals vals' : List Float) → SameBlock (length ws) ss os vals vals' → reduce_of f ws (block vals ss os) ≡ reduce_of f ws (block vals' ss os)
value_of_block f ws ss os vals vals' same = reduce_agree f ws (block vals ss os) (block vals' ss os) same

pub component_of_block : (f : Format) (ws : List (List Float)) (d : ℕ) (row : List Float) (ss os : List ℕ) (vals vals' : List Float)
    → SameBlock (length ws) ss os vals vals' → component_of f ws d row (block vals ss os) ≡ component_of f ws d row (block vals' ss os)
component_of_block f ws d row ss os vals vals' same =
    value_of_block f (set ws d row) ss os vals vals' (subst (λ (n : ℕ). SameBlock n ss os vals vals') (sym (length-set ws d row)) same)

-- ---- one at a node's place
-- each axis's row is one at its own place
abbrev pub OneAtEach : List ℕ → List (List Float) → Type 0
OneAtEach [] [] = Unit
OneAtEach (j ∷ js) (w ∷ ws) = OneAt j w × OneAtEach js ws
OneAtEach [] (w ∷ ws) = ⊥
OneAtEach (j ∷ js) [] = ⊥

-- finite, and held by the format
abbrev pub Held : Format → Float → Type 0
Held f v = T (finite v) × T (fits f v)

module _ (f : Format) (w : List Float) (v0 v1 v2 v3 : Float) (p0 : Held f v0) (p1 : Held f v1) (p2 : Held f v2) (p3 : Held f v3) where
  zeroed : {j : ℕ} → OneAt j w → (k : ℕ) (v : Float) → k < 4 → (k ≡ j → ⊥) → Held f v → IsZero (mul f (get_or w k nan) v)
  zeroed h k v l n p = mul-zero-left f (get_or w k nan) v (h.zero-elsewhere k l n) p.0

  kept : {j : ℕ} → OneAt j w → (v : Float) → Held f v → Same (mul f (get_or w j nan) v) v
  kept h v p = inl (ap (λ (x : Float). mul f x v) h.one-here ∙ mul-one-left f v p.0 p.1)

  -- the four-term sum with one at place j is the value at j
  pub dot4-one : (j : ℕ) → OneAt j w → Same (dot4 f w (v0 ∷ v1 ∷ v2 ∷ v3 ∷ [])) (get_or (v0 ∷ v1 ∷ v2 ∷ v3 ∷ []) j nan)
  unfolding dot4
  dot4-one zero h =
      add_same_zero f _ v0 _ p0.0 p0.1
      (add_zero_same f _ _ v0 p0.0 p0.1 (zeroed h 1 v1 (lit< tt) (λ e. omega arith) p1) (kept h v0 p0))
      (add-zeros f _ _ (zeroed h 3 v3 (lit< tt) (λ e. omega arith) p3) (zeroed h 2 v2 (lit< tt) (λ e. omega arith) p2))
  dot4-one (suc zero) h =
      add_same_zero f _ v1 _ p1.0 p1.1
      (add_same_zero f _ v1 _ p1.0 p1.1 (kept h v1 p1) (zeroed h 0 v0 (lit< tt) (λ e. omega arith) p0))
      (add-zeros f _ _ (zeroed h 3 v3 (lit< tt) (λ e. omega arith) p3) (zeroed h 2 v2 (lit< tt) (λ e. omega arith) p2))
  dot4-one (suc (suc zero)) h =
      add_zero_same f _ _ v2 p2.0 p2.1
      (add-zeros f _ _ (zeroed h 1 v1 (lit< tt) (λ e. omega arith) p1) (zeroed h 0 v0 (lit< tt) (λ e. omega arith) p0))
      (add_zero_same f _ _ v2 p2.0 p2.1 (zeroed h 3 v3 (lit< tt) (λ e. omega arith) p3) (kept h v2 p2))
  dot4-one (suc (suc (suc zero))) h =
      add_zero_same f _ _ v3 p3.0 p3.1
      (add-zeros f _ _ (zeroed h 1 v1 (lit< tt) (λ e. omega arith) p1) (zeroed h 0 v0 (lit< tt) (λ e. omega arith) p0))
      (add_same_zero f _ v3 _ p3.0 p3.1 (kept h v3 p3) (zeroed h 2 v2 (lit< tt) (λ e. omega arith) p2))
  dot4-one (suc (suc (suc (suc j)))) h = absurd (let l = h.inside in omega arith)

-- v is the block: every value of it is finite, and each axis's row is one at its own place
pub reduce_one : (f : Format) (ws : List (List Float)) (js : List ℕ) (v : List ℕ → Float) → ((ks : List ℕ) → InBlock (length ws) ks → Held f (v ks)) → OneAtEach js ws → Same (reduce_of f ws v) (v js)
unfolding reduce_of
reduce_one f [] [] v held h = inl refl
reduce_one f [] (j ∷ js) v held h = absurd h
reduce_one f (w ∷ ws) [] v held h = absurd h
reduce_one f (w ∷ ws) (j ∷ js) v held h =
    same_trans (reduce_of f ws (step f w v)) (step f w v js) (v (j ∷ js)) (reduce_one f ws js (step f w v) (λ ks i. (after ks i).1) h.1) (after js (places js ws h.1)).0
  where
    places : (js : List ℕ) (ws : List (List Float)) → OneAtEach js ws → InBlock (length ws) js
    places [] [] h = tt
    places [] (w ∷ ws) h = absurd h
    places (j ∷ js) [] h = absurd h
    places (j ∷ js) (w ∷ ws) h = (h.0.inside, places js ws h.1)

    picked : (j : ℕ) → j < 4 → (ks : List ℕ) → get_or (four (λ k. v (k ∷ ks))) j nan ≡ v (j ∷ ks)
    picked zero l ks = refl
    picked (suc zero) l ks = refl
    picked (suc (suc zero)) l ks = refl
    picked (suc (suc (suc zero))) l ks = refl
    picked (suc (suc (suc (suc j)))) l ks = absurd (omega arith)

    after : (ks : List ℕ) → InBlock (length ws) ks → Same (step f w v ks) (v (j ∷ ks)) × Held f (step f w v ks)
    after ks i =
        let p : (k : ℕ) → k < 4 → Held f (v (k ∷ ks)) = λ k l. held (k ∷ ks) (l, i) in
        let s : Same (step f w v ks) (v (j ∷ ks)) =
        subst (λ (x : Float). Same (step f w v ks) x) (picked j h.0.inside ks)
        (dot4-one f w (v (0 ∷ ks)) (v (1 ∷ ks)) (v (2 ∷ ks)) (v (3 ∷ ks)) (p 0 (lit< tt)) (p 1 (lit< tt)) (p 2 (lit< tt)) (p 3 (lit< tt)) j h.0) in
        let q = p j h.0.inside in
        (s, (same_finite (step f w v ks) (v (j ∷ ks)) s q.0, same_fits f (step f w v ks) (v (j ∷ ks)) s q.1))

-- the number stored at the node, the sign of zero aside
pub value-at-node : (f : Format) (ws : List (List Float)) (js : List ℕ) (vals : List Float) (ss os : List ℕ) → ((ks : List ℕ) → InBlock (length ws) ks → Held f (block vals ss os ks)) → OneAtEach js ws → T (finite (block vals ss os js)) → T (eq (reduce_of f ws (block vals ss os)) (block vals ss os js))
value-at-node f ws js vals ss os held h t = same→eq (reduce_of f ws (block vals ss os)) (block vals ss os js) t (reduce_one f ws js (block vals ss os) held h)
