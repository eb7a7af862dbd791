-- Four values read as floats, and one axis more of what is read so.
use mathlib.Core.Path.{◌≡◌, sym, ap, ◌∙◌}
use mathlib.Core.List.{List, [], ◌∷◌, map}
use Prim.Native.Nat.{ℕ, ◌+◌, ◌*◌, ◌^◌, ◌-◌, ◌≤◌, ◌<◌, zero, suc}
use mathlib.Core.Path.{refl}
use native.Mathlib.Nat.{mul_comm, pow-suc}
use native.Mathlib.Omega.{arith}
use lib.ListN.{length, get_or}
use lib.Ieee.{Float, nan, Format}
use Rattle.ieee.specs.Numbers.{zero as nought}
use Rattle.interp_math.specs.Dot.{dot4}
use Rattle.interp_math.proofs.Lists.{float_at, float_get, row_at, rows_length}
use Rattle.reduction.specs.Internal.{from, Along}
use Rattle.shared_sums.specs.Internal.{Reduced}
use Rattle.shared_sums.specs.Sums.{steps_to, steps_of}
use Rattle.shared_sums.proofs.Joining.{joined, part_none}

module _ {A : Type 0} {float : A → Float} {floats : List A → List Float} (law : (xs : List A) → map float xs ≡ floats xs) where
  pub four_nought : (z : A) → float z ≡ nought → floats (z ∷ z ∷ z ∷ z ∷ []) ≡ nought ∷ nought ∷ nought ∷ nought ∷ []
  four_nought z e = sym (law (z ∷ z ∷ z ∷ z ∷ [])) ∙ (λ i. e i ∷ e i ∷ e i ∷ e i ∷ [])

  pub four_read : (k : ℕ) (x0 x1 x2 x3 : A) (g0 g1 g2 g3 : List A) → k < length g0 → k < length g1 → k < length g2 → k < length g3
      → floats (get_or g0 k x0 ∷ get_or g1 k x1 ∷ get_or g2 k x2 ∷ get_or g3 k x3 ∷ [])
      ≡ get_or (floats g0) k nan ∷ get_or (floats g1) k nan ∷ get_or (floats g2) k nan ∷ get_or (floats g3) k nan ∷ []
  four_read k x0 x1 x2 x3 g0 g1 g2 g3 l0 l1 l2 l3 =
      sym (law (get_or g0 k x0 ∷ get_or g1 k x1 ∷ get_or g2 k x2 ∷ get_or g3 k x3 ∷ []))
      ∙ sym (λ i. float_get law g0 k x0 l0 i ∷ float_get law g1 k x1 l1 i ∷ float_get law g2 k x2 l2 i ∷ float_get law g3 k x3 l3 i ∷ [])

  module _ {rows : List (List A) → List (List Float)} (rows_law : (xs : List (List A)) → map (map float) xs ≡ rows xs) (f : Format) (vals : List A) (w ds : List (List A)) (ss : List ℕ) (base : ℕ) where
    -- a value of the table, and no component yet
    pub part_read : (x z : A) → base < length vals → x ≡ get_or vals base x → float z ≡ nought → Reduced f 0 (rows w) (rows ds) (from (floats vals) ss base) (float x) (floats (z ∷ z ∷ z ∷ z ∷ []))
    part_read x z l e n = part_none f (floats vals) (rows w) (rows ds) ss base (sym (float_at law vals base x l e)) (four_nought z n)

    -- what `over_axis` promises of four parts; the last axis as the code has it
    pub joined_read : (last k : ℕ) → last ≡ k → k < length w → k < length ds → k < length ss → (is : List ℕ) → Along base (get_or ss last 0) is
        → {x0 x1 x2 x3 : Float} {g0 g1 g2 g3 : List Float}
        → Reduced f k (rows w) (rows ds) (from (floats vals) ss (get_or is 0 0)) x0 g0
        → Reduced f k (rows w) (rows ds) (from (floats vals) ss (get_or is 1 0)) x1 g1
        → Reduced f k (rows w) (rows ds) (from (floats vals) ss (get_or is 2 0)) x2 g2
        → Reduced f k (rows w) (rows ds) (from (floats vals) ss (get_or is 3 0)) x3 g3
        → {r : Float} {g : List Float}
        → r ≡ dot4 f (floats (get_or w last [])) (x0 ∷ x1 ∷ x2 ∷ x3 ∷ [])
        → ((d : ℕ) → d < last → get_or g d nan ≡ dot4 f (floats (get_or w last [])) (get_or g0 d nan ∷ get_or g1 d nan ∷ get_or g2 d nan ∷ get_or g3 d nan ∷ []))
        → get_or g last nan ≡ dot4 f (floats (get_or ds last [])) (x0 ∷ x1 ∷ x2 ∷ x3 ∷ [])
        → ((d : ℕ) → last < d → d < 4 → get_or g d nan ≡ nought)
        → Reduced f (suc k) (rows w) (rows ds) (from (floats vals) ss base) r g
    joined_read last k n kw kd ks is along {x0} {x1} {x2} {x3} p0 p1 p2 p3 {r} {g} value below own past =
        let rw_of : (xs : List Float) → dot4 f (floats (get_or w last [])) xs ≡ dot4 f (get_or (rows w) k []) xs = λ xs. ap (λ (row : List Float). dot4 f row xs) (ap (λ (j : ℕ). floats (get_or w j [])) n ∙ sym (row_at law rows_law w k kw)) in
        let ds_of : (xs : List Float) → dot4 f (floats (get_or ds last [])) xs ≡ dot4 f (get_or (rows ds) k []) xs = λ xs. ap (λ (row : List Float). dot4 f row xs) (ap (λ (j : ℕ). floats (get_or ds j [])) n ∙ sym (row_at law rows_law ds k kd)) in
        joined f (floats vals) (rows w) (rows ds) ss k base (omega (arith, rows_length law rows_law w)) ks is (rw n at along) p0 p1 p2 p3
        (value ∙ rw_of _) (λ d l. below d (omega arith) ∙ rw_of _) (ap (λ (j : ℕ). get_or g j nan) (sym n) ∙ own ∙ ds_of _) (λ d l. past d (omega arith))

-- ---- the steps over one axis more: four times those over the axes before it, and one for the value and each component
steps_grow : (n j : ℕ) → j ≤ n → steps_to (suc n) j ≡ 4 * steps_to n j
steps_grow n zero h = refl
steps_grow n (suc j) h =
    let e = steps_grow n j (omega arith) in
    let m : suc n - suc j ≡ suc (n - suc j) = omega arith in
    let p : 4 ^ (suc n - suc j) ≡ 4 * 4 ^ (n - suc j) = rw m (pow-suc 4 (n - suc j) ∙ mul_comm (4 ^ (n - suc j)) 4) in
    rw (e, p) (omega arith)

pub steps_next : (k : ℕ) → steps_of (suc k) ≡ 4 * steps_of k + (2 + k)
steps_next k =
    let e = steps_grow k k (omega arith) in
    let m : suc k - suc k ≡ 0 = omega arith in
    rw (e, m) (omega arith)
