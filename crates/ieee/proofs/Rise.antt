-- Where x < y, the gap y - x, one rounded subtraction, is above zero: two numbers of a format are a whole number of its smallest value apart.
use mathlib.Core.Path.{◌≡◌, refl, sym, ap, ◌∙◌, subst}
use mathlib.Core.Bool.{Bool, true, false, not, ◌&&◌, cond}
use Prim.Native.Nat.{ℕ, zero, suc, ◌+◌, ◌-◌, ◌*◌, ◌^◌, ◌≤◌, ◌<◌}
use native.Mathlib.Nat.{le_trans, le_of_eq, mul_comm, mul_assoc, mul_right_comm, one-mul, mul-pos, mul-le-mul_right, mul-lt-mul_of_pos_right}
use native.Mathlib.Nat.{lt_of_mul-lt-mul_right, add-mul, suc-mul, mul-sub, zero-lt-suc}
use native.Mathlib.Omega.{arith}
use lib.IntN.{ℤ, pos}
use lib.Dec.{T, ltb, lt→ltb, ltb→lt}
use lib.Pow.{pow_pos}
use lib.Ieee.{Float, nan, inf, fin, Format, low, up, down, round, sum, sub, lt, fits}
use lib.Ieee.Fits.{up_pos, down_pos}
use lib.Ieee.Order.{round_mono}
use lib.Ieee.Positive.{positive, positive_of_value, above, above_of_le}
use Rattle.ieee.specs.Numbers.{zero as nought}
use Rattle.ieee.proofs.Unique.{fits-odd, zero_exp, place}
use Rattle.ieee.proofs.Bound.{inv_val}

-- ---- what is at least the smallest value is not rounded to zero
above-lt : (z : Float) → T (above z) → T (lt nought z)
unfolding lt
above-lt nan a = absurd a
above-lt (inf s) a = a
above-lt (fin true m e) a = absurd a
above-lt (fin false m e) a = lt→ltb (0 * 1 * down e) (m * up e * 1) (let p = mul-pos (ltb→lt 0 m a) (up_pos e) in omega (arith, p))

round-above : (f : Format) (a c : ℕ) → 0 < c → c ≤ a * 2 ^ low f → T (lt nought (round f false a c))
round-above f a c C h =
    let lo = round f false 1 (2 ^ low f) in
    let p : T (positive lo) = positive_of_value lo 1 (2 ^ low f) (inv_val f (low f) (omega arith)) (zero-lt-suc 0) in
    above-lt (round f false a c) (above_of_le lo (round f false a c) p (round_mono f 1 (2 ^ low f) a c (pow_pos (low f)) C (le_trans (le_of_eq (one-mul c)) h)))

-- ---- in units of the smallest value
floor : (f : Format) (s : Bool) (m : ℕ) (e : ℤ) → T (fits f (fin s m e)) → down e ≤ 2 ^ low f
floor f s zero e t = subst (λ (z : ℤ). down z ≤ 2 ^ low f) (sym (zero_exp f s e t)) (pow_pos (low f))
floor f s (suc m) e t = (fits-odd f s m e t).floor

-- m * u / d is M units of 1 / L, over a common denominator
units : (m u d g L J : ℕ) → u * L ≡ J * d → m * u * g * L ≡ m * J * (d * g)
units m u d g L J p = mul_right_comm (m * u) g L ∙ ap (λ (z : ℕ). z * g) (mul_assoc m u L ∙ ap (λ (z : ℕ). m * z) p ∙ sym (mul_assoc m J d)) ∙ mul_assoc (m * J) d g

-- a and b are M and N units
module _ (a b c L M N : ℕ) (P : 0 < L) (p : a * L ≡ M * c) (q : b * L ≡ N * c) where
  apart : b < a → c ≤ (a - b) * L
  apart h =
      let r : N * c < M * c = subst (λ (z : ℕ). z < M * c) q (subst (λ (z : ℕ). b * L < z) p (mul-lt-mul_of_pos_right h P)) in
      let k : suc N * c ≤ M * c = mul-le-mul_right c (lt_of_mul-lt-mul_right c r) in
      let d : (a - b) * L ≡ M * c - N * c = mul_comm (a - b) L ∙ mul-sub L a b ∙ ap (λ (z : ℕ). z - L * b) (mul_comm L a ∙ p)
      ∙ ap (λ (z : ℕ). M * c - z) (mul_comm L b ∙ q) in
      le_trans (omega (arith, k, suc-mul N c)) (le_of_eq (sym d))

  added : (a + b) * L ≡ (M + N) * c
  added = add-mul a b L ∙ ap (λ (z : ℕ). z + b * L) p ∙ ap (λ (z : ℕ). M * c + z) q ∙ sym (add-mul M N c)

  together : 0 < b + a → c ≤ (a + b) * L
  together h =
      let r : 0 < (M + N) * c = subst (λ (z : ℕ). 0 < z) added (mul-pos (omega arith) P) in
      let some : 0 < M + N = lt_of_mul-lt-mul_right c (omega (arith, r)) in
      let k : 1 * c ≤ (M + N) * c = mul-le-mul_right c some in
      le_trans (omega (arith, k)) (le_of_eq (sym added))

-- ---- ±a - ±b, where it is above zero
signs : (f : Format) (s t : Bool) (a b c M N : ℕ) → 0 < c → a * 2 ^ low f ≡ M * c → b * 2 ^ low f ≡ N * c
    → T (lib.Ieee.below t b s a) → T (lt nought (sum f s a (not t) b c))
unfolding sum
signs f false false a b c M N C p q h =
    let l = ltb→lt b a h in
    subst (λ (x : Bool). T (lt nought (cond x (round f true (b - a) c) (round f false (a - b) c)))) (sym (no (ltb a b) (λ t. let k = ltb→lt a b t in omega arith)))
    (round-above f (a - b) c C (apart a b c (2 ^ low f) M N (pow_pos (low f)) p q l))
  where
    no : (x : Bool) → (T x → ⊥) → x ≡ false
    no true n = absurd (n tt)
    no false n = refl
signs f false true a b c M N C p q h = round-above f (a + b) c C (together a b c (2 ^ low f) M N (pow_pos (low f)) p q (ltb→lt 0 (b + a) h))
signs f true false a b c M N C p q h = absurd h
signs f true true a b c M N C p q h =
    subst (λ (x : Bool). T (lt nought (cond x (round f false (b - a) c) (round f (true && ltb b a) (a - b) c)))) (sym (yes (ltb a b) h))
    (round-above f (b - a) c C (apart b a c (2 ^ low f) N M (pow_pos (low f)) q p (ltb→lt a b h)))
  where
    yes : (x : Bool) → T x → x ≡ true
    yes true t = refl
    yes false t = absurd t

pub rise-gap : (f : Format) (x y : Float) → T (fits f x) → T (fits f y) → T (lt x y) → T (lt nought (sub f y x))
unfolding sub lt
rise-gap f nan y p q h = absurd h
rise-gap f (inf true) nan p q h = absurd h
rise-gap f (inf true) (inf true) p q h = absurd h
rise-gap f (inf true) (inf false) p q h = tt
rise-gap f (inf true) (fin s m e) p q h = tt
rise-gap f (inf false) nan p q h = absurd h
rise-gap f (inf false) (inf s) p q h = absurd h
rise-gap f (inf false) (fin s m e) p q h = absurd h
rise-gap f (fin t n d) nan p q h = absurd h
rise-gap f (fin t n d) (inf true) p q h = absurd h
rise-gap f (fin t n d) (inf false) p q h = tt
rise-gap f (fin t n d) (fin s m e) p q h =
    let j = place (low f) e (floor f s m e q) in
    let k = place (low f) d (floor f t n d p) in
    signs f s t (m * up e * down d) (n * up d * down e) (down e * down d) (m * 2 ^ j.0) (n * 2 ^ k.0) (mul-pos (down_pos e) (down_pos d))
    (units m (up e) (down e) (down d) (2 ^ low f) (2 ^ j.0) j.1)
    (units n (up d) (down d) (down e) (2 ^ low f) (2 ^ k.0) k.1 ∙ ap (λ (z : ℕ). n * 2 ^ k.0 * z) (mul_comm (down d) (down e))) h
