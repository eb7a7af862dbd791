-- A value that fits is written in one way: two that fit and have the same value are equal. So a fraction that is a fitting value's is rounded to it.
use mathlib.Core.Path.{◌≡◌, refl, sym, ap, ◌∙◌, subst}
use Prim.Native.Nat.{ℕ, zero, suc, ◌+◌, ◌-◌, ◌*◌, ◌%◌, ◌^◌, ◌≤◌, ◌<◌}
use native.Mathlib.Nat.{lt_of_lt_of_le, lt_irrefl, zero-lt-suc, le_of_suc-le-suc, lt_of_not-le, zero-mul, mul-one, one-mul, mul_comm, mul_assoc, mul_left_comm, mul_right_comm, mul-pos, mul-lt-mul_of_pos_right, lt_of_mul-lt-mul_right, pow-suc, pow-succ', eq_of_mul-eq-mul_right}
use native.Mathlib.Omega.{arith}
use mathlib.Core.Bool.{Bool, ◌&&◌}
use lib.IntN.{ℤ, pos, negsuc}
use lib.Dec.{T, leb, ltb, eqb, eqb→eq, ltb→lt, leb→le}
use lib.Pow.{pow-add, pow_pos, pow-lt}
use lib.Ieee.{Float, nan, inf, fin, Format, prec, emax, low, up, down, round, fits}
use lib.Ieee.Fits.{and_l, and_r, up_pos, down_pos, round-fits}
use lib.Ieee.Digits.{back}
use lib.Ieee.Exact.{HasValue, round_exact}

-- ---- an odd number times a power of two is written in one way
even_odd : (m t : ℕ) → m % 2 ≡ 1 → m ≡ 2 * t → ⊥
even_odd m t o h = omega arith

odd_pow : (m n a b : ℕ) → m % 2 ≡ 1 → n % 2 ≡ 1 → m * 2 ^ a ≡ n * 2 ^ b → (m ≡ n) × (a ≡ b)
odd_pow m n zero zero o p h = (sym (mul-one m) ∙ h ∙ mul-one n, refl)
odd_pow m n zero (suc b) o p h = absurd (even_odd m (n * 2 ^ b) o (sym (mul-one m) ∙ h ∙ ap (λ (x : ℕ). n * x) (pow-succ' 2 b) ∙ mul_left_comm n 2 (2 ^ b)))
odd_pow m n (suc a) zero o p h = absurd (even_odd n (m * 2 ^ a) p (sym (mul-one n) ∙ sym h ∙ ap (λ (x : ℕ). m * x) (pow-succ' 2 a) ∙ mul_left_comm m 2 (2 ^ a)))
odd_pow m n (suc a) (suc b) o p h =
    let r = odd_pow m n a b o p (eq_of_mul-eq-mul_right 2 (zero-lt-suc 1) (m * 2 ^ a) (n * 2 ^ b)
    (mul_assoc m (2 ^ a) 2 ∙ ap (λ (x : ℕ). m * x) (sym (pow-suc 2 a)) ∙ h ∙ ap (λ (x : ℕ). n * x) (pow-suc 2 b) ∙ sym (mul_assoc n (2 ^ b) 2))) in
    (r.0, ap suc r.1)

-- ---- what `fits` says of a finite value that is not zero
pub record Odd (f : Format) (m : ℕ) (e : ℤ) : Type 0 where
  pub is_odd : m % 2 ≡ 1
  pub digits : m < 2 ^ prec f
  pub floor : down e ≤ 2 ^ low f
  pub ceiling : m * up e < 2 ^ suc (emax f) * down e

pub fits-odd : (f : Format) (s : Bool) (m : ℕ) (e : ℤ) → T (fits f (fin s (suc m) e)) → Odd f (suc m) e
unfolding fits
fits-odd f s m e h =
    let A = eqb (suc m % 2) 1 in
    let B = ltb (suc m) (2 ^ prec f) in
    let C = leb (down e) (2 ^ low f) in
    let D = ltb (suc m * up e) (2 ^ suc (emax f) * down e) in
    record {
      is_odd = eqb→eq (suc m % 2) 1 (and_l A B (and_l (A && B) C (and_l (A && B && C) D h)));
      digits = ltb→lt (suc m) (2 ^ prec f) (and_r A B (and_l (A && B) C (and_l (A && B && C) D h)));
      floor = leb→le (down e) (2 ^ low f) (and_r (A && B) C (and_l (A && B && C) D h));
      ceiling = ltb→lt (suc m * up e) (2 ^ suc (emax f) * down e) (and_r (A && B && C) D h);
    }

two_up : (p : ℕ) → 0 < p → 2 * p ≡ 1 → ⊥
two_up p h e = omega arith

flat : (e : ℤ) → up e * down e ≡ 1 → e ≡ pos 0
flat (pos zero) h = refl
flat (pos (suc k)) h = absurd (two_up (2 ^ k) (pow_pos k) (sym (pow-succ' 2 k) ∙ sym (mul-one (2 ^ suc k)) ∙ h))
flat (negsuc k) h = absurd (two_up (2 ^ k) (pow_pos k) (sym (pow-succ' 2 k) ∙ sym (one-mul (2 ^ suc k)) ∙ h))

pub zero_exp : (f : Format) (s : Bool) (e : ℤ) → T (fits f (fin s zero e)) → e ≡ pos 0
unfolding fits
zero_exp f s e t = flat e (eqb→eq (up e * down e) 1 t)

-- ---- the one way
no-two : (n m k : ℕ) → n % 2 ≡ 1 → m * 2 ^ suc k ≡ n → ⊥
no-two n m k o h = even_odd n (m * 2 ^ k) o (sym h ∙ ap (λ (x : ℕ). m * x) (pow-succ' 2 k) ∙ mul_left_comm m 2 (2 ^ k))

same_exp : (m n : ℕ) (e d : ℤ) → m % 2 ≡ 1 → n % 2 ≡ 1 → m * up e * down d ≡ n * up d * down e → (m ≡ n) × (e ≡ d)
same_exp m n (pos a) (pos b) o p h =
    let r = odd_pow m n a b o p (sym (mul-one (m * 2 ^ a)) ∙ h ∙ mul-one (n * 2 ^ b)) in (r.0, ap pos r.1)
same_exp m n (pos a) (negsuc b) o p h = absurd (no-two n (m * 2 ^ a) b p (h ∙ mul-one (n * 1) ∙ mul-one n))
same_exp m n (negsuc a) (pos b) o p h = absurd (no-two m (n * 2 ^ b) a o (sym h ∙ mul-one (m * 1) ∙ mul-one m))
same_exp m n (negsuc a) (negsuc b) o p h =
    let r = odd_pow m n (suc b) (suc a) o p (ap (λ (x : ℕ). x * 2 ^ suc b) (sym (mul-one m)) ∙ h ∙ ap (λ (x : ℕ). x * 2 ^ suc a) (mul-one n)) in
    (r.0, ap negsuc (pred-eq a b r.1))
  where
    pred-eq : (a b : ℕ) → suc b ≡ suc a → a ≡ b
    pred-eq a b h = omega arith

not-zero : (m : ℕ) (e : ℤ) (n : ℕ) (d : ℤ) → zero * up e * down d ≡ suc n * up d * down e → ⊥
not-zero m e n d h =
    lt_irrefl 0 (subst (λ (x : ℕ). 0 < x) (sym h ∙ ap (λ (y : ℕ). y * down d) (zero-mul (up e)) ∙ zero-mul (down d)) (mul-pos (mul-pos (zero-lt-suc n) (up_pos d)) (down_pos e)))

pub one_way : (f : Format) (s t : Bool) (m : ℕ) (e : ℤ) (n : ℕ) (d : ℤ) → T (fits f (fin s m e)) → T (fits f (fin t n d)) → s ≡ t → m * up e * down d ≡ n * up d * down e → fin s m e ≡ fin t n d
one_way f s t zero e zero d p q st h = λ i. fin (st i) zero ((zero_exp f s e p ∙ sym (zero_exp f t d q)) i)
one_way f s t zero e (suc n) d p q st h = absurd (not-zero 0 e n d h)
one_way f s t (suc m) e zero d p q st h = absurd (not-zero 0 d m e (sym h))
one_way f s t (suc m) e (suc n) d p q st h =
    let r = same_exp (suc m) (suc n) e d (fits-odd f s m e p).is_odd (fits-odd f t n d q).is_odd h in
    λ i. fin (st i) (r.0 i) (r.1 i)

cross : (x y de dd a c : ℕ) → 0 < c → x * c ≡ a * de → y * c ≡ a * dd → x * dd ≡ y * de
cross x y de dd a c C p q =
    eq_of_mul-eq-mul_right c C (x * dd) (y * de)
    (mul_right_comm x dd c ∙ ap (λ (z : ℕ). z * dd) p ∙ mul_right_comm a de dd ∙ ap (λ (z : ℕ). z * de) (sym q) ∙ mul_right_comm y c de)

-- two that fit, with the same sign and the same size, are equal
pub value_unique : (f : Format) (x y : Float) (s : Bool) (a c : ℕ) → 0 < c → T (fits f x) → T (fits f y) → HasValue x s a c → HasValue y s a c → x ≡ y
value_unique f nan y s a c C p q v w = absurd v
value_unique f (inf t) y s a c C p q v w = absurd v
value_unique f (fin t m e) nan s a c C p q v w = absurd w
value_unique f (fin t m e) (inf u) s a c C p q v w = absurd w
value_unique f (fin t m e) (fin u n d) s a c C p q v w =
    one_way f t u m e n d p q (v.0 ∙ sym w.0) (cross (m * up e) (n * up d) (down e) (down d) a c C v.1 w.1)

-- ---- rounding a fitting value's own fraction
pow_le_back : (a l : ℕ) → 2 ^ a ≤ 2 ^ l → a ≤ l
pow_le_back a l h = le_of_suc-le-suc (lt_of_not-le (λ (g : suc l ≤ a). lt_irrefl (2 ^ l) (lt_of_lt_of_le (pow-lt g) h)))

-- 2 ^ e is 2 ^ j smallest values
pub place : (l : ℕ) (e : ℤ) → down e ≤ 2 ^ l → (j : ℕ) × (up e * 2 ^ l ≡ 2 ^ j * down e)
place l (pos a) h = (a + l, sym (pow-add 2 a l) ∙ sym (mul-one (2 ^ (a + l))))
place l (negsuc a) h =
    (l - suc a, one-mul (2 ^ l) ∙ ap (λ (x : ℕ). 2 ^ x) (sym (back l (suc a) (pow_le_back (suc a) l h))) ∙ pow-add 2 (l - suc a) (suc a))

-- with u * L ≡ J * d: from num * d ≡ m * u * den to units
pub in_units : (num den m u d L J : ℕ) → 0 < d → u * L ≡ J * d → num * d ≡ m * u * den → num * L ≡ m * J * den
in_units num den m u d L J D p h =
    eq_of_mul-eq-mul_right d D (num * L) (m * J * den)
    (mul_right_comm num L d ∙ ap (λ (z : ℕ). z * L) h ∙ mul_right_comm (m * u) den L ∙ ap (λ (z : ℕ). z * den) (mul_assoc m u L ∙ ap (λ (z : ℕ). m * z) p ∙ sym (mul_assoc m J d))
    ∙ mul_right_comm (m * J) d den)

pub below : (m u d L J M : ℕ) → 0 < d → 0 < L → u * L ≡ J * d → m * u < M * d → m * J < L * M
below m u d L J M D P p h =
    lt_of_mul-lt-mul_right d
    (subst (λ (z : ℕ). z < L * M * d) (mul_assoc m u L ∙ ap (λ (z : ℕ). m * z) p ∙ sym (mul_assoc m J d))
    (subst (λ (z : ℕ). m * u * L < z) (mul_right_comm M d L ∙ ap (λ (z : ℕ). z * d) (mul_comm M L)) (mul-lt-mul_of_pos_right h P)))

round-value : (f : Format) (s : Bool) (m : ℕ) (e : ℤ) (num den : ℕ) → 0 < den → T (fits f (fin s m e)) → num * down e ≡ m * up e * den → HasValue (round f s num den) s num den
round-value f s zero e num den D p h =
    round_exact f s num den 0 0 D (pow_pos (prec f)) (pow_pos (low f + suc (emax f)))
    (ap (λ (z : ℕ). z * 2 ^ low f) (nothing num (down e) (down_pos e) (h ∙ ap (λ (z : ℕ). z * den) (zero-mul (up e)) ∙ zero-mul den)) ∙ zero-mul (2 ^ low f) ∙ sym (zero-mul den))
  where
    nothing : (n d : ℕ) → 0 < d → n * d ≡ 0 → n ≡ 0
    nothing n d D h = eq_of_mul-eq-mul_right d D n 0 (h ∙ sym (zero-mul d))
round-value f s (suc m) e num den D p h =
    let o = fits-odd f s m e p in
    let l = low f in
    let pl = place l e o.floor in
    round_exact f s num den (suc m) pl.0 D o.digits
    (subst (λ (z : ℕ). suc m * 2 ^ pl.0 < z) (sym (pow-add 2 l (suc (emax f)))) (below (suc m) (up e) (down e) (2 ^ l) (2 ^ pl.0) (2 ^ suc (emax f)) (down_pos e) (pow_pos l) pl.1 o.ceiling))
    (in_units num den (suc m) (up e) (down e) (2 ^ l) (2 ^ pl.0) (down_pos e) pl.1 h)

pub round_self : (f : Format) (s : Bool) (m : ℕ) (e : ℤ) (num den : ℕ) → 0 < den → T (fits f (fin s m e)) → num * down e ≡ m * up e * den → round f s num den ≡ fin s m e
round_self f s m e num den D p h =
    value_unique f (round f s num den) (fin s m e) s num den D (round-fits f s num den) p (round-value f s m e num den D p h) (refl, sym h)
