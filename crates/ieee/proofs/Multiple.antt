-- Whole multiples of a power of two: `Is p z x` says that x is z * 2 ^ p, a zero of either sign counting as 0. While the multiples stay below 2 ^ 24 and the powers within 2 ^ ±20, every operation on them is exact in both formats.
use mathlib.Core.Path.{◌≡◌, refl, sym, ap, ◌∙◌, subst}
use mathlib.Core.Logic.{inl, inr}
use Prim.Native.Nat.{ℕ, zero, suc, ◌+◌, ◌-◌, ◌*◌, ◌/◌, ◌%◌, ◌^◌, ◌≤◌, ◌<◌}
use native.Mathlib.Nat.{le_trans, le_of_eq, le_of_lt, lt_of_lt_of_le, zero-lt-suc, zero-add, zero-mul, mul-one, one-mul, mul_comm, mul_assoc, mul_left_comm, mul_right_comm, mul-pos, mul-le-mul_left, mul-le-mul_right, mul-lt-mul_of_pos_right, le_of_mul-le-mul_right, eq_of_mul-eq-mul_right, add-mul, mul-sub, mul-div_cancel, mul-mod_left}
use native.Mathlib.Omega.{arith}
use mathlib.Core.Bool.{Bool, true, false, not, cond}
use lib.IntN.{ℤ, pos, negsuc, pos-ne-negsuc, neg_ℤ, nat_abs, ◌+ℤ◌, ◌-ℤ◌, +ℤ_comm, neg_ℤ-+ℤ, neg_ℤ-neg_ℤ, +ℤ-neg_ℤ_cancel, pos-+ℤ-pos}
use lib.Signed.{lt_z}
use lib.Dec.{T, ltb, ltb→lt, nltb→le, lit≤, leb-suc-suc}
use lib.Pow.{pow-add, pow_pos}
use lib.Ieee.{Float, nan, inf, fin, Format, binary32, binary64, prec, emax, low, up, down, unlike, round, sum, add, sub, neg, mul, div, lt, of_int, fits}
use lib.Ieee.Digits.{back}
use lib.Ieee.Fits.{up_pos, down_pos}
use lib.Ieee.Exact.{HasValue, round_exact}
use lib.Ieee.Back.{round_whole}
use borrow.Author.Tests.{lt-ltb, le-ltb}
use Rattle.ieee.proofs.Unique.{place, below, in_units, value_unique}
use Rattle.ieee.proofs.Zero.{IsZero}
use Rattle.ieee.proofs.ZeroOne.{nil, Same, nil-fits, like_false}
use Rattle.ieee.proofs.Cancel.{div_is, sub_of}
use Rattle.ieee.proofs.Order.{below_scale}

-- ---- a sign and a magnitude as an integer
abbrev pub signed : Bool → ℕ → ℤ
signed false k = pos k
signed true k = neg_ℤ (pos k)

abs_signed : (s : Bool) (k : ℕ) → nat_abs (signed s k) ≡ k
abs_signed false k = refl
abs_signed true zero = refl
abs_signed true (suc k) = refl

signed-zero : (s : Bool) → signed s 0 ≡ pos 0
signed-zero true = refl
signed-zero false = refl

-- a - b
pub diff : (a b : ℕ) → b ≤ a → pos a +ℤ neg_ℤ (pos b) ≡ pos (a - b)
diff a b h = ap (λ (z : ℤ). z +ℤ neg_ℤ (pos b)) (ap pos (sym (back a b h)) ∙ sym (pos-+ℤ-pos (a - b) b)) ∙ +ℤ-neg_ℤ_cancel (pos (a - b)) (pos b)

diff-neg : (a b : ℕ) → a ≤ b → pos a +ℤ neg_ℤ (pos b) ≡ neg_ℤ (pos (b - a))
diff-neg a b h =
    +ℤ_comm (pos a) (neg_ℤ (pos b)) ∙ ap (λ (z : ℤ). neg_ℤ (pos b) +ℤ z) (sym (neg_ℤ-neg_ℤ (pos a))) ∙ sym (neg_ℤ-+ℤ (pos b) (neg_ℤ (pos a))) ∙ ap neg_ℤ (diff b a h)

-- ---- z * 2 ^ p
pub record Is (p z : ℤ) (x : Float) : Type 0 where
  pub sign : Bool
  pub size : ℕ
  pub is : HasValue x sign (size * up p) (down p)
  pub z-is : signed sign size ≡ z

-- a power within 2 ^ ±20
pub record Small (p : ℤ) : Type 0 where
  pub high : up p ≤ 2 ^ 20
  pub deep : down p ≤ 2 ^ 20

pub small_one : Small (pos 0)
small_one = record { high = lit≤ tt; deep = lit≤ tt }

prec_24 : (f : Format) → 2 ^ 24 ≤ 2 ^ prec f
prec_24 binary32 = lit≤ tt
prec_24 binary64 = lit≤ tt

low_20 : (f : Format) → 2 ^ 20 ≤ 2 ^ low f
low_20 binary32 = lit≤ tt
low_20 binary64 = lit≤ tt

top_44 : (f : Format) → 2 ^ 24 * 2 ^ 20 ≤ 2 ^ suc (emax f)
top_44 binary32 = lit≤ tt
top_44 binary64 = lit≤ tt

rescale : (x : Float) (s : Bool) (a c b d : ℕ) → 0 < c → a * d ≡ b * c → HasValue x s a c → HasValue x s b d
rescale nan s a c b d C h v = v
rescale (inf t) s a c b d C h v = v
rescale (fin t m e) s a c b d C h v = (
  v.0,
  eq_of_mul-eq-mul_right c C (m * up e * d) (b * down e)
      (mul_right_comm (m * up e) d c ∙ ap (λ (z : ℕ). z * d) v.1 ∙ mul_right_comm a (down e) d ∙ ap (λ (z : ℕ). z * down e) h ∙ mul_right_comm b c (down e)),
)

pub round_mult : (f : Format) (s : Bool) (p : ℤ) (k a c : ℕ) → Small p → k < 2 ^ 24 → 0 < c → a * down p ≡ k * up p * c → HasValue (round f s a c) s (k * up p) (down p)
round_mult f s p k a c P K C h =
    let l = low f in
    let pl = place l p (le_trans P.deep (low_20 f)) in
    let top : k * up p < 2 ^ suc (emax f) * down p =
    lt_of_lt_of_le (mul-lt-mul_of_pos_right K (up_pos p))
    (le_trans (mul-le-mul_left (2 ^ 24) P.high) (le_trans (top_44 f) (le_trans (le_of_eq (sym (mul-one (2 ^ suc (emax f))))) (mul-le-mul_left (2 ^ suc (emax f)) (down_pos p))))) in
    rescale (round f s a c) s a c (k * up p) (down p) C h
    (round_exact f s a c k pl.0 C (lt_of_lt_of_le K (prec_24 f))
    (subst (λ (z : ℕ). k * 2 ^ pl.0 < z) (sym (pow-add 2 l (suc (emax f)))) (below k (up p) (down p) (2 ^ l) (2 ^ pl.0) (2 ^ suc (emax f)) (down_pos p) (pow_pos l) pl.1 top))
    (in_units a c k (up p) (down p) (2 ^ l) (2 ^ pl.0) (down_pos p) pl.1 h))

-- ---- sums
plus : (A B D a b U C : ℕ) → A * D ≡ a * U * C → B * D ≡ b * U * C → (A + B) * D ≡ (a + b) * U * C
plus A B D a b U C h k =
    add-mul A B D ∙ ap (λ (z : ℕ). z + B * D) h ∙ ap (λ (z : ℕ). a * U * C + z) k ∙ sym (add-mul (a * U) (b * U) C) ∙ ap (λ (z : ℕ). z * C) (sym (add-mul a b U))

sub-mul : (a b c : ℕ) → (a - b) * c ≡ a * c - b * c
sub-mul a b c = mul_comm (a - b) c ∙ mul-sub c a b ∙ ap (λ (z : ℕ). z - c * b) (mul_comm c a) ∙ ap (λ (z : ℕ). a * c - z) (mul_comm c b)

take : (A B D a b U C : ℕ) → A * D ≡ a * U * C → B * D ≡ b * U * C → (A - B) * D ≡ (a - b) * U * C
take A B D a b U C h k =
    sub-mul A B D ∙ ap (λ (z : ℕ). z - B * D) h ∙ ap (λ (z : ℕ). a * U * C - z) k ∙ sym (sub-mul (a * U) (b * U) C) ∙ ap (λ (z : ℕ). z * C) (sym (sub-mul a b U))

order : (A B D a b U C : ℕ) → 0 < U → 0 < C → A * D ≡ a * U * C → B * D ≡ b * U * C → A ≤ B → a ≤ b
order A B D a b U C u c h k l =
    le_of_mul-le-mul_right (le_of_mul-le-mul_right (le_trans (le_of_eq (sym h)) (le_trans (mul-le-mul_right D l) (le_of_eq k))) c) u

less_l : (a b n : ℕ) → a + b < n → a - b < n
less_l a b n h = omega arith

less_r : (a b n : ℕ) → a + b < n → b - a < n
less_r a b n h = omega arith

none : (a b : ℕ) → a ≤ b → a - b ≡ 0
none a b h = omega arith

sum_mult : (f : Format) (s t : Bool) (p : ℤ) (a b A B C : ℕ) → Small p → a + b < 2 ^ 24 → 0 < C → A * down p ≡ a * up p * C → B * down p ≡ b * up p * C → Is p (signed s a +ℤ signed t b) (sum f s A t B C)
unfolding sum
sum_mult f false false p a b A B C P K c h k = record { sign = false; size = a + b; is = round_mult f false p (a + b) (A + B) C P K c (plus A B (down p) a b (up p) C h k); z-is = refl }
sum_mult f true true p a b A B C P K c h k = record { sign = true; size = a + b; is = round_mult f true p (a + b) (A + B) C P K c (plus A B (down p) a b (up p) C h k); z-is = ap neg_ℤ (sym (pos-+ℤ-pos a b)) ∙ neg_ℤ-+ℤ (pos a) (pos b) }
sum_mult f false true p a b A B C P K c h k = go (ltb A B) (ltb→lt A B) (nltb→le A B)
  where
    go : (x : Bool) → (T x → A < B) → (T (not x) → B ≤ A) → Is p (pos a +ℤ neg_ℤ (pos b)) (cond x (round f true (B - A) C) (round f false (A - B) C))
    go true l g = record {
      sign = true;
      size = b - a;
      is = round_mult f true p (b - a) (B - A) C P (less_r a b (2 ^ 24) K) c (take B A (down p) b a (up p) C k h);
      z-is = sym (diff-neg a b (order A B (down p) a b (up p) C (up_pos p) c h k (le_of_lt (l tt))));
    }
    go false l g = record {
      sign = false;
      size = a - b;
      is = round_mult f false p (a - b) (A - B) C P (less_l a b (2 ^ 24) K) c (take A B (down p) a b (up p) C h k);
      z-is = sym (diff a b (order B A (down p) b a (up p) C (up_pos p) c k h (g tt)));
    }
sum_mult f true false p a b A B C P K c h k = go (ltb A B) (ltb B A) (ltb→lt A B) (nltb→le A B) (nltb→le B A)
  where
    go : (x y : Bool) → (T x → A < B) → (T (not x) → B ≤ A) → (T (not y) → A ≤ B) → Is p (neg_ℤ (pos a) +ℤ pos b) (cond x (round f false (B - A) C) (round f y (A - B) C))
    go true y l g m = record {
      sign = false;
      size = b - a;
      is = round_mult f false p (b - a) (B - A) C P (less_r a b (2 ^ 24) K) c (take B A (down p) b a (up p) C k h);
      z-is = sym (+ℤ_comm (neg_ℤ (pos a)) (pos b) ∙ diff b a (order A B (down p) a b (up p) C (up_pos p) c h k (le_of_lt (l tt))));
    }
    go false true l g m = record {
      sign = true;
      size = a - b;
      is = round_mult f true p (a - b) (A - B) C P (less_l a b (2 ^ 24) K) c (take A B (down p) a b (up p) C h k);
      z-is = sym (+ℤ_comm (neg_ℤ (pos a)) (pos b) ∙ diff-neg b a (order B A (down p) b a (up p) C (up_pos p) c k h (g tt)));
    }
    go false false l g m = record {
      sign = false;
      size = a - b;
      is = round_mult f false p (a - b) (A - B) C P (less_l a b (2 ^ 24) K) c (take A B (down p) a b (up p) C h k);
      z-is =
          let le : a ≤ b = order A B (down p) a b (up p) C (up_pos p) c h k (m tt) in
          ap pos (none a b le) ∙ sym (+ℤ_comm (neg_ℤ (pos a)) (pos b) ∙ diff b a le ∙ ap pos (none b a (order B A (down p) b a (up p) C (up_pos p) c k h (g tt))));
    }

pub size_is : (p z : ℤ) (x : Float) (h : Is p z x) → h.size ≡ nat_abs z
size_is p z x h = sym (abs_signed h.sign h.size) ∙ ap nat_abs h.z-is

fit : (a b y z : ℕ) → a ≡ y → b ≡ z → y + z < 2 ^ 24 → a + b < 2 ^ 24
fit a b y z p q h = omega arith

-- m * up e over down e is a * up p over down p; brought to the denominator of a sum
widen_l : (M D P a U E : ℕ) → M * P ≡ a * U * E → M * D * P ≡ a * U * (E * D)
widen_l M D P a U E h = mul_right_comm M D P ∙ ap (λ (z : ℕ). z * D) h ∙ mul_assoc (a * U) E D

pub add_mult : (f : Format) (p z w : ℤ) (x y : Float) → Small p → nat_abs z + nat_abs w < 2 ^ 24 → Is p z x → Is p w y → Is p (z +ℤ w) (add f x y)
unfolding add
add_mult f p z w nan y P K h k = absurd h.is
add_mult f p z w (inf s) y P K h k = absurd h.is
add_mult f p z w (fin s m e) nan P K h k = absurd k.is
add_mult f p z w (fin s m e) (inf t) P K h k = absurd k.is
add_mult f p z w (fin s m e) (fin t n d) P K h k =
    let a = h.size in
    let b = k.size in
    subst (λ (q : ℤ). Is p q (sum f s (m * up e * down d) t (n * up d * down e) (down e * down d))) (ap (λ (u : Bool). signed u a +ℤ signed t b) h.is.0 ∙ ap (λ (u : Bool). signed h.sign a +ℤ signed u b) k.is.0 ∙ ap (λ (q : ℤ). q +ℤ signed k.sign b) h.z-is ∙ ap (λ (q : ℤ). z +ℤ q) k.z-is)
    (sum_mult f s t p a b (m * up e * down d) (n * up d * down e) (down e * down d) P
    (fit a b (nat_abs z) (nat_abs w) (size_is p z (fin s m e) h) (size_is p w (fin t n d) k) K)
    (mul-pos (down_pos e) (down_pos d))
    (widen_l (m * up e) (down d) (down p) a (up p) (down e) h.is.1)
    (widen_l (n * up d) (down e) (down p) b (up p) (down d) k.is.1 ∙ ap (λ (q : ℕ). b * up p * q) (mul_comm (down d) (down e))))

-- ---- -x, x - y
neg-signed : (s : Bool) (k : ℕ) → signed (not s) k ≡ neg_ℤ (signed s k)
neg-signed true k = sym (neg_ℤ-neg_ℤ (pos k))
neg-signed false k = refl

pub neg_mult : (p z : ℤ) (x : Float) → Is p z x → Is p (neg_ℤ z) (neg x)
unfolding neg
neg_mult p z nan h = absurd h.is
neg_mult p z (inf s) h = absurd h.is
neg_mult p z (fin s m e) h = record { sign = not h.sign; size = h.size; is = (ap not h.is.0, h.is.1); z-is = neg-signed h.sign h.size ∙ ap neg_ℤ h.z-is }

abs_neg : (z : ℤ) → nat_abs (neg_ℤ z) ≡ nat_abs z
abs_neg (pos zero) = refl
abs_neg (pos (suc n)) = refl
abs_neg (negsuc n) = refl

pub sub_mult : (f : Format) (p z w : ℤ) (x y : Float) → Small p → nat_abs z + nat_abs w < 2 ^ 24 → Is p z x → Is p w y → Is p (z -ℤ w) (sub f x y)
sub_mult f p z w x y P K h k =
    subst (λ (q : Float). Is p (z -ℤ w) q) (sym (sub_of f x y))
    (add_mult f p z (neg_ℤ w) x (neg y) P (subst (λ (q : ℕ). nat_abs z + q < 2 ^ 24) (sym (abs_neg w)) K) h (neg_mult p w y k))

-- ---- times 2 ^ p, and over 2 ^ p
unlike-false : (s : Bool) → unlike s false ≡ s
unlike-false true = refl
unlike-false false = refl

abbrev pub step : ℤ → Float
step p = fin false 1 p

pub mul-step : (f : Format) (p z : ℤ) (y : Float) → Small p → nat_abs z < 2 ^ 24 → Is (pos 0) z y → Is p z (mul f (step p) y)
unfolding mul
mul-step f p z nan P K h = absurd h.is
mul-step f p z (inf s) P K h = absurd h.is
mul-step f p z (fin s n d) P K h =
    let k = h.size in
    record {
      sign = h.sign;
      size = k;
      is =
          subst (λ (u : Bool). HasValue (round f u (1 * up p * (n * up d)) (down p * down d)) h.sign (k * up p) (down p)) (sym (like_false s ∙ h.is.0))
          (round_mult f h.sign p k (1 * up p * (n * up d)) (down p * down d) P (subst (λ (q : ℕ). q < 2 ^ 24) (sym (size_is (pos 0) z (fin s n d) h)) K) (mul-pos (down_pos p) (down_pos d))
          (scaled (up p) (down p) (n * up d) (down d) k h.is.1));
      z-is = h.z-is;
    }
  where
    scaled : (U D N E k : ℕ) → N * 1 ≡ k * 1 * E → 1 * U * N * D ≡ k * U * (D * E)
    scaled U D N E k h =
        let q : N ≡ k * E = sym (mul-one N) ∙ h ∙ ap (λ (z : ℕ). z * E) (mul-one k) in
        ap (λ (z : ℕ). z * N * D) (one-mul U) ∙ ap (λ (z : ℕ). U * z * D) q ∙ simp (mul_assoc, mul_comm, mul_left_comm)

pub div-step : (f : Format) (p z : ℤ) (x : Float) → nat_abs z < 2 ^ 24 → Is p z x → Is (pos 0) z (div f x (step p))
div-step f p z nan K h = absurd h.is
div-step f p z (inf s) K h = absurd h.is
div-step f p z (fin s m e) K h =
    let k = h.size in
    record {
      sign = h.sign;
      size = k;
      is =
          subst (λ (u : Float). HasValue u h.sign (k * 1) 1) (sym (div_is f s m e false 0 p))
          (subst (λ (u : Bool). HasValue (round f u (m * up e * down p) (1 * up p * down e)) h.sign (k * 1) 1) (sym (unlike-false s ∙ h.is.0))
          (round_mult f h.sign (pos 0) k (m * up e * down p) (1 * up p * down e) small_one (subst (λ (q : ℕ). q < 2 ^ 24) (sym (size_is p z (fin s m e) h)) K) (mul-pos (mul-pos (zero-lt-suc 0) (up_pos p)) (down_pos e))
          (scaled (m * up e * down p) (up p) (down e) k h.is.1)));
      z-is = h.z-is;
    }
  where
    scaled : (A U E k : ℕ) → A ≡ k * U * E → A * 1 ≡ k * 1 * (1 * U * E)
    scaled A U E k h = mul-one A ∙ h ∙ mul_assoc k U E ∙ ap (λ (z : ℕ). z * (U * E)) (sym (mul-one k)) ∙ ap (λ (z : ℕ). k * 1 * (z * E)) (sym (one-mul U))

-- ---- an integer as a float
pub of_int_lem : (f : Format) (i : ℕ) → i ≤ 2 ^ 24 → Is (pos 0) (pos i) (of_int f (pos i))
unfolding of_int
of_int_lem f i h = record {
  sign = false;
  size = i;
  is = subst (λ (q : ℕ). HasValue (round f false i 1) false q 1) (sym (mul-one i)) (round_whole f false i (le_trans h (prec_24 f)));
  z-is = refl;
}

-- ---- which float it is
pub is_zero : (f : Format) (p : ℤ) (x : Float) → T (fits f x) → Is p (pos 0) x → IsZero x
is_zero f p x q h = (
  h.sign,
  value_unique f x (nil h.sign) h.sign (h.size * up p) (down p) (down_pos p) q (nil-fits f h.sign) h.is
      (refl, zero-mul (down p) ∙ sym (mul-one (h.size * up p) ∙ ap (λ (z : ℕ). z * up p) (size_is p (pos 0) x h) ∙ zero-mul (up p))),
)

nothing : (a u : ℕ) → 0 < u → 0 ≡ a * u * 1 → a ≡ 0
nothing a u U h = eq_of_mul-eq-mul_right u U a 0 (sym (mul-one (a * u)) ∙ sym h ∙ sym (zero-mul u))

pub is_same : (p z : ℤ) (x y : Float) → Same x y → Is p z y → Is p z x
is_same p z x y (inl e) h = subst (λ (u : Float). Is p z u) (sym e) h
is_same p z x y (inr e) h =
    let v : HasValue (nil e.1.0) h.sign (h.size * up p) (down p) = subst (λ (u : Float). HasValue u h.sign (h.size * up p) (down p)) e.1.1 h.is in
    let k : h.size ≡ 0 = nothing h.size (up p) (up_pos p) (sym (zero-mul (down p)) ∙ v.1) in
    subst (λ (u : Float). Is p z u) (sym e.0.1)
    (record {
      sign = e.0.0;
      size = 0;
      is = (refl, zero-mul (down p) ∙ sym (mul-one (0 * up p) ∙ zero-mul (up p)));
      z-is = signed-zero e.0.0 ∙ sym (signed-zero h.sign) ∙ ap (λ (q : ℕ). signed h.sign q) (sym k) ∙ h.z-is;
    })

no_one : (n : ℕ) → 0 ≡ suc n → ⊥
no_one n h = omega arith

pub sign_pos : (s : Bool) (k n : ℕ) → signed s k ≡ pos (suc n) → s ≡ false
sign_pos false k n h = refl
sign_pos true zero n h = absurd (no_one n (ap nat_abs h))
sign_pos true (suc k) n h = absurd (pos-ne-negsuc (suc n) k (sym h))

sign_neg : (s : Bool) (k n : ℕ) → signed s k ≡ negsuc n → s ≡ true
sign_neg true k n h = refl
sign_neg false k n h = absurd (pos-ne-negsuc k n h)

-- a multiple above zero, or below it, is one float
pub is_pos : (f : Format) (p : ℤ) (n : ℕ) (x y : Float) → T (fits f x) → T (fits f y) → Is p (pos (suc n)) x → HasValue y false (suc n * up p) (down p) → x ≡ y
is_pos f p n x y q r h v =
    value_unique f x y false (suc n * up p) (down p) (down_pos p) q r
    (subst (λ (u : Bool). HasValue x u (suc n * up p) (down p)) (sign_pos h.sign h.size n h.z-is) (subst (λ (u : ℕ). HasValue x h.sign (u * up p) (down p)) (size_is p (pos (suc n)) x h) h.is)) v

pub is_neg : (f : Format) (p : ℤ) (n : ℕ) (x y : Float) → T (fits f x) → T (fits f y) → Is p (negsuc n) x → HasValue y true (suc n * up p) (down p) → x ≡ y
is_neg f p n x y q r h v =
    value_unique f x y true (suc n * up p) (down p) (down_pos p) q r
    (subst (λ (u : Bool). HasValue x u (suc n * up p) (down p)) (sign_neg h.sign h.size n h.z-is) (subst (λ (u : ℕ). HasValue x h.sign (u * up p) (down p)) (size_is p (negsuc n) x h) h.is)) v

-- a whole number that is not negative, cut to a natural: nothing is cut off
pub cut : (s : Bool) (m : ℕ) (e : ℤ) (i : ℕ) → Is (pos 0) (pos i) (fin s m e) → (m * up e / down e ≡ i) × (m * up e % down e ≡ 0)
cut s m e i h =
    let q : m * up e ≡ i * down e = sym (mul-one (m * up e)) ∙ h.is.1 ∙ ap (λ (z : ℕ). z * down e) (mul-one h.size ∙ size_is (pos 0) (pos i) (fin s m e) h) in
    (ap (λ (z : ℕ). z / down e) q ∙ mul-div_cancel i (down_pos e), ap (λ (z : ℕ). z % down e) q ∙ mul-mod_left i (down e))

-- ---- the order of multiples is the order of the integers
below-signed : (s t : Bool) (a b : ℕ) → lib.Ieee.below s a t b ≡ lt_z (signed s a) (signed t b)
below-signed false false a b = refl
below-signed false true a zero = sym (le-ltb a 0 (omega arith))
below-signed false true a (suc b) = refl
below-signed true false zero b = ap (λ (q : ℕ). ltb 0 q) (zero-add b)
below-signed true false (suc a) b = lt-ltb 0 (suc a + b) (omega arith)
below-signed true true zero zero = refl
below-signed true true zero (suc b) = le-ltb (suc b) 0 (omega arith)
below-signed true true (suc a) zero = lt-ltb 0 (suc a) (omega arith)
below-signed true true (suc a) (suc b) = leb-suc-suc (suc b) a

-- A * D is a * U * C and B * D is b * U * C, so A is to B as a is to b
below_mult : (s t : Bool) (A B D a b U C : ℕ) → 0 < D → 0 < U → 0 < C → A * D ≡ a * U * C → B * D ≡ b * U * C → lib.Ieee.below s A t B ≡ lib.Ieee.below s a t b
below_mult s t A B D a b U C d u c h k =
    sym (below_scale s t A B D d)
    ∙ ap (λ (q : ℕ). lib.Ieee.below s q t (B * D)) h
    ∙ ap (λ (q : ℕ). lib.Ieee.below s (a * U * C) t q) k
    ∙ below_scale s t (a * U) (b * U) C c
    ∙ below_scale s t a b U u

pub lt_mult : (p z w : ℤ) (x y : Float) → Is p z x → Is p w y → lt x y ≡ lt_z z w
unfolding lt
lt_mult p z w nan y h k = absurd h.is
lt_mult p z w (inf s) y h k = absurd h.is
lt_mult p z w (fin s m e) nan h k = absurd k.is
lt_mult p z w (fin s m e) (inf t) h k = absurd k.is
lt_mult p z w (fin s m e) (fin t n d) h k =
    let a = h.size in
    let b = k.size in
    below_mult s t (m * up e * down d) (n * up d * down e) (down p) a b (up p) (down e * down d) (down_pos p) (up_pos p) (mul-pos (down_pos e) (down_pos d))
    (widen_l (m * up e) (down d) (down p) a (up p) (down e) h.is.1)
    (widen_l (n * up d) (down e) (down p) b (up p) (down d) k.is.1 ∙ ap (λ (q : ℕ). b * up p * q) (mul_comm (down d) (down e)))
    ∙ below-signed s t a b
    ∙ ap (λ (q : ℤ). lt_z q (signed t b)) (ap (λ (u : Bool). signed u a) h.is.0 ∙ h.z-is)
    ∙ ap (λ (q : ℤ). lt_z z q) (ap (λ (u : Bool). signed u b) k.is.0 ∙ k.z-is)
