-- Arithmetic with a zero of either sign and with one: what comes back unrounded. The format is a parameter.
use mathlib.Core.Path.{◌≡◌, refl, sym, ap, ◌∙◌}
use Prim.Native.Nat.{ℕ, zero, suc, ◌+◌, ◌-◌, ◌*◌, ◌<◌}
use native.Mathlib.Nat.{add-zero, zero-add, sub-zero, zero-lt-suc, lt_irrefl, zero-mul, mul-zero, mul-one, one-mul, mul-pos, not-suc-le-zero, sub_self}
use native.Mathlib.Omega.{arith}
use mathlib.Core.Logic.{◌⊎◌, inl, inr}
use mathlib.Core.Bool.{Bool, true, false, ◌&&◌, beq, cond}
use lib.IntN.{ℤ, pos}
use lib.Dec.{T, ltb, lt→ltb, ltb→lt}
use lib.Ieee.{Float, nan, inf, fin, Format, up, down, unlike, round, sum, add, mul, fits}
use lib.Ieee.Fits.{up_pos, down_pos}
use lib.Ieee.Bits.{is_true}
use lib.Ieee.Scale.{finite}
use Rattle.ieee.specs.Numbers.{one}
use Rattle.ieee.proofs.Zero.{IsZero}
use Rattle.ieee.proofs.Unique.{round_self, zero_exp}

-- the two zeros
abbrev pub nil : Bool → Float
nil s = fin s 0 (pos 0)

-- the same number: equal, or both zeros
abbrev pub Same : Float → Float → Type 0
Same x y = (x ≡ y) ⊎ (IsZero x × IsZero y)

pub nil-fits : (f : Format) (s : Bool) → T (fits f (nil s))
unfolding fits
nil-fits f s = tt

-- ---- rounding nothing
pub round-zero : (f : Format) (s : Bool) (num den : ℕ) → 0 < den → num ≡ 0 → round f s num den ≡ nil s
round-zero f s num den D h = round_self f s 0 (pos 0) num den D (nil-fits f s) (mul-one num ∙ h ∙ sym (zero-mul den))

-- ---- products
pub like_false : (s : Bool) → unlike false s ≡ s
like_false true = refl
like_false false = refl

pub mul-one-left : (f : Format) (v : Float) → T (finite v) → T (fits f v) → mul f one v ≡ v
unfolding mul
mul-one-left f nan t p = absurd t
mul-one-left f (inf s) t p = absurd t
mul-one-left f (fin s m e) t p =
    ap (λ (b : Bool). round f b (1 * 1 * (m * up e)) (1 * down e)) (like_false s)
    ∙ round_self f s m e (1 * 1 * (m * up e)) (1 * down e) (mul-pos (zero-lt-suc 0) (down_pos e)) p
    (ap (λ (z : ℕ). z * down e) (one-mul (m * up e)) ∙ ap (λ (z : ℕ). m * up e * z) (sym (one-mul (down e))))

pub mul-nil-left : (f : Format) (s : Bool) (v : Float) → T (finite v) → IsZero (mul f (nil s) v)
unfolding mul
mul-nil-left f s nan t = absurd t
mul-nil-left f s (inf u) t = absurd t
mul-nil-left f s (fin u m e) t = (unlike s u, round-zero f (unlike s u) (0 * 1 * (m * up e)) (1 * down e) (mul-pos (zero-lt-suc 0) (down_pos e)) (zero-mul (m * up e)))

pub mul_nil_right : (f : Format) (s : Bool) (v : Float) → T (finite v) → IsZero (mul f v (nil s))
unfolding mul
mul_nil_right f s nan t = absurd t
mul_nil_right f s (inf u) t = absurd t
mul_nil_right f s (fin u m e) t = (unlike u s, round-zero f (unlike u s) (m * up e * (0 * 1)) (down e * 1) (mul-pos (down_pos e) (zero-lt-suc 0)) (mul-zero (m * up e)))

-- ---- sums
-- b is nothing, a is something: the sum is a
sum_left : (f : Format) (s t : Bool) (a b c : ℕ) → 0 < a → b ≡ 0 → sum f s a t b c ≡ round f s a c
unfolding sum
sum_left f s t a b c A h =
    ap (λ (z : ℕ). cond (beq s t) (round f s (a + z) c) (cond (ltb a z) (round f t (z - a) c) (round f (s && ltb z a) (a - z) c))) h
    ∙ ap (λ (z : ℕ). cond (beq s t) (round f s z c) (cond (ltb a 0) (round f t (0 - a) c) (round f (s && ltb 0 a) (a - 0) c))) (add-zero a)
    ∙ ap (λ (z : ℕ). cond (beq s t) (round f s a c) (cond (ltb a 0) (round f t (0 - a) c) (round f (s && ltb 0 a) z c))) (sub-zero a)
    ∙ ap (λ (z : Bool). cond (beq s t) (round f s a c) (cond (ltb a 0) (round f t (0 - a) c) (round f (s && z) a c))) (is_true (ltb 0 a) (lt→ltb 0 a A))
    ∙ go (beq s t) (ltb a 0) s (λ (q : T (ltb a 0)). not-suc-le-zero (ltb→lt a 0 q))
  where
    go : (x y u : Bool) → (T y → ⊥) → cond x (round f u a c) (cond y (round f t (0 - a) c) (round f (u && true) a c)) ≡ round f u a c
    go true y u k = refl
    go false true u k = absurd (k tt)
    go false false true k = refl
    go false false false k = refl

-- a is nothing, b is something
sum_right : (f : Format) (s t : Bool) (a b c : ℕ) → a ≡ 0 → 0 < b → sum f s a t b c ≡ round f t b c
unfolding sum
sum_right f s t a b c h B =
    ap (λ (z : ℕ). cond (beq s t) (round f s (z + b) c) (cond (ltb z b) (round f t (b - z) c) (round f (s && ltb b z) (z - b) c))) h
    ∙ ap (λ (z : ℕ). cond (beq s t) (round f s z c) (cond (ltb 0 b) (round f t (b - 0) c) (round f (s && ltb b 0) (0 - b) c))) (zero-add b)
    ∙ ap (λ (z : ℕ). cond (beq s t) (round f s b c) (cond (ltb 0 b) (round f t z c) (round f (s && ltb b 0) (0 - b) c))) (sub-zero b)
    ∙ ap (λ (z : Bool). cond (beq s t) (round f s b c) (cond z (round f t b c) (round f (s && ltb b 0) (0 - b) c))) (is_true (ltb 0 b) (lt→ltb 0 b B))
    ∙ go s t
  where
    go : (u v : Bool) → cond (beq u v) (round f u b c) (round f v b c) ≡ round f v b c
    go true true = refl
    go true false = refl
    go false true = refl
    go false false = refl

-- both are the same size, and the signs differ: the sum is +0
pub sum-cancel : (f : Format) (s t : Bool) (a b c : ℕ) → 0 < c → a ≡ b → beq s t ≡ false → sum f s a t b c ≡ nil false
unfolding sum
sum-cancel f s t a b c C h d =
    ap (λ (z : Bool). cond z (round f s (a + b) c) (cond (ltb a b) (round f t (b - a) c) (round f (s && ltb b a) (a - b) c))) d
    ∙ ap (λ (z : ℕ). cond (ltb z b) (round f t (b - z) c) (round f (s && ltb b z) (z - b) c)) h
    ∙ go (ltb b b) s (λ (q : T (ltb b b)). lt_irrefl b (ltb→lt b b q))
  where
    go : (y u : Bool) → (T y → ⊥) → cond y (round f t (b - b) c) (round f (u && y) (b - b) c) ≡ nil false
    go true u k = absurd (k tt)
    go false true k = round-zero f false (b - b) c C (sub_self b)
    go false false k = round-zero f false (b - b) c C (sub_self b)

-- both are nothing
sum-nothing : (f : Format) (s t : Bool) (a b c : ℕ) → 0 < c → a ≡ 0 → b ≡ 0 → IsZero (sum f s a t b c)
unfolding sum
sum-nothing f s t a b c C h k = go (beq s t) (ltb a b) (ltb b a)
  where
    go : (x y z : Bool) → IsZero (cond x (round f s (a + b) c) (cond y (round f t (b - a) c) (round f (s && z) (a - b) c)))
    go true y z = (s, round-zero f s (a + b) c C (omega arith))
    go false true z = (t, round-zero f t (b - a) c C (omega arith))
    go false false z = (s && z, round-zero f (s && z) (a - b) c C (omega arith))

-- a nonzero finite value is `fin s (suc m) e`
pub add_nil_right : (f : Format) (s : Bool) (m : ℕ) (e : ℤ) (t : Bool) → T (fits f (fin s (suc m) e)) → add f (fin s (suc m) e) (nil t) ≡ fin s (suc m) e
unfolding add
add_nil_right f s m e t p =
    sum_left f s t (suc m * up e * 1) (0 * 1 * down e) (down e * 1) (mul-pos (mul-pos (zero-lt-suc m) (up_pos e)) (zero-lt-suc 0)) (zero-mul (down e))
    ∙ round_self f s (suc m) e (suc m * up e * 1) (down e * 1) (mul-pos (down_pos e) (zero-lt-suc 0)) p
    (ap (λ (z : ℕ). z * down e) (mul-one (suc m * up e)) ∙ ap (λ (z : ℕ). suc m * up e * z) (sym (mul-one (down e))))

pub add-nil-left : (f : Format) (s : Bool) (m : ℕ) (e : ℤ) (t : Bool) → T (fits f (fin s (suc m) e)) → add f (nil t) (fin s (suc m) e) ≡ fin s (suc m) e
unfolding add
add-nil-left f s m e t p =
    sum_right f t s (0 * 1 * down e) (suc m * up e * 1) (1 * down e) (zero-mul (down e)) (mul-pos (mul-pos (zero-lt-suc m) (up_pos e)) (zero-lt-suc 0))
    ∙ round_self f s (suc m) e (suc m * up e * 1) (1 * down e) (mul-pos (zero-lt-suc 0) (down_pos e)) p
    (ap (λ (z : ℕ). z * down e) (mul-one (suc m * up e)) ∙ ap (λ (z : ℕ). suc m * up e * z) (sym (one-mul (down e))))

pub add-nil-nil : (f : Format) (s t : Bool) → IsZero (add f (nil s) (nil t))
unfolding add
add-nil-nil f s t = sum-nothing f s t (0 * 1 * 1) (0 * 1 * 1) (1 * 1) (zero-lt-suc 0) refl refl

-- ---- with `IsZero` and `Same`
pub add-zeros : (f : Format) (x y : Float) → IsZero x → IsZero y → IsZero (add f x y)
add-zeros f x y p q = rw (p.1, q.1) (add-nil-nil f p.0 q.0)

pub zero_of : (f : Format) (s : Bool) (e : ℤ) → T (fits f (fin s 0 e)) → IsZero (fin s 0 e)
zero_of f s e p = (s, ap (λ (z : ℤ). fin s 0 z) (zero_exp f s e p))

pub add_zero_right : (f : Format) (v z : Float) → T (finite v) → T (fits f v) → IsZero z → Same (add f v z) v
add_zero_right f nan z t p q = absurd t
add_zero_right f (inf s) z t p q = absurd t
add_zero_right f (fin s zero e) z t p q = inr (add-zeros f (fin s 0 e) z (zero_of f s e p) q, zero_of f s e p)
add_zero_right f (fin s (suc m) e) z t p q = inl (ap (λ (y : Float). add f (fin s (suc m) e) y) q.1 ∙ add_nil_right f s m e q.0 p)

pub add-zero-left : (f : Format) (z v : Float) → T (finite v) → T (fits f v) → IsZero z → Same (add f z v) v
add-zero-left f z nan t p q = absurd t
add-zero-left f z (inf s) t p q = absurd t
add-zero-left f z (fin s zero e) t p q = inr (add-zeros f z (fin s 0 e) q (zero_of f s e p), zero_of f s e p)
add-zero-left f z (fin s (suc m) e) t p q = inl (ap (λ (y : Float). add f y (fin s (suc m) e)) q.1 ∙ add-nil-left f s m e q.0 p)

pub same_refl : (x : Float) → Same x x
same_refl x = inl refl

pub same_trans : (x y z : Float) → Same x y → Same y z → Same x z
same_trans x y z (inl p) (inl q) = inl (p ∙ q)
same_trans x y z (inl p) (inr q) = inr ((q.0.0, p ∙ q.0.1), q.1)
same_trans x y z (inr p) (inl q) = inr (p.0, (p.1.0, sym q ∙ p.1.1))
same_trans x y z (inr p) (inr q) = inr (p.0, q.1)

pub zero-finite : (x : Float) → IsZero x → T (finite x)
zero-finite x p = rw p.1 tt

pub zero-fits : (f : Format) (x : Float) → IsZero x → T (fits f x)
zero-fits f x p = rw p.1 (nil-fits f p.0)

pub same_finite : (x y : Float) → Same x y → T (finite y) → T (finite x)
same_finite x y (inl p) t = rw p t
same_finite x y (inr p) t = zero-finite x p.0

pub same_fits : (f : Format) (x y : Float) → Same x y → T (fits f y) → T (fits f x)
same_fits f x y (inl p) t = rw p t
same_fits f x y (inr p) t = zero-fits f x p.0

-- v with a zero added, on either side, once more
pub add_same_zero : (f : Format) (x v z : Float) → T (finite v) → T (fits f v) → Same x v → IsZero z → Same (add f x z) v
add_same_zero f x v z t p q r = same_trans (add f x z) x v (add_zero_right f x z (same_finite x v q t) (same_fits f x v q p) r) q

pub add_zero_same : (f : Format) (z x v : Float) → T (finite v) → T (fits f v) → IsZero z → Same x v → Same (add f z x) v
add_zero_same f z x v t p r q = same_trans (add f z x) x v (add-zero-left f z x (same_finite x v q t) (same_fits f x v q p) r) q

pub mul-zero-left : (f : Format) (z v : Float) → IsZero z → T (finite v) → IsZero (mul f z v)
mul-zero-left f z v p t = rw p.1 (mul-nil-left f p.0 v t)

pub mul_zero_right : (f : Format) (v z : Float) → T (finite v) → IsZero z → IsZero (mul f v z)
mul_zero_right f v z t p = rw p.1 (mul_nil_right f p.0 v t)
