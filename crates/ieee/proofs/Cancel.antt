-- x - x is +0, y - x is -(x - y) up to the sign of a zero, and x / x is one. A zero's sign does not reach a difference, but for a zero's.
use mathlib.Core.Path.{◌≡◌, refl, sym, ap, ◌∙◌, subst}
use mathlib.Core.Logic.{inl, inr}
use Prim.Native.Nat.{ℕ, zero, suc, ◌+◌, ◌-◌, ◌*◌, ◌/◌, ◌%◌, ◌^◌, ◌≤◌, ◌<◌, compare}
use native.Mathlib.Nat.{zero-lt-suc, lt_irrefl, le_antisymm, add_comm, mul-one, one-mul, mul_comm, mul-pos, zero-mul}
use native.Mathlib.Omega.{arith}
use mathlib.Core.Bool.{Bool, true, false, not, ◌&&◌, ◌||◌, beq, cond}
use lib.IntN.{ℤ, pos}
use lib.Dec.{T, ltb, eqb, eqb→eq, ltb→lt, nltb→le, eqb-suc-zero, eqb_refl}
use lib.Ieee.{Float, nan, inf, fin, Format, binary32, binary64, prec, emax, low, up, down, unlike, size, nearest, odd, units, round, sum, add, sub, neg, div, fits, eq}
use lib.Ieee.Fits.{up_pos, down_pos, round_is, neg-fits, and_l, and_r, and_i}
use lib.Ieee.Scale.{finite}
use lib.Ieee.Positive.{positive}
use Rattle.ieee.proofs.Unique.{round_self, one_way}
use Rattle.ieee.specs.Numbers.{one}
use Rattle.ieee.proofs.Zero.{IsZero}
use Rattle.ieee.proofs.ZeroOne.{nil, Same, round-zero, sum-cancel, add_nil_right, add-zeros, add-zero-left, same_trans, zero_of}

pub same_sym : (x y : Float) → Same x y → Same y x
same_sym x y (inl p) = inl (sym p)
same_sym x y (inr p) = inr (p.1, p.0)

pub one-fits : (f : Format) → T (fits f one)
unfolding fits
one-fits binary32 = tt
one-fits binary64 = tt

-- ---- x - x
unlike-not : (s : Bool) → beq s (not s) ≡ false
unlike-not true = refl
unlike-not false = refl

pub sub_self_nil : (f : Format) (x : Float) → T (finite x) → sub f x x ≡ nil false
unfolding sub
sub_self_nil f nan t = absurd t
sub_self_nil f (inf s) t = absurd t
sub_self_nil f (fin s m e) t = sum-cancel f s (not s) (m * up e * down e) (m * up e * down e) (down e * down e) (mul-pos (down_pos e) (down_pos e)) refl (unlike-not s)

-- ---- -x
pub neg-zero : (x : Float) → IsZero x → IsZero (neg x)
unfolding neg
neg-zero x p = (not p.0, ap neg p.1)

pub neg-finite : (x : Float) → T (finite x) → T (finite (neg x))
unfolding neg
neg-finite nan t = absurd t
neg-finite (inf s) t = absurd t
neg-finite (fin s m e) t = tt

not-not : (s : Bool) → not (not s) ≡ s
not-not true = refl
not-not false = refl

pub neg-neg : (x : Float) → neg (neg x) ≡ x
unfolding neg
neg-neg nan = refl
neg-neg (inf s) = ap inf (not-not s)
neg-neg (fin s m e) = ap (λ (b : Bool). fin b m e) (not-not s)

odd-neg : (d : ℕ) (s : Bool) (q k l : ℕ) → neg (odd d s q k l) ≡ odd d (not s) q k l
unfolding odd neg
odd-neg d s zero k l = refl
odd-neg d s (suc q) k l = refl

units-neg : (f : Format) (s : Bool) (q k : ℕ) → neg (units f s q k) ≡ units f (not s) q k
unfolding units
units-neg f s q k = go (ltb (q * 2 ^ k) (2 ^ (low f + suc (emax f))))
  where
    go : (b : Bool) → neg (cond b (odd (suc (prec f)) s q k (low f)) (inf s)) ≡ cond b (odd (suc (prec f)) (not s) q k (low f)) (inf (not s))
    go true = odd-neg (suc (prec f)) s q k (low f)
    go false = unfold neg in refl

pub round-neg : (f : Format) (s : Bool) (a c : ℕ) → neg (round f s a c) ≡ round f (not s) a c
round-neg f s a c =
    let n = a * 2 ^ low f in
    let k = size (n / c) - prec f in
    let u = c * 2 ^ k in
    ap neg (round_is f s a c) ∙ units-neg f s (nearest (n / u) (compare (n % u * 2) u)) k ∙ sym (round_is f (not s) a c)

-- ---- y - x
and_true : (t : Bool) → t && true ≡ t
and_true true = refl
and_true false = refl

both : (a b : ℕ) → a < b → b < a → ⊥
both a b h k = omega arith

swap_like : (f : Format) (t : Bool) (a b c : ℕ) → 0 < c → Same (neg (sum f t b (not t) a c)) (sum f t a (not t) b c)
unfolding sum
swap_like f t a b c C =
    subst (λ (z : Bool). Same (neg (cond z (round f t (b + a) c) (cond (ltb b a) (round f (not t) (a - b) c) (round f (t && ltb a b) (b - a) c)))) (cond z (round f t (a + b) c) (cond (ltb a b) (round f (not t) (b - a) c) (round f (t && ltb b a) (a - b) c)))) (sym (unlike-not t))
    (go (ltb a b) (ltb b a) (ltb→lt a b) (nltb→le a b) (ltb→lt b a) (nltb→le b a))
  where
    go : (x y : Bool) → (T x → a < b) → (T (not x) → b ≤ a) → (T y → b < a) → (T (not y) → a ≤ b)
        → Same (neg (cond y (round f (not t) (a - b) c) (round f (t && x) (b - a) c))) (cond x (round f (not t) (b - a) c) (round f (t && y) (a - b) c))
    go true true h h' k k' = absurd (both a b (h tt) (k tt))
    go true false h h' k k' = inl (round-neg f (t && true) (b - a) c ∙ ap (λ (z : Bool). round f (not z) (b - a) c) (and_true t))
    go false true h h' k k' = inl (round-neg f (not t) (a - b) c ∙ ap (λ (z : Bool). round f z (a - b) c) (not-not t ∙ sym (and_true t)))
    go false false h h' k k' =
        let e : a ≡ b = le_antisymm (k' tt) (h' tt) in
        let le : a ≤ b = k' tt in
        let ge : b ≤ a = h' tt in
        inr (neg-zero (round f (t && false) (b - a) c) (t && false, round-zero f (t && false) (b - a) c C (omega arith)), (t && false, round-zero f (t && false) (a - b) c C (omega arith)))

swap_unlike : (f : Format) (s : Bool) (a b c : ℕ) → neg (sum f (not s) b (not s) a c) ≡ sum f s a s b c
unfolding sum
swap_unlike f true a b c = round-neg f false (b + a) c ∙ ap (λ (z : ℕ). round f true z c) (add_comm b a)
swap_unlike f false a b c = round-neg f true (b + a) c ∙ ap (λ (z : ℕ). round f false z c) (add_comm b a)

pub sub_swap : (f : Format) (x y : Float) → T (finite x) → T (finite y) → Same (neg (sub f y x)) (sub f x y)
sub_swap f nan y p q = absurd p
sub_swap f (inf s) y p q = absurd p
sub_swap f (fin s m e) nan p q = absurd q
sub_swap f (fin s m e) (inf t) p q = absurd q
sub_swap f (fin s m e) (fin t n d) p q =
    subst (λ (z : ℕ). Same (neg (sum f t (n * up d * down e) (not s) (m * up e * down d) z)) (sum f s (m * up e * down d) (not t) (n * up d * down e) (down e * down d)) → Same (neg (sub f (fin t n d) (fin s m e))) (sub f (fin s m e) (fin t n d))) (mul_comm (down d) (down e))
    (unfold sub in (λ h. h))
    (go s t)
  where
    go : (s t : Bool) → Same (neg (sum f t (n * up d * down e) (not s) (m * up e * down d) (down e * down d))) (sum f s (m * up e * down d) (not t) (n * up d * down e) (down e * down d))
    go true true = swap_like f true (m * up e * down d) (n * up d * down e) (down e * down d) (mul-pos (down_pos e) (down_pos d))
    go false false = swap_like f false (m * up e * down d) (n * up d * down e) (down e * down d) (mul-pos (down_pos e) (down_pos d))
    go true false = inl (swap_unlike f true (m * up e * down d) (n * up d * down e) (down e * down d))
    go false true = inl (swap_unlike f false (m * up e * down d) (n * up d * down e) (down e * down d))

-- ---- x / x, and a zero over x
unlike_self : (s : Bool) → unlike s s ≡ false
unlike_self true = refl
unlike_self false = refl

pub div_is : (f : Format) (s : Bool) (m : ℕ) (e : ℤ) (t : Bool) (n : ℕ) (d : ℤ) → div f (fin s m e) (fin t (suc n) d) ≡ round f (unlike s t) (m * up e * down d) (suc n * up d * down e)
unfolding div
div_is f s m e t n d = ap (λ (z : Bool). cond z (cond (eqb m 0) nan (inf (unlike s t))) (round f (unlike s t) (m * up e * down d) (suc n * up d * down e))) (eqb-suc-zero n)

pub div_self : (f : Format) (s : Bool) (m : ℕ) (e : ℤ) → div f (fin s (suc m) e) (fin s (suc m) e) ≡ one
div_self f s m e =
    div_is f s (suc m) e s m e
    ∙ ap (λ (z : Bool). round f z (suc m * up e * down e) (suc m * up e * down e)) (unlike_self s)
    ∙ round_self f false 1 (pos 0) (suc m * up e * down e) (suc m * up e * down e) (mul-pos (mul-pos (zero-lt-suc m) (up_pos e)) (down_pos e)) (one-fits f)
    (mul-one (suc m * up e * down e) ∙ sym (one-mul (suc m * up e * down e)))

pub div-zero-left : (f : Format) (z : Float) (t : Bool) (n : ℕ) (d : ℤ) → IsZero z → IsZero (div f z (fin t (suc n) d))
div-zero-left f z t n d p = (
  unlike p.0 t,
  ap (λ (x : Float). div f x (fin t (suc n) d)) p.1 ∙ div_is f p.0 0 (pos 0) t n d
      ∙ round-zero f (unlike p.0 t) (0 * 1 * down d) (suc n * up d * 1) (mul-pos (mul-pos (zero-lt-suc n) (up_pos d)) (zero-lt-suc 0)) (zero-mul (down d)),
)

-- ---- equal as numbers: equal, or both zeros
empty : (f : Format) (s : Bool) (m : ℕ) (e : ℤ) (c : ℕ) → 0 < c → T (fits f (fin s m e)) → m * up e * c ≡ 0 → IsZero (fin s m e)
empty f s zero e c C p h = zero_of f s e p
empty f s (suc m) e c C p h = absurd (lt_irrefl 0 (subst (λ (z : ℕ). 0 < z) h (mul-pos (mul-pos (zero-lt-suc m) (up_pos e)) C)))

level_or : (s t : Bool) (m : ℕ) (e : ℤ) (n : ℕ) (d : ℤ) (f : Format) → T (fits f (fin s m e)) → T (fits f (fin t n d)) → m * up e * down d ≡ n * up d * down e → T (beq s t || eqb (m * up e * down d) 0) → Same (fin s m e) (fin t n d)
level_or s t m e n d f p q h r = go s t (eqb (m * up e * down d) 0) (eqb→eq (m * up e * down d) 0) p q r
  where
    go : (s t z : Bool) → (T z → m * up e * down d ≡ 0) → T (fits f (fin s m e)) → T (fits f (fin t n d)) → T (beq s t || z) → Same (fin s m e) (fin t n d)
    go true true z k p q r = inl (one_way f true true m e n d p q refl h)
    go false false z k p q r = inl (one_way f false false m e n d p q refl h)
    go true false true k p q r = inr (empty f true m e (down d) (down_pos d) p (k tt), empty f false n d (down e) (down_pos e) q (sym h ∙ k tt))
    go true false false k p q r = absurd r
    go false true true k p q r = inr (empty f false m e (down d) (down_pos d) p (k tt), empty f true n d (down e) (down_pos e) q (sym h ∙ k tt))
    go false true false k p q r = absurd r

pub eq→same : (f : Format) (x y : Float) → T (finite y) → T (fits f x) → T (fits f y) → T (eq x y) → Same x y
unfolding eq
eq→same f nan y r p q h = absurd h
eq→same f (inf s) nan r p q h = absurd h
eq→same f (inf s) (inf t) r p q h = absurd r
eq→same f (inf s) (fin t n d) r p q h = absurd h
eq→same f (fin s m e) nan r p q h = absurd h
eq→same f (fin s m e) (inf t) r p q h = absurd h
eq→same f (fin s m e) (fin t n d) r p q h =
    level_or s t m e n d f p q
    (eqb→eq (m * up e * down d) (n * up d * down e) (and_l (eqb (m * up e * down d) (n * up d * down e)) (beq s t || eqb (m * up e * down d) 0) h))
    (and_r (eqb (m * up e * down d) (n * up d * down e)) (beq s t || eqb (m * up e * down d) 0) h)

eq_self : (x : Float) → T (finite x) → T (eq x x)
unfolding eq
eq_self nan t = absurd t
eq_self (inf s) t = absurd t
eq_self (fin true m e) t = and_i (eqb (m * up e * down e) (m * up e * down e)) true (eqb_refl (m * up e * down e)) tt
eq_self (fin false m e) t = and_i (eqb (m * up e * down e) (m * up e * down e)) true (eqb_refl (m * up e * down e)) tt

eq-nil : (s t : Bool) → T (eq (nil s) (nil t))
unfolding eq
eq-nil true true = tt
eq-nil true false = tt
eq-nil false true = tt
eq-nil false false = tt

pub same→eq : (x y : Float) → T (finite y) → Same x y → T (eq x y)
same→eq x y t (inl p) = rw p (eq_self y t)
same→eq x y t (inr p) = rw (p.0.1, p.1.1) (eq-nil p.0.0 p.1.0)

-- ---- a zero's sign does not reach a difference, but for a zero's
pub sub_of : (f : Format) (x y : Float) → sub f x y ≡ add f x (neg y)
unfolding sub
sub_of f x y = refl

pub sub_same_left : (f : Format) (x x' y : Float) → T (finite y) → T (fits f y) → Same x x' → Same (sub f x y) (sub f x' y)
sub_same_left f x x' y t q (inl p) = inl (ap (λ (z : Float). sub f z y) p)
sub_same_left f x x' y t q (inr p) =
    rw (sub_of f x y, sub_of f x' y)
    (same_trans (add f x (neg y)) (neg y) (add f x' (neg y))
    (add-zero-left f x (neg y) (neg-finite y t) (neg-fits f y q) p.0)
    (same_sym (add f x' (neg y)) (neg y) (add-zero-left f x' (neg y) (neg-finite y t) (neg-fits f y q) p.1)))

-- x - y where x and y are the same number
pub sub_same_zero : (f : Format) (x y : Float) → T (finite y) → T (fits f y) → Same x y → IsZero (sub f x y)
sub_same_zero f x y t q h = go (sub_same_left f x y y t q h)
  where
    go : Same (sub f x y) (sub f y y) → IsZero (sub f x y)
    go (inl p) = (false, p ∙ sub_self_nil f y t)
    go (inr p) = p.0

pub sub-zeros : (f : Format) (x y : Float) → IsZero x → IsZero y → IsZero (sub f x y)
sub-zeros f x y p q = rw (sub_of f x y) (add-zeros f x (neg y) p (neg-zero y q))

pub neg_same : (x y : Float) → Same x y → Same (neg x) (neg y)
neg_same x y (inl h) = inl (ap neg h)
neg_same x y (inr h) = inr (neg-zero x h.0, neg-zero y h.1)

-- ---- over what is above zero
same_positive : (x y : Float) → T (positive y) → Same x y → x ≡ y
same_positive x y p (inl h) = h
same_positive x y p (inr h) = absurd (go h.1.0 (subst (λ (z : Float). T (positive z)) h.1.1 p))
  where
    go : (s : Bool) → T (positive (nil s)) → ⊥
    go true t = t
    go false t = t

pub div_same_one : (f : Format) (x y : Float) → T (positive y) → Same x y → div f x y ≡ one
div_same_one f x nan p h = absurd p
div_same_one f x (inf s) p h = absurd p
div_same_one f x (fin true m e) p h = absurd p
div_same_one f x (fin false zero e) p h = absurd p
div_same_one f x (fin false (suc m) e) p h = ap (λ (z : Float). div f z (fin false (suc m) e)) (same_positive x (fin false (suc m) e) p h) ∙ div_self f false m e

pub div-zero : (f : Format) (x y : Float) → T (positive y) → IsZero x → IsZero (div f x y)
div-zero f x nan p h = absurd p
div-zero f x (inf s) p h = absurd p
div-zero f x (fin true m e) p h = absurd p
div-zero f x (fin false zero e) p h = absurd p
div-zero f x (fin false (suc m) e) p h = div-zero-left f x false m e h

-- ---- one and a zero
pub one-add : (f : Format) (x z : Float) → x ≡ one → IsZero z → add f x z ≡ one
one-add f x z p q = rw (p, q.1) (add_nil_right f false 0 (pos 0) q.0 (one-fits f))

pub one-sub : (f : Format) (x z : Float) → x ≡ one → IsZero z → sub f x z ≡ one
one-sub f x z p q = sub_of f x z ∙ one-add f x (neg z) p (neg-zero z q)
