-- Bounds by powers of two, through the rounding operations: enough to know that a result is finite, and where it is above zero.
-- `Upto b x`: x is finite, of size at most 2 ^ b. `Between l b x`: x is above zero, from 2 ^ -l to 2 ^ b.
use mathlib.Core.Path.{◌≡◌, refl, sym, ap, ◌∙◌, subst}
use mathlib.Core.Logic.{◌⊎◌, inl, inr}
use Prim.Native.Nat.{ℕ, zero, suc, ◌+◌, ◌-◌, ◌*◌, ◌/◌, ◌%◌, ◌^◌, ◌≤◌, ◌<◌, compare}
use native.Mathlib.Nat.{le_trans, le_of_eq, le_of_lt, zero-lt-suc, mul-one, one-mul, mul_comm, mul_assoc, mul_left_comm, mul_right_comm, mul-mul-mul_comm, mul-pos, mul-le-mul, mul-le-mul_left, mul-le-mul_right, add-le-add, add-mul, sub-le, le-add_left, le-add_right, two-pow-succ}
use native.Mathlib.Omega.{arith}
use mathlib.Core.Bool.{Bool, true, false, ◌&&◌, ◌||◌, beq, cond, true≢false}
use lib.Dec.{T, ltb, eqb, eqb→eq, ltb→lt, lit<}
use lib.Pow.{pow-add, pow_pos, pow-lt, pow_mono}
use lib.Ieee.{Float, nan, inf, fin, Format, binary32, binary64, prec, emax, low, up, down, unlike, size, nearest, odd, units, round, sum, add, sub, neg, mul, div, le}
use lib.Ieee.Digits.{back}
use lib.Ieee.Fits.{up_pos, down_pos, round_is, and_l}
use lib.Ieee.Exact.{HasValue, round_exact}
use lib.Ieee.Order.{round_mono}
use lib.Ieee.Positive.{num, den, positive, den_pos, positive_of_value, value→cross, le→cross, above, above_of_le, through}
use lib.Ieee.Scale.{finite}
use Rattle.ieee.proofs.Cancel.{round-neg, div_is}

abbrev pub Upto : ℕ → Float → Type 0
Upto b x = T (finite x) × (num x ≤ 2 ^ b * den x)

pub record Between (l b : ℕ) (x : Float) : Type 0 where
  pub is_pos : T (positive x)
  pub lower : den x ≤ num x * 2 ^ l
  pub upper : num x ≤ 2 ^ b * den x

-- ---- powers of two are values
one-lt : (f : Format) → 1 < 2 ^ prec f
one-lt binary32 = lit< tt
one-lt binary64 = lit< tt

less : (l b m : ℕ) → b ≤ m → l + b < l + suc m
less l b m h = omega arith

pow_val : (f : Format) (b : ℕ) → b ≤ emax f → HasValue (round f false (2 ^ b) 1) false (2 ^ b) 1
pow_val f b h =
    round_exact f false (2 ^ b) 1 1 (low f + b) (zero-lt-suc 0) (one-lt f)
    (subst (λ (x : ℕ). x < 2 ^ (low f + suc (emax f))) (sym (one-mul (2 ^ (low f + b)))) (pow-lt (less (low f) b (emax f) h)))
    (mul_comm (2 ^ b) (2 ^ low f) ∙ sym (pow-add 2 (low f) b) ∙ sym (one-mul (2 ^ (low f + b))) ∙ sym (mul-one (1 * 2 ^ (low f + b))))

under : (l a m : ℕ) → l - a < l + suc m
under l a m = omega arith

pub inv_val : (f : Format) (l : ℕ) → l ≤ low f → HasValue (round f false 1 (2 ^ l)) false 1 (2 ^ l)
inv_val f l h =
    round_exact f false 1 (2 ^ l) 1 (low f - l) (pow_pos l) (one-lt f)
    (subst (λ (x : ℕ). x < 2 ^ (low f + suc (emax f))) (sym (one-mul (2 ^ (low f - l)))) (pow-lt (under (low f) l (emax f))))
    (one-mul (2 ^ low f) ∙ ap (λ (x : ℕ). 2 ^ x) (sym (back (low f) l h)) ∙ pow-add 2 (low f - l) l ∙ ap (λ (x : ℕ). x * 2 ^ l) (sym (one-mul (2 ^ (low f - l)))))

-- ---- a rounded value has the sign that it was handed
abbrev pub Sign : Float → Bool → Type 0
Sign nan s = ⊥
Sign (inf t) s = t ≡ s
Sign (fin t m e) s = t ≡ s

odd_sgn : (d : ℕ) (s : Bool) (q k l : ℕ) → Sign (odd d s q k l) s
unfolding odd
odd_sgn d s zero k l = refl
odd_sgn d s (suc q) k l = refl

units_sgn : (f : Format) (s : Bool) (q k : ℕ) → Sign (units f s q k) s
unfolding units
units_sgn f s q k = go (ltb (q * 2 ^ k) (2 ^ (low f + suc (emax f))))
  where
    go : (b : Bool) → Sign (cond b (odd (suc (prec f)) s q k (low f)) (inf s)) s
    go true = odd_sgn (suc (prec f)) s q k (low f)
    go false = refl

pub round_sgn : (f : Format) (s : Bool) (a c : ℕ) → Sign (round f s a c) s
round_sgn f s a c =
    let n = a * 2 ^ low f in
    let k = size (n / c) - prec f in
    let u = c * 2 ^ k in
    subst (λ (x : Float). Sign x s) (sym (round_is f s a c)) (units_sgn f s (nearest (n / u) (compare (n % u * 2) u)) k)

-- ---- what is not above a finite value is finite
or_split : (a b : Bool) → T (a || b) → T a ⊎ T b
or_split true b t = inl tt
or_split false b t = inr t

lt_or_eq : (a b : ℕ) → T (ltb a b || (eqb a b && true)) → a ≤ b
lt_or_eq a b t = elim (or_split (ltb a b) (eqb a b && true) t) [ inl u ↦ le_of_lt (ltb→lt a b u) | inr u ↦ le_of_eq (eqb→eq a b (and_l (eqb a b) true u)) ]

capped : (z hi : Float) → Sign z false → T (positive hi) → T (le z hi) → T (finite z) × (num z * den hi ≤ num hi * den z)
unfolding le
capped nan hi s p h = absurd s
capped (inf true) hi s p h = absurd (true≢false s)
capped (inf false) nan s p h = absurd p
capped (inf false) (inf t) s p h = absurd p
capped (inf false) (fin t n d) s p h = absurd h
capped (fin true m e) hi s p h = absurd (true≢false s)
capped (fin false m e) nan s p h = absurd p
capped (fin false m e) (inf t) s p h = absurd p
capped (fin false m e) (fin true n d) s p h = absurd p
capped (fin false m e) (fin false n d) s p h = (tt, lt_or_eq (m * up e * down d) (n * up d * down e) h)

round-upto-pos : (f : Format) (b a c : ℕ) → b ≤ emax f → 0 < c → a ≤ 2 ^ b * c → Upto b (round f false a c)
round-upto-pos f b a c B C h =
    let hi = round f false (2 ^ b) 1 in
    let v = pow_val f b B in
    let p : T (positive hi) = positive_of_value hi (2 ^ b) 1 v (pow_pos b) in
    let k = capped (round f false a c) hi (round_sgn f false a c) p (round_mono f a c (2 ^ b) 1 C (zero-lt-suc 0) (le_trans (le_of_eq (mul-one a)) h)) in
    (k.0, le_trans (le_of_eq (sym (mul-one (num (round f false a c))))) (through (num (round f false a c)) (num hi) (2 ^ b) (den (round f false a c)) (den hi) 1 (den_pos hi) k.1 (le_of_eq (value→cross hi (2 ^ b) 1 v))))

pub neg-upto : (b : ℕ) (x : Float) → Upto b x → Upto b (neg x)
unfolding neg
neg-upto b nan h = absurd h.0
neg-upto b (inf s) h = absurd h.0
neg-upto b (fin s m e) h = h

pub round-upto : (f : Format) (s : Bool) (b a c : ℕ) → b ≤ emax f → 0 < c → a ≤ 2 ^ b * c → Upto b (round f s a c)
round-upto f false b a c B C h = round-upto-pos f b a c B C h
round-upto f true b a c B C h = subst (λ (x : Float). Upto b x) (round-neg f false a c) (neg-upto b (round f false a c) (round-upto-pos f b a c B C h))

fin-above : (z : Float) → T (above z) → T (finite z) → T (positive z)
fin-above nan a t = absurd t
fin-above (inf s) a t = absurd t
fin-above (fin true m e) a t = absurd a
fin-above (fin false m e) a t = a

pub round-between : (f : Format) (l b a c : ℕ) → l ≤ low f → b ≤ emax f → 0 < c → c ≤ a * 2 ^ l → a ≤ 2 ^ b * c → Between l b (round f false a c)
round-between f l b a c L B C h k =
    let lo = round f false 1 (2 ^ l) in
    let z = round f false a c in
    let v = inv_val f l L in
    let p : T (positive lo) = positive_of_value lo 1 (2 ^ l) v (zero-lt-suc 0) in
    let m : T (le lo z) = round_mono f 1 (2 ^ l) a c (pow_pos l) C (le_trans (le_of_eq (one-mul c)) h) in
    let u = round-upto f false b a c B C k in
    let q : T (positive z) = fin-above z (above_of_le lo z p m) u.0 in
    record {
      is_pos = q;
      lower =
          le_trans (le_of_eq (sym (one-mul (den z))))
          (through 1 (num lo) (num z) (2 ^ l) (den lo) (den z) (den_pos lo) (le_of_eq (sym (value→cross lo 1 (2 ^ l) v))) (le→cross lo z p q m));
      upper = u.1;
    }

-- ---- the operations
pub upto : (l b : ℕ) (x : Float) → Between l b x → Upto b x
upto l b nan h = absurd h.is_pos
upto l b (inf s) h = absurd h.is_pos
upto l b (fin s m e) h = (tt, h.upper)

pub widen : (l b l' b' : ℕ) (x : Float) → l ≤ l' → b ≤ b' → Between l b x → Between l' b' x
widen l b l' b' x L B h = record {
  is_pos = h.is_pos;
  lower = le_trans h.lower (mul-le-mul_left (num x) (pow_mono L));
  upper = le_trans h.upper (mul-le-mul_right (den x) (pow_mono B));
}

pub more : (b b' : ℕ) (x : Float) → b ≤ b' → Upto b x → Upto b' x
more b b' x B h = (h.0, le_trans h.1 (mul-le-mul_right (den x) (pow_mono B)))

-- (2 ^ b * p) * (2 ^ d * q)
pair : (b d p q : ℕ) → 2 ^ b * p * (2 ^ d * q) ≡ 2 ^ (b + d) * (p * q)
pair b d p q = mul-mul-mul_comm (2 ^ b) p (2 ^ d) q ∙ ap (λ (z : ℕ). z * (p * q)) (sym (pow-add 2 b d))

pub mul-upto : (f : Format) (b d : ℕ) (x y : Float) → b + d ≤ emax f → Upto b x → Upto d y → Upto (b + d) (mul f x y)
unfolding mul
mul-upto f b d nan y B h k = absurd h.0
mul-upto f b d (inf s) y B h k = absurd h.0
mul-upto f b d (fin s m e) nan B h k = absurd k.0
mul-upto f b d (fin s m e) (inf t) B h k = absurd k.0
mul-upto f b d (fin s m e) (fin t n g) B h k =
    round-upto f (unlike s t) (b + d) (m * up e * (n * up g)) (down e * down g) B (mul-pos (down_pos e) (down_pos g)) (le_trans (mul-le-mul h.1 k.1) (le_of_eq (pair b d (down e) (down g))))

-- x over a y that is not too small
pub div-upto : (f : Format) (b l d : ℕ) (x y : Float) → b + l ≤ emax f → Upto b x → Between l d y → Upto (b + l) (div f x y)
div-upto f b l d nan y B h k = absurd h.0
div-upto f b l d (inf s) y B h k = absurd h.0
div-upto f b l d (fin s m e) nan B h k = absurd k.is_pos
div-upto f b l d (fin s m e) (inf t) B h k = absurd k.is_pos
div-upto f b l d (fin s m e) (fin true n g) B h k = absurd k.is_pos
div-upto f b l d (fin s m e) (fin false zero g) B h k = absurd k.is_pos
div-upto f b l d (fin s m e) (fin false (suc n) g) B h k =
    subst (λ (z : Float). Upto (b + l) z) (sym (div_is f s m e false n g))
    (round-upto f (unlike s false) (b + l) (m * up e * down g) (suc n * up g * down e) B (mul-pos (mul-pos (zero-lt-suc n) (up_pos g)) (down_pos e))
    (le_trans (mul-le-mul h.1 k.lower)
    (le_of_eq (ap (λ (z : ℕ). 2 ^ b * down e * z) (mul_comm (suc n * up g) (2 ^ l)) ∙ pair b l (down e) (suc n * up g) ∙ ap (λ (z : ℕ). 2 ^ (b + l) * z) (mul_comm (down e) (suc n * up g))))))

pub div-between : (f : Format) (a b c d : ℕ) (x y : Float) → a + d ≤ low f → b + c ≤ emax f → Between a b x → Between c d y → Between (a + d) (b + c) (div f x y)
div-between f a b c d nan y A B h k = absurd h.is_pos
div-between f a b c d (inf s) y A B h k = absurd h.is_pos
div-between f a b c d (fin true m e) y A B h k = absurd h.is_pos
div-between f a b c d (fin false m e) nan A B h k = absurd k.is_pos
div-between f a b c d (fin false m e) (inf t) A B h k = absurd k.is_pos
div-between f a b c d (fin false m e) (fin true n g) A B h k = absurd k.is_pos
div-between f a b c d (fin false m e) (fin false zero g) A B h k = absurd k.is_pos
div-between f a b c d (fin false m e) (fin false (suc n) g) A B h k =
    let N = suc n * up g in
    let M = m * up e in
    subst (λ (z : Float). Between (a + d) (b + c) z) (sym (div_is f false m e false n g))
    (round-between f (a + d) (b + c) (M * down g) (N * down e) A B (mul-pos (mul-pos (zero-lt-suc n) (up_pos g)) (down_pos e))
    (le_trans (mul-le-mul k.upper h.lower) (le_of_eq (lo M (down g) (2 ^ a) (2 ^ d) (2 ^ (a + d)) (pow-add 2 a d))))
    (le_trans (mul-le-mul h.upper k.lower)
    (le_of_eq (ap (λ (z : ℕ). 2 ^ b * down e * z) (mul_comm N (2 ^ c)) ∙ pair b c (down e) N ∙ ap (λ (z : ℕ). 2 ^ (b + c) * z) (mul_comm (down e) N)))))
  where
    lo : (M g A D AD : ℕ) → AD ≡ A * D → D * g * (M * A) ≡ M * g * AD
    lo M g A D AD p = rw p (simp (mul_assoc, mul_comm, mul_left_comm))

-- a sum, whatever the signs
twice : (p b : ℕ) → 2 ^ b * p + 2 ^ b * p ≡ 2 ^ suc b * p
twice p b = sym (add-mul (2 ^ b) (2 ^ b) p) ∙ ap (λ (z : ℕ). z * p) (sym (two-pow-succ b))

sum-upto : (f : Format) (s t : Bool) (b x y c : ℕ) → suc b ≤ emax f → 0 < c → x ≤ 2 ^ b * c → y ≤ 2 ^ b * c → Upto (suc b) (sum f s x t y c)
unfolding sum
sum-upto f s t b x y c B C h k = go (beq s t) (ltb x y) (s && ltb y x)
  where
    all : x + y ≤ 2 ^ suc b * c
    all = le_trans (add-le-add h k) (le_of_eq (twice c b))

    go : (u v w : Bool) → Upto (suc b) (cond u (round f s (x + y) c) (cond v (round f t (y - x) c) (round f w (x - y) c)))
    go true v w = round-upto f s (suc b) (x + y) c B C all
    go false true w = round-upto f t (suc b) (y - x) c B C (le_trans (le_trans (sub-le y x) (le-add_left y x)) all)
    go false false w = round-upto f w (suc b) (x - y) c B C (le_trans (le_trans (sub-le x y) (le-add_right x y)) all)

pub add-upto : (f : Format) (b : ℕ) (x y : Float) → suc b ≤ emax f → Upto b x → Upto b y → Upto (suc b) (add f x y)
unfolding add
add-upto f b nan y B h k = absurd h.0
add-upto f b (inf s) y B h k = absurd h.0
add-upto f b (fin s m e) nan B h k = absurd k.0
add-upto f b (fin s m e) (inf t) B h k = absurd k.0
add-upto f b (fin s m e) (fin t n g) B h k =
    sum-upto f s t b (m * up e * down g) (n * up g * down e) (down e * down g) B (mul-pos (down_pos e) (down_pos g))
    (le_trans (mul-le-mul_right (down g) h.1) (le_of_eq (mul_assoc (2 ^ b) (down e) (down g))))
    (le_trans (mul-le-mul_right (down e) k.1) (le_of_eq (mul_assoc (2 ^ b) (down g) (down e) ∙ ap (λ (z : ℕ). 2 ^ b * z) (mul_comm (down g) (down e)))))

pub sub-upto : (f : Format) (b : ℕ) (x y : Float) → suc b ≤ emax f → Upto b x → Upto b y → Upto (suc b) (sub f x y)
unfolding sub
sub-upto f b x y B h k = add-upto f b x (neg y) B h (neg-upto b y k)

pub add-between : (f : Format) (l b : ℕ) (x y : Float) → l ≤ low f → suc b ≤ emax f → Between l b x → Between l b y → Between l (suc b) (add f x y)
unfolding add sum
add-between f l b nan y L B h k = absurd h.is_pos
add-between f l b (inf s) y L B h k = absurd h.is_pos
add-between f l b (fin true m e) y L B h k = absurd h.is_pos
add-between f l b (fin false m e) nan L B h k = absurd k.is_pos
add-between f l b (fin false m e) (inf t) L B h k = absurd k.is_pos
add-between f l b (fin false m e) (fin true n g) L B h k = absurd k.is_pos
add-between f l b (fin false m e) (fin false n g) L B h k =
    let x = m * up e * down g in
    let y = n * up g * down e in
    let c = down e * down g in
    round-between f l (suc b) (x + y) c L B (mul-pos (down_pos e) (down_pos g))
    (le_trans (mul-le-mul_right (down g) h.lower) (le_trans (le_of_eq (mul_right_comm (m * up e) (2 ^ l) (down g))) (mul-le-mul_right (2 ^ l) (le-add_right x y))))
    (le_trans (add-le-add
    (le_trans (mul-le-mul_right (down g) h.upper) (le_of_eq (mul_assoc (2 ^ b) (down e) (down g))))
    (le_trans (mul-le-mul_right (down e) k.upper) (le_of_eq (mul_assoc (2 ^ b) (down g) (down e) ∙ ap (λ (z : ℕ). 2 ^ b * z) (mul_comm (down g) (down e))))))
    (le_of_eq (twice c b)))
