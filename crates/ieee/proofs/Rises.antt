-- A sum does not go down where what is added is not below zero, rounding and overflow included. So of start + step × k, each operation rounded, none is below
-- that of k = 0.
use mathlib.Core.Path.{◌≡◌, refl, sym, ap, ◌∙◌, subst}
use Prim.Native.Nat.{ℕ, ◌+◌, ◌-◌, ◌*◌, ◌≤◌, ◌<◌}
use native.Mathlib.Nat.{zero-lt-suc, add_comm, zero-mul, mul-one, mul_assoc, mul_right_comm, mul-pos, mul-le-mul_right, le-add_right, sub-le}
use native.Mathlib.Omega.{arith}
use mathlib.Core.Bool.{Bool, true, false, not, cond}
use lib.IntN.{ℤ, pos}
use lib.Dec.{T, ltb, eqb, ltb→lt}
use lib.Ieee.{Float, nan, inf, fin, Format, up, down, below, round, sum, neg, add, mul, lt, eq, le, of_int, fits}
use lib.Ieee.Fits.{down_pos}
use lib.Ieee.Bits.{is_true}
use lib.Ieee.Order.{round_mono}
use lib.Ieee.Scale.{finite}
use borrow.Author.Tests.{ltb-false, le-ltb}
use Rattle.ieee.specs.Numbers.{zero}
use Rattle.ieee.proofs.Zero.{IsZero}
use Rattle.ieee.proofs.Unique.{round_self}
use Rattle.ieee.proofs.ZeroOne.{nil, Same, round-zero, mul_zero_right, add_zero_right}
use Rattle.ieee.proofs.Cancel.{round-neg, same→eq}
use Rattle.ieee.proofs.Bound.{Sign, round_sgn}
use Rattle.ieee.proofs.Order.{true-not-false, le_not_lt, lt_irrefl, eq_lt_right}

-- ---- what is told by the signs alone
sign_apart : (x y : Float) → Sign x false → Sign y true → lt x y ≡ false
unfolding lt
sign_apart nan y p q = absurd p
sign_apart (inf true) y p q = absurd (true-not-false p)
sign_apart (inf false) nan p q = absurd q
sign_apart (inf false) (inf t) p q = refl
sign_apart (inf false) (fin t n d) p q = refl
sign_apart (fin true m e) y p q = absurd (true-not-false p)
sign_apart (fin false m e) nan p q = absurd q
sign_apart (fin false m e) (inf true) p q = refl
sign_apart (fin false m e) (inf false) p q = absurd (true-not-false (sym q))
sign_apart (fin false m e) (fin true n d) p q = refl
sign_apart (fin false m e) (fin false n d) p q = absurd (true-not-false (sym q))

not-below-zero : (x : Float) → Sign x false → lt x zero ≡ false
unfolding lt
not-below-zero nan p = absurd p
not-below-zero (inf true) p = absurd (true-not-false p)
not-below-zero (inf false) p = refl
not-below-zero (fin true m e) p = absurd (true-not-false p)
not-below-zero (fin false m e) p = le-ltb (m * up e * 1) (0 * 1 * down e) (nothing (m * up e * 1) (0 * 1 * down e) (zero-mul (down e)))
  where
    nothing : (a b : ℕ) → b ≡ 0 → b ≤ a
    nothing a b h = omega arith

-- ---- -x < -y is y < x
below-neg : (s t : Bool) (a b : ℕ) → below (not s) a (not t) b ≡ below t b s a
below-neg false false a b = refl
below-neg false true a b = ap (λ (z : ℕ). ltb 0 z) (add_comm a b)
below-neg true false a b = refl
below-neg true true a b = refl

lt-neg : (x y : Float) → lt (neg x) (neg y) ≡ lt y x
unfolding lt neg
lt-neg nan nan = refl
lt-neg nan (inf t) = refl
lt-neg nan (fin t n d) = refl
lt-neg (inf s) nan = refl
lt-neg (inf false) (inf false) = refl
lt-neg (inf false) (inf true) = refl
lt-neg (inf true) (inf false) = refl
lt-neg (inf true) (inf true) = refl
lt-neg (inf s) (fin t n d) = refl
lt-neg (fin s m e) nan = refl
lt-neg (fin s m e) (inf false) = refl
lt-neg (fin s m e) (inf true) = refl
lt-neg (fin s m e) (fin t n d) = below-neg s t (m * up e * down d) (n * up d * down e)

-- ---- over one denominator: a larger size is rounded to no smaller one
grows : (f : Format) (a b c : ℕ) → 0 < c → a ≤ b → lt (round f false b c) (round f false a c) ≡ false
grows f a b c C h = le_not_lt (round f false a c) (round f false b c) (is_true (le (round f false a c) (round f false b c)) (round_mono f a c b c C C (mul-le-mul_right c h)))

grows-down : (f : Format) (a b c : ℕ) → 0 < c → a ≤ b → lt (round f true a c) (round f true b c) ≡ false
grows-down f a b c C h = rw (← round-neg f false a c, ← round-neg f false b c, lt-neg) (grows f a b c C h)

stays : (f : Format) (s : Bool) (a b c : ℕ) → a ≡ b → lt (round f s a c) (round f s b c) ≡ false
stays f s a b c h = rw h (lt_irrefl (round f s b c))

-- ±a / c and b / c, or -b / c where b is nothing
sum_rises : (f : Format) (s t : Bool) (a b c : ℕ) → 0 < c → (t ≡ true → b ≡ 0) → lt (sum f s a t b c) (round f s a c) ≡ false
unfolding sum
sum_rises f false false a b c C h = grows f a (a + b) c C (le-add_right a b)
sum_rises f true true a b c C h = stays f true (a + b) a c (let z = h refl in omega arith)
sum_rises f false true a b c C h = go (ltb a b) (ltb→lt a b) (h refl)
  where
    go : (x : Bool) → (T x → a < b) → b ≡ 0 → lt (cond x (round f true (b - a) c) (round f false (a - b) c)) (round f false a c) ≡ false
    go true k z = absurd (let l = k tt in omega arith)
    go false k z = stays f false (a - b) a c (omega arith)
sum_rises f true false a b c C h = go (ltb a b) (ltb b a)
  where
    -- past zero the sign tells, and before it the size is less
    go : (x y : Bool) → lt (cond x (round f false (b - a) c) (round f y (a - b) c)) (round f true a c) ≡ false
    go true y = sign_apart (round f false (b - a) c) (round f true a c) (round_sgn f false (b - a) c) (round_sgn f true a c)
    go false true = grows-down f (a - b) a c C (sub-le a b)
    go false false = sign_apart (round f false (a - b) c) (round f true a c) (round_sgn f false (a - b) c) (round_sgn f true a c)

-- ---- sums
-- over the sum's denominator the first term is itself
first_term : (f : Format) (s : Bool) (m : ℕ) (e d : ℤ) → T (fits f (fin s m e)) → round f s (m * up e * down d) (down e * down d) ≡ fin s m e
first_term f s m e d p =
    round_self f s m e (m * up e * down d) (down e * down d) (mul-pos (down_pos e) (down_pos d)) p
    (mul_right_comm (m * up e) (down d) (down e) ∙ mul_assoc (m * up e) (down e) (down d))

-- not below zero, and with a minus: a zero
no_size : (n : ℕ) (d : ℤ) (k : ℕ) → lt (fin true n d) zero ≡ false → n * up d * k ≡ 0
unfolding lt
no_size n d k h = ap (λ (z : ℕ). z * k) (nothing (n * up d) (n * up d * 1) (0 * 1 * down d) (mul-one (n * up d)) (ltb-false 0 (n * up d * 1 + 0 * 1 * down d) h)) ∙ zero-mul k
  where
    nothing : (x y z : ℕ) → y ≡ x → y + z ≤ 0 → x ≡ 0
    nothing x y z e h = omega arith

-- a rounded sum is not below its first term, where the second is not below zero
pub add_rises : (f : Format) (s p : Float) → T (fits f s) → lt p zero ≡ false → lt (add f s p) s ≡ false
unfolding add lt
add_rises f nan p g h = refl
add_rises f (inf s) nan g h = refl
add_rises f (inf false) (inf false) g h = refl
add_rises f (inf false) (inf true) g h = refl
add_rises f (inf true) (inf false) g h = refl
add_rises f (inf true) (inf true) g h = refl
add_rises f (inf false) (fin t n d) g h = refl
add_rises f (inf true) (fin t n d) g h = refl
add_rises f (fin s m e) nan g h = refl
add_rises f (fin s m e) (inf false) g h = refl
add_rises f (fin s m e) (inf true) g h = absurd (true-not-false h)
add_rises f (fin s m e) (fin t n d) g h =
    let a = m * up e * down d in
    let b = n * up d * down e in
    let c = down e * down d in
    subst (λ (x : Float). lt (sum f s a t b c) x ≡ false) (first_term f s m e d g)
    (sum_rises f s t a b c (mul-pos (down_pos e) (down_pos d)) (λ (q : t ≡ true). no_size n d (down e) (subst (λ (u : Bool). lt (fin u n d) zero ≡ false) q h)))

-- ---- start + step × k
-- nothing is below a NaN
nan_right : (x : Float) → lt x nan ≡ false
unfolding lt
nan_right nan = refl
nan_right (inf s) = refl
nan_right (fin s m e) = refl

add-nan : (f : Format) (x : Float) → add f x nan ≡ nan
unfolding add
add-nan f nan = refl
add-nan f (inf s) = refl
add-nan f (fin s m e) = refl

int_zero : (f : Format) → of_int f (pos 0) ≡ nil false
unfolding of_int
int_zero f = round-zero f false 0 1 (zero-lt-suc 0) refl

int_sgn : (f : Format) (k : ℕ) → Sign (of_int f (pos k)) false
unfolding of_int
int_sgn f k = round_sgn f false k 1

inf-zero : (f : Format) → mul f (inf false) (nil false) ≡ nan
unfolding mul
inf-zero f = refl

-- a finite step, times a count that may have overflowed
times : (f : Format) (n : ℕ) (d : ℤ) (x : Float) → Sign x false → lt (mul f (fin false n d) x) zero ≡ false
unfolding mul
times f n d nan p = absurd p
times f n d (inf true) p = absurd (true-not-false p)
times f n d (inf false) p = go (eqb n 0)
  where
    go : (b : Bool) → lt (cond b nan (inf false)) zero ≡ false
    go true = unfold lt in refl
    go false = unfold lt in refl
times f n d (fin true m e) p = absurd (true-not-false p)
times f n d (fin false m e) p = not-below-zero (round f false (n * up d * (m * up e)) (down d * down e)) (round_sgn f false (n * up d * (m * up e)) (down d * down e))

same_right : (x y z : Float) → T (finite z) → Same y z → lt x z ≡ false → lt x y ≡ false
same_right x y z t q h = go (lt x y) refl
  where
    go : (b : Bool) → lt x y ≡ b → lt x y ≡ false
    go true e = absurd (true-not-false (sym (eq_lt_right y z x (is_true (eq y z) (same→eq y z t q)) e) ∙ h))
    go false e = e

-- the start with a zero added is the start, up to the sign of a zero
from_start : (f : Format) (x p z : Float) → T (fits f x) → IsZero z → lt (add f x p) x ≡ false → lt (add f x p) (add f x z) ≡ false
from_start f nan p z g q h = unfold add in (unfold lt in refl)
from_start f (inf s) p z g q h = rw q.1 (unfold add in h)
from_start f (fin s m e) p z g q h = same_right (add f (fin s m e) p) (add f (fin s m e) z) (fin s m e) tt (add_zero_right f (fin s m e) z tt g q) h

-- none is below the first, for every step above zero and every start, finite or not
pub multiples_rise : (f : Format) (start step : Float) (k : ℕ) → T (fits f start) → lt zero step ≡ true →
    lt (add f start (mul f step (of_int f (pos k)))) (add f start (mul f step (of_int f (pos 0)))) ≡ false
multiples_rise f start nan k g h = absurd (true-not-false (sym h ∙ nan_right zero))
multiples_rise f start (inf true) k g h = absurd (true-not-false (sym h ∙ unfold lt in refl))
-- the first is a NaN
multiples_rise f start (inf false) k g h = rw (int_zero f, inf-zero f, add-nan f start) (nan_right (add f start (mul f (inf false) (of_int f (pos k)))))
multiples_rise f start (fin true n d) k g h = absurd (true-not-false (sym h ∙ unfold lt in refl))
multiples_rise f start (fin false n d) k g h =
    from_start f start (mul f (fin false n d) (of_int f (pos k))) (mul f (fin false n d) (of_int f (pos 0))) g
    (mul_zero_right f (fin false n d) (of_int f (pos 0)) tt (false, int_zero f))
    (add_rises f start (mul f (fin false n d) (of_int f (pos k))) g (times f n d (of_int f (pos k)) (int_sgn f k)))
