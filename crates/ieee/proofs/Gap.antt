-- Where y - x, rounded, is above zero (and finite), x and y are finite and x < y. And what two comparisons with powers of two say of a gap.
use mathlib.Core.Path.{◌≡◌, refl, sym, ap, subst}
use Prim.Native.Nat.{ℕ, zero, suc, ◌+◌, ◌-◌, ◌*◌, ◌^◌, ◌≤◌, ◌<◌}
use native.Mathlib.Nat.{le_trans, le_of_eq, mul-one, one-mul, mul-pos, zero-lt-suc}
use native.Mathlib.Omega.{arith}
use mathlib.Core.Bool.{Bool, true, false, not, cond, false≢true}
use lib.IntN.{pos, negsuc}
use lib.Dec.{T, ltb, lt→ltb, nltb→le}
use lib.Ieee.{Float, nan, inf, fin, Format, up, down, round, sum, sub, lt, le}
use lib.Ieee.Fits.{down_pos}
use lib.Ieee.Scale.{finite}
use lib.Ieee.Positive.{positive, between, le→cross, num, den}
use Rattle.ieee.proofs.ZeroOne.{round-zero}
use Rattle.ieee.proofs.Bound.{Between, Sign, round_sgn}

-- a value with the sign of a negative number is not above zero
not-pos : (x : Float) → Sign x true → T (positive x) → ⊥
not-pos nan s p = p
not-pos (inf t) s p = p
not-pos (fin true m e) s p = p
not-pos (fin false m e) s p = false≢true s

round-pos : (f : Format) (s : Bool) (a c : ℕ) → 0 < c → T (positive (round f s a c)) → (s ≡ false) × (0 < a)
round-pos f true a c C p = absurd (not-pos (round f true a c) (round_sgn f true a c) p)
round-pos f false zero c C p = absurd (subst (λ (x : Float). T (positive x)) (round-zero f false 0 c C refl) p)
round-pos f false (suc a) c C p = (refl, zero-lt-suc a)

gap-lt : (a b : ℕ) → 0 < a - b → b < a
gap-lt a b h = omega arith

pub record Apart (x y : Float) : Type 0 where
  pub left : T (finite x)
  pub right : T (finite y)
  pub rises : T (lt x y)

-- ±a - ±b with a and b over c
signs : (f : Format) (s t : Bool) (a b c : ℕ) → 0 < c → T (positive (sum f s a (not t) b c)) → T (lib.Ieee.below t b s a)
unfolding sum
signs f false false a b c C p = go (ltb a b) p
  where
    go : (x : Bool) → T (positive (cond x (round f true (b - a) c) (round f false (a - b) c))) → T (ltb b a)
    go true p = absurd (not-pos (round f true (b - a) c) (round_sgn f true (b - a) c) p)
    go false p = lt→ltb b a (gap-lt a b (round-pos f false (a - b) c C p).1)
signs f false true a b c C p = lt→ltb 0 (b + a) (flip a b (round-pos f false (a + b) c C p).1)
  where
    flip : (a b : ℕ) → 0 < a + b → 0 < b + a
    flip a b h = omega arith
signs f true false a b c C p = absurd (not-pos (round f true (a + b) c) (round_sgn f true (a + b) c) p)
signs f true true a b c C p = go (ltb a b) (ltb b a) (nltb→le b a) (λ t. t) p
  where
    none : (a b : ℕ) → a ≤ b → 0 < a - b → ⊥
    none a b h k = omega arith

    go : (x y : Bool) → (T (not y) → a ≤ b) → (T x → T x) → T (positive (cond x (round f false (b - a) c) (round f y (a - b) c))) → T x
    go true y l k p = tt
    go false true l k p = absurd (not-pos (round f true (a - b) c) (round_sgn f true (a - b) c) p)
    go false false l k p = absurd (none a b (l tt) (round-pos f false (a - b) c C p).1)

pub gap_apart : (f : Format) (x y : Float) → T (positive (sub f y x)) → Apart x y
unfolding sub lt
gap_apart f nan nan p = absurd p
gap_apart f nan (inf s) p = absurd p
gap_apart f nan (fin s m e) p = absurd p
gap_apart f (inf t) nan p = absurd p
gap_apart f (inf true) (inf true) p = absurd p
gap_apart f (inf true) (inf false) p = absurd p
gap_apart f (inf false) (inf true) p = absurd p
gap_apart f (inf false) (inf false) p = absurd p
gap_apart f (inf t) (fin s m e) p = absurd p
gap_apart f (fin t n d) nan p = absurd p
gap_apart f (fin t n d) (inf s) p = absurd p
gap_apart f (fin t n d) (fin s m e) p = record { left = tt; right = tt; rises = signs f s t (m * up e * down d) (n * up d * down e) (down e * down d) (mul-pos (down_pos e) (down_pos d)) p }

-- ---- 2 ^ -l and 2 ^ b as values, and a gap between them
abbrev pub small : ℕ → Float
small l = fin false 1 (negsuc l)

abbrev pub large : ℕ → Float
large b = fin false 1 (pos b)

pub within : (l b : ℕ) (h : Float) → T (le (small l) h) → T (le h (large b)) → Between (suc l) b h
within l b h p q =
    let r : T (positive h) = between (small l) h (large b) tt tt p q in
    record {
      is_pos = r;
      lower = le_trans (le_of_eq (sym (one-mul (den h)))) (le→cross (small l) h tt r p);
      upper = le_trans (le_of_eq (sym (mul-one (num h)))) (le_trans (le→cross h (large b) r tt q) (le_of_eq (ap (λ (z : ℕ). z * den h) (one-mul (2 ^ b)))));
    }
