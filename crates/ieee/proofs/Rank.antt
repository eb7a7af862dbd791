-- The order of finite values as an order of natural numbers: `rank` counts the format's smallest values from below the lowest. `lt` is the order of ranks, and equal numbers have equal ranks.
use mathlib.Core.Path.{◌≡◌, refl, sym, ap, ◌∙◌, subst}
use mathlib.Core.Logic.{inl, inr}
use Prim.Native.Nat.{ℕ, zero, suc, ◌+◌, ◌-◌, ◌*◌, ◌/◌, ◌^◌, ◌≤◌, ◌<◌}
use native.Mathlib.Nat.{le_of_lt, zero-mul, mul_comm, mul_assoc, mul_right_comm, mul-pos, mul-lt-mul_of_pos_right, lt_of_mul-lt-mul_right, mul-div_cancel, eq_of_mul-eq-mul_right, div-one}
use native.Mathlib.Omega.{arith}
use mathlib.Core.Bool.{Bool, true, false}
use lib.IntN.{ℤ}
use lib.Dec.{T, ltb→lt, lt→ltb}
use lib.Pow.{pow-add, pow_pos}
use lib.Ieee.{Float, nan, inf, fin, Format, emax, low, up, down, lt, fits}
use lib.Ieee.Fits.{down_pos}
use lib.Ieee.Scale.{finite, overflow}
use Rattle.ieee.proofs.Unique.{fits-odd, place, below}
use Rattle.ieee.proofs.ZeroOne.{nil, Same}

-- ---- a finite value's size, in units of the smallest
abbrev pub unit : Format → ℕ → ℤ → ℕ
unit f m e = m * up e * 2 ^ low f / down e

exact : (f : Format) (m : ℕ) (e : ℤ) (j : ℕ) → up e * 2 ^ low f ≡ 2 ^ j * down e → unit f m e ≡ m * 2 ^ j
exact f m e j h = ap (λ (z : ℕ). z / down e) (mul_assoc m (up e) (2 ^ low f) ∙ ap (λ (z : ℕ). m * z) h ∙ sym (mul_assoc m (2 ^ j) (down e))) ∙ mul-div_cancel (m * 2 ^ j) (down_pos e)

-- unit * down e is m * up e units, and it is under the overflow
unit_val : (f : Format) (s : Bool) (m : ℕ) (e : ℤ) → T (fits f (fin s m e)) → (unit f m e * down e ≡ m * up e * 2 ^ low f) × (unit f m e ≤ overflow f)
unit_val f s zero e p =
    let z : 0 * up e * 2 ^ low f ≡ 0 = ap (λ (q : ℕ). q * 2 ^ low f) (zero-mul (up e)) ∙ zero-mul (2 ^ low f) in
    let u : unit f 0 e ≡ 0 = ap (λ (q : ℕ). q / down e) (z ∙ sym (zero-mul (down e))) ∙ mul-div_cancel 0 (down_pos e) in
    (ap (λ (q : ℕ). q * down e) u ∙ zero-mul (down e) ∙ sym z, subst (λ (q : ℕ). q ≤ overflow f) (sym u) (le_of_lt (pow_pos (low f + suc (emax f)))))
unit_val f s (suc m) e p =
    let o = fits-odd f s m e p in
    let l = low f in
    let pl = place l e o.floor in
    let u = exact f (suc m) e pl.0 pl.1 in (
      ap (λ (q : ℕ). q * down e) u ∙ mul_assoc (suc m) (2 ^ pl.0) (down e) ∙ ap (λ (q : ℕ). suc m * q) (sym pl.1) ∙ sym (mul_assoc (suc m) (up e) (2 ^ l)),
      subst (λ (q : ℕ). q ≤ overflow f) (sym u) (le_of_lt (subst (λ (q : ℕ). suc m * 2 ^ pl.0 < q) (sym (pow-add 2 l (suc (emax f)))) (below (suc m) (up e) (down e) (2 ^ l) (2 ^ pl.0) (2 ^ suc (emax f)) (down_pos e) (pow_pos l) pl.1 o.ceiling))),
    )

unfoldable pub rank : Format → Float → ℕ
rank f nan = 0
rank f (inf s) = 0
rank f (fin false m e) = overflow f + unit f m e
rank f (fin true m e) = overflow f - unit f m e

-- ---- cross products and units
-- with u * D ≡ A * L and v * E ≡ B * L
up-units : (A D u B E v L : ℕ) → 0 < D → 0 < E → 0 < L → u * D ≡ A * L → v * E ≡ B * L → A * E < B * D → u < v
up-units A D u B E v L d e l h k lt =
    lt_of_mul-lt-mul_right (D * E)
    (subst (λ (z : ℕ). z < v * (D * E)) (mul_right_comm A E L ∙ ap (λ (z : ℕ). z * E) (sym h) ∙ mul_assoc u D E)
    (subst (λ (z : ℕ). A * E * L < z) (mul_right_comm B D L ∙ ap (λ (z : ℕ). z * D) (sym k) ∙ mul_assoc v E D ∙ ap (λ (z : ℕ). v * z) (mul_comm E D)) (mul-lt-mul_of_pos_right lt l)))

down-units : (A D u B E v L : ℕ) → 0 < D → 0 < E → 0 < L → u * D ≡ A * L → v * E ≡ B * L → u < v → A * E < B * D
down-units A D u B E v L d e l h k lt =
    lt_of_mul-lt-mul_right L
    (subst (λ (z : ℕ). z < B * D * L) (sym (mul_assoc u D E) ∙ ap (λ (z : ℕ). z * E) h ∙ mul_right_comm A L E)
    (subst (λ (z : ℕ). u * (D * E) < z) (ap (λ (z : ℕ). v * z) (mul_comm D E) ∙ sym (mul_assoc v E D) ∙ ap (λ (z : ℕ). z * D) k ∙ mul_right_comm B L D) (mul-lt-mul_of_pos_right lt (mul-pos d e))))

-- nothing on both sides: A and u vanish together
gone : (A E D u L : ℕ) → 0 < E → 0 < D → u * D ≡ A * L → u ≡ 0 → 0 < L → A * E ≡ 0
gone A E D u L e d h z l = ap (λ (q : ℕ). q * E) (eq_of_mul-eq-mul_right L l A 0 (sym h ∙ ap (λ (q : ℕ). q * D) z ∙ zero-mul D ∙ sym (zero-mul L))) ∙ zero-mul E

gone-back : (A E D u L : ℕ) → 0 < E → 0 < D → u * D ≡ A * L → A * E ≡ 0 → u ≡ 0
gone-back A E D u L e d h z = eq_of_mul-eq-mul_right D d u 0 (h ∙ ap (λ (q : ℕ). q * L) (eq_of_mul-eq-mul_right E e A 0 (z ∙ sym (zero-mul E))) ∙ zero-mul L ∙ sym (zero-mul D))

-- ---- the signs
ff : (M u v : ℕ) → u < v → M + u < M + v
ff M u v h = omega arith

ff' : (M u v : ℕ) → M + u < M + v → u < v
ff' M u v h = omega arith

tt' : (M u v : ℕ) → u ≤ M → M - u < M - v → v < u
tt' M u v h k = omega arith

ts : (M u v : ℕ) → u ≤ M → v < u → M - u < M - v
ts M u v h k = omega arith

ft : (M u v : ℕ) → M + u < M - v → ⊥
ft M u v h = omega arith

pub lt→rank : (f : Format) (x y : Float) → T (finite x) → T (finite y) → T (fits f x) → T (fits f y) → T (lt x y) → rank f x < rank f y
unfolding lt rank
lt→rank f nan y a b p q h = absurd a
lt→rank f (inf s) y a b p q h = absurd a
lt→rank f (fin s m e) nan a b p q h = absurd b
lt→rank f (fin s m e) (inf t) a b p q h = absurd b
lt→rank f (fin false m e) (fin false n d) a b p q h =
    ff (overflow f) (unit f m e) (unit f n d)
    (up-units (m * up e) (down e) (unit f m e) (n * up d) (down d) (unit f n d) (2 ^ low f) (down_pos e) (down_pos d) (pow_pos (low f)) (unit_val f false m e p).0 (unit_val f false n d q).0 (ltb→lt (m * up e * down d) (n * up d * down e) h))
lt→rank f (fin false m e) (fin true n d) a b p q h = absurd h
lt→rank f (fin true m e) (fin true n d) a b p q h =
    ts (overflow f) (unit f m e) (unit f n d) (unit_val f true m e p).1
    (up-units (n * up d) (down d) (unit f n d) (m * up e) (down e) (unit f m e) (2 ^ low f) (down_pos d) (down_pos e) (pow_pos (low f)) (unit_val f true n d q).0 (unit_val f true m e p).0 (ltb→lt (n * up d * down e) (m * up e * down d) h))
lt→rank f (fin true m e) (fin false n d) a b p q h =
    go (unit f m e) (unit f n d) (gone (m * up e) (down d) (down e) (unit f m e) (2 ^ low f) (down_pos d) (down_pos e) (unit_val f true m e p).0) (gone (n * up d) (down e) (down d) (unit f n d) (2 ^ low f) (down_pos e) (down_pos d) (unit_val f false n d q).0)
    (unit_val f true m e p).1 (ltb→lt 0 (m * up e * down d + n * up d * down e) h)
  where
    some : (M u v : ℕ) → u ≤ M → 0 < M → (u ≡ 0 → v ≡ 0 → ⊥) → M - u < M + v
    some M zero zero h k c = absurd (c refl refl)
    some M zero (suc v) h k c = omega arith
    some M (suc u) v h k c = omega arith

    none : (a b : ℕ) → 0 < a + b → a ≡ 0 → b ≡ 0 → ⊥
    none a b h p q = omega arith

    go : (u v : ℕ) → (u ≡ 0 → 0 < 2 ^ low f → m * up e * down d ≡ 0) → (v ≡ 0 → 0 < 2 ^ low f → n * up d * down e ≡ 0) → u ≤ overflow f → 0 < m * up e * down d + n * up d * down e → overflow f - u < overflow f + v
    go u v k l c h = some (overflow f) u v c (pow_pos (low f + suc (emax f))) (λ (z : u ≡ 0) (w : v ≡ 0). none (m * up e * down d) (n * up d * down e) h (k z (pow_pos (low f))) (l w (pow_pos (low f))))

pub rank→lt : (f : Format) (x y : Float) → T (finite x) → T (finite y) → T (fits f x) → T (fits f y) → rank f x < rank f y → T (lt x y)
unfolding lt rank
rank→lt f nan y a b p q h = absurd a
rank→lt f (inf s) y a b p q h = absurd a
rank→lt f (fin s m e) nan a b p q h = absurd b
rank→lt f (fin s m e) (inf t) a b p q h = absurd b
rank→lt f (fin false m e) (fin false n d) a b p q h =
    lt→ltb (m * up e * down d) (n * up d * down e)
    (down-units (m * up e) (down e) (unit f m e) (n * up d) (down d) (unit f n d) (2 ^ low f) (down_pos e) (down_pos d) (pow_pos (low f)) (unit_val f false m e p).0 (unit_val f false n d q).0 (ff' (overflow f) (unit f m e) (unit f n d) h))
rank→lt f (fin false m e) (fin true n d) a b p q h = absurd (ft (overflow f) (unit f m e) (unit f n d) h)
rank→lt f (fin true m e) (fin true n d) a b p q h =
    lt→ltb (n * up d * down e) (m * up e * down d)
    (down-units (n * up d) (down d) (unit f n d) (m * up e) (down e) (unit f m e) (2 ^ low f) (down_pos d) (down_pos e) (pow_pos (low f)) (unit_val f true n d q).0 (unit_val f true m e p).0 (tt' (overflow f) (unit f m e) (unit f n d) (unit_val f true m e p).1 h))
rank→lt f (fin true m e) (fin false n d) a b p q h =
    lt→ltb 0 (m * up e * down d + n * up d * down e)
    (some (m * up e * down d) (n * up d * down e) (λ (z : m * up e * down d ≡ 0) (w : n * up d * down e ≡ 0).
    none (overflow f) (unit f m e) (unit f n d) h
    (gone-back (m * up e) (down d) (down e) (unit f m e) (2 ^ low f) (down_pos d) (down_pos e) (unit_val f true m e p).0 z)
    (gone-back (n * up d) (down e) (down d) (unit f n d) (2 ^ low f) (down_pos e) (down_pos d) (unit_val f false n d q).0 w)))
  where
    some : (a b : ℕ) → (a ≡ 0 → b ≡ 0 → ⊥) → 0 < a + b
    some zero zero c = absurd (c refl refl)
    some zero (suc b) c = omega arith
    some (suc a) b c = omega arith

    none : (M u v : ℕ) → M - u < M + v → u ≡ 0 → v ≡ 0 → ⊥
    none M u v h p q = omega arith

rank-nil : (f : Format) (s : Bool) → rank f (nil s) ≡ overflow f
unfolding rank
rank-nil f false = nought (overflow f) (2 ^ low f)
  where
    nought : (M L : ℕ) → M + 0 * 1 * L / 1 ≡ M
    nought M L = ap (λ (z : ℕ). M + z) (div-one (0 * 1 * L) ∙ zero-mul L) ∙ native.Mathlib.Nat.add-zero M
rank-nil f true = nought (overflow f) (2 ^ low f)
  where
    nought : (M L : ℕ) → M - 0 * 1 * L / 1 ≡ M
    nought M L = ap (λ (z : ℕ). M - z) (div-one (0 * 1 * L) ∙ zero-mul L) ∙ native.Mathlib.Nat.sub-zero M

pub same_rank : (f : Format) (x y : Float) → Same x y → rank f x ≡ rank f y
same_rank f x y (inl p) = ap (λ (z : Float). rank f z) p
same_rank f x y (inr p) = ap (λ (z : Float). rank f z) p.0.1 ∙ rank-nil f p.0.0 ∙ sym (rank-nil f p.1.0) ∙ ap (λ (z : Float). rank f z) (sym p.1.1)
