-- The order of floats: `<=` and `<` are transitive, alone and together, infinities included. A NaN compares with nothing, and else `a <= b` is not `b < a`.
use mathlib.Core.Path.{◌≡◌, ◌∙◌, sym, refl, ap, subst}
use mathlib.Core.Bool.{Bool, true, false, not, ◌&&◌, ◌||◌, beq, and_comm, or-true}
use mathlib.Core.Logic.{◌⊎◌, inl, inr, ⊎_elim}
use Prim.Native.Nat.{ℕ, zero, suc, ◌+◌, ◌*◌, ◌≤◌, ◌<◌}
use native.Mathlib.Nat.{mul_right_comm, mul-lt-mul_of_pos_right, mul-le-mul_right, eq_of_mul-eq-mul_right, add-mul, zero-mul}
use native.Mathlib.Omega.{arith}
use lib.IntN.{ℤ}
use lib.Dec.{T, ltb, eqb}
use lib.Ieee.{Float, nan, inf, fin, up, down, below, level, lt, eq, le, is_nan}
use lib.Ieee.Fits.{down_pos}
use lib.Ieee.Scale.{finite}
use borrow.Author.Tests.{not-true, not-false, ltb-true, ltb-false, eqb-true, eqb-false, lt-ltb, le-ltb, eq-eqb, ne_eqb}

pub true-not-false : true ≡ false → ⊥
true-not-false e = let z : ◌≡◌ {A = ℕ} 0 1 = cc in omega arith

no : {A : Type 0} → false ≡ true → A
no e = absurd (true-not-false (sym e))

pub or_split : (p q : Bool) → (p || q) ≡ true → (p ≡ true) ⊎ (q ≡ true)
or_split true q e = inl refl
or_split false q e = inr e

pub or_left : (p q : Bool) → p ≡ true → (p || q) ≡ true
or_left p q e = ap (λ (x : Bool). x || q) e

pub or_right : (p q : Bool) → q ≡ true → (p || q) ≡ true
or_right true q e = refl
or_right false q e = e

pub and_split : (p q : Bool) → (p && q) ≡ true → (p ≡ true) × (q ≡ true)
and_split true q e = (refl, e)
and_split false q e = no e

-- ---- magnitudes with signs
abbrev at_most : Bool → ℕ → Bool → ℕ → Bool
at_most s a t b = below s a t b || level s a t b

same_sign : (t : Bool) (b x : ℕ) → level t b t x ≡ true → b ≡ x
same_sign t b x e = eqb-true b x (and_split (eqb b x) (beq t t || eqb b 0) e).0

both_zero : (b x : ℕ) → (eqb b x && eqb b 0) ≡ true → (b ≡ 0) × (x ≡ 0)
both_zero b x e =
    let p = and_split (eqb b x) (eqb b 0) e in
    let z = eqb-true b 0 p.1 in
    (z, sym (eqb-true b x p.0) ∙ z)

le-pos : (a b : ℕ) → at_most false a false b ≡ true → a ≤ b
le-pos a b e =
    ⊎_elim (λ (l : ltb a b ≡ true). let h = ltb-true a b l in omega arith) (λ (q : level false a false b ≡ true). let h = same_sign false a b q in omega arith) (or_split (ltb a b) (level false a false b) e)

le-neg : (a b : ℕ) → at_most true a true b ≡ true → b ≤ a
le-neg a b e =
    ⊎_elim (λ (l : ltb b a ≡ true). let h = ltb-true b a l in omega arith) (λ (q : level true a true b ≡ true). let h = same_sign true a b q in omega arith) (or_split (ltb b a) (level true a true b) e)

-- from `<=` and `<`
strict : (s t u : Bool) (a b x : ℕ) → at_most s a t b ≡ true → below t b u x ≡ true → below s a u x ≡ true
strict false false false a b x p q = lt-ltb a x (omega (arith, le-pos a b p, ltb-true b x q))
strict false false true a b x p q = q
strict false true false a b x p q = lt-ltb a x (omega (arith, both_zero a b p, ltb-true 0 (b + x) q))
strict false true true a b x p q = absurd (omega (arith, both_zero a b p, ltb-true x b q))
strict true false false a b x p q = lt-ltb 0 (a + x) (omega (arith, ltb-true b x q))
strict true false true a b x p q = no q
strict true true false a b x p q = lt-ltb 0 (a + x) (omega (arith, le-neg a b p, ltb-true 0 (b + x) q))
strict true true true a b x p q = lt-ltb x a (omega (arith, le-neg a b p, ltb-true x b q))

-- from `<=` and `=`
equal : (s t u : Bool) (a b x : ℕ) → at_most s a t b ≡ true → level t b u x ≡ true → at_most s a u x ≡ true
equal s false false a b x p q = subst (λ (n : ℕ). at_most s a false n ≡ true) (same_sign false b x q) p
equal s true true a b x p q = subst (λ (n : ℕ). at_most s a true n ≡ true) (same_sign true b x q) p
equal false false true a b x p q =
    let z = both_zero b x q in
    let a0 : a ≡ 0 = let h = le-pos a b p in omega arith in
    subst (λ (n : ℕ). at_most false n true x ≡ true) (sym a0) (subst (λ (n : ℕ). at_most false 0 true n ≡ true) (sym z.1) refl)
equal false true false a b x p q =
    let z = both_zero b x q in
    let y = both_zero a b p in
    subst (λ (n : ℕ). at_most false n false x ≡ true) (sym y.0) (subst (λ (n : ℕ). at_most false 0 false n ≡ true) (sym z.1) refl)
equal true false true a b x p q =
    let z = both_zero b x q in
    subst (λ (n : ℕ). at_most true a true n ≡ true) (sym z.1) (from_zero a)
  where
    from_zero : (a : ℕ) → at_most true a true 0 ≡ true
    from_zero zero = refl
    from_zero (suc a) = or_left (ltb 0 (suc a)) (level true (suc a) true 0) (lt-ltb 0 (suc a) (omega arith))
equal true true false a b x p q =
    let z = both_zero b x q in
    subst (λ (n : ℕ). at_most true a false n ≡ true) (sym z.1) (to-zero a)
  where
    to-zero : (a : ℕ) → at_most true a false 0 ≡ true
    to-zero zero = refl
    to-zero (suc a) = or_left (ltb 0 (suc a + 0)) (level true (suc a) false 0) (lt-ltb 0 (suc a + 0) (omega arith))

-- ---- a common factor changes no comparison
ltb_scale_at : (a b c : ℕ) (t : Bool) → 0 < c → ltb a b ≡ t → ltb (a * c) (b * c) ≡ t
ltb_scale_at a b c true h e = lt-ltb (a * c) (b * c) (mul-lt-mul_of_pos_right (ltb-true a b e) h)
ltb_scale_at a b c false h e = le-ltb (a * c) (b * c) (mul-le-mul_right c (ltb-false a b e))

eqb_scale_at : (a b c : ℕ) (t : Bool) → 0 < c → eqb a b ≡ t → eqb (a * c) (b * c) ≡ t
eqb_scale_at a b c true h e = eq-eqb (a * c) (b * c) (ap (λ (n : ℕ). n * c) (eqb-true a b e))
eqb_scale_at a b c false h e = ne_eqb (a * c) (b * c) (λ q. eqb-false a b e (eq_of_mul-eq-mul_right c h a b q))

pub ltb_scale : (a b c : ℕ) → 0 < c → ltb (a * c) (b * c) ≡ ltb a b
ltb_scale a b c h = ltb_scale_at a b c (ltb a b) h refl

eqb_scale : (a b c : ℕ) → 0 < c → eqb (a * c) (b * c) ≡ eqb a b
eqb_scale a b c h = eqb_scale_at a b c (eqb a b) h refl

pub below_scale : (s t : Bool) (a b c : ℕ) → 0 < c → below s (a * c) t (b * c) ≡ below s a t b
below_scale false false a b c h = ltb_scale a b c h
below_scale false true a b c h = refl
below_scale true false a b c h = ap (λ (n : ℕ). ltb 0 n) (sym (add-mul a b c)) ∙ ap (λ (n : ℕ). ltb n ((a + b) * c)) (sym (zero-mul c)) ∙ ltb_scale 0 (a + b) c h
below_scale true true a b c h = ltb_scale b a c h

level_scale : (s t : Bool) (a b c : ℕ) → 0 < c → level s (a * c) t (b * c) ≡ level s a t b
level_scale s t a b c h = ap (λ (p : Bool). p && (beq s t || eqb (a * c) 0)) (eqb_scale a b c h) ∙ ap (λ (p : Bool). eqb a b && (beq s t || p)) (ap (λ (n : ℕ). eqb (a * c) n) (sym (zero-mul c)) ∙ eqb_scale a 0 c h)

-- ---- three finite numbers at one scale
module _ (s t u : Bool) (m n k : ℕ) (e d f : ℤ) where
  X : ℕ
  X = m * up e * down d * down f

  Y : ℕ
  Y = n * up d * down e * down f

  Z : ℕ
  Z = k * up f * down d * down e

  lt-xy : below s X t Y ≡ lt (fin s m e) (fin t n d)
  unfolding lt X Y
  lt-xy = below_scale s t (m * up e * down d) (n * up d * down e) (down f) (down_pos f)

  eq-xy : level s X t Y ≡ eq (fin s m e) (fin t n d)
  unfolding eq X Y
  eq-xy = level_scale s t (m * up e * down d) (n * up d * down e) (down f) (down_pos f)

  lt-yz : below t Y u Z ≡ lt (fin t n d) (fin u k f)
  unfolding lt Y Z
  lt-yz = ap (λ (a : ℕ). below t a u (k * up f * down d * down e)) (mul_right_comm (n * up d) (down e) (down f)) ∙ below_scale t u (n * up d * down f) (k * up f * down d) (down e) (down_pos e)

  eq-yz : level t Y u Z ≡ eq (fin t n d) (fin u k f)
  unfolding eq Y Z
  eq-yz = ap (λ (a : ℕ). level t a u (k * up f * down d * down e)) (mul_right_comm (n * up d) (down e) (down f)) ∙ level_scale t u (n * up d * down f) (k * up f * down d) (down e) (down_pos e)

  lt-xz : below s X u Z ≡ lt (fin s m e) (fin u k f)
  unfolding lt X Z
  lt-xz =
      ap (λ (a : ℕ). below s a u (k * up f * down d * down e)) (mul_right_comm (m * up e) (down d) (down f)) ∙ ap (λ (a : ℕ). below s (m * up e * down f * down d) u a) (mul_right_comm (k * up f) (down d) (down e))
      ∙ below_scale s u (m * up e * down f) (k * up f * down e) (down d) (down_pos d)

  eq-xz : level s X u Z ≡ eq (fin s m e) (fin u k f)
  unfolding eq X Z
  eq-xz =
      ap (λ (a : ℕ). level s a u (k * up f * down d * down e)) (mul_right_comm (m * up e) (down d) (down f)) ∙ ap (λ (a : ℕ). level s (m * up e * down f * down d) u a) (mul_right_comm (k * up f) (down d) (down e))
      ∙ level_scale s u (m * up e * down f) (k * up f * down e) (down d) (down_pos d)

  le-xy : at_most s X t Y ≡ le (fin s m e) (fin t n d)
  unfolding le
  le-xy = λ i. lt-xy i || eq-xy i

  le-xz : at_most s X u Z ≡ le (fin s m e) (fin u k f)
  unfolding le
  le-xz = λ i. lt-xz i || eq-xz i

  le-lt : le (fin s m e) (fin t n d) ≡ true → lt (fin t n d) (fin u k f) ≡ true → lt (fin s m e) (fin u k f) ≡ true
  le-lt p q = sym lt-xz ∙ strict s t u X Y Z (le-xy ∙ p) (lt-yz ∙ q)

  le-eq : le (fin s m e) (fin t n d) ≡ true → eq (fin t n d) (fin u k f) ≡ true → le (fin s m e) (fin u k f) ≡ true
  le-eq p q = sym le-xz ∙ equal s t u X Y Z (le-xy ∙ p) (eq-yz ∙ q)

-- ---- the laws
inf_left : (s t : Bool) (x : Float) → le (inf s) (inf t) ≡ true → lt (inf t) x ≡ true → lt (inf s) x ≡ true
unfolding le lt eq
inf_left true true x p q = q
inf_left false false x p q = q
inf_left false true x p q = no p
inf_left true false nan p q = q
inf_left true false (inf u) p q = no q
inf_left true false (fin u k f) p q = no q

pub le_lt_trans : (a b x : Float) → le a b ≡ true → lt b x ≡ true → lt a x ≡ true
unfolding le lt eq
le_lt_trans nan b x p q = no p
le_lt_trans (inf s) nan x p q = no p
le_lt_trans (inf s) (inf t) x p q = inf_left s t x p q
le_lt_trans (inf true) (fin t n d) nan p q = q
le_lt_trans (inf true) (fin t n d) (inf true) p q = no q
le_lt_trans (inf true) (fin t n d) (inf false) p q = refl
le_lt_trans (inf true) (fin t n d) (fin u k f) p q = refl
le_lt_trans (inf false) (fin t n d) x p q = no p
le_lt_trans (fin s m e) nan x p q = no p
le_lt_trans (fin s m e) (inf true) x p q = no p
le_lt_trans (fin s m e) (inf false) nan p q = q
le_lt_trans (fin s m e) (inf false) (inf u) p q = no q
le_lt_trans (fin s m e) (inf false) (fin u k f) p q = no q
le_lt_trans (fin s m e) (fin t n d) nan p q = q
le_lt_trans (fin s m e) (fin t n d) (inf u) p q = q
le_lt_trans (fin s m e) (fin t n d) (fin u k f) p q = le-lt s t u m n k e d f p q

pub lt→le : (a b : Float) → lt a b ≡ true → le a b ≡ true
unfolding le
lt→le a b p = or_left (lt a b) (eq a b) p

pub lt_trans : (a b x : Float) → lt a b ≡ true → lt b x ≡ true → lt a x ≡ true
lt_trans a b x p q = le_lt_trans a b x (lt→le a b p) q

le_eq_trans : (a b x : Float) → le a b ≡ true → eq b x ≡ true → le a x ≡ true
unfolding le lt eq
le_eq_trans a nan x p q = no q
le_eq_trans a (inf t) nan p q = no q
le_eq_trans a (inf true) (inf true) p q = p
le_eq_trans a (inf false) (inf false) p q = p
le_eq_trans a (inf true) (inf false) p q = no q
le_eq_trans a (inf false) (inf true) p q = no q
le_eq_trans a (inf t) (fin u k f) p q = no q
le_eq_trans a (fin t n d) nan p q = no q
le_eq_trans a (fin t n d) (inf u) p q = no q
le_eq_trans nan (fin t n d) (fin u k f) p q = no p
le_eq_trans (inf true) (fin t n d) (fin u k f) p q = refl
le_eq_trans (inf false) (fin t n d) (fin u k f) p q = no p
le_eq_trans (fin s m e) (fin t n d) (fin u k f) p q = le-eq s t u m n k e d f p q

pub le_trans : (a b x : Float) → le a b ≡ true → le b x ≡ true → le a x ≡ true
le_trans a b x p q = split (or_split (lt b x) (eq b x) (unfold le in q))
  where
    split : (lt b x ≡ true) ⊎ (eq b x ≡ true) → le a x ≡ true
    split (inl l) = lt→le a x (le_lt_trans a b x p l)
    split (inr l) = le_eq_trans a b x p l

-- ---- `<=` by `<`
upto-at : (a b : ℕ) (p q r : Bool) → ltb a b ≡ p → eqb a b ≡ q → ltb b a ≡ r → (p || (q && true)) ≡ not r
upto-at a b true q true e f g = absurd (omega (arith, ltb-true a b e, ltb-true b a g))
upto-at a b true q false e f g = refl
upto-at a b false true true e f g = absurd (omega (arith, eqb-true a b f, ltb-true b a g))
upto-at a b false true false e f g = refl
upto-at a b false false true e f g = refl
upto-at a b false false false e f g = absurd (eqb-false a b f (omega (arith, ltb-false a b e, ltb-false b a g)))

eqb_swap : (a b : ℕ) (q : Bool) → eqb a b ≡ q → eqb b a ≡ q
eqb_swap a b true e = eq-eqb b a (sym (eqb-true a b e))
eqb_swap a b false e = ne_eqb b a (λ h. eqb-false a b e (sym h))

signed : (s t : Bool) (a b : ℕ) → (below s a t b || level s a t b) ≡ not (below t b s a)
signed false false a b = upto-at a b (ltb a b) (eqb a b) (ltb b a) refl refl refl
signed true true a b = upto-at b a (ltb b a) (eqb a b) (ltb a b) refl (eqb_swap a b (eqb a b) refl) refl
signed false true zero zero = refl
signed false true zero (suc b) = rw (ne_eqb 0 (suc b) (λ e. omega arith), lt-ltb 0 (suc b + 0) (omega arith))
signed false true (suc a) b = rw (ne_eqb (suc a) 0 (λ e. omega arith), and_comm, lt-ltb 0 (b + suc a) (omega arith))
signed true false zero zero = refl
signed true false zero (suc b) = rw (lt-ltb 0 (0 + suc b) (omega arith))
signed true false (suc a) b = rw (lt-ltb 0 (suc a + b) (omega arith))

pub le_is : (y z : Float) → le y z ≡ not (is_nan y || is_nan z || lt z y)
unfolding le lt eq is_nan
le_is nan z = refl
le_is (inf s) nan = refl
le_is (inf false) (inf false) = refl
le_is (inf false) (inf true) = refl
le_is (inf true) (inf false) = refl
le_is (inf true) (inf true) = refl
le_is (inf false) (fin t n d) = refl
le_is (inf true) (fin t n d) = refl
le_is (fin s m e) nan = refl
le_is (fin s m e) (inf false) = refl
le_is (fin s m e) (inf true) = refl
le_is (fin s m e) (fin t n d) = signed s t (m * up e * down d) (n * up d * down e)

-- ---- `a < b` and `b <= a` exclude each other, and of two finite values one of them holds
pub lt_not_le : (x y : Float) → lt x y ≡ true → le y x ≡ false
lt_not_le x y h = le_is y x ∙ rw (h, or-true)

pub le_not_lt : (x y : Float) → le x y ≡ true → lt y x ≡ false
le_not_lt x y h = last (is_nan x || is_nan y) (lt y x) (not-true (is_nan x || is_nan y || lt y x) (sym (le_is x y) ∙ h))
  where
    last : (a b : Bool) → (a || b) ≡ false → b ≡ false
    last true b e = absurd (true-not-false e)
    last false b e = e

le-finite : (x y : Float) → T (finite x) → T (finite y) → le y x ≡ not (lt x y)
unfolding is_nan
le-finite nan y p q = absurd p
le-finite (inf s) y p q = absurd p
le-finite (fin s m e) nan p q = absurd q
le-finite (fin s m e) (inf t) p q = absurd q
le-finite (fin s m e) (fin t n d) p q = le_is (fin t n d) (fin s m e)

pub lt_or_le : (x y : Float) → T (finite x) → T (finite y) → lt x y ≡ false → le y x ≡ true
lt_or_le x y p q h = le-finite x y p q ∙ ap not h

pub le_or_lt : (x y : Float) → T (finite x) → T (finite y) → le x y ≡ false → lt y x ≡ true
le_or_lt x y p q h = not-false (lt y x) (sym (le-finite y x q p) ∙ h)

-- ---- `=` is symmetric and transitive
beq_swap : (s t : Bool) → beq s t ≡ beq t s
beq_swap true true = refl
beq_swap true false = refl
beq_swap false true = refl
beq_swap false false = refl

level_swap : (s t : Bool) (a b : ℕ) → level s a t b ≡ true → level t b s a ≡ true
level_swap s t a b e =
    let p = and_split (eqb a b) (beq s t || eqb a 0) e in
    let h = eqb-true a b p.0 in
    let q : (beq t s || eqb b 0) ≡ true = rw (beq_swap t s, ← h) p.1 in
    rw (eq-eqb b a (sym h), q)

pub eq-sym : (x y : Float) → eq x y ≡ true → eq y x ≡ true
unfolding eq
eq-sym nan y e = no e
eq-sym (inf s) nan e = no e
eq-sym (inf s) (inf t) e = beq_swap t s ∙ e
eq-sym (inf s) (fin t n d) e = no e
eq-sym (fin s m e) nan p = no p
eq-sym (fin s m e) (inf t) p = no p
eq-sym (fin s m e) (fin t n d) p = level_swap s t (m * up e * down d) (n * up d * down e) p

level_trans : (s t u : Bool) (a b x : ℕ) → level s a t b ≡ true → level t b u x ≡ true → level s a u x ≡ true
level_trans s t u a b x p q =
    let p' = and_split (eqb a b) (beq s t || eqb a 0) p in
    let q' = and_split (eqb b x) (beq t u || eqb b 0) q in
    let h = eqb-true a b p'.0 in
    let k = eqb-true b x q'.0 in
    let r : (beq t u || eqb a 0) ≡ true = rw h q'.1 in
    rw (eq-eqb a x (h ∙ k), signs s t u (eqb a 0) p'.1 r)
  where
    signs : (s t u z : Bool) → (beq s t || z) ≡ true → (beq t u || z) ≡ true → (beq s u || z) ≡ true
    signs s t u true p q = or_right (beq s u) true refl
    signs true true u false p q = q
    signs false false u false p q = q
    signs true false u false p q = no p
    signs false true u false p q = no p

pub eq_trans : (x y z : Float) → eq x y ≡ true → eq y z ≡ true → eq x z ≡ true
unfolding eq
eq_trans nan y z p q = no p
eq_trans (inf s) nan z p q = no p
eq_trans (inf s) (inf t) nan p q = no q
eq_trans (inf true) (inf true) (inf u) p q = q
eq_trans (inf false) (inf false) (inf u) p q = q
eq_trans (inf true) (inf false) (inf u) p q = no p
eq_trans (inf false) (inf true) (inf u) p q = no p
eq_trans (inf s) (inf t) (fin u k f) p q = no q
eq_trans (inf s) (fin t n d) z p q = no p
eq_trans (fin s m e) nan z p q = no p
eq_trans (fin s m e) (inf t) z p q = no p
eq_trans (fin s m e) (fin t n d) nan p q = no q
eq_trans (fin s m e) (fin t n d) (inf u) p q = no q
eq_trans (fin s m e) (fin t n d) (fin u k f) p q = sym (eq-xz s t u m n k e d f) ∙ level_trans s t u (X s t u m n k e d f) (Y s t u m n k e d f) (Z s t u m n k e d f) (eq-xy s t u m n k e d f ∙ p) (eq-yz s t u m n k e d f ∙ q)

-- ---- `<` of a number and itself, before `<=`, and of equal numbers
pub lt_irrefl : (x : Float) → lt x x ≡ false
unfolding lt
lt_irrefl nan = refl
lt_irrefl (inf false) = refl
lt_irrefl (inf true) = refl
lt_irrefl (fin false m e) = le-ltb (m * up e * down e) (m * up e * down e) (omega arith)
lt_irrefl (fin true m e) = le-ltb (m * up e * down e) (m * up e * down e) (omega arith)

-- what compares is no NaN
pub numbers : (x y : Float) → le x y ≡ true → (is_nan x ≡ false) × (is_nan y ≡ false)
numbers x y e = sides (is_nan x) (is_nan y) (lt y x) (sym (le_is x y) ∙ e)
  where
    sides : (p q r : Bool) → not (p || q || r) ≡ true → (p ≡ false) × (q ≡ false)
    sides true q r e = no e
    sides false true r e = no e
    sides false false r e = (refl, refl)

-- else x <= a, so b <= a
pub lt_le_trans : (a b x : Float) → lt a b ≡ true → le b x ≡ true → lt a x ≡ true
lt_le_trans a b x p q = go (lt a x) refl
  where
    go : (t : Bool) → lt a x ≡ t → lt a x ≡ true
    go true e = e
    go false e = no (sym (le_not_lt b a (le_trans b x a q (le_is x a ∙ rw ((numbers b x q).1, (numbers a b (lt→le a b p)).0, e)))) ∙ p)

pub eq→le : (a b : Float) → eq a b ≡ true → le a b ≡ true
unfolding le
eq→le a b p = or_right (lt a b) (eq a b) p

pub eq-lt-left : (x y z : Float) → eq x y ≡ true → lt x z ≡ true → lt y z ≡ true
eq-lt-left x y z e l = le_lt_trans y x z (eq→le y x (eq-sym x y e)) l

pub eq_lt_right : (x y z : Float) → eq x y ≡ true → lt z x ≡ true → lt z y ≡ true
eq_lt_right x y z e l = lt_le_trans z x y l (eq→le x y e)
