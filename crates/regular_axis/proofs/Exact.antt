-- Under the premises the quotient and t are exact at the nodes: whole numbers of steps.
use Rattle.std.proofs.Common.{◌≡◌, ℕ, zero, suc, ◌+◌, ◌-◌, ◌^◌, ◌<◌, ◌≤◌, Bool, true, false, cond, not, T, ltb, ℤ, pos, negsuc, ◌+ℤ◌, ◌-ℤ◌, neg_ℤ, nat_abs, sym, refl, ap, ◌∙◌, subst, add-zero, arith, ltb→lt, nltb→le, le-ltb}
use lib.IntN.{sub_ℕ, +ℤ_comm, +ℤ_assoc, +ℤ_invr, +ℤ_idr, +ℤ_idl, neg_ℤ-+ℤ}
use lib.Signed.{lt_z}
use lib.Ieee.{Float, nan, inf, fin, Format, sub, mul, div, lt, of_int}
use lib.Ieee.Scale.{finite}
use Rattle.ieee.proofs.ZeroOne.{Same}
use Rattle.ieee.proofs.Multiple.{Is, Small, signed, size_is, add_mult, sub_mult, mul-step, div-step, of_int_lem, is_same, lt_mult}
use Rattle.regular_axis.specs.Place.{quotient}
use Rattle.regular_axis.specs.Weights.{node, t_of}
use Rattle.regular_axis.specs.Nodes.{Premises}

-- ---- integers
-- |a - b| ≤ |a| + |b|
abs_subℕ : (a b : ℕ) → nat_abs (sub_ℕ a b) ≤ a + b
abs_subℕ a b = go (ltb a b) (ltb→lt a b)
  where
    go : (x : Bool) → (T x → a < b) → nat_abs (cond x (negsuc (b - suc a)) (pos (a - b))) ≤ a + b
    go true h = let l : a < b = h tt in omega arith
    go false h = omega arith

abs_add : (a b : ℤ) → nat_abs (a +ℤ b) ≤ nat_abs a + nat_abs b
abs_add (pos a) (pos b) = omega arith
abs_add (pos a) (negsuc b) = abs_subℕ a (suc b)
abs_add (negsuc a) (pos b) = omega (arith, abs_subℕ b (suc a))
abs_add (negsuc a) (negsuc b) = omega arith

abs_sub : (i o : ℕ) → nat_abs (pos i -ℤ pos o) ≤ i + o
abs_sub i zero = abs_add (pos i) (pos 0)
abs_sub i (suc o) = abs_subℕ i (suc o)

cancel : (a b c : ℤ) → (a +ℤ b) -ℤ (a +ℤ c) ≡ b -ℤ c
cancel a b c =
    ap (λ (z : ℤ). (a +ℤ b) +ℤ z) (neg_ℤ-+ℤ a c)
    ∙ ap (λ (z : ℤ). z +ℤ (neg_ℤ a +ℤ neg_ℤ c)) (+ℤ_comm a b)
    ∙ +ℤ_assoc b a (neg_ℤ a +ℤ neg_ℤ c)
    ∙ ap (λ (z : ℤ). b +ℤ z) (sym (+ℤ_assoc a (neg_ℤ a) (neg_ℤ c)) ∙ ap (λ (z : ℤ). z +ℤ neg_ℤ c) (+ℤ_invr a) ∙ +ℤ_idl (neg_ℤ c))

-- where i ≤ j, j - a is not below i - a
rise_subℕ : (i j a : ℕ) → i ≤ j → lt_z (sub_ℕ j a) (sub_ℕ i a) ≡ false
rise_subℕ i j a h = go (ltb j a) (ltb i a) (ltb→lt j a) (nltb→le i a)
  where
    go : (x y : Bool) → (T x → j < a) → (T (not y) → a ≤ i) → lt_z (cond x (negsuc (a - suc j)) (pos (j - a))) (cond y (negsuc (a - suc i)) (pos (i - a))) ≡ false
    go true true l m = le-ltb (a - suc i) (a - suc j) (omega arith)
    go true false l m = absurd (omega (arith, l tt, m tt))
    go false true l m = refl
    go false false l m = le-ltb (j - a) (i - a) (omega arith)

-- nor a + j below a + i
rise : (a : ℤ) (i j : ℕ) → i ≤ j → lt_z (a +ℤ pos j) (a +ℤ pos i) ≡ false
rise (pos a) i j h = le-ltb (a + j) (a + i) (omega arith)
rise (negsuc a) i j h = rise_subℕ i j (suc a) h

-- ---- nodes
pub is_finite : (p z : ℤ) (x : Float) → Is p z x → T (finite x)
is_finite p z nan h = absurd h.is
is_finite p z (inf s) h = absurd h.is
is_finite p z (fin s m e) h = tt

module _ (f : Format) (start step : Float) (P : Premises start step) where
  abbrev p : ℤ
  p = P.power

  abbrev k : ℤ
  k = signed P.below-zero P.steps

  small : Small p
  small = record { high = P.step-most; deep = P.step-least }

  start_is : Is p k start
  start_is = record { sign = P.below-zero; size = P.steps; is = P.start_is; z-is = refl }

  near : nat_abs k ≤ 2 ^ 20
  unfolding start_is
  near = omega (arith, P.near, size_is p k start start_is)

  pub node-is : (i : ℕ) → i ≤ 4096 → Is p (k +ℤ pos i) (node f start step i)
  node-is i h =
      subst (λ (s : Float). Is p (k +ℤ pos i) (node f start s i)) (sym P.step_is)
      (add_mult f p k (pos i) start (mul f (fin false 1 p) (of_int f (pos i))) small (omega (arith, near)) start_is
      (mul-step f p (pos i) (of_int f (pos i)) small (omega arith) (of_int_lem f i (omega arith))))

  pub node-finite : (i : ℕ) → i ≤ 4096 → T (finite (node f start step i))
  node-finite i h = is_finite p (k +ℤ pos i) (node f start step i) (node-is i h)

  pub nodes_rise : (i j : ℕ) → i ≤ j → j ≤ 4096 → lt (node f start step j) (node f start step i) ≡ false
  nodes_rise i j l h = lt_mult p (k +ℤ pos j) (k +ℤ pos i) (node f start step j) (node f start step i) (node-is j h) (node-is i (omega arith)) ∙ rise k i j l

  -- of two values that are i and o steps from the start
  between : (i o : ℕ) (x y : Float) → i ≤ 4096 → o ≤ 4096 → Is p (k +ℤ pos i) x → Is p (k +ℤ pos o) y → Is (pos 0) (pos i -ℤ pos o) (div f (sub f x y) step)
  between i o x y h l a b =
      rw P.step_is
      (div-step f p (pos i -ℤ pos o) (sub f x y) (omega (arith, abs_sub i o))
      (subst (λ (z : ℤ). Is p z (sub f x y)) (cancel k (pos i) (pos o))
      (sub_mult f p (k +ℤ pos i) (k +ℤ pos o) x y small (omega (arith, near, abs_add k (pos i), abs_add k (pos o))) a b)))

  module _ (i : ℕ) (x : Float) (most : i ≤ 4096) (at : Same x (node f start step i)) where
    x-is : Is p (k +ℤ pos i) x
    x-is = is_same p (k +ℤ pos i) x (node f start step i) at (node-is i most)

    pub quotient_is : Is (pos 0) (pos i) (quotient f start step x)
    quotient_is =
        subst (λ (z : ℕ). Is (pos 0) (pos z) (quotient f start step x)) (add-zero i)
        (between i 0 x start most (omega arith) x-is (subst (λ (z : ℤ). Is p z start) (sym (+ℤ_idr k)) start_is))

    pub t-is : (o : ℕ) → suc o ≤ 4096 → Is (pos 0) (pos i -ℤ pos (suc o)) (t_of f start step o x)
    t-is o h = between i (suc o) x (node f start step (suc o)) most h x-is (node-is (suc o) h)
