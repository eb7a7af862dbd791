-- An axis in disorder has an entry that is not at or above the one before it. One that none of checks 5, 6 and 10 refuses has each entry above the one
-- before it, and no other has.
use mathlib.Core.Path.{◌≡◌, refl, sym, ◌∙◌}
use mathlib.Core.Bool.{Bool, true, false, not, ◌||◌, or_comm}
use mathlib.Core.Logic.{◌⊎◌, inl, inr}
use mathlib.Core.List.{List, [], ◌∷◌}
use Prim.Native.Nat.{ℕ, zero, suc, ◌+◌, ◌-◌, ◌≤◌, ◌<◌}
use native.Mathlib.Omega.{arith}
use borrow.Author.Count.{below_more}
use lib.ListN.{length, get_or}
use lib.Ieee.{Float, nan, is_nan, lt, le, eq}
use Rattle.ieee.proofs.Order.{le_is, lt→le, or_left, or_right, eq-lt-left, lt_irrefl}
use Rattle.rectilinear_order.specs.Grid.{not_rising, disorder, flat}
use Rattle.rectilinear_order.specs.Internal.{not_steep}

pub both : {b : Bool} → b ≡ true → b ≡ false → ⊥
both p q = let z : ◌≡◌ {A = ℕ} 0 1 = cc in omega arith

-- What a test of two values tells of the entries that they are.
pub compared : {a b x y : Float} {r v : Bool} → a ≡ x → b ≡ y → r ≡ lt x y → r ≡ v → lt a b ≡ v
compared p q e t = (λ i. lt (p i) (q i)) ∙ sym e ∙ t

pub not-true : (b : Bool) → (b ≡ true → ⊥) → b ≡ false
not-true true f = absurd (f refl)
not-true false f = refl

pub not-false : (b : Bool) → (b ≡ false → ⊥) → b ≡ true
not-false true f = refl
not-false false f = absurd (f refl)

middle : (p q r : Bool) → not (p || q || r) ≡ true → q ≡ false
middle true q r e = absurd (both e refl)
middle false true r e = absurd (both e refl)
middle false false r e = refl

not-nan : (y z : Float) → le y z ≡ true → is_nan z ≡ false
not-nan y z e = middle (is_nan y) (is_nan z) (lt z y) (rw le_is at e)

nan_first : (z : Float) (zs : List Float) → is_nan z ≡ true → disorder (z ∷ zs) ≡ true
unfolding disorder
nan_first z [] e = e
nan_first z (w ∷ ws) e = rw e

regroup : (p q r d : Bool) → (q ≡ true → d ≡ true) → (p || r || d) ≡ (not (not (p || q || r)) || d)
regroup true q r d f = refl
regroup false true true d f = refl
regroup false true false d f = f refl
regroup false false true d f = refl
regroup false false false d f = refl

-- one pair of neighbours at a time
step : (y z : Float) (zs : List Float) → disorder (y ∷ z ∷ zs) ≡ (not (le y z) || disorder (z ∷ zs))
unfolding disorder
step y z zs = rw le_is (regroup (is_nan y) (is_nan z) (lt z y) (disorder (z ∷ zs)) (nan_first z zs))

-- entries k and k + 1 are in the order that is asked: at or above for check 6, above for all three
abbrev pub InOrder : (Float → Float → Bool) → List Float → ℕ → Type 0
InOrder order g k = order (get_or g k nan) (get_or g (suc k) nan) ≡ true

abbrev pub Up : List Float → ℕ → Type 0
Up g k = InOrder le g k

abbrev pub Steep : List Float → ℕ → Type 0
Steep g k = InOrder lt g k

pub falls : (g : List Float) (k : ℕ) → suc k < length g → le (get_or g k nan) (get_or g (suc k) nan) ≡ false → disorder g ≡ true
falls [] k h e = absurd (omega arith)
falls (y ∷ []) k h e = absurd (omega arith)
falls (y ∷ z ∷ zs) zero h e = rw (step y z zs, e)
falls (y ∷ z ∷ zs) (suc k) h e = rw (step y z zs, falls (z ∷ zs) k (omega arith) e, or_comm)

pub ordered : (g : List Float) → disorder g ≡ false → (k : ℕ) → suc k < length g → Up g k
ordered g o k h = not-false (le (get_or g k nan) (get_or g (suc k) nan)) (λ e. both (falls g k h e) o)

pub all_up : (g : List Float) → 2 ≤ length g → ((k : ℕ) → suc k < length g → Up g k) → disorder g ≡ false
unfolding disorder
all_up [] h f = absurd (omega arith)
all_up (y ∷ []) h f = absurd (omega arith)
all_up (y ∷ z ∷ []) h f = rw (step y z [], f 0 (omega arith)) (not-nan y z (f 0 (omega arith)))
all_up (y ∷ z ∷ w ∷ ws) h f = rw (step y z (w ∷ ws), f 0 (omega arith)) (all_up (z ∷ w ∷ ws) (omega arith) (λ k l. f (suc k) (omega arith)))

-- ---- strictly
either_way : (y z : Float) → (le y z ≡ false) ⊎ ((lt y z ≡ true) ⊎ (eq y z ≡ true))
unfolding le
either_way y z = go (lt y z) (eq y z)
  where
    go : (p q : Bool) → ((p || q) ≡ false) ⊎ ((p ≡ true) ⊎ (q ≡ true))
    go true q = inr (inl refl)
    go false true = inr (inr refl)
    go false false = inl refl

-- what is at or above without being equal is above, and the other way round
pub above-only : (y z : Float) → le y z ≡ true → eq y z ≡ false → lt y z ≡ true
above-only y z l n = elim (either_way y z) [ inl e ↦ absurd (both l e) | inr (inl e) ↦ e | inr (inr e) ↦ absurd (both e n) ]

pub not_equal : (y z : Float) → lt y z ≡ true → eq y z ≡ false
not_equal y z l = not-true (eq y z) (λ e. both (eq-lt-left y z z e l) (lt_irrefl z))

flat-at : (g : List Float) (k : ℕ) → suc k < length g → eq (get_or g k nan) (get_or g (suc k) nan) ≡ true → flat g ≡ true
unfolding flat
flat-at [] k h e = absurd (omega arith)
flat-at (y ∷ []) k h e = absurd (omega arith)
flat-at (y ∷ z ∷ zs) zero h e = rw e
flat-at (y ∷ z ∷ zs) (suc k) h e = or_right (eq y z) (flat (z ∷ zs)) (flat-at (z ∷ zs) k (omega arith) e)

never_flat : (g : List Float) → ((k : ℕ) → suc k < length g → Steep g k) → flat g ≡ false
unfolding flat
never_flat [] f = refl
never_flat (y ∷ []) f = refl
never_flat (y ∷ z ∷ zs) f = rw (not_equal y z (f 0 (omega arith))) (never_flat (z ∷ zs) (λ k l. f (suc k) (omega arith)))

-- an axis in order without equal neighbours rises strictly
pub strict : (g : List Float) → disorder g ≡ false → flat g ≡ false → (k : ℕ) → suc k < length g → Steep g k
strict g o n k h = above-only (get_or g k nan) (get_or g (suc k) nan) (ordered g o k h) (not-true (eq (get_or g k nan) (get_or g (suc k) nan)) (λ e. both (flat-at g k h e) n))

-- ---- none of the three checks refuses an axis that does, and one of them refuses any other
pub steep : (g : List Float) → 2 ≤ length g → ((k : ℕ) → suc k < length g → Steep g k) → not_steep g ≡ false
unfolding not_rising
steep g h f =
    rw (f 0 (omega arith), all_up g h (λ k l. lt→le (get_or g k nan) (get_or g (suc k) nan) (f k l)), never_flat g f) refl

pub slack : (g : List Float) (k : ℕ) → suc k < length g → lt (get_or g k nan) (get_or g (suc k) nan) ≡ false → not_steep g ≡ true
slack g k h e = elim (either_way (get_or g k nan) (get_or g (suc k) nan)) [
  | inl n ↦ or_left (not_rising g || disorder g) (flat g) (or_right (not_rising g) (disorder g) (falls g k h n))
  | inr (inl t) ↦ absurd (both t e)
  | inr (inr q) ↦ or_right (not_rising g || disorder g) (flat g) (flat-at g k h q)
]

-- ---- by the code's places, i - 1 and i
less_one : (k : ℕ) → suc k - 1 ≡ k
less_one k = omega arith

module _ (order : Float → Float → Bool) (g : List Float) where
  -- a fault of entries k and k + 1
  pub fault-at : (fault : Bool) → ((k : ℕ) → suc k < length g → order (get_or g k nan) (get_or g (suc k) nan) ≡ false → fault ≡ true)
      → (i : ℕ) → 1 ≤ i → i < length g → order (get_or g (i - 1) nan) (get_or g i nan) ≡ false → fault ≡ true
  fault-at fault f zero l h e = absurd (omega arith)
  fault-at fault f (suc k) l h e = f k h (rw less_one at e)

  -- all pairs before place i, and the one that ends there
  pub one_more : (i : ℕ) → 1 ≤ i → ((k : ℕ) → suc k < i → InOrder order g k) → order (get_or g (i - 1) nan) (get_or g i nan) ≡ true
      → (k : ℕ) → suc k < i + 1 → InOrder order g k
  one_more zero l f e k h = absurd (omega arith)
  one_more (suc j) l f e k h = below_more (InOrder order g) j (λ k u. f k (omega arith)) (rw less_one at e) k (omega arith)
