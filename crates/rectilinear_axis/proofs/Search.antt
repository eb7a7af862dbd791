-- The entries below a query on an axis in order are those before one place.
use mathlib.Core.Path.{◌≡◌, refl}
use mathlib.Core.Logic.{◌⊎◌, inl, inr}
use mathlib.Core.Bool.{Bool, true, false, cond}
use mathlib.Core.List.{List, [], ◌∷◌}
use Prim.Native.Nat.{ℕ, zero, suc, ◌+◌, ◌-◌, ◌*◌, ◌≤◌, ◌<◌}
use native.Mathlib.Nat.{add-zero, add-suc}
use native.Mathlib.Omega.{arith}
use lib.ListN.{length, get_or}
use lib.Ieee.{Float, nan, lt}
use mir.Val.{bool_byte}
use Rattle.ieee.proofs.Order.{le_lt_trans, lt_irrefl}
use Rattle.rectilinear_order.specs.Grid.{disorder}
use Rattle.rectilinear_axis.specs.Place.{count_below}
use Rattle.rectilinear_axis.specs.Internal.{Test, Forward}
use Rattle.rectilinear_order.proofs.Order.{ordered, both, not-true}

abbrev pub Below : List Float → Float → ℕ → Type 0
Below g x k = lt (get_or g k nan) x ≡ true

abbrev pub NotBelow : List Float → Float → ℕ → Type 0
NotBelow g x k = lt (get_or g k nan) x ≡ false

-- at least r entries are below x where those before place r are
pub at_least : (g : List Float) (x : Float) (r : ℕ) → r ≤ length g → ((k : ℕ) → k < r → Below g x k) → r ≤ count_below x g
at_least g x zero h b = omega arith
at_least [] x (suc r) h b = absurd (omega arith)
at_least (y ∷ ys) x (suc r) h b = rw (b 0 (omega arith)) (omega (arith, at_least ys x r (omega arith) (λ k l. b (suc k) (omega arith))))

at-most-cond : (b : Bool) (n r : ℕ) → n ≤ r → cond b (suc n) n ≤ suc r
at-most-cond true n r h = omega arith
at-most-cond false n r h = omega arith

-- at most r where those from place r on are not
pub at_most : (g : List Float) (x : Float) (r : ℕ) → ((k : ℕ) → r ≤ k → k < length g → NotBelow g x k) → count_below x g ≤ r
at_most [] x r f = omega arith
at_most (y ∷ ys) x zero f = rw (f 0 (omega arith) (omega arith)) (at_most ys x 0 (λ k l m. f (suc k) (omega arith) (omega arith)))
at_most (y ∷ ys) x (suc r) f = at-most-cond (lt y x) (count_below x ys) r (at_most ys x r (λ k l m. f (suc k) (omega arith) (omega arith)))

pub count_is : (g : List Float) (x : Float) (r : ℕ) → r ≤ length g → ((k : ℕ) → k < r → Below g x k) → ((k : ℕ) → r ≤ k → k < length g → NotBelow g x k) → r ≡ count_below x g
count_is g x r h b f = omega (arith, at_least g x r h b, at_most g x r f)

module _ (g : List Float) (x : Float) (o : disorder g ≡ false) where
  -- below at i + d, so below at i
  down-from : (d i : ℕ) → i + d < length g → Below g x (i + d) → Below g x i
  down-from zero i h b = rw add-zero at b
  down-from (suc d) i h b =
      let u : Below g x (suc (i + d)) = rw add-suc at b in
      down-from d i (omega arith) (le_lt_trans (get_or g (i + d) nan) (get_or g (suc (i + d)) nan) x (ordered g o (i + d) (omega arith)) u)

  pub all-to : (m : ℕ) → m < length g → Below g x m → (k : ℕ) → k ≤ m → Below g x k
  all-to m h b k l =
      let e : k + (m - k) ≡ m = omega arith in
      down-from (m - k) k (omega arith) (rw e b)

  pub none_from : (m : ℕ) → NotBelow g x m → (k : ℕ) → m ≤ k → k < length g → NotBelow g x k
  none_from m n k l u = not-true (lt (get_or g k nan) x) (λ b. both (all-to k u b m l) n)

  -- the entry at place k is below x just where k is before the count
  pub before-count : (k : ℕ) → k < length g → Below g x k → k < count_below x g
  before-count k h b = omega (arith, at_least g x (suc k) (omega arith) (λ j l. all-to k h b j (omega arith)))

  pub not-before : (k : ℕ) → NotBelow g x k → count_below x g ≤ k
  not-before k n = at_most g x k (λ j l u. none_from k n j l u)

  -- the test of entry k, as a number
  pub test-is : (k : ℕ) → k < length g → (b : Bool) → lt (get_or g k nan) x ≡ b → Test (bool_byte b) k (count_below x g)
  test-is k h true e = inl (refl, before-count k h e)
  test-is k h false e = inr (refl, not-before k e)

-- no entry from place i on is below entry i
pub entries_rise : (g : List Float) → disorder g ≡ false → (i j : ℕ) → i ≤ j → j < length g → lt (get_or g j nan) (get_or g i nan) ≡ false
entries_rise g o i j l h = none_from g (get_or g i nan) o i (lt_irrefl (get_or g i nan)) j l h

-- ---- the search's steps, over numbers
pub test_upto : (r k c : ℕ) → Test r k c → r ≤ 1
test_upto r k c (inl t) = omega (arith, t.0)
test_upto r k c (inr t) = omega (arith, t.0)

module _ (lo q c : ℕ) (l : lo ≤ c) where
  -- three tests, which can hold only in order
  pub forward-is : (a b d : ℕ) → Test a (lo + q) c → Test b (lo + 2 * q) c → Test d (lo + 3 * q) c → Forward (lo + q * (a + b + d)) lo q c
  forward-is a b d (inl s) (inl t) (inl u) = rw (s.0, t.0, u.0) (omega (arith, u.1), omega arith, inr (omega arith))
  forward-is a b d (inl s) (inl t) (inr u) = rw (s.0, t.0, u.0) (omega (arith, t.1), omega arith, inl (omega (arith, u.1)))
  forward-is a b d (inl s) (inr t) (inr u) = rw (s.0, t.0, u.0) (omega (arith, s.1), omega arith, inl (omega (arith, t.1)))
  forward-is a b d (inr s) (inr t) (inr u) = rw (s.0, t.0, u.0) (omega arith, omega arith, inl (omega (arith, s.1)))
  forward-is a b d (inl s) (inr t) (inl u) = absurd (omega (arith, t.1, u.1))
  forward-is a b d (inr s) (inl t) u = absurd (omega (arith, s.1, t.1))
  forward-is a b d (inr s) (inr t) (inl u) = absurd (omega (arith, t.1, u.1))

-- n is the lesser of m and c
abbrev pub Least : ℕ → ℕ → ℕ → Type 0
Least n m c = (n ≤ m) × (n ≤ c) × ((n ≡ m) ⊎ (n ≡ c))

pub least_next : (n lo k c r : ℕ) → Least n (lo + k) c → Test r (lo + k) c → Least (n + r) (lo + (k + 1)) c
least_next n lo k c r (a, b, inl e) (inl t) = rw t.0 (omega arith, omega (arith, t.1), inl (omega arith))
least_next n lo k c r (a, b, inl e) (inr t) = rw t.0 (omega arith, omega arith, inr (omega (arith, t.1)))
least_next n lo k c r (a, b, inr e) (inl t) = absurd (omega (arith, t.1))
least_next n lo k c r (a, b, inr e) (inr t) = rw t.0 (omega arith, omega arith, inr (omega arith))

pub least_end : (n m c : ℕ) → Least n m c → c ≤ m → n ≡ c
least_end n m c (a, b, inl e) h = omega arith
least_end n m c (a, b, inr e) h = e

-- what is left of size after three of its quarters still holds c
pub rest_holds : (r lo q size c : ℕ) → Forward r lo q c → 4 * q ≤ size → c ≤ lo + size → c ≤ r + (size - 3 * q)
rest_holds r lo q size c (a, b, inl l) h u = omega arith
rest_holds r lo q size c (a, b, inr e) h u = omega arith
