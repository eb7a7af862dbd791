-- The place where L is k less 2: k is the number of entries below a query, or a floor plus 1.
use mathlib.Core.Path.{◌≡◌, refl}
use mathlib.Core.Bool.{Bool, true, false}
use Prim.Native.Nat.{ℕ, zero, suc, ◌-◌, ◌≤◌, ◌<◌, min}
use native.Mathlib.Omega.{arith}
use lib.IntN.{pos, ◌-ℤ◌}
use lib.Dec.{eqb}
use borrow.Author.Tests.{lt-ltb, le-ltb, eq-eqb, ne_eqb, eqb-true, eqb-false}
use Rattle.multicubic.specs.declared.Saturation.TheVariants.{None, InsideLow, OutsideLow, InsideHigh, OutsideHigh}
use Rattle.multicubic.specs.Place.{origin_of, class_of, rectilinear_class, place_of}

pub less_two : (k : ℕ) → 2 ≤ k → pos k -ℤ pos 2 ≡ pos (k - 2)
less_two k h = rw (le-ltb k 2 h)

pub outside_low : (n k : ℕ) → k ≡ 0 → place_of n (pos k -ℤ pos 2) ≡ record { origin = 0; class = OutsideLow }
unfolding origin_of class_of
outside_low n k e = rw e

pub inside_low : (n k : ℕ) → k ≡ 1 → place_of n (pos k -ℤ pos 2) ≡ record { origin = 0; class = InsideLow }
unfolding origin_of class_of
inside_low n k e = rw e

module _ (n k : ℕ) (low : 2 ≤ k) (four : 4 ≤ n) where
  pub interior : k < n - 1 → place_of n (pos k -ℤ pos 2) ≡ record { origin = k - 2; class = None }
  unfolding origin_of class_of
  interior h =
      let m : min (k - 2) (n - 4) ≡ k - 2 = omega arith in
      rw (less_two k low, ne_eqb (k - 2) (n - 3) (λ e. omega arith), le-ltb (n - 3) (k - 2) (omega arith), m)

  pub inside-high : k ≡ n - 1 → place_of n (pos k -ℤ pos 2) ≡ record { origin = n - 4; class = InsideHigh }
  unfolding origin_of class_of
  inside-high h =
      let m : min (k - 2) (n - 4) ≡ n - 4 = omega arith in
      rw (less_two k low, eq-eqb (k - 2) (n - 3) (omega arith), m)

  pub outside_high : n - 1 < k → place_of n (pos k -ℤ pos 2) ≡ record { origin = n - 4; class = OutsideHigh }
  unfolding origin_of class_of
  outside_high h =
      let m : min (k - 2) (n - 4) ≡ n - 4 = omega arith in
      rw (less_two k low, ne_eqb (k - 2) (n - 3) (λ e. omega arith), lt-ltb (n - 3) (k - 2) (omega arith), m)

-- the two lists of classes from L = -2 to L = n-2: past n-3 there is n-2 alone
past : (n l : ℕ) → 4 ≤ n → l ≤ n - 2 → (here last : Bool) → eqb l (n - 3) ≡ here → eqb l (n - 2) ≡ last → rectilinear_class n (pos l) ≡ class_of n (pos l)
unfolding rectilinear_class class_of
past n l four h true last e f = rw e
past n l four h false true e f = rw (e, f, lt-ltb (n - 3) l (omega (arith, eqb-true l (n - 2) f)))
past n l four h false false e f =
    rw (e, f, le-ltb (n - 3) l (let no : l ≡ n - 2 → ⊥ = eqb-false l (n - 2) f in omega (arith, no)))

pub lists_agree : (n k : ℕ) → 4 ≤ n → k ≤ n → rectilinear_class n (pos k -ℤ pos 2) ≡ class_of n (pos k -ℤ pos 2)
unfolding rectilinear_class class_of
lists_agree n zero four h = refl
lists_agree n (suc zero) four h = refl
lists_agree n (suc (suc j)) four h =
    let l = suc (suc j) - 2 in
    rw (less_two (suc (suc j)) (omega arith)) (past n l four (omega arith) (eqb l (n - 3)) (eqb l (n - 2)) refl refl)
