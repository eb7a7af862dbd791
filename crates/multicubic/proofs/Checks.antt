-- Checks 1 to 4 by the tests that decide them.
use mathlib.Core.Path.{◌≡◌, refl, sym, ap, ◌∙◌}
use mathlib.Core.Bool.{Bool, true, false, not, ◌||◌}
use mathlib.Core.List.{List}
use Prim.Native.Nat.{ℕ, ◌≤◌, ◌<◌}
use lib.Dec.{ltb, eqb}
use lib.ListN.{take}
use borrow.Author.Tests.{eq-eqb, ne_eqb, lt-ltb, le-ltb}
use Rattle.std.specs.Prelude.{Err, Option}
use Rattle.multicubic.specs.declared.Check.TheVariants.{AxisCount, TooLarge, WrongLength, TooFew}
use Rattle.multicubic.specs.Types.{refusal}
use Rattle.multicubic.specs.Grid.{refuse, lowest, ◌then◌, product, sum, any_over, misjoined, size_checks}

or_left : (a b : Bool) → a ≡ true → (a || b) ≡ true
or_left a b e = ap (λ (x : Bool). x || b) e

or_right : (a b : Bool) → b ≡ true → (a || b) ≡ true
or_right true b e = refl
or_right false b e = e

or_none : (a b : Bool) → a ≡ false → b ≡ false → (a || b) ≡ false
or_none a b e d = ap (λ (x : Bool). x || b) e ∙ d

module _ (n : ℕ) (counts : List ℕ) (values : ℕ) (axes : Option ℕ) where
  pub sizes-are : {b1 b2 b3 : Bool} → (eqb n 0 || ltb 4 n) ≡ b1 → (any_over (take n counts) || ltb 1048576 (product (take n counts))) ≡ b2 → (not (eqb values (product (take n counts))) || misjoined axes (sum (take n counts))) ≡ b3
      → refuse b1 AxisCount then refuse b2 TooLarge then refuse b3 WrongLength then lowest TooFew (λ c. ltb c 4) 0 (take n counts) ≡ size_checks n counts values axes
  unfolding size_checks
  sizes-are p q r = λ i. refuse (sym p i) AxisCount then refuse (sym q i) TooLarge then refuse (sym r i) WrongLength then lowest TooFew (λ c. ltb c 4) 0 (take n counts)

  -- 1
  pub no-axes : n ≡ 0 → Err (refusal AxisCount 0 0) ≡ size_checks n counts values axes
  no-axes e = sizes-are (or_left _ _ (eq-eqb n 0 e)) refl refl

  pub many-axes : 4 < n → Err (refusal AxisCount 0 0) ≡ size_checks n counts values axes
  many-axes h = sizes-are (or_right (eqb n 0) (ltb 4 n) (lt-ltb 4 n h)) refl refl

  module _ (some : n ≡ 0 → ⊥) (few : n ≤ 4) where
    one : (eqb n 0 || ltb 4 n) ≡ false
    one = or_none _ _ (ne_eqb n 0 some) (le-ltb 4 n few)

    -- 2
    pub long-axis : any_over (take n counts) ≡ true → Err (refusal TooLarge 0 0) ≡ size_checks n counts values axes
    long-axis e = sizes-are one (or_left _ _ e) refl

    pub large_product : 1048576 < product (take n counts) → Err (refusal TooLarge 0 0) ≡ size_checks n counts values axes
    large_product h = sizes-are one (or_right (any_over (take n counts)) (ltb 1048576 (product (take n counts))) (lt-ltb 1048576 (product (take n counts)) h)) refl

    module _ (none : any_over (take n counts) ≡ false) (fits : product (take n counts) ≤ 1048576) where
      two : (any_over (take n counts) || ltb 1048576 (product (take n counts))) ≡ false
      two = or_none _ _ none (le-ltb 1048576 (product (take n counts)) fits)

      -- 3
      pub other_length : (values ≡ product (take n counts) → ⊥) → Err (refusal WrongLength 0 0) ≡ size_checks n counts values axes
      other_length d = sizes-are one two (or_left _ _ (ap not (ne_eqb values (product (take n counts)) d)))

      pub other-join : misjoined axes (sum (take n counts)) ≡ true → Err (refusal WrongLength 0 0) ≡ size_checks n counts values axes
      other-join e = sizes-are one two (or_right (not (eqb values (product (take n counts)))) (misjoined axes (sum (take n counts))) e)

      -- 4
      pub lengths-match : values ≡ product (take n counts) → misjoined axes (sum (take n counts)) ≡ false → lowest TooFew (λ c. ltb c 4) 0 (take n counts) ≡ size_checks n counts values axes
      lengths-match v e = sizes-are one two (or_none _ _ (ap not (eq-eqb values (product (take n counts)) v)) e)
