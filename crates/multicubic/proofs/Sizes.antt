-- One turn of each loop over the counts, by what is left of them.
use mathlib.Core.Path.{◌≡◌, refl, sym}
use mathlib.Core.Bool.{Bool, true, false, ◌||◌}
use mathlib.Core.List.{List, [], ◌∷◌}
use Prim.Native.Nat.{ℕ, zero, suc, ◌+◌, ◌*◌, ◌^◌, ◌≤◌, ◌<◌}
use native.Mathlib.Nat.{mul_assoc, mul-le-mul, pow-suc, le_trans}
use native.Mathlib.Numerals.{add-one}
use native.Mathlib.Omega.{arith}
use lib.Dec.{ltb, lit≤}
use lib.ListN.{length, get_or, take}
use lib.Seq.{slice, slice-cons, slice_empty}
use borrow.Author.Tests.{ltb-false, lt-ltb, le-ltb}
use Rattle.std.specs.Prelude.{Err}
use Rattle.multicubic.specs.declared.Check.{Check}
use Rattle.multicubic.specs.Types.{refusal}
use Rattle.multicubic.specs.Grid.{product, sum, any_over, lowest}

pub or_false : (a b : Bool) → (a || b) ≡ false → (a ≡ false) × (b ≡ false)
or_false true b e = (e, absurd (let z : ◌≡◌ {A = ℕ} 0 1 = cc in omega arith))
or_false false b e = (refl, e)

-- nothing is left at the end
pub slice_end : (xs : List ℕ) (n i : ℕ) → i ≤ n → n ≤ i → slice i n xs ≡ []
slice_end xs n i h k =
    let e : i ≡ n = omega arith in
    rw (e, slice_empty)

module _ (xs : List ℕ) (n i : ℕ) (h : i < n) (k : n ≤ length xs) where
  pub over-here : 4096 < get_or xs i 0 → any_over (slice i n xs) ≡ true
  over-here l = rw (slice-cons i n xs 0 h k, lt-ltb _ _ l)

  pub over-later : get_or xs i 0 ≤ 4096 → any_over (slice i n xs) ≡ any_over (slice (i + 1) n xs)
  over-later l = rw (slice-cons i n xs 0 h k, le-ltb _ _ l, add-one)

  -- none is over, so this one is not, nor one of the rest
  pub within : any_over (slice i n xs) ≡ false → (get_or xs i 0 ≤ 4096) × (any_over (slice (i + 1) n xs) ≡ false)
  within e =
      let s : (ltb 4096 (get_or xs i 0) || any_over (slice (suc i) n xs)) ≡ false = rw (slice-cons i n xs 0 h k) at e in
      let p = or_false _ _ s in
      (ltb-false 4096 (get_or xs i 0) p.0, rw add-one p.1)

  pub product-here : (p : ℕ) → p * product (slice i n xs) ≡ p * get_or xs i 0 * product (slice (i + 1) n xs)
  product-here p = rw (slice-cons i n xs 0 h k, add-one) (sym (mul_assoc p (get_or xs i 0) (product (slice (suc i) n xs))))

  pub sum-here : sum (slice i n xs) ≡ get_or xs i 0 + sum (slice (i + 1) n xs)
  sum-here = rw (slice-cons i n xs 0 h k, add-one)

-- the lowest axis with a fault, over any test and check
module _ {A : Type 0} (fault : A → Bool) (check : Check) (xs : List A) (d : A) (n i : ℕ) (h : i < n) (k : n ≤ length xs) where
  pub fault-here : fault (get_or xs i d) ≡ true → lowest check fault i (slice i n xs) ≡ Err (refusal check 0 i)
  fault-here e = rw (slice-cons i n xs d h k, e)

  pub fault-later : fault (get_or xs i d) ≡ false → lowest check fault i (slice i n xs) ≡ lowest check fault (i + 1) (slice (i + 1) n xs)
  fault-later e = rw (slice-cons i n xs d h k, e, add-one)

-- ---- products of counts up to 4,096 fit
pub grows : (p c i : ℕ) → p ≤ 4096 ^ i → c ≤ 4096 → p * c ≤ 4096 ^ (i + 1)
grows p c i h k = rw (add-one, pow-suc 4096 i) (mul-le-mul h k)

pub small : (p i : ℕ) → i ≤ 4 → p ≤ 4096 ^ i → p ≤ 281474976710656
small p zero h k = le_trans k (lit≤ tt)
small p (suc zero) h k = le_trans k (lit≤ tt)
small p (suc (suc zero)) h k = le_trans k (lit≤ tt)
small p (suc (suc (suc zero))) h k = le_trans k (lit≤ tt)
small p (suc (suc (suc (suc zero)))) h k = le_trans k (lit≤ tt)
small p (suc (suc (suc (suc (suc i))))) h k = absurd (omega arith)

-- no count in use is over
pub count_within : (n : ℕ) (counts : List ℕ) (j : ℕ) → j < n → any_over (take n counts) ≡ false → get_or counts j 0 ≤ 4096
count_within zero counts j h e = absurd (omega arith)
count_within (suc n) [] j h e = omega arith
count_within (suc n) (c ∷ counts) zero h e = ltb-false 4096 c (or_false (ltb 4096 c) (any_over (take n counts)) e).0
count_within (suc n) (c ∷ counts) (suc j) h e = count_within n counts j (omega arith) (or_false (ltb 4096 c) (any_over (take n counts)) e).1

pub each_within : (xs : List ℕ) (n i : ℕ) → i < n → n ≤ length xs → any_over (take n xs) ≡ false → get_or xs i 0 ≤ 4096
each_within xs n i h k e = count_within n xs i h e
