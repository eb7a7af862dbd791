-- What a grid that checks 1 to 4 accept has passed.
use mathlib.Core.Path.{◌≡◌, refl}
use mathlib.Core.Bool.{Bool, true, false, not, cond}
use mathlib.Core.List.{List, [], ◌∷◌}
use Prim.Native.Nat.{ℕ, zero, suc, ◌≤◌, ◌<◌}
use native.Mathlib.Omega.{arith}
use lib.Dec.{ltb, eqb}
use lib.ListN.{length, get_or, take}
use borrow.Author.Tests.{ltb-false, eqb-true, eqb-false, not-false}
use Rattle.std.specs.Prelude.{Err, Ok, Option}
use Rattle.multicubic.specs.declared.Check.{Check}
use Rattle.multicubic.specs.declared.Check.TheVariants.{AxisCount, TooLarge, WrongLength, TooFew}
use Rattle.multicubic.specs.declared.Refusal.{Refusal}
use Rattle.multicubic.specs.Types.{Outcome, accepted as taken, refusal}
use Rattle.multicubic.specs.Grid.{refuse, lowest, ◌then◌, product, sum, any_over, misjoined, size_checks}
use Rattle.multicubic.proofs.Sizes.{or_false}

pub not-accepted : (r : Refusal) → ◌≡◌ {A = Outcome} (Err r) taken → ⊥
not-accepted r e = let z : ◌≡◌ {A = ℕ} 0 1 = cc in omega arith

pub then_accepted : (a b : Outcome) → (a then b) ≡ taken → (a ≡ taken) × (b ≡ taken)
then_accepted (Ok _) b e = (refl, e)
then_accepted (Err r) b e = absurd (not-accepted r e)

-- a fault refuses, so there is none
pub no_fault : (fault : Bool) (k : Check) (axis : ℕ) (later : Outcome) → cond fault (Err (refusal k 0 axis)) later ≡ taken → (fault ≡ false) × (later ≡ taken)
no_fault true k axis later e = absurd (not-accepted (refusal k 0 axis) e)
no_fault false k axis later e = (refl, e)

pub refuse-accepted : (fault : Bool) (k : Check) → refuse fault k ≡ taken → fault ≡ false
refuse-accepted fault k e = (no_fault fault k 0 taken e).0

-- no entry has the fault
pub lowest-accepted : {A : Type 0} (k : Check) (fault : A → Bool) (axis : ℕ) (xs : List A) (d : A) → lowest k fault axis xs ≡ taken → (j : ℕ) → j < length xs → fault (get_or xs j d) ≡ false
lowest-accepted k fault axis [] d e j h = absurd (omega arith)
lowest-accepted k fault axis (x ∷ xs) d e zero h = (no_fault (fault x) k axis (lowest k fault (suc axis) xs) e).0
lowest-accepted k fault axis (x ∷ xs) d e (suc j) h = lowest-accepted k fault (suc axis) xs d (no_fault (fault x) k axis (lowest k fault (suc axis) xs) e).1 j (omega arith)

-- the tests of checks 1 to 4, as facts of the counts in use
pub record Passed (n : ℕ) (counts : List ℕ) (values : ℕ) (axes : Option ℕ) : Type 0 where
  pub some : 1 ≤ n
  pub few : n ≤ 4
  pub within : any_over (take n counts) ≡ false
  pub size : product (take n counts) ≤ 1048576
  pub values-is : values ≡ product (take n counts)
  pub joined : misjoined axes (sum (take n counts)) ≡ false
  pub long : (j : ℕ) → j < length (take n counts) → 4 ≤ get_or (take n counts) j 0

pub accepted : (n : ℕ) (counts : List ℕ) (values : ℕ) (axes : Option ℕ) → size_checks n counts values axes ≡ taken → Passed n counts values axes
unfolding size_checks
accepted n counts values axes e =
    let cs = take n counts in
    let one = then_accepted _ _ e in
    let two = then_accepted _ _ one.1 in
    let three = then_accepted _ _ two.1 in
    let p = or_false (eqb n 0) (ltb 4 n) (refuse-accepted _ AxisCount one.0) in
    let q = or_false (any_over cs) (ltb 1048576 (product cs)) (refuse-accepted _ TooLarge two.0) in
    let r = or_false (not (eqb values (product cs))) (misjoined axes (sum cs)) (refuse-accepted _ WrongLength three.0) in
    let none : n ≡ 0 → ⊥ = eqb-false n 0 p.0 in
    record {
      some = omega (arith, none);
      few = ltb-false 4 n p.1;
      within = q.0;
      size = ltb-false 1048576 (product cs) q.1;
      values-is = eqb-true values (product cs) (not-false _ r.0);
      joined = r.1;
      long = λ j h. ltb-false (get_or cs j 0) 4 (lowest-accepted TooFew (λ c. ltb c 4) 0 cs 0 three.1 j h);
    }
