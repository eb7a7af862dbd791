-- Checks 5, 6 and 10 over all axes, any check of them: they take exactly the axes that rise strictly, and one pass finds what the three of them find.
use mathlib.Core.Path.{◌≡◌, refl, sym}
use mathlib.Core.Bool.{Bool, true, false, cond, ◌||◌}
use mathlib.Core.List.{List, [], ◌∷◌}
use Prim.Native.Nat.{ℕ, suc, ◌≤◌, ◌<◌}
use native.Mathlib.Omega.{arith}
use lib.Dec.{T}
use lib.ListN.{length, get_or}
use lib.Ieee.{Float, nan, Format, fits}
use Rattle.ieee.proofs.Rise.{rise-gap}
use Rattle.multicubic.specs.declared.Check.{Check}
use Rattle.multicubic.specs.declared.Check.TheVariants.{NotRising, Disordered, NotSteep}
use Rattle.multicubic.specs.Types.{Outcome, accepted, refusal}
use Rattle.std.specs.Prelude.{Err}
use Rattle.multicubic.specs.Grid.{lowest}
use Rattle.multicubic.proofs.Passed.{not-accepted, then_accepted, lowest-accepted}
use Rattle.rectilinear_order.specs.Grid.{not_rising, disorder, flat, order_checks, Rising, GapsAbove}
use Rattle.rectilinear_order.specs.Internal.{not_steep}
use Rattle.rectilinear_order.proofs.Order.{strict, steep}

-- ---- taken, every axis rises strictly throughout, and no gap is zero
holds : {b : Bool} → b ≡ true → T b
holds e = rw e tt

is_true : (b : Bool) → T b → b ≡ true
is_true true t = refl
is_true false t = absurd t

-- every entry is a float of the format
abbrev pub AllFit : Format → List (List Float) → Type 0
AllFit f axes = (j : ℕ) → j < length axes → (k : ℕ) → k < length (get_or axes j []) → T (fits f (get_or (get_or axes j []) k nan))

module _ (axes : List (List Float)) (taken : order_checks axes ≡ accepted) where
  pub rises-strictly : Rising axes
  rises-strictly j h k l =
      let after-five = (then_accepted (lowest NotRising not_rising 0 axes) _ taken).1 in
      let passed = then_accepted (lowest Disordered disorder 0 axes) (lowest NotSteep flat 0 axes) after-five in
      let in_order = lowest-accepted Disordered disorder 0 axes [] passed.0 j h in
      let not-flat = lowest-accepted NotSteep flat 0 axes [] passed.1 j h in
      holds (strict (get_or axes j []) in_order not-flat k l)

  pub no-gap-zero : (f : Format) → AllFit f axes → GapsAbove f axes
  no-gap-zero f fit j h k l = rise-gap f _ _ (fit j h k (omega arith)) (fit j h (suc k) l) (rises-strictly j h k l)

  -- the search for a place asks no more than check 6
  pub six-passed : lowest Disordered disorder 0 axes ≡ accepted
  six-passed = (then_accepted (lowest Disordered disorder 0 axes) (lowest NotSteep flat 0 axes) (then_accepted (lowest NotRising not_rising 0 axes) _ taken).1).0

-- ---- one pass for the three of them
none : (check : Check) (a : ℕ) (p q r : Bool) (x y z w : Outcome) → (x ≡ accepted → (y ≡ accepted) × (z ≡ accepted) × (w ≡ accepted))
    → cond (p || q || r) (Err (refusal check 0 a)) x ≡ accepted
    → (cond p (Err (refusal NotRising 0 a)) y ≡ accepted) × (cond q (Err (refusal Disordered 0 a)) z ≡ accepted) × (cond r (Err (refusal NotSteep 0 a)) w ≡ accepted)
none check a true q r x y z w later e = absurd (not-accepted (refusal check 0 a) e)
none check a false true r x y z w later e = absurd (not-accepted (refusal check 0 a) e)
none check a false false true x y z w later e = absurd (not-accepted (refusal check 0 a) e)
none check a false false false x y z w later e = later e

all-steep : (check : Check) (a : ℕ) (axes : List (List Float)) → lowest check not_steep a axes ≡ accepted
    → (lowest NotRising not_rising a axes ≡ accepted) × (lowest Disordered disorder a axes ≡ accepted) × (lowest NotSteep flat a axes ≡ accepted)
all-steep check a [] e = (refl, refl, refl)
all-steep check a (g ∷ gs) e = none check a (not_rising g) (disorder g) (flat g) _ _ _ _ (all-steep check (suc a) gs) e

-- where it finds no axis, the three take them all
pub steep-taken : (check : Check) (axes : List (List Float)) → lowest check not_steep 0 axes ≡ accepted → accepted ≡ order_checks axes
steep-taken check axes e =
    let w = all-steep check 0 axes e in
    rw (w.0, w.1, w.2) refl

only : (a : ℕ) (p q r : Bool) (x y z w : Outcome) → (y ≡ accepted → z ≡ accepted → x ≡ w)
    → cond p (Err (refusal NotRising 0 a)) y ≡ accepted → cond q (Err (refusal Disordered 0 a)) z ≡ accepted
    → cond (p || q || r) (Err (refusal NotSteep 0 a)) x ≡ cond r (Err (refusal NotSteep 0 a)) w
only a true q r x y z w later e f = absurd (not-accepted (refusal NotRising 0 a) e)
only a false true r x y z w later e f = absurd (not-accepted (refusal Disordered 0 a) f)
only a false false true x y z w later e f = refl
only a false false false x y z w later e f = later e f

-- where 5 and 6 refuse none, the axis that it finds is the lowest flat one
pub steep-flat : (a : ℕ) (axes : List (List Float)) → lowest NotRising not_rising a axes ≡ accepted → lowest Disordered disorder a axes ≡ accepted
    → lowest NotSteep not_steep a axes ≡ lowest NotSteep flat a axes
steep-flat a [] e f = refl
steep-flat a (g ∷ gs) e f = only a (not_rising g) (disorder g) (flat g) _ _ _ _ (steep-flat (suc a) gs) e f

-- ---- and back: axes that rise strictly are taken
unfound : (a : ℕ) (axes : List (List Float)) → ((j : ℕ) → j < length axes → not_steep (get_or axes j []) ≡ false) → lowest NotSteep not_steep a axes ≡ accepted
unfound a [] f = refl
unfound a (g ∷ gs) f = rw (f 0 (omega arith)) (unfound (suc a) gs (λ j h. f (suc j) (omega arith)))

pub rising-taken : (axes : List (List Float)) → ((j : ℕ) → j < length axes → 2 ≤ length (get_or axes j [])) → Rising axes → order_checks axes ≡ accepted
rising-taken axes long rising =
    sym (steep-taken NotSteep axes (unfound 0 axes (λ j h. steep (get_or axes j []) (long j h) (λ k l. is_true _ (rising j h k l)))))
