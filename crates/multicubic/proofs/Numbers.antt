-- A coordinate that is no number, and one that is.
use mathlib.Core.Path.{◌≡◌, refl, sym, ap}
use mathlib.Core.Bool.{Bool, true, false, cond}
use mathlib.Core.List.{List}
use Prim.Native.Nat.{ℕ}
use native.Mathlib.Omega.{arith}
use lib.Ieee.{Float, is_nan, ne}
use Rattle.ieee.proofs.Nan.{differs_nan, same_number}
use Rattle.std.specs.Prelude.{Err, Ok}
use Rattle.multicubic.specs.declared.Check.{Check}
use Rattle.multicubic.specs.declared.Check.TheVariants.{NoPlace, NoNumber}
use Rattle.multicubic.specs.declared.LocError.{LocError}
use Rattle.multicubic.specs.declared.LocError.TheVariants.{NotANumber, Unplaceable}
use Rattle.multicubic.specs.declared.Place.{Place}
use Rattle.multicubic.specs.Answers.{check_of, place_outcome}
use Rattle.multicubic.specs.Types.{Loc, refusal}
use Rattle.multicubic.specs.Place.{if_number, Placed, AxisOutcome, refused, placed, outcome_at}

pub of_number : (x : Float) (l : Loc) → is_nan x ≡ false → if_number x l ≡ l
of_number x l e = rw e refl

-- as the code asks
pub asked-number : (x : Float) (l : Loc) → ne x x ≡ false → if_number x l ≡ l
asked-number x l e = of_number x l (same_number x e)

pub asked-nan : (x : Float) (l : Loc) → ne x x ≡ true → if_number x l ≡ (Err NotANumber)
asked-nan x l e = rw (differs_nan x e) refl

pub placed_number : (x : Float) (l : Loc) (p : Place) → if_number x l ≡ Ok p → (is_nan x ≡ false) × (l ≡ Ok p)
placed_number x l p e = go (is_nan x) refl e
  where
    go : (b : Bool) → is_nan x ≡ b → cond b (Err NotANumber) l ≡ Ok p → (is_nan x ≡ false) × (l ≡ Ok p)
    go true n e = absurd (let y : ◌≡◌ {A = ℕ} 0 1 = cc in omega arith)
    go false n e = (n, e)

-- whether what is found is that there is no number
abbrev pub missing : Loc → Bool
missing (Ok p) = false
missing (Err NotANumber) = true
missing (Err Unplaceable) = false

pub missing-number : (x : Float) (l : Loc) → missing l ≡ false → missing (if_number x l) ≡ is_nan x
missing-number x l e = go (is_nan x)
  where
    go : (b : Bool) → missing (cond b (Err NotANumber) l) ≡ b
    go true = refl
    go false = e

-- ---- what an axis gives for it
abbrev pub check_in : AxisOutcome → Check
check_in (refused check) = check
check_in (placed p) = NoPlace

module _ (w d : Place → List Float) where
  pub placed-present : (l : Loc) (p : Placed) → outcome_at w d l ≡ placed p → missing l ≡ false
  placed-present (Ok q) p e = refl
  placed-present (Err NotANumber) p e = absurd (let y : ◌≡◌ {A = ℕ} 0 1 = cc in omega arith)
  placed-present (Err Unplaceable) p e = refl

  -- an axis's refusal is 9 or 8
  pub refused-by : (l : Loc) (check : Check) → outcome_at w d l ≡ refused check → check ≡ cond (missing l) NoNumber NoPlace
  refused-by (Ok p) check e = absurd (let y : ◌≡◌ {A = ℕ} 0 1 = cc in omega arith)
  refused-by (Err NotANumber) check e = sym (ap check_in e)
  refused-by (Err Unplaceable) check e = sym (ap check_in e)

-- ---- no place, and why
pub unplaced_outcome : (l : Loc) (e : LocError) → l ≡ Err e → (query axis : ℕ) → place_outcome query axis l ≡ Err (refusal (check_of e) query axis)
unplaced_outcome l e is query axis = rw is refl

pub unplaced_at : (w d : Place → List Float) (l : Loc) (e : LocError) → l ≡ Err e → outcome_at w d l ≡ refused (check_of e)
unplaced_at w d l e is = rw is refl
