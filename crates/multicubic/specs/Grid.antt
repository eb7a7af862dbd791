-- Clauses 2.2 and 2.3: checks 1 to 4, over the axis count, the counts and the lengths.
use Rattle.std.specs.Prelude.{ℕ, suc, ◌+◌, ◌*◌, Bool, false, not, cond, ◌||◌, List, [], ◌∷◌, Option, None, Some, Ok, Err, ltb, eqb, take}
use Rattle.multicubic.specs.declared.Check.{Check}
use Rattle.multicubic.specs.declared.Check.TheVariants.{AxisCount, TooLarge, WrongLength, TooFew}
use Rattle.multicubic.specs.Types.{Outcome, accepted, refusal}

-- the refusal by a check with place 0, where the fault is there
abbrev pub refuse : Bool → Check → Outcome
refuse fault check = cond fault (Err (refusal check 0 0)) accepted

-- the refusal by a check with the lowest axis that has the fault, counted from axis
abbrev pub lowest : {A : Type 0} → Check → (A → Bool) → ℕ → List A → Outcome
lowest check fault axis [] = accepted
lowest check fault axis (x ∷ xs) = cond (fault x) (Err (refusal check 0 axis)) (lowest check fault (suc axis) xs)

-- checks in order: the first that refuses is the answer
infixr 5 ◌then◌
abbrev pub ◌then◌ : Outcome → Outcome → Outcome
Ok _ then later = later
Err r then later = Err r

abbrev pub product : List ℕ → ℕ
product [] = 1
product (c ∷ cs) = c * product cs

abbrev pub sum : List ℕ → ℕ
sum [] = 0
sum (c ∷ cs) = c + sum cs

-- an axis over 4,096 entries
abbrev pub any_over : List ℕ → Bool
any_over [] = false
any_over (c ∷ cs) = ltb 4096 c || any_over cs

-- the joined rectilinear axes' length is not the sum of counts; a regular grid has none
abbrev pub misjoined : Option ℕ → ℕ → Bool
misjoined None total = false
misjoined (Some length) total = not (eqb length total)

unfoldable pub size_checks : ℕ → List ℕ → ℕ → Option ℕ → Outcome
size_checks n counts values axes =
    let cs = take n counts in
    refuse (eqb n 0 || ltb 4 n) AxisCount
    then refuse (any_over cs || ltb 1048576 (product cs)) TooLarge
    then refuse (not (eqb values (product cs)) || misjoined axes (sum cs)) WrongLength
    then lowest TooFew (λ c. ltb c 4) 0 cs
