-- Clause 6.4: how many four-term sums value and gradient take together.
use Rattle.std.specs.Prelude.{ℕ, zero, suc, ◌+◌, ◌-◌, ◌*◌, ◌^◌, Ok, Err, Float}
use Rattle.multicubic.specs.Types.{Outcome}
use Rattle.grid.specs.Query.{Grid, outcome_of}

-- the sum over j from 1 on of 4^(n-j) × (1+j), as far as j
abbrev pub steps_to : ℕ → ℕ → ℕ
steps_to n zero = 0
steps_to n (suc j) = steps_to n j + 4 ^ (n - suc j) * (1 + suc j)

-- as far as n: the steps over n axes
abbrev pub steps_of : ℕ → ℕ
steps_of n = steps_to n n

-- a call that refuses its grid or its query takes none
abbrev pub sums_of : Outcome → ℕ → ℕ
sums_of (Ok _) n = steps_of n
sums_of (Err r) n = 0

abbrev pub sums_answer : Grid → (ℕ → Float) → ℕ
sums_answer g query = sums_of (outcome_of g query) g.axis-count
