-- How the code reads a block: no definition of the specification's, and none of it need be believed, since no entry point's contract mentions it.
use Rattle.std.specs.Prelude.{ℕ, zero, suc, ◌+◌, ◌*◌, ◌<◌, ◌≡◌, List, [], ◌∷◌, ◌++◌, get_or, Float}
use Rattle.std.specs.Float.{nan}
use Rattle.reduction.specs.Value.{offset}

-- a block read from its first value's index on
abbrev pub from : List Float → List ℕ → ℕ → List ℕ → Float
from vals strides base js = get_or vals (base + offset js strides) nan

-- how far past that index the block reaches
abbrev pub reach : List ℕ → ℕ
reach [] = 0
reach (s ∷ ss) = 3 * s + reach ss

-- clause 5.5: one stride added j times
abbrev pub added : ℕ → ℕ → ℕ → ℕ
added stride zero i = i
added stride (suc j) i = added stride j i + stride

-- what `along` gives: the four indices along an axis from base on
abbrev pub Along : ℕ → ℕ → List ℕ → Type 0
Along base stride is = (j : ℕ) → j < 4 → get_or is j 0 ≡ added stride j base

-- the way of the code over n axes, from base to the index i at which the value for js is read: `along` the last axis, and from the one of its four
-- indices that is handed on, the way over the axes before it
abbrev pub Reads : ℕ → ℕ → List ℕ → List ℕ → ℕ → Type 0
Reads zero base ss js i = (js ≡ []) × (i ≡ base)
Reads (suc k) base ss js i = (is : List ℕ) × (j : ℕ) × (before : List ℕ) × Along base (get_or ss k 0) is × (j < 4) × (js ≡ before ++ (j ∷ [])) × Reads k (get_or is j 0) ss before i
