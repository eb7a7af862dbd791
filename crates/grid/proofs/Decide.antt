-- Facts about every entry of a list, from one computed test. For examples.
use mathlib.Core.Bool.{Bool, true, ◌&&◌}
use mathlib.Core.List.{List, [], ◌∷◌}
use Prim.Native.Nat.{ℕ, zero, suc, ◌<◌}
use native.Mathlib.Omega.{arith}
use lib.Dec.{T}
use lib.ListN.{length, get_or}
use lib.Ieee.{Float, nan, Format, fits}
use lib.Ieee.Fits.{and_l, and_r, nan-fits}

abbrev pub every : (Float → Bool) → List Float → Bool
every test [] = true
every test (x ∷ xs) = test x && every test xs

pub each : (test : Float → Bool) (xs : List Float) → T (every test xs) → (k : ℕ) → k < length xs → T (test (get_or xs k nan))
each test [] t k h = absurd (omega arith)
each test (x ∷ xs) t zero h = and_l (test x) (every test xs) t
each test (x ∷ xs) t (suc k) h = each test xs (and_r (test x) (every test xs) t) k (omega arith)

-- past the list's end a NaN stands, which every format holds
pub all_fit : (f : Format) (xs : List Float) → T (every (fits f) xs) → (k : ℕ) → T (fits f (get_or xs k nan))
all_fit f [] t k = nan-fits f
all_fit f (x ∷ xs) t zero = and_l (fits f x) (every (fits f) xs) t
all_fit f (x ∷ xs) t (suc k) = all_fit f xs (and_r (fits f x) (every (fits f) xs) t) k
