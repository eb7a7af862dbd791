-- What is lent fits the format: it is of the float type.
use mathlib.Core.List.{List, [], ◌∷◌}
use Prim.Native.Nat.{ℕ, zero, suc}
use native.Mathlib.Omega.{arith}
use lib.Dec.{T}
use lib.ListN.{get_or}
use lib.Ieee.{Float, Format, fits}
use lib.Ieee.Fits.{nan-fits}
use mir.Val.{Val}
use denote.Shadow.{shadow}
use denote.Array.{each}
use denote.Floats.{FloatOf, passes}
use Rattle.grid.specs.Query.{at}
use Rattle.grid.specs.Nodes.{Fits}

abbrev pub Typed : Format → (ℕ → Float) → Type 0
Typed f xs = (k : ℕ) → T (fits f (xs k))

-- an array's entries; past its end a NaN stands, which every format holds
pub array_fits : (f : Format) (xs : List Float) (vs : List Val) → shadow (each Float (FloatOf f).own_val xs vs) → Typed f (at xs)
array_fits f [] vs p k = nan-fits f
array_fits f (x ∷ xs) [] p k = absurd p
array_fits f (x ∷ xs) (v ∷ vs) p zero = passes (fits f x) p.0.1
array_fits f (x ∷ xs) (v ∷ vs) p (suc k) = array_fits f xs vs p.1 k

-- of a list whose entries fit, any that is asked for fits where what stands past the end does
pub or_other : (f : Format) (xs : List Float) → Fits f xs → (other : Float) → T (fits f other) → (k : ℕ) → T (fits f (get_or xs k other))
or_other f [] h other o k = o
or_other f (x ∷ xs) h other o zero = h 0 (omega arith)
or_other f (x ∷ xs) h other o (suc k) = or_other f xs (λ j l. h (suc j) (omega arith)) other o k

pub typed : (f : Format) (xs : List Float) → Fits f xs → Typed f (at xs)
typed f xs h = or_other f xs h _ (nan-fits f)
