-- A query gathered from what is lent fits the format: past the end +0 stands, past four coordinates a NaN.
use mathlib.Core.Path.{refl}
use mathlib.Core.Bool.{false}
use mathlib.Core.List.{List}
use Prim.Native.Nat.{ℕ, zero, suc}
use lib.Dec.{T}
use lib.ListN.{get_or}
use lib.Ieee.{Float, Format, fits}
use lib.Ieee.Fits.{nan-fits}
use Rattle.ieee.specs.Numbers.{zero as nought}
use Rattle.ieee.proofs.ZeroOne.{zero-fits}
use Rattle.grid.specs.Query.{at}
use Rattle.grid.specs.Nodes.{Fits}
use Rattle.guarantees.proofs.Typing.{Typed, or_other}
use Rattle.slices.specs.Slices.{query_from}

pub query-typed : (f : Format) (x : List Float) → Fits f x → Typed f (at (query_from x))
query-typed f x h k = go k
  where
    here : (i : ℕ) → T (fits f (get_or x i nought))
    here i = or_other f x h nought (zero-fits f nought (false, refl)) i

    go : (k : ℕ) → T (fits f (at (query_from x) k))
    go zero = here 0
    go (suc zero) = here 1
    go (suc (suc zero)) = here 2
    go (suc (suc (suc zero))) = here 3
    go (suc (suc (suc (suc k)))) = nan-fits f
