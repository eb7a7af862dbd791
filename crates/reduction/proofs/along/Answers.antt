-- `along`: each index is the one before it plus the stride.
use Prim.Native.Nat.{zero, suc}
use mathlib.Core.Path.{refl}
use native.Mathlib.Omega.{arith}
use Rattle.reduction.proofs.along.Goals as goal

pub returns : goal.returns
returns c zero h = refl
returns c (suc zero) h = refl
returns c (suc (suc zero)) h = refl
returns c (suc (suc (suc zero))) h = refl
returns c (suc (suc (suc (suc j)))) h = absurd (omega arith)
