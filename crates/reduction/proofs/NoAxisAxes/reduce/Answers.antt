-- Over no axis: the value itself, which is read at the base.
use mathlib.Core.List.{[]}
use mathlib.Core.Path.{refl}
use native.Mathlib.Omega.{arith}
use Rattle.reduction.specs.Internal.{Reads}
use Rattle.reduction.proofs.Reduction.{leaf_read}
use Rattle.reduction.proofs.NoAxisAxes.reduce.Given.{Over}
use Rattle.reduction.proofs.NoAxisAxes.reduce.Goals as goal
use Rattle.reduction.proofs.NoAxisAxes.reduce.Goals.{Start}

read : (g : Over) (c : Start g) → Reads 0 c.args.base c.args._strides [] c.args.base
read g c = (refl, refl)

pub returns : goal.returns
returns g c = leaf_read g.met.T.Real.floats_law g.met.T.Real.rows_law _ c.args.vals.now c.args._weights c.args._strides c.args.base _ (omega (arith, c.requires.within)) c.index-vals-base.is
