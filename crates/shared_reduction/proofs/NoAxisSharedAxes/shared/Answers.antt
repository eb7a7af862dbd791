-- Over no axis: a value, which is read at the base, and no component yet.
use mathlib.Core.List.{[]}
use mathlib.Core.Path.{refl, ap, ◌∙◌}
use native.Mathlib.Omega.{arith}
use Rattle.reduction.specs.Internal.{Reads}
use Rattle.shared_reduction.proofs.Reading.{part_read}
use Rattle.shared_reduction.proofs.NoAxisSharedAxes.shared.Given.{Over}
use Rattle.shared_reduction.proofs.NoAxisSharedAxes.shared.Goals as goal
use Rattle.shared_reduction.proofs.NoAxisSharedAxes.shared.Goals.{Start}

read : (g : Over) (c : Start g) → Reads 0 c.args.base c.args._strides [] c.args.base
read g c = (refl, refl)

pub returns-clause-reduced : goal.returns-clause-reduced
returns-clause-reduced g c =
    let a = c.args in
    part_read g.met.T.Real.floats_law g.met.T.Real.rows_law _ a.vals.now a._weights a._derivatives a._strides a.base _ _ (omega (arith, c.requires.within)) c.index-vals-base.is
    (ap g.T.Float.float c.zero.ensures ∙ g.met.T.Float.float_zero_law)
