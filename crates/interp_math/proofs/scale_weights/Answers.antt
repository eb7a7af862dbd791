-- `scale_weights`: operation by operation the definition.
use Rattle.std.proofs.Common.{rules}
use Rattle.interp_math.proofs.Lists.{float_at}
use Rattle.interp_math.proofs.scale_weights.Goals as goal

pub returns : goal.returns
returns g c =
    let at = float_at g.met.T.Real.floats_law in
    search (rules, at, g.met.T.Float.float_mul_law)
