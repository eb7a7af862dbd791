-- `dot4`: the sum of its two pairs.
use Rattle.std.proofs.Common.{rules}
use Rattle.interp_math.specs.Dot.{dot4}
use Rattle.interp_math.proofs.Lists.{float_at}
use Rattle.interp_math.proofs.dot4.Goals as goal

pub returns : goal.returns
unfolding dot4
returns g c =
    let at = float_at g.met.T.Real.floats_law in
    search (rules, at, g.met.T.Float.float_mul_law, g.met.T.Float.float_add_law)
