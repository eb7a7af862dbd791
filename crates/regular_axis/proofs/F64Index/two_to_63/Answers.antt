-- `two_to_63`: the pattern of the literal.
use Rattle.std.proofs.Common.{refl}
use lib.Ieee.{of_bits}
use Rattle.regular_axis.proofs.F64Index.two_to_63.Goals as goal

pub returns : goal.returns
unfolding of_bits
returns c = refl
