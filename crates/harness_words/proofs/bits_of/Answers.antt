-- The NaN has one pattern here.
use Rattle.std.proofs.Common.{sym, ap, ◌∙◌}
use lib.Ieee.{binary64, to_bits}
use Rattle.ieee.proofs.Nan.{nan_is}
use Rattle.harness_words.proofs.bits_of.Goals as goal

pub returns-then-is_nan : goal.returns-then-is_nan
unfolding to_bits
returns-then-is_nan c = sym (ap (to_bits binary64) (nan_is c.args.x (sym c.is_nan.ensures.value ∙ c.if-is_nan.true)))
