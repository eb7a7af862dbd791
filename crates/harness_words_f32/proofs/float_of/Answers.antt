-- The NaN's patterns are those above infinity's, the sign aside; any other is a float's own.
use mathlib.Core.Path.{◌∙◌, sym, subst}
use mathlib.Core.Bool.{Bool, not}
use Prim.Native.Nat.{◌%◌}
use lib.Dec.{T}
use lib.Ieee.{binary32, of_bits, div}
use lib.Ieee.Bits.{nan_bits_is, nan_bits_above}
use borrow.Author.Tests.{lt-ltb, le-ltb}
use Rattle.ieee.proofs.Nan.{nan_is}
use Rattle.harness_words_f32.proofs.float_of.Goals as goal

pub float_from_bits-result : goal.float_from_bits-result
float_from_bits-result c =
    let low = c.args.n % 4294967296 in
    subst (λ (b : Bool). T (not b)) (sym (nan_bits_above binary32 low ∙ le-ltb _ _ c.if-low-gt2139095040.false)) tt

pub returns-then-low-gt2139095040 : goal.returns-then-low-gt2139095040
unfolding div of_bits
returns-then-low-gt2139095040 c =
    let low = c.args.n % 4294967296 in
    sym (nan_is (of_bits binary32 low) (sym (nan_bits_is binary32 low) ∙ (nan_bits_above binary32 low ∙ lt-ltb _ _ c.if-low-gt2139095040.true)))
