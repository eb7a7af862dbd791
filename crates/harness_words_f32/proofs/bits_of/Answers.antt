-- A float that differs from itself is the NaN, which has one pattern here; any other has its own.
use mathlib.Core.Path.{sym, ap, subst}
use mathlib.Core.Bool.{Bool, not}
use native.Mathlib.Omega.{arith}
use lib.Dec.{T}
use lib.Ieee.{binary32, to_bits}
use lib.Ieee.Bits.{to_bits-lt}
use lib.Ieee.Compare.{differs_from_itself}
use Rattle.ieee.proofs.Nan.{same_number}
use Rattle.harness_words_f32.proofs.bits_of.Goals as goal

pub float_to_bits-result : goal.float_to_bits-result
float_to_bits-result c = subst (λ (b : Bool). T (not b)) (sym (same_number c.args.x c.if-x.false)) tt

-- a pattern of f32 is below 2^32
pub overflow_cast-result : goal.overflow_cast-result
overflow_cast-result c =
    let small = to_bits-lt binary32 c.args.x (subst T (sym c.well_formed.0.1) tt) in
    record { fits = omega (arith, small) }

pub returns-then-x : goal.returns-then-x
unfolding to_bits
returns-then-x c = sym (ap (to_bits binary32) (differs_from_itself c.args.x (subst T (sym c.if-x.true) tt)))
