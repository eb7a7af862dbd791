-- Clause 2.6 of `new` for C: it gives 0 only where the grid is taken, since no check has the number 0.
use mathlib.Core.Path.{◌≡◌, refl}
use mathlib.Core.List.{List}
use Prim.Native.Nat.{ℕ}
use native.Mathlib.Omega.{arith}
use lib.ListN.{length}
use lib.Ieee.{Float, Format}
use Rattle.std.specs.Prelude.{Err, Ok}
use Rattle.multicubic.specs.declared.Check.{Check}
use Rattle.multicubic.specs.declared.Check.TheVariants.{AxisCount, TooLarge, WrongLength, TooFew, NotRising, Disordered, BatchLength, NoPlace, NoNumber, NotSteep}
use Rattle.multicubic.specs.Types.{Outcome, accepted as whole}
use Rattle.multicubic.specs.Answers.{check_number, number_of}
use Rattle.rectilinear_query.specs.Grid.{checks_of, grid_of}
use Rattle.slices.specs.Slices.{counts_from, slices_of, earlier}
use Rattle.rectilinear_lent.specs.Rectilinear.{rectilinear_from}
use Rattle.capi.specs.Calls.{new_leaves}
use Rattle.guarantees.proofs.Typing.{typed}
use Rattle.rectilinear_guarantees.proofs.Relied.{rising, gaps}
use Rattle.capi_guarantees.specs.Gathered.{RisesRectilinear}
use Rattle.capi_guarantees.proofs.Lent.{accepted}

no-zero : (check : Check) → check_number check ≡ 0 → ⊥
no-zero AxisCount e = omega arith
no-zero TooLarge e = omega arith
no-zero WrongLength e = omega arith
no-zero TooFew e = omega arith
no-zero NotRising e = omega arith
no-zero Disordered e = omega arith
no-zero BatchLength e = omega arith
no-zero NoPlace e = omega arith
no-zero NoNumber e = omega arith
no-zero NotSteep e = omega arith

zero-accepts : (o : Outcome) → number_of o ≡ 0 → o ≡ whole
zero-accepts (Ok _) e = refl
zero-accepts (Err by) e = absurd (no-zero by.check e)

pub rises_rectilinear : (f : Format) (n : ℕ) (counts : List ℕ) (axes : List Float) → RisesRectilinear f n counts axes
unfolding new_leaves rectilinear_from
rises_rectilinear f n counts axes vals mode refusal entries zero =
    let cs = counts_from counts in
    let slices = slices_of n (length counts) (length refusal) in
    let lent = zero-accepts (earlier slices (checks_of n cs axes (length vals))) zero in
    let taken = accepted slices (grid_of f n cs axes vals mode) lent in
    (rising n cs axes (length vals) taken, gaps n cs axes (length vals) taken f (typed f axes entries))
