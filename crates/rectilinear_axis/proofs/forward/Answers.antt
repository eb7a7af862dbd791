-- `forward`: three tests that can hold only in order, so lo moves by as many quarters as hold. No sum or product passes the last quarter's end.
use native.Mathlib.Omega.{arith}
use Rattle.rectilinear_axis.proofs.Search.{test_upto, forward-is}
use Rattle.rectilinear_axis.proofs.forward.Goals as goal

pub overflow_add-below : goal.overflow_add-below
overflow_add-below g c = omega (arith, test_upto _ _ _ c.entry_below.ensures, test_upto _ _ _ c.entry_below-2.ensures)

pub overflow_add-below-2 : goal.overflow_add-below-2
overflow_add-below-2 g c = omega (arith, test_upto _ _ _ c.entry_below.ensures, test_upto _ _ _ c.entry_below-2.ensures, test_upto _ _ _ c.entry_below-3.ensures)

pub returns : goal.returns
returns g c =
    let s = c in
    forward-is s.args.lo s.args.q _ s.requires.lo_bound _ _ _ c.entry_below.ensures c.entry_below-2.ensures c.entry_below-3.ensures

pub overflow_mul-result : goal.overflow_mul-result
overflow_mul-result g c = omega (arith, (returns g c).1)

pub overflow_add-result : goal.overflow_add-result
overflow_add-result g c = omega (arith, (returns g c).1)
