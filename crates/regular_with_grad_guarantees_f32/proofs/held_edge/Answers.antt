-- The answer is the definition's own, what is lent fits the format, and the kind supplies the rows of a query past an end.
use lib.Ieee.{binary32}
use Rattle.multicubic.specs.declared.EdgeMode.TheVariants.{Held}
use Rattle.guarantees.proofs.Typing.{array_fits}
use Rattle.regular_guarantees.proofs.Supplied.{supplied, clamped}
use Rattle.with_grad_guarantees.proofs.Promised.{held-together}
use Rattle.regular_with_grad_guarantees_f32.proofs.held_edge.Goals as goal

pub returns : goal.returns
returns c =
    let a = c.args in
    let x = c.well_formed.1.1.1.0 in
    let e = c.interp_one_with_grad.ensures in
    let every = held-together (supplied binary32 a.axis_count a.axes a.vals.now Held c.type_inv.vals)
    (clamped binary32 a.axis_count a.axes a.vals.now)
    (array_fits binary32 a.x x.0 x.1.1) (e.answer_value, e.gradient_value, e.marks_value, e.taken_value) in
    record {
      held_edge = every.0;
      together_of = every.1;
    }
