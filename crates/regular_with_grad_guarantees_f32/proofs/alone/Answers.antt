-- Both answers are the definitions' own, and what is lent fits the format.
use lib.Ieee.{binary32}
use Rattle.guarantees.proofs.Typing.{array_fits}
use Rattle.regular_guarantees.proofs.Supplied.{supplied}
use Rattle.with_grad_guarantees.proofs.Promised.{two-together}
use Rattle.regular_with_grad_guarantees_f32.proofs.alone.Goals as goal

pub returns : goal.returns
returns c =
    let a = c.args in
    let x = c.well_formed.1.1.0 in
    let e = c.interp_one_with_grad-own.ensures in
    let o = c.interp_one_with_grad-other.ensures in
    let every = two-together (supplied binary32 a.axis_count a.axes a.vals.now a.mode c.type_inv.vals)
    (supplied binary32 a.axis_count a.axes a.other_vals.now a.other_mode c.type_inv.other_vals)
    (array_fits binary32 a.x x.0 x.1.1)
    (e.answer_value, e.gradient_value, e.marks_value, e.taken_value) (o.answer_value, o.gradient_value, o.marks_value, o.taken_value) in
    record {
      owed_alone = every.0;
      block_sums = every.1.0;
      together_of = every.1.1.0;
      together_of_2 = every.1.1.1;
    }
