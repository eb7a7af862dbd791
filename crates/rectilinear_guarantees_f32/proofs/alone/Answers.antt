-- The four answers are the definitions' own, and what is lent fits the format.
use lib.Ieee.{binary32}
use Rattle.guarantees.proofs.Typing.{array_fits}
use Rattle.guarantees.proofs.Owed.{promised_alone}
use Rattle.rectilinear_guarantees.proofs.Supplied.{supplied}
use Rattle.rectilinear_guarantees_f32.proofs.alone.Goals as goal

pub returns : goal.returns
returns c =
    let a = c.args in
    let entries = c.type_inv.axes in
    let x = c.well_formed.1.1.1.0 in
    let every = promised_alone (supplied binary32 a.axis_count a.counts a.axes.now a.vals.now a.mode entries c.type_inv.vals)
    (supplied binary32 a.axis_count a.counts a.axes.now a.other_vals.now a.other_mode entries c.type_inv.other_vals)
    (array_fits binary32 a.x x.0 x.1.1)
    (c.interp_one-value.ensures.answer_value, c.interp_one_grad-gradient.ensures.outcome_value, c.interp_one_grad-gradient.ensures.gradient_value)
    (c.interp_one-other_value.ensures.answer_value, c.interp_one_grad-other_gradient.ensures.outcome_value, c.interp_one_grad-other_gradient.ensures.gradient_value) in
    record {
      owed_alone = every.0;
      answers_of = every.1.0;
      answers_of_2 = every.1.1;
    }
