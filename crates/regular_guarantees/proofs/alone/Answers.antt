-- The four answers are the definitions' own, and what is lent fits the format.
use lib.Ieee.{binary64}
use Rattle.guarantees.proofs.Typing.{array_fits}
use Rattle.guarantees.proofs.Owed.{promised_alone}
use Rattle.regular_guarantees.proofs.Supplied.{supplied}
use Rattle.regular_guarantees.proofs.alone.Goals as goal

pub returns-clause-owed_alone : goal.returns-clause-owed_alone
returns-clause-owed_alone c =
    let a = c.args in
    let x = c.well_formed.1.1.0 in
    (promised_alone (supplied binary64 a.axis_count a.axes a.vals.now a.mode c.type_inv.vals)
    (supplied binary64 a.axis_count a.axes a.other_vals.now a.other_mode c.type_inv.other_vals)
    (array_fits binary64 a.x x.0 x.1.1)
    (c.interp_one-value.ensures.answer_value, c.interp_one_grad-gradient.ensures.outcome_value, c.interp_one_grad-gradient.ensures.gradient_value)
    (c.interp_one-other_value.ensures.answer_value, c.interp_one_grad-other_gradient.ensures.outcome_value, c.interp_one_grad-other_gradient.ensures.gradient_value)).0
