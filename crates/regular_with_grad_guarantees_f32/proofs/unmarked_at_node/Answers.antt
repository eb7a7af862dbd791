-- The marks are the definition's own, and at a node those are unset.
use lib.Ieee.{binary32}
use Rattle.grid.specs.Query.{at}
use Rattle.regular_guarantees.proofs.Supplied.{at_nodes}
use Rattle.with_grad_guarantees.proofs.Promised.{unmarked-together}
use Rattle.regular_with_grad_guarantees_f32.proofs.unmarked_at_node.Goals as goal

pub returns : goal.returns
returns c =
    let a = c.args in
    let e = c.interp_one_with_grad.ensures in
    let every = unmarked-together (at_nodes binary32 a.axis_count a.axes a.vals.now a.mode (at a.x))
    (e.answer_value, e.gradient_value, e.marks_value, e.taken_value) in
    record {
      unmarked_at_node = every.0;
      together_of = every.1;
    }
