-- The marks are the definition's own, and at a node those are unset.
use mathlib.Core.Path.{◌∙◌}
use lib.Ieee.{binary32}
use Rattle.grid.specs.Query.{at}
use Rattle.regular_guarantees.proofs.Supplied.{at_nodes}
use Rattle.regular_guarantees_f32.proofs.unmarked_at_node.Goals as goal

pub returns-clause-unmarked_at_node : goal.returns-clause-unmarked_at_node
returns-clause-unmarked_at_node c =
    let a = c.args in
    λ node taken premises here. c.interp_one.ensures.marks_value ∙ at_nodes binary32 a.axis_count a.axes a.vals.now a.mode (at a.x) node taken premises here
