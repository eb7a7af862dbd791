-- `gradient_at`: each turn adds a component, or meets the query's refusal.
use mathlib.Core.Path.{refl}
use native.Mathlib.Omega.{arith}
use lib.ListN.{length}
use lib.Ieee.{binary32, of_bits}
use Rattle.grid.proofs.Fit.{Fit}
use Rattle.grid.proofs.Singles.{grading_none, grading-turn, grading-done}
use Rattle.regular_query.specs.Grid.{axes_in}
use Rattle.regular_query.proofs.Locating.{taken_of, fit}
use Rattle.regular_f32.proofs.gradient_at.Goals as goal
use Rattle.regular_f32.proofs.gradient_at.Goals.{At-loop-d}

pub loop-d-init : goal.loop-d-init
unfolding of_bits
loop-d-init c = record { few = (fit binary32 c.args.mode c.well_formed.1.0.1.0.1 (taken_of c.requires)).few; grading = grading_none _ _ _ _ _ refl }

-- the grid's axes fit
fits : (c : At-loop-d) → Fit c.args.axis_count (axes_in binary32 c.args.mode c.args.axis_count c.args.axes) (length c.args.vals.now)
fits c = fit binary32 c.args.mode c.well_formed.1.0.1.0.1 (taken_of c.requires)

pub loop-d-preserved : goal.loop-d-preserved
loop-d-preserved c = record {
  few = c.loop-d.invariant.few;
  grading = grading-turn (fits (goal.at.loop-d-preserved c).At-loop-d) c.loop-d.invariant.grading c.loop-d-test.true c.answer_at-component.ensures c.in-Ok.is;
}

pub returns-clause-gradient_value : goal.returns-clause-gradient_value
returns-clause-gradient_value c = (grading-done (fits (goal.at.returns-clause-gradient_value c).At-loop-d) c.loop-d.invariant.grading (omega arith)).1
