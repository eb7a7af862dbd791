-- `gradient_at`: each turn adds a component, or meets the query's refusal.
use native.Mathlib.Omega.{arith}
use lib.Ieee.{binary32, of_bits}
use mathlib.Core.Path.{refl}
use Rattle.grid.proofs.Singles.{grading_none, grading-turn, grading-done}
use Rattle.rectilinear_query.proofs.Locating.{taken_of, fit}
use Rattle.rectilinear_f32.proofs.gradient_at.Goals as goal

pub loop-d-init : goal.loop-d-init
unfolding of_bits
loop-d-init c = record {
  few = (fit binary32 c.args.mode c.well_formed.1.0.1.0.1 (taken_of c.requires)).few;
  grading = grading_none _ _ _ _ _ refl;
}

pub loop-d-preserved : goal.loop-d-preserved
loop-d-preserved c = record {
  few = c.loop-d.invariant.few;
  grading = grading-turn (fit binary32 c.args.mode c.well_formed.1.0.1.0.1 (taken_of c.requires)) c.loop-d.invariant.grading c.loop-d-test.true c.answer_at-component.ensures c.in-Ok.is;
}

pub returns-clause-gradient_value : goal.returns-clause-gradient_value
returns-clause-gradient_value c = (grading-done (fit binary32 c.args.mode c.well_formed.1.0.1.0.1 (taken_of c.requires)) c.loop-d.invariant.grading (omega arith)).1
