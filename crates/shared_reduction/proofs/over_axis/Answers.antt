-- `over_axis`: each turn of the loop adds the component of one axis before.
use mathlib.Core.Path.{◌∙◌}
use mathlib.Core.List.{[], ◌∷◌}
use native.Mathlib.Omega.{arith}
use Rattle.interp_math.proofs.Lists.{floats_set}
use Rattle.shared_sums.proofs.Joining.{graded-turn, graded-own}
use Rattle.shared_reduction.proofs.Reading.{four_read}
use Rattle.shared_reduction.proofs.over_axis.Goals as goal

pub loop-d-preserved : goal.loop-d-preserved
loop-d-preserved g c =
    let law = g.met.T.Real.floats_law in
    let l = c.loop-d in
    let a = c.args in
    let h = c.requires.axis_bound in
    let read =
    four_read law l.d c.index-g0-d.result c.index-g1-d.result c.index-g2-d.result c.index-g3-d.result a.v0.gradient a.v1.gradient a.v2.gradient a.v3.gradient
    (omega (arith, h)) (omega (arith, h)) (omega (arith, h)) (omega (arith, h)) in
    record {
      counted = omega (arith, l.invariant.counted, c.sum4-component.ensures.taken_value);
      graded = rw (floats_set law l.gradient l.d c.sum4-component.result.value) (graded-turn l.invariant.graded (omega (arith, h)) _ (rw (← read) c.sum4-component.ensures.value_value));
    }

pub returns-clause-by_index : goal.returns-clause-by_index
returns-clause-by_index g c d h =
    let w = graded-own c.loop-d.invariant.graded (omega (arith, c.requires.axis_bound)) (g.T.Float.float c.sum4-own.result.value) c.args.axis (omega arith) in
    rw (floats_set g.met.T.Real.floats_law c.loop-d.gradient c.args.axis c.sum4-own.result.value) (w.0 d h)

pub returns-clause-nan_value : goal.returns-clause-nan_value
returns-clause-nan_value g c =
    let w = graded-own c.loop-d.invariant.graded (omega (arith, c.requires.axis_bound)) (g.T.Float.float c.sum4-own.result.value) c.args.axis (omega arith) in
    let own = rw (← g.met.T.Real.floats_law (c.args.v0.value ∷ c.args.v1.value ∷ c.args.v2.value ∷ c.args.v3.value ∷ [])) at c.sum4-own.ensures.value_value in
    rw (floats_set g.met.T.Real.floats_law c.loop-d.gradient c.args.axis c.sum4-own.result.value) (w.1 ∙ own)

pub returns-clause-by_index_2 : goal.returns-clause-by_index_2
returns-clause-by_index_2 g c d h l =
    let w = graded-own c.loop-d.invariant.graded (omega (arith, c.requires.axis_bound)) (g.T.Float.float c.sum4-own.result.value) c.args.axis (omega arith) in
    rw (floats_set g.met.T.Real.floats_law c.loop-d.gradient c.args.axis c.sum4-own.result.value) (w.2 d h l)
