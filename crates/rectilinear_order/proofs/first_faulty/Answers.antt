-- `first_faulty`: what is left of the axes answers for all of them, turn by turn (proofs/Passes.antt).
use mathlib.Core.Path.{ap, ◌∙◌}
use Rattle.std.specs.Prelude.{Err}
use native.Mathlib.Omega.{arith}
use lib.ListN.{length-take, length-drop}
use Rattle.interp_math.proofs.Lists.{floats_length, floats_part}
use Rattle.rectilinear_order.specs.Internal.{fault_of}
use Rattle.rectilinear_order.proofs.Passes.{start, finish, fits, refused, next}
use Rattle.rectilinear_order.proofs.first_faulty.Goals as goal

pub loop-axis-init : goal.loop-axis-init
loop-axis-init g c =
    let a = c.args in
    start a.check (fault_of a.check) a.axis_count a.counts (g.T.Real.floats a.axes.now) (omega arith) (omega (arith, floats_length g.met.T.Real.floats_law a.axes.now))

pub overflow_add-end : goal.overflow_add-end
overflow_add-end g c = omega (arith, floats_length g.met.T.Real.floats_law c.args.axes.now, fits c.loop-axis.invariant c.loop-axis-test.true)

pub slice_bounds-faulty-end : goal.slice_bounds-faulty-end
slice_bounds-faulty-end g c = omega (arith, floats_length g.met.T.Real.floats_law c.args.axes.now, fits c.loop-axis.invariant c.loop-axis-test.true)

pub faulty-requires : goal.faulty-requires
faulty-requires g c =
    let l = c.loop-axis in
    let h = c.loop-axis-test.true in
    simp (length-take, length-drop) (omega (arith, c.requires.by_index l.axis h, floats_length g.met.T.Real.floats_law c.args.axes.now, fits l.invariant h))

pub returns-then-faulty : goal.returns-then-faulty
returns-then-faulty g c =
    let l = c.loop-axis in
    let part = floats_part g.met.T.Real.floats_law _ l.at c.args.axes.now in
    ap Err c.at.ensures ∙ refused l.invariant c.loop-axis-test.true part c.faulty.ensures c.if-faulty.true

pub loop-axis-preserved : goal.loop-axis-preserved
loop-axis-preserved g c =
    let l = c.loop-axis in
    let part = floats_part g.met.T.Real.floats_law _ l.at c.args.axes.now in
    next l.invariant c.loop-axis-test.true part c.faulty.ensures c.if-faulty.false

pub returns : goal.returns
returns g c = finish c.loop-axis.invariant c.loop-axis-test.false
