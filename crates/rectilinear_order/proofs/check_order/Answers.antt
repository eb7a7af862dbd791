-- `check_order`: the three checks refuse no axis that rises strictly; of others the outcome is that of check 5, of check 6, or of the one pass.
use mathlib.Core.Path.{sym, ◌∙◌}
use lib.ListN.{take}
use Rattle.multicubic.specs.declared.Check.TheVariants.{NotSteep}
use Rattle.rectilinear_order.specs.Grid.{axes_of}
use Rattle.rectilinear_order.proofs.Strict.{steep-taken, steep-flat}
use Rattle.rectilinear_order.proofs.check_order.Goals as goal

pub returns-in_default : goal.returns-in_default
returns-in_default g c =
    steep-taken NotSteep (axes_of (take c.args.axis_count c.args.counts) (g.T.Real.floats c.args.axes.now)) (sym c.first_faulty.ensures ∙ c.in_default.is)

pub returns : goal.returns
returns g c =
    let rising = sym c.first_faulty-2.ensures ∙ c.in_ok-first_faulty.was in
    let order = sym c.first_faulty-3.ensures ∙ c.in_ok-first_faulty-2.was in
    rw (rising, order) (sym c.in-Err.is ∙ c.first_faulty.ensures ∙ steep-flat 0 (axes_of (take c.args.axis_count c.args.counts) (g.T.Real.floats c.args.axes.now)) rising order)
