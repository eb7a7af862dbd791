-- `first_faulty`: what is left of the axes answers for all of them, turn by turn (proofs/Passes.antt).
use Rattle.rectilinear_order.specs.Internal.{fault_of}
use Rattle.rectilinear_order.proofs.Passes.{Left}
use Rattle.rectilinear_order.proofs.first_faulty.Given as goal

abbrev pub invariant-loop-axis : goal.invariant-loop-axis
invariant-loop-axis g l = Left l.check (fault_of l.check) l.axis_count l.counts (g.T.Real.floats l.axes) l.at l.axis
