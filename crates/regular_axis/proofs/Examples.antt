-- The premises can be met: nodes from -3/4 in steps of 1/4. Node 3 is +0, and -0 is a query at it.
use Rattle.std.proofs.Common.{Bool, true, false, pos, negsuc, refl, lit<, lit≤}
use lib.Ieee.{Float, fin, Format, binary32, binary64, add, mul, of_int, fits, eq}
use Rattle.multicubic.proofs.Nodes.{AtNode}
use Rattle.regular_axis.specs.Nodes.{Premises}
use Rattle.regular_axis.proofs.AtNodes.{at-node, outcome_of}

abbrev pub start : Float
start = fin true 3 (negsuc 1)

abbrev pub step : Float
step = fin false 1 (negsuc 1)

pub quarters : Premises start step
quarters = record { power = negsuc 1; step_is = refl; step-most = lit≤ tt; step-least = lit≤ tt; below-zero = true; steps = 3; near = lit≤ tt; start_is = (refl, refl) }

pub minus_zero : (f : Format) (straight : Bool) → AtNode 8 (pos 2) 3 (outcome_of f start step 8 straight (fin true 0 (pos 0)))
unfolding fits eq add mul of_int
minus_zero binary32 straight = at-node binary32 straight start step quarters 8 (lit≤ tt) (lit≤ tt) 3 (lit< tt) (fin true 0 (pos 0)) tt tt
minus_zero binary64 straight = at-node binary64 straight start step quarters 8 (lit≤ tt) (lit≤ tt) 3 (lit< tt) (fin true 0 (pos 0)) tt tt
