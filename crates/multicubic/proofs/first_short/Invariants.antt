-- `first_short`: what is left of the counts answers for all of them.
use mathlib.Core.Path.{◌≡◌}
use lib.ListN.{length}
use lib.Seq.{slice}
use lib.Dec.{ltb}
use Rattle.multicubic.specs.declared.Check.TheVariants.{TooFew}
use Rattle.multicubic.specs.Grid.{lowest}
use Rattle.multicubic.proofs.first_short.Given as goal

abbrev pub invariant-loop-axis : goal.invariant-loop-axis
invariant-loop-axis l = lowest TooFew (λ k. ltb k 4) 0 l.counts ≡ lowest TooFew (λ k. ltb k 4) l.axis (slice l.axis (length l.counts) l.counts)
