-- `any_over`: what is left of the counts answers for all of them.
use mathlib.Core.Path.{◌≡◌}
use lib.ListN.{length}
use lib.Seq.{slice}
use Rattle.multicubic.specs.Grid.{any_over}
use Rattle.multicubic.proofs.any_over.Given as goal

abbrev pub invariant-loop-count : goal.invariant-loop-count
invariant-loop-count l = any_over l.counts ≡ any_over (slice l.count-index (length l.counts) l.counts)
