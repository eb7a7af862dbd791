-- The first i entries are written before turn i.
use mathlib.Core.Path.{◌≡◌}
use lib.ListN.{length, take}
use Rattle.told.specs.Told.{over}
use Rattle.told.proofs.put_first.Given as goal

abbrev pub invariant-loop-i : goal.invariant-loop-i
invariant-loop-i g l = (length l.xs ≡ 4) × (l.out ≡ over (take l.i l.xs) l.initial.out)
