-- `first_not_rising`: each turn passes an axis that rises, or names it.
use Prim.Native.Nat.{◌≤◌}
use mathlib.Core.Path.{◌≡◌}
use lib.ListN.{take}
use lib.Seq.{slice}
use Rattle.multicubic.specs.declared.Check.TheVariants.{NotRising}
use Rattle.multicubic.specs.Grid.{lowest}
use Rattle.regular_query.specs.Grid.{not_rising}
use Rattle.regular.proofs.first_not_rising.Given as goal

abbrev pub invariant-loop-i : goal.invariant-loop-i
invariant-loop-i l = record {
  few : l.axis_count ≤ 4;
  rest : lowest NotRising not_rising 0 (take l.axis_count l.axes) ≡ lowest NotRising not_rising l.i (slice l.i l.axis_count l.axes);
}
