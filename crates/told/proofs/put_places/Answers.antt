-- Origins and classes, each by its own call.
use Rattle.std.proofs.Common.{arith}
use Rattle.std.proofs.lemmas.Grind.{common_steps}
use Rattle.told.proofs.put_places.Goals as goal

pub returns-clause-origins_after : goal.returns-clause-origins_after
returns-clause-origins_after c = grind (arith, common_steps)

pub returns-clause-classes_after : goal.returns-clause-classes_after
returns-clause-classes_after c = grind (arith, common_steps)
