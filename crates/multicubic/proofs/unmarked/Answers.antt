-- `unmarked`: four times the same.
use mathlib.Core.Path.{refl}
use Rattle.multicubic.proofs.unmarked.Goals as goal

pub returns : goal.returns
returns c = refl
