-- `new`: checks 1 to 4 leave at most four axes to check 5.
use mathlib.Core.Path.{sym, ◌∙◌}
use Rattle.multicubic.proofs.Passed.{accepted}
use Rattle.regular_f32.proofs.new.Goals as goal

pub first_not_rising-requires : goal.first_not_rising-requires
first_not_rising-requires c = (accepted _ _ _ _ (sym c.check_sizes.ensures ∙ c.in_ok-check_sizes.was)).few
