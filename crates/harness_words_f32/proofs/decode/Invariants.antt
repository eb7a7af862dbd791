-- Both buffers keep their length.
use Rattle.std.proofs.Common.{◌≡◌, length}
use Rattle.harness_words_f32.proofs.decode.Given as goal

abbrev pub invariant-loop-i : goal.invariant-loop-i
invariant-loop-i l = (length l.words ≡ 131072) × (length l.floats ≡ 131072)
