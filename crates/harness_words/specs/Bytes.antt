-- Words of bytes.
use Rattle.std.specs.Prelude.{ℕ, ◌+◌, ◌*◌, List, slice_index}

abbrev pub pair_at : List ℕ → ℕ → ℕ
pair_at s at = slice_index s at + slice_index s (at + 1) * 256

-- eight bytes as a number, the lowest first
abbrev pub word_at : List ℕ → ℕ → ℕ
word_at s at =
    pair_at s at + (slice_index s (at + 2) + slice_index s (at + 3) * 256) * 65536 + (slice_index s (at + 4) + slice_index s (at + 5) * 256) * 4294967296
    + (slice_index s (at + 6) + slice_index s (at + 7) * 256) * 281474976710656
