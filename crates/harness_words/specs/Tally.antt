-- A class as a word, and what a comparison answers and does to a tally.
use Rattle.std.specs.Prelude.{ℕ, ◌+◌, ◌%◌, ◌^◌, cond, ◌==◌, Result, Ok, Err}
use Rattle.multicubic.specs.declared.Saturation.{Saturation}
use Rattle.multicubic.specs.declared.Saturation.TheVariants.{None, InsideLow, OutsideLow, InsideHigh, OutsideHigh}
use Rattle.harness_words.specs.declared.Call.{Call}
use Rattle.harness_words.specs.declared.Part.{Part}
use Rattle.harness_words.specs.declared.Difference.{Difference}
use Rattle.harness_words.specs.declared.Tally.{Tally}

-- the corpus's number for a class
abbrev pub class_of : Saturation → ℕ
class_of None = 0
class_of InsideLow = 1
class_of OutsideLow = 2
class_of InsideHigh = 3
class_of OutsideHigh = 4

-- one comparison more
abbrev pub agreed : Tally → Tally
agreed t =
    record {
      groups = t.groups;
      queries = t.queries;
      comparisons = (t.comparisons + 1) % 2 ^ 64;
      query = t.query;
    }

-- none, or the difference
abbrev pub compared : Call → Part → ℕ → ℕ → ℕ → Result Unit Difference
compared call part place expected found =
    cond (expected == found) (Ok tt) (Err (record { call = call; part = part; place = place; expected = expected; found = found }))
