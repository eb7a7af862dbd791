-- What slices of any length add to the calls: the counts and the query are gathered from them, and those that are too short are refused. The
-- setting comes as a number; one that names none is refused with them.
use Rattle.std.specs.Prelude.{ℕ, min, Bool, cond, ◌||◌, List, [], ◌∷◌, Ok, Err, ltb, eqb, get_or, Float}
use Rattle.ieee.specs.Numbers.{zero}
use Rattle.multicubic.specs.declared.Check.{Check}
use Rattle.multicubic.specs.declared.Check.TheVariants.{WrongLength, BatchLength}
use Rattle.multicubic.specs.declared.EdgeMode.{EdgeMode}
use Rattle.multicubic.specs.declared.EdgeMode.TheVariants.{Cubic, Straight, Held}
use Rattle.multicubic.specs.Types.{Outcome}
use Rattle.multicubic.specs.Answers.{check_number}
use Rattle.multicubic.specs.Grid.{refuse, ◌then◌}

-- ---- gathered
-- the first four entries, with another in place of what is missing
abbrev pub four_from : {A : Type 0} → A → List A → List A
four_from other xs = get_or xs 0 other ∷ get_or xs 1 other ∷ get_or xs 2 other ∷ get_or xs 3 other ∷ []

-- a count that is missing is 1, so that check 2 looks only at those that are there
abbrev pub counts_from : List ℕ → List ℕ
counts_from counts = four_from 1 counts

abbrev pub query_from : List Float → List Float
query_from x = four_from zero x

-- ---- the setting
-- by its number; a call with a number above 2 is refused, so it does not matter which setting that has
abbrev pub mode_of : ℕ → EdgeMode
mode_of mode = cond (eqb mode 0) Cubic (cond (eqb mode 1) Straight Held)

-- a number above 2 names no setting, and is refused as a slice without entries is
abbrev pub named_by : ℕ → ℕ → ℕ
named_by mode shortest = cond (ltb 2 mode) 0 shortest

-- ---- too short
-- the slices of a call without a single query: 3 where the shortest that is read has fewer than n entries, 7 where `refusal` has fewer than two
unfoldable pub slices_of : ℕ → ℕ → ℕ → Outcome
slices_of n shortest refusal = refuse (ltb shortest n) WrongLength then refuse (ltb refusal 2) BatchLength

-- those of a single query: its coordinates are read too, and 7 where what is to be written has less room than it needs, or the marks less than one
-- entry for each axis
unfoldable pub query_slices_of : ℕ → ℕ → ℕ → ℕ → ℕ → ℕ → ℕ → Outcome
query_slices_of n shortest query refusal room need marks = slices_of n (min shortest query) refusal then refuse (ltb room need) BatchLength then refuse (ltb marks n) BatchLength

-- whether the grid's own refusal comes before the slices': these are refused with 3 or 7, and of the grid's only 1 and 2 come before 3, and all before 7
abbrev pub grid_first : Check → Check → Bool
grid_first own short = ltb (check_number own) 3 || eqb (check_number short) 7

-- of the slices' refusal and the grid's own the one whose check comes first
abbrev pub earlier : Outcome → Outcome → Outcome
earlier (Ok _) checked = checked
earlier (Err short) (Ok _) = Err short
earlier (Err short) (Err own) = cond (grid_first own.check short.check) (Err own) (Err short)
