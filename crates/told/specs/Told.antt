-- What a call for C leaves: its number, query and axis beside it, and what it writes.
use Rattle.std.specs.Prelude.{ℕ, cond, ◌||◌, List, [], ◌∷◌, map, Result, Ok, Err, ltb, eqb, length, take, set}
use Rattle.multicubic.specs.declared.Refusal.{Refusal}
use Rattle.multicubic.specs.Types.{Outcome}
use Rattle.multicubic.specs.declared.Marks.{Marks}
use Rattle.multicubic.specs.declared.Place.{Place}
use Rattle.multicubic.specs.declared.Saturation.{Saturation}
use Rattle.multicubic.specs.declared.Saturation.TheVariants.{None, InsideLow, OutsideLow, InsideHigh, OutsideHigh}
use Rattle.multicubic.specs.Answers.{number_of, query_of, axis_of, answer_outcome}

-- query and axis, on every number but 7, where there are entries for them
abbrev pub told : Outcome → List ℕ → List ℕ
told outcome before = cond (eqb (number_of outcome) 7 || ltb (length before) 2) before (set (set before 0 (query_of outcome)) 1 (axis_of outcome))

-- a value, where there is one
abbrev pub with_value : {A : Type 0} → Result A Refusal → List A → List A
with_value (Err r) before = before
with_value (Ok v) before = set before 0 v

-- some in place of the first entries, as far as there are any
abbrev pub over : {A : Type 0} → List A → List A → List A
over [] before = before
over (x ∷ xs) [] = []
over (x ∷ xs) (y ∷ before) = x ∷ over xs before

-- how many of a call's entries, one for each axis, are written
abbrev pub entries_of : Outcome → ℕ → ℕ
entries_of (Err r) n = 0
entries_of (Ok _) n = n

abbrev pub with_first : {A : Type 0} → Outcome → ℕ → List A → List A → List A
with_first outcome n xs before = over (take (entries_of outcome n) xs) before

-- the origins of places, and the numbers of their classes
abbrev pub origins_at : List Place → List ℕ
origins_at places = map (λ (p : Place). p.origin) places

abbrev pub class_number : Saturation → ℕ
class_number None = 0
class_number InsideLow = 1
class_number OutsideLow = 2
class_number InsideHigh = 3
class_number OutsideHigh = 4

abbrev pub class_numbers : List Place → List ℕ
class_numbers places = map (λ (p : Place). class_number p.class) places

abbrev pub with_places : Outcome → ℕ → List Place → List ℕ → List ℕ → List ℕ × List ℕ
with_places outcome n places origins classes = (with_first outcome n (origins_at places) origins, with_first outcome n (class_numbers places) classes)

-- the numbers of marks: 1 below the first entry, 2 above the last, 0 neither
abbrev pub mark_number : Marks → ℕ
mark_number m = cond m.below 1 (cond m.above 2 0)

abbrev pub mark_numbers : List Marks → List ℕ
mark_numbers pairs = map mark_number pairs

abbrev pub with_marks : Outcome → ℕ → List Marks → List ℕ → List ℕ
with_marks outcome n pairs before = with_first outcome n (mark_numbers pairs) before

-- the number of four-term sums that were taken, on every number but 7: entry 0
abbrev pub with_sums : Outcome → ℕ → List ℕ → List ℕ
with_sums outcome taken before = cond (eqb (number_of outcome) 7) before (set before 0 taken)

-- a value and a gradient, where there are any, and the number of sums
abbrev pub with_both : {A : Type 0} → Result A Refusal → ℕ → List A → ℕ → List A → List A → List ℕ → (List A × List A) × List ℕ
with_both answer n components taken value gradient sums =
    ((with_value answer value, with_first (answer_outcome answer) n components gradient), with_sums (answer_outcome answer) taken sums)

-- what a call leaves: its number, the slice `refusal` and what is written besides
pub record Leaves (W : Type 0) : Type 0 where
  pub number : ℕ
  pub refusal : List ℕ
  pub written : W

abbrev pub leaves : {W : Type 0} → Outcome → List ℕ → W → Leaves W
leaves outcome refusal written = record { number = number_of outcome; refusal = told outcome refusal; written = written }

-- and beside it, of a single query, the marks: as many as there are axes
abbrev pub leaves_marked : {W : Type 0} → Outcome → List ℕ → W → ℕ → List Marks → List ℕ → Leaves (W × List ℕ)
leaves_marked outcome refusal written n pairs marks = leaves outcome refusal (written, with_marks outcome n pairs marks)
