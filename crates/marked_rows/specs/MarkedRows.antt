-- Clause 9.1: the marked cases, seven regular rows and five rectilinear ones, and three of them where the edges are held.
use Rattle.std.specs.Prelude.{ℕ, Bool, true, false, List, [], ◌∷◌, pos, negsuc, Ok, Err, Float}
use Rattle.std.specs.Float.{fin, Format}
use Rattle.multicubic.specs.declared.Saturation.{Saturation}
use Rattle.multicubic.specs.declared.Saturation.TheVariants.{None, InsideLow, OutsideLow, InsideHigh, OutsideHigh}
use Rattle.multicubic.specs.declared.Marks.{Marks}
use Rattle.multicubic.specs.Types.{Loc}
use Rattle.multicubic.specs.Answers.{number_of, place_outcome}
use Rattle.multicubic.specs.declared.EdgeMode.{EdgeMode}
use Rattle.multicubic.specs.declared.EdgeMode.TheVariants.{Cubic, Straight, Held}
use Rattle.grid.specs.Query.{GridAxis, marks_at}
use Rattle.regular_query.specs.Grid as Regular
use Rattle.rectilinear_query.specs.Grid as Rectilinear

pub data Axis : Type 0 where
  regular : Float → Float → ℕ → Axis
  rectilinear : List Float → Axis

pub data Told : Type 0 where
  place : ℕ → Saturation → Bool → Bool → Told
  refused : ℕ → Told

pub record Row : Type 0 where
  pub axis : Axis
  pub query : Float
  pub expected : Told

abbrev pub axis_of : Format → EdgeMode → Axis → GridAxis
axis_of f mode (regular start step n) = Regular.axis_in f mode (record { start = start; step = step; count = n })
axis_of f mode (rectilinear entries) = Rectilinear.axis_in f mode entries

-- origin, class and whether the query is marked below or above, or the number of clause 2.2
abbrev pub told : Marks → Loc → Told
told m (Ok p) = place p.origin p.class m.below m.above
told m (Err error) = refused (number_of (place_outcome 0 0 (Err error)))

abbrev pub answer : Format → EdgeMode → Row → Told
answer f mode r = told (marks_at (axis_of f mode r.axis) r.query) ((axis_of f mode r.axis).loc r.query)

-- start 0, step 1, n = 5
abbrev regular_row : Float → Told → Row
regular_row x e = record { axis = regular (fin false 0 (pos 0)) (fin false 1 (pos 0)) 5; query = x; expected = e }

-- 0, 1, 2, 4, 7
abbrev rectilinear_row : Float → Told → Row
rectilinear_row x e = record {
  axis = rectilinear (fin false 0 (pos 0) ∷ fin false 1 (pos 0) ∷ fin false 1 (pos 1) ∷ fin false 1 (pos 2) ∷ fin false 7 (pos 0) ∷ []);
  query = x;
  expected = e;
}

-- the regular rows, then the rectilinear ones; marked are the first, below, and the last, above
unfoldable pub rows : List Row
rows =
    regular_row (fin true 1 (negsuc 0)) (place 0 OutsideLow true false)
    ∷ regular_row (fin false 0 (pos 0)) (place 0 InsideLow false false)
    ∷ regular_row (fin false 1 (pos 0)) (place 0 None false false)
    ∷ regular_row (fin false 5 (negsuc 0)) (place 1 None false false)
    ∷ regular_row (fin false 3 (pos 0)) (place 1 InsideHigh false false)
    ∷ regular_row (fin false 1 (pos 2)) (place 1 OutsideHigh false false)
    ∷ regular_row (fin false 1 (pos 63)) (refused 8)
    ∷ rectilinear_row (fin false 0 (pos 0)) (place 0 OutsideLow false false)
    ∷ rectilinear_row (fin false 1 (pos 0)) (place 0 InsideLow false false)
    ∷ rectilinear_row (fin false 1 (pos 2)) (place 1 None false false)
    ∷ rectilinear_row (fin false 7 (pos 0)) (place 1 InsideHigh false false)
    ∷ rectilinear_row (fin false 1 (pos 3)) (place 1 OutsideHigh false true)
    ∷ []

-- held, the queries past an end have the places of its node, and their marks
unfoldable pub held_rows : List Row
held_rows =
    regular_row (fin true 1 (negsuc 0)) (place 0 InsideLow true false)
    ∷ regular_row (fin false 1 (pos 63)) (place 1 OutsideHigh false true)
    ∷ rectilinear_row (fin false 1 (pos 3)) (place 1 InsideHigh false true)
    ∷ []

abbrev pub rows_in : EdgeMode → List Row
rows_in Cubic = rows
rows_in Straight = rows
rows_in Held = held_rows
