-- One lemma about the lists of rows: in each setting and either format each row computes to what clause 9.1 gives for it.
use mathlib.Core.Path.{◌≡◌, refl}
use mathlib.Core.List.{map}
use lib.Ieee.{Format, binary32, binary64, add, sub, mul, div, of_int, lt, le, is_nan}
use Rattle.multicubic.specs.declared.EdgeMode.{EdgeMode}
use Rattle.multicubic.specs.declared.EdgeMode.TheVariants.{Cubic, Straight, Held}
use Rattle.multicubic.specs.Place.{origin_of, class_of}
use Rattle.regular_axis.specs.Place.{floor_of, refused8}
use Rattle.marked_rows.specs.MarkedRows.{Row, answer, rows, held_rows, rows_in}

pub marked_rows : (f : Format) (mode : EdgeMode) → map (answer f mode) (rows_in mode) ≡ map (λ (r : Row). r.expected) (rows_in mode)
unfolding rows held_rows origin_of class_of floor_of refused8 add sub mul div of_int lt le is_nan
marked_rows binary32 Cubic = refl
marked_rows binary32 Straight = refl
marked_rows binary32 Held = refl
marked_rows binary64 Cubic = refl
marked_rows binary64 Straight = refl
marked_rows binary64 Held = refl
