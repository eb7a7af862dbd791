-- Clauses 3.1, 3.4 and 3.9: origin and class from L, for an axis of n entries, where the query is a number. Each kind of axis has its own L.
use Rattle.std.specs.Prelude.{ℕ, zero, suc, ◌-◌, min, Bool, true, false, cond, List, ℤ, pos, negsuc, ltb, eqb, Float, Ok, Err}
use Rattle.std.specs.Float.Ieee.{is_nan}
use Rattle.multicubic.specs.declared.Saturation.{Saturation}
use Rattle.multicubic.specs.declared.Saturation.TheVariants.{None, InsideLow, OutsideLow, InsideHigh, OutsideHigh}
use Rattle.multicubic.specs.declared.Place.{Place}
use Rattle.multicubic.specs.declared.Check.{Check}
use Rattle.multicubic.specs.declared.LocError.TheVariants.{NotANumber}
use Rattle.multicubic.specs.Types.{Loc}
use Rattle.multicubic.specs.declared.Marks.{Marks}
use Rattle.multicubic.specs.Answers.{check_of}
use Rattle.multicubic.specs.declared.EdgeMode.{EdgeMode}
use Rattle.multicubic.specs.declared.EdgeMode.TheVariants.{Cubic, Straight, Held}

-- the block's first index: L, but not below 0 and not above n-4
unfoldable pub origin_of : ℕ → ℤ → ℕ
origin_of n (negsuc k) = 0
origin_of n (pos l) = min l (n - 4)

-- L < -1, L = -1, L = n-3, L > n-3, else None: the regular list
unfoldable pub class_of : ℕ → ℤ → Saturation
class_of n (negsuc zero) = InsideLow
class_of n (negsuc (suc k)) = OutsideLow
class_of n (pos l) = cond (eqb l (n - 3)) InsideHigh (cond (ltb (n - 3) l) OutsideHigh None)

-- L = -2, L = -1, L = n-3, L = n-2, else None: the rectilinear list, the same from -2 to n-2 (proofs/Places.antt, `lists_agree`)
unfoldable pub rectilinear_class : ℕ → ℤ → Saturation
rectilinear_class n (negsuc zero) = InsideLow
rectilinear_class n (negsuc (suc zero)) = OutsideLow
rectilinear_class n (negsuc (suc (suc k))) = None
rectilinear_class n (pos l) = cond (eqb l (n - 3)) InsideHigh (cond (eqb l (n - 2)) OutsideHigh None)

abbrev pub place_of : ℕ → ℤ → Place
place_of n l = record { origin = origin_of n l; class = class_of n l }

-- 3.9: a coordinate that is no number has no place, whatever the axis; this is asked first
abbrev pub if_number : Float → Loc → Loc
if_number x loc = cond (is_nan x) (Err NotANumber) loc

-- what stands in place of a place: past the axis count, and on refusal
abbrev pub nowhere : Place
nowhere = record { origin = 0; class = None }

-- neither mark: past the axis count, and on refusal
abbrev pub unmarked : Marks
unmarked = record { below = false; above = false }

-- `linearize_extrapolation`: past the ends, in OutsideLow and OutsideHigh, a straight line in place of the cubic
abbrev pub straight_of : EdgeMode → Bool
straight_of Cubic = false
straight_of Straight = true
straight_of Held = false

-- What an axis gives to everything above it, for a query: the check that refuses it, or the place, the four weights and the four
-- derivative weights.
pub record Placed : Type 0 where
  pub place : Place
  pub weights : List Float
  pub derivatives : List Float

pub data AxisOutcome : Type 0 where
  refused : Check → AxisOutcome
  placed : Placed → AxisOutcome

abbrev pub outcome_at : (Place → List Float) → (Place → List Float) → Loc → AxisOutcome
outcome_at weights derivatives (Err e) = refused (check_of e)
outcome_at weights derivatives (Ok p) = placed (record { place = p; weights = weights p; derivatives = derivatives p })
