-- Which queries have no place: those that are no number, and no others.
use mathlib.Core.Path.{◌≡◌, refl}
use mathlib.Core.Bool.{true}
use mathlib.Core.List.{List}
use lib.Ieee.{Float, nan, inf, is_nan, lt}
use Rattle.multicubic.specs.declared.LocError.TheVariants.{NotANumber}
use Rattle.std.specs.Prelude.{Err, Ok}
use Rattle.multicubic.specs.declared.Saturation.TheVariants.{OutsideLow}
use Rattle.multicubic.specs.Place.{origin_of, class_of}
use Rattle.multicubic.proofs.Numbers.{missing, missing-number}
use Rattle.rectilinear_axis.specs.Place.{loc_of}
use Rattle.rectilinear_axis.proofs.Examples.{axis}

pub loc_missing : (g : List Float) (x : Float) → missing (loc_of g x) ≡ is_nan x
loc_missing g x = missing-number x _ refl

-- by computation, on the axis 0, 1, 2, 4, 7: a NaN is not placed, an infinity is
pub nan-missing : loc_of axis nan ≡ (Err NotANumber)
unfolding is_nan
nan-missing = refl

pub infinity_placed : loc_of axis (inf true) ≡ Ok (record { origin = 0; class = OutsideLow })
unfolding is_nan lt origin_of class_of
infinity_placed = refl
