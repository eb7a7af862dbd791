-- Which queries have no place: 9 where the coordinate is no number, 8 where it is one and clause 3.5 refuses its quotient.
use Rattle.std.proofs.Common.{◌≡◌, ℕ, Bool, true, false, cond, pos, ◌-ℤ◌, refl}
use lib.Ieee.{Float, nan, inf, Format, binary32, binary64, is_nan, sub, div}
use Rattle.ieee.specs.Numbers.{zero, one}
use Rattle.multicubic.specs.declared.LocError.TheVariants.{NotANumber, Unplaceable}
use Rattle.std.specs.Prelude.{Err, Ok}
use Rattle.multicubic.specs.declared.Place.{Place}
use Rattle.multicubic.specs.Place.{place_of}
use Rattle.multicubic.proofs.Numbers.{missing, missing-number}
use Rattle.regular_axis.specs.Place.{quotient, floor_of, refused8, loc_of}

pub loc_missing : (f : Format) (start step : Float) (n : ℕ) (x : Float) → missing (loc_of f start step n x) ≡ is_nan x
loc_missing f start step n x =
    let q = quotient f start step x in
    missing-number x _ (go (refused8 q) (place_of n (floor_of q -ℤ pos 1)))
  where
    go : (refused : Bool) (p : Place) → missing (cond refused (Err Unplaceable) (Ok p)) ≡ false
    go true p = refl
    go false p = refl

-- by computation: a NaN, whatever the axis
pub nan-missing : (f : Format) → loc_of f nan (inf false) 4 nan ≡ (Err NotANumber)
unfolding is_nan
nan-missing f = refl

-- infinity less infinity, any number less NaN, infinity by infinity
pub infinite_start : (f : Format) → loc_of f (inf false) one 4 (inf false) ≡ (Err Unplaceable)
unfolding is_nan sub div refused8
infinite_start binary32 = refl
infinite_start binary64 = refl

pub nan-start : (f : Format) → loc_of f nan one 4 zero ≡ (Err Unplaceable)
unfolding is_nan sub div refused8
nan-start binary32 = refl
nan-start binary64 = refl

pub infinite_step : (f : Format) → loc_of f zero (inf false) 4 (inf false) ≡ (Err Unplaceable)
unfolding is_nan sub div refused8
infinite_step binary32 = refl
infinite_step binary64 = refl
