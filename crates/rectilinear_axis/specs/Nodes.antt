-- Clause 8.2, rectilinear: the premises on an axis. Node i is entry i.
use Rattle.std.specs.Prelude.{ℕ, suc, ◌<◌, false, List, pos, negsuc, T, length, get_or, Float}
use Rattle.std.specs.Float.{nan, fin, Format}
use Rattle.std.specs.Float.Ieee.{sub, le}

-- every gap, an entry less the one before it, one rounded subtraction, is from 2^-20 to 2^20
pub record Premises (f : Format) (g : List Float) : Type 0 where
  pub least : (i : ℕ) → suc i < length g → T (le (fin false 1 (negsuc 19)) (sub f (get_or g (suc i) nan) (get_or g i nan)))
  pub most : (i : ℕ) → suc i < length g → T (le (sub f (get_or g (suc i) nan) (get_or g i nan)) (fin false 1 (pos 20)))
