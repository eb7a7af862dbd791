-- Clause 8.2, regular: the premises on an axis.
use Rattle.std.specs.Prelude.{◌≡◌, ℕ, ◌*◌, ◌^◌, ◌≤◌, Bool, false, ℤ, Float}
use Rattle.std.specs.Float.{fin}
use Rattle.std.specs.Float.Ieee.{up, down}
use Rattle.std.specs.Float.Ieee.Exact.{HasValue}

-- the step is 2^e, e from -20 to 20, and the start k steps, k a whole number from -2^20 to 2^20
pub record Premises (start step : Float) : Type 0 where
  pub power : ℤ
  pub step_is : step ≡ fin false 1 power
  pub step-most : up power ≤ 2 ^ 20
  pub step-least : down power ≤ 2 ^ 20
  pub below-zero : Bool
  pub steps : ℕ
  pub near : steps ≤ 2 ^ 20
  pub start_is : HasValue start below-zero (steps * up power) (down power)
