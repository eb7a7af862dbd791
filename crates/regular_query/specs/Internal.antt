-- What internal functions ask of each other; none of it need be believed.
use Rattle.std.specs.Prelude.{ℕ, ◌≡◌, List, take}
use Rattle.multicubic.specs.Types.{Axis, accepted}
use Rattle.reduction.specs.Value.{strides_of}
use Rattle.regular_query.specs.Grid.{counts_of, checks_of}

-- accepted with some number of values
pub record Taken (n : ℕ) (axes : List Axis) : Type 0 where
  pub values : ℕ
  pub checked : checks_of n axes values ≡ accepted

-- accepted with so many, and its strides
pub record Ready (n : ℕ) (axes : List Axis) (values : ℕ) (strides : List ℕ) : Type 0 where
  pub checked : checks_of n axes values ≡ accepted
  pub spaced : take n strides ≡ strides_of (take n (counts_of axes))
