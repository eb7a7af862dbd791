-- What internal functions ask of each other; none of it need be believed.
use Rattle.std.specs.Prelude.{ℕ, ◌≡◌, List, take, Float}
use Rattle.multicubic.specs.Types.{accepted}
use Rattle.reduction.specs.Value.{strides_of}
use Rattle.rectilinear_query.specs.Grid.{checks_of}

-- accepted with some number of values
pub record Taken (n : ℕ) (counts : List ℕ) (joined : List Float) : Type 0 where
  pub values : ℕ
  pub checked : checks_of n counts joined values ≡ accepted

-- accepted with so many, and its strides
pub record Ready (n : ℕ) (counts : List ℕ) (joined : List Float) (values : ℕ) (strides : List ℕ) : Type 0 where
  pub checked : checks_of n counts joined values ≡ accepted
  pub spaced : take n strides ≡ strides_of (take n counts)
