-- The row of weights of one axis at a node, as the laws of nodes tell it to each other.
use Prim.Native.Nat.{ℕ, ◌-◌, ◌≤◌, ◌<◌}
use mathlib.Core.Path.{◌≡◌}
use mathlib.Core.List.{List}
use lib.IntN.{ℤ}
use lib.ListN.{get_or}
use lib.Ieee.{Float, nan}
use Rattle.ieee.specs.Numbers.{one}
use Rattle.ieee.proofs.Zero.{IsZero}
use Rattle.multicubic.specs.Place.{place_of, Placed, AxisOutcome, placed}

-- four weights: one at place j, a zero of either sign at the others
pub record OneAt (j : ℕ) (w : List Float) : Type 0 where
  pub inside : j < 4
  pub one-here : get_or w j nan ≡ one
  pub zero-elsewhere : (k : ℕ) → k < 4 → (k ≡ j → ⊥) → IsZero (get_or w k nan)

-- what an axis of n entries gives for a query at its node i, l being L there: a place, and the row that is one at node i's place in the block
pub record AtNode (n : ℕ) (l : ℤ) (i : ℕ) (outcome : AxisOutcome) : Type 0 where
  pub found : Placed
  pub is : outcome ≡ placed found
  pub place_is : found.place ≡ place_of n l
  pub low : found.place.origin ≤ i
  pub row : OneAt (i - found.place.origin) found.weights
