-- The premises can be met on two axes: 0, 1, 2, 3 and -3/4, -1/2, -1/4, 0. The query 2, -0 is at node 2, 3, where the second node is +0.
use mathlib.Core.Path.{◌≡◌, refl}
use mathlib.Core.Bool.{true, false}
use mathlib.Core.List.{List, [], ◌∷◌}
use lib.IntN.{pos, negsuc}
use lib.Dec.{T, lit<, lit≤}
use lib.ListN.{get_or}
use lib.Ieee.{Float, nan, fin, Format, binary32, binary64, add, mul, of_int, lt, eq, fits}
use lib.Ieee.Scale.{finite}
use Rattle.std.specs.Prelude.{Ok}
use Rattle.multicubic.specs.Types.{Axis, accepted}
use Rattle.multicubic.specs.declared.EdgeMode.{EdgeMode}
use Rattle.multicubic.specs.declared.EdgeMode.TheVariants.{Cubic, Straight, Held}
use Rattle.multicubic.specs.Grid.{size_checks}
use Rattle.grid.specs.Query.{value_answer}
use Rattle.grid.specs.Nodes.{AtIndex, stored}
use Rattle.grid.proofs.Decide.{each, all_fit}
use Rattle.regular_query.specs.Grid.{grid_of, AllPremises}
use Rattle.regular.proofs.Guarantees.{node}

abbrev axes : List Axis
axes = record { start = fin false 0 (pos 0); step = fin false 1 (pos 0); count = 4 } ∷ record { start = fin true 3 (negsuc 1); step = fin false 1 (negsuc 1); count = 4 } ∷ []

abbrev vals : List Float
vals = fin true 3 (negsuc 1) ∷ fin false 1 (pos 2) ∷ fin false 5 (pos 0) ∷ fin false 1 (pos 2) ∷ fin false 5 (pos 0) ∷ fin true 3 (negsuc 1) ∷ fin false 5 (pos 0) ∷ fin false 1 (pos 2) ∷ fin false 5 (pos 0) ∷ fin false 1 (pos 2) ∷ fin true 3 (negsuc 1) ∷ fin false 1 (pos 2) ∷ fin false 5 (pos 0) ∷ fin false 1 (pos 2) ∷ fin false 5 (pos 0) ∷ fin true 3 (negsuc 1) ∷ []

abbrev query : List Float
query = fin false 1 (pos 1) ∷ fin true 0 (pos 0) ∷ []

premises : AllPremises axes
premises = (
  record { power = pos 0; step_is = refl; step-most = lit≤ tt; step-least = lit≤ tt; below-zero = false; steps = 0; near = lit≤ tt; start_is = (refl, refl) },
  (record { power = negsuc 1; step_is = refl; step-most = lit≤ tt; step-least = lit≤ tt; below-zero = true; steps = 3; near = lit≤ tt; start_is = (refl, refl) }, tt),
)

taken : (f : Format) (mode : EdgeMode) → (grid_of f 2 axes vals mode).checked ≡ accepted
unfolding size_checks lt
taken f mode = refl

-- in every setting
at : (f : Format) (mode : EdgeMode) → AtIndex 0 (grid_of f 2 axes vals mode).axes (2 ∷ 3 ∷ []) (λ a. get_or query a nan)
unfolding fits eq add mul of_int
at binary32 Cubic = (lit< tt, tt, (lit< tt, tt, tt))
at binary32 Straight = (lit< tt, tt, (lit< tt, tt, tt))
at binary32 Held = (lit< tt, tt, (lit< tt, tt, tt))
at binary64 Cubic = (lit< tt, tt, (lit< tt, tt, tt))
at binary64 Straight = (lit< tt, tt, (lit< tt, tt, tt))
at binary64 Held = (lit< tt, tt, (lit< tt, tt, tt))

pub met : (f : Format) (mode : EdgeMode) → (v : Float) × (value_answer f (grid_of f 2 axes vals mode) (λ a. get_or query a nan) ≡ Ok v) × T (eq v (stored (grid_of f 2 axes vals mode) (2 ∷ 3 ∷ [])))
unfolding fits
met binary32 mode = node binary32 2 axes premises (2 ∷ 3 ∷ []) (λ a. get_or query a nan) (all_fit binary32 query tt) vals mode (taken binary32 mode) (each finite vals tt) (each (fits binary32) vals tt) (at binary32 mode)
met binary64 mode = node binary64 2 axes premises (2 ∷ 3 ∷ []) (λ a. get_or query a nan) (all_fit binary64 query tt) vals mode (taken binary64 mode) (each finite vals tt) (each (fits binary64) vals tt) (at binary64 mode)
