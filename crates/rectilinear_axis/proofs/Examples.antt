-- The premises can be met: the axis 0, 1, 2, 4, 7 in both formats, and the theorem at its node 0 for the query -0.
use mathlib.Core.Bool.{Bool, true, false}
use mathlib.Core.List.{List, [], ◌∷◌}
use Prim.Native.Nat.{ℕ, zero, suc, ◌<◌}
use native.Mathlib.Omega.{arith}
use lib.IntN.{pos, negsuc, ◌-ℤ◌}
use lib.Dec.{T, lit<, lit≤}
use lib.ListN.{length, get_or}
use lib.Ieee.{Float, nan, fin, Format, binary32, binary64, sub, le, eq, fits}
use Rattle.multicubic.proofs.Nodes.{AtNode}
use Rattle.rectilinear_axis.specs.Nodes.{Premises}
use Rattle.rectilinear_weights.proofs.Rows.{each}
use Rattle.rectilinear_axis.proofs.AtNodes.{at-node, outcome_of}

abbrev pub axis : List Float
axis = fin false 0 (pos 0) ∷ fin false 1 (pos 0) ∷ fin false 1 (pos 1) ∷ fin false 1 (pos 2) ∷ fin false 7 (pos 0) ∷ []

-- entry k + 1, and the gap below it
abbrev Good : Format → ℕ → Type 0
Good f k =
    let gap = sub f (get_or axis (suc k) nan) (get_or axis k nan) in
    T (fits f (get_or axis (suc k) nan)) × T (le (fin false 1 (negsuc 19)) gap) × T (le gap (fin false 1 (pos 20)))

good : (f : Format) (k : ℕ) → k < 4 → Good f k
unfolding fits sub le
good binary32 k h = each (Good binary32) (tt, tt, tt) (tt, tt, tt) (tt, tt, tt) (tt, tt, tt) k h
good binary64 k h = each (Good binary64) (tt, tt, tt) (tt, tt, tt) (tt, tt, tt) (tt, tt, tt) k h

pub axis-fits : (f : Format) (k : ℕ) → k < length axis → T (fits f (get_or axis k nan))
axis-fits f zero h = unfold fits in tt
axis-fits f (suc k) h = (good f k (omega arith)).0

pub axis_ok : (f : Format) → Premises f axis
axis_ok f = record { least = λ i h. (good f i (omega arith)).1; most = λ i h. (good f i (omega arith)).2 }

pub at_minus_zero : (f : Format) (straight : Bool) → AtNode 5 (pos 0 -ℤ pos 2) 0 (outcome_of f axis straight (fin true 0 (pos 0)))
unfolding fits eq
at_minus_zero f straight = at-node f straight axis (lit≤ tt) (axis-fits f) (axis_ok f) 0 (lit< tt) (fin true 0 (pos 0)) tt tt
