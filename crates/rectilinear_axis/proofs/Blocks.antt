-- A query at a node of a block g0, g1, g2, g3: its row of weights is one at the node's place.
use mathlib.Core.Bool.{Bool, true, false}
use mathlib.Core.List.{[], ◌∷◌}
use lib.Dec.{T}
use lib.Ieee.{Float, Format, sub, neg, div, fits}
use lib.Ieee.Scale.{finite}
use Rattle.ieee.specs.Numbers.{one}
use Rattle.ieee.proofs.ZeroOne.{Same, same_refl, same_trans}
use Rattle.ieee.proofs.Cancel.{neg-zero, neg_same, sub_self_nil, sub_swap, sub_same_left, sub_same_zero, div_same_one, div-zero}
use Rattle.ieee.proofs.Bound.{Between}
use Rattle.multicubic.specs.declared.Saturation.TheVariants.{None, InsideLow, OutsideLow, InsideHigh}
use Rattle.multicubic.proofs.Nodes.{OneAt}
use Rattle.rectilinear_weights.specs.Weights.{low_of}
use Rattle.rectilinear_axis.specs.Weights.{weights_of}
use Rattle.rectilinear_weights.proofs.Slopes.{one-between, ratio, slopes}
use Rattle.rectilinear_weights.proofs.Rows.{at_one, at_zero, interior-row, low-row-one, low-row-zero, high_row, line_row}

-- finite, and held by the format
abbrev pub Held : Format → Float → Type 0
Held f v = T (finite v) × T (fits f v)

-- a gap within the premises
abbrev pub Gap : Format → Float → Float → Type 0
Gap f a b = Between 20 20 (sub f b a)

module _ (f : Format) (straight : Bool) (g0 g1 g2 g3 x : Float) where
  pub mid : Held f g1 → Gap f g0 g1 → Gap f g1 g2 → Gap f g2 g3 → Same x g2 → OneAt 2 (weights_of f None straight (g0 ∷ g1 ∷ g2 ∷ g3 ∷ []) x)
  mid k a b c h =
      rw (div_same_one f (sub f x g1) (sub f g2 g1) b.is_pos (sub_same_left f x g2 g1 k.0 k.1 h))
      (interior-row f _ _ _ (at_one f) (slopes f _ _ (ratio f _ _ a b) one-between) (slopes f _ _ one-between (ratio f _ _ c b)))

  pub last : Held f g2 → Gap f g1 g2 → Gap f g2 g3 → Same x g3 → OneAt 3 (weights_of f InsideHigh straight (g0 ∷ g1 ∷ g2 ∷ g3 ∷ []) x)
  last k a b h =
      rw (div_same_one f (sub f x g2) (sub f g3 g2) b.is_pos (sub_same_left f x g3 g2 k.0 k.1 h))
      (high_row f _ _ (at_one f) (slopes f _ _ (ratio f _ _ a b) one-between))

  pub second : Held f g1 → Gap f g0 g1 → Gap f g1 g2 → Same x g1 → OneAt 1 (weights_of f InsideLow straight (g0 ∷ g1 ∷ g2 ∷ g3 ∷ []) x)
  second k a b h =
      let z = div-zero f (neg (sub f x g1)) (sub f g1 g0) a.is_pos (neg-zero (sub f x g1) (sub_same_zero f x g1 k.0 k.1 h)) in
      low-row-zero f _ _ (at_zero f _ z) (slopes f _ _ one-between (ratio f _ _ b a))

  pub first : Held f g0 → Held f g1 → Gap f g0 g1 → Gap f g1 g2 → Same x g0 → OneAt 0 (weights_of f OutsideLow straight (g0 ∷ g1 ∷ g2 ∷ g3 ∷ []) x)
  first j k a b h =
      rw (div_same_one f (neg (sub f x g1)) (sub f g1 g0) a.is_pos
      (same_trans _ _ _ (neg_same _ _ (sub_same_left f x g0 g1 k.0 k.1 h)) (sub_swap f g1 g0 k.0 j.0)))
      (either straight)
    where
      either : (straight : Bool) → OneAt 0 (low_of f one (div f (sub f g2 g1) (sub f g1 g0)) straight)
      either true = line_row f _ _ (false, sub_self_nil f one tt) (slopes f _ _ one-between (ratio f _ _ b a))
      either false = low-row-one f _ _ (at_one f) (slopes f _ _ one-between (ratio f _ _ b a))

-- clause 9.4, must-fail/nearest_point.edit: by x2 in place of x every query of class None has the row of the stored point at or above it, and a node its
-- own. The rows at the nodes do not tell that reader from this one; the contracts do
pub row-above : (f : Format) (straight : Bool) (g0 g1 g2 g3 : Float) → Held f g1 → Gap f g0 g1 → Gap f g1 g2 → Gap f g2 g3 → OneAt 2 (weights_of f None straight (g0 ∷ g1 ∷ g2 ∷ g3 ∷ []) g2)
row-above f straight g0 g1 g2 g3 k a b c = mid f straight g0 g1 g2 g3 g2 k a b c (same_refl g2)
