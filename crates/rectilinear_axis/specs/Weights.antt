-- Clauses 4.2, 4.4 and 4.8, rectilinear, by the class of the place. g is the block's four entries.
use Rattle.std.specs.Prelude.{ℕ, Bool, false, List, get_or, take, drop, Float}
use Rattle.std.specs.Float.{nan, Format}
use Rattle.std.specs.Float.Ieee.{sub, div, neg}
use Rattle.ieee.specs.Numbers.{one}
use Rattle.interp_math.specs.Basis.{hermite_basis, hermite_basis_derivative, scaled}
use Rattle.multicubic.specs.declared.Place.{Place}
use Rattle.multicubic.specs.declared.Saturation.{Saturation}
use Rattle.multicubic.specs.declared.Saturation.TheVariants.{None, InsideLow, OutsideLow, InsideHigh, OutsideHigh}
use Rattle.rectilinear_weights.specs.Weights.{centered_difference, interior, low_of, low_slope_of, high_of, high_slope_of}

-- the gap between points i and j of the block
abbrev pub gap : Format → List Float → ℕ → ℕ → Float
gap f g i j = sub f (get_or g j nan) (get_or g i nan)

-- t by the class's gap: between points 1 and 2 inside, 0 and 1 at the low end (negated), 2 and 3 at the high end (from point 2)
abbrev pub t_inside : Format → List Float → Float → Float
t_inside f g x = div f (sub f x (get_or g 1 nan)) (gap f g 1 2)

abbrev pub t_low : Format → List Float → Float → Float
t_low f g x = div f (neg (sub f x (get_or g 1 nan))) (gap f g 0 1)

abbrev pub t_high : Format → List Float → Float → Float
t_high f g x = div f (sub f x (get_or g 2 nan)) (gap f g 2 3)

abbrev pub ratio_low : Format → List Float → Float
ratio_low f g = div f (gap f g 1 2) (gap f g 0 1)

abbrev pub ratio_high : Format → List Float → Float
ratio_high f g = div f (gap f g 1 2) (gap f g 2 3)

-- the slopes at points 1 and 2
abbrev pub slope_one : Format → List Float → List Float
slope_one f g = centered_difference f (div f (gap f g 0 1) (gap f g 1 2)) one

abbrev pub slope_two : Format → List Float → List Float
slope_two f g = centered_difference f one (div f (gap f g 2 3) (gap f g 1 2))

-- Only the Outside classes follow the straight line.
abbrev pub weights_of : Format → Saturation → Bool → List Float → Float → List Float
weights_of f None straight g x = interior f (hermite_basis f (t_inside f g x)) (slope_one f g) (slope_two f g)
weights_of f InsideLow straight g x = low_of f (t_low f g x) (ratio_low f g) false
weights_of f OutsideLow straight g x = low_of f (t_low f g x) (ratio_low f g) straight
weights_of f InsideHigh straight g x = high_of f (t_high f g x) (ratio_high f g) false
weights_of f OutsideHigh straight g x = high_of f (t_high f g x) (ratio_high f g) straight

-- scaled by the rounded 1 / gap, negated at the low end
abbrev pub derivatives_of : Format → Saturation → Bool → List Float → Float → List Float
derivatives_of f None straight g x = scaled f (div f one (gap f g 1 2)) (interior f (hermite_basis_derivative f (t_inside f g x)) (slope_one f g) (slope_two f g))
derivatives_of f InsideLow straight g x = scaled f (div f (neg one) (gap f g 0 1)) (low_slope_of f (t_low f g x) (ratio_low f g) false)
derivatives_of f OutsideLow straight g x = scaled f (div f (neg one) (gap f g 0 1)) (low_slope_of f (t_low f g x) (ratio_low f g) straight)
derivatives_of f InsideHigh straight g x = scaled f (div f one (gap f g 2 3)) (high_slope_of f (t_high f g x) (ratio_high f g) false)
derivatives_of f OutsideHigh straight g x = scaled f (div f one (gap f g 2 3)) (high_slope_of f (t_high f g x) (ratio_high f g) straight)

-- the block's four entries
abbrev pub cell_of : List Float → ℕ → List Float
cell_of g origin = take 4 (drop origin g)

-- the weights and derivative weights of a query at a place
abbrev pub weights_at : Format → List Float → Bool → Float → Place → List Float
weights_at f g straight x p = weights_of f p.class straight (cell_of g p.origin) x

abbrev pub derivatives_at : Format → List Float → Bool → Float → Place → List Float
derivatives_at f g straight x p = derivatives_of f p.class straight (cell_of g p.origin) x
