-- Clauses 4.4, 4.6 and 4.8, rectilinear, by t: each operation rounded, in the Rust's order. h is the basis h00, h10, h01, h11, or its derivative;
-- k, k0 and k1 are three-point slopes.
use Rattle.std.specs.Prelude.{Bool, true, false, List, [], ◌∷◌, get_or, Float}
use Rattle.std.specs.Float.{nan, Format}
use Rattle.std.specs.Float.Ieee.{add, sub, mul, div, neg}
use Rattle.ieee.specs.Numbers.{zero, one}
use Rattle.interp_math.specs.Basis.{mul_add, two, hermite_basis, hermite_basis_derivative}

-- the slope at the middle of three points with gaps h01 and h12: the weights of the three values
unfoldable pub centered_difference : Format → Float → Float → List Float
centered_difference f h01 h12 =
    let denom = add f h01 h12 in
    let a = div f h01 denom in
    let c = div f h12 denom in
    div f (neg c) h01 ∷ mul_add f c (div f one h01) (div f (neg a) h12) ∷ div f a h12 ∷ []

unfoldable pub interior : Format → List Float → List Float → List Float → List Float
interior f h k0 k1 =
    let h00 = get_or h 0 nan in
    let h10 = get_or h 1 nan in
    let h01 = get_or h 2 nan in
    let h11 = get_or h 3 nan in
    mul f h10 (get_or k0 0 nan)
    ∷ add f (add f h00 (mul f h10 (get_or k0 1 nan))) (mul f h11 (get_or k1 0 nan))
    ∷ add f (add f h01 (mul f h10 (get_or k0 2 nan))) (mul f h11 (get_or k1 1 nan))
    ∷ mul f h11 (get_or k1 2 nan)
    ∷ []

-- The slope at the end point and k, that of the point beside it, have the secant for their mean. The unused weight is +0: the last at the
-- low end, the first at the high end.
unfoldable pub cubic_low : Format → List Float → List Float → List Float
cubic_low f h k =
    let h00 = get_or h 0 nan in
    let h01 = get_or h 2 nan in
    let h11 = get_or h 3 nan in
    let slope = sub f h11 (get_or h 1 nan) in
    add f (add f h01 (mul f (two f) h11)) (mul f slope (get_or k 0 nan))
    ∷ add f (sub f h00 (mul f (two f) h11)) (mul f slope (get_or k 1 nan))
    ∷ mul f slope (get_or k 2 nan)
    ∷ zero
    ∷ []

unfoldable pub cubic_high : Format → List Float → List Float → List Float
cubic_high f h k =
    let h00 = get_or h 0 nan in
    let h01 = get_or h 2 nan in
    let h11 = get_or h 3 nan in
    let slope = sub f (get_or h 1 nan) h11 in
    zero
    ∷ mul f slope (get_or k 0 nan)
    ∷ add f (sub f h00 (mul f (two f) h11)) (mul f slope (get_or k 1 nan))
    ∷ add f (add f h01 (mul f (two f) h11)) (mul f slope (get_or k 2 nan))
    ∷ []

-- the straight line, s past the end point, and its slope
unfoldable pub straight_low : Format → Float → List Float → List Float
straight_low f s k =
    add f one (mul f s (add f (two f) (get_or k 0 nan)))
    ∷ mul f s (add f (neg (two f)) (get_or k 1 nan))
    ∷ mul f s (get_or k 2 nan)
    ∷ zero
    ∷ []

unfoldable pub straight_high : Format → Float → List Float → List Float
straight_high f s k =
    zero
    ∷ mul f (neg s) (get_or k 0 nan)
    ∷ mul f s (sub f (neg (two f)) (get_or k 1 nan))
    ∷ add f one (mul f s (sub f (two f) (get_or k 2 nan)))
    ∷ []

unfoldable pub straight_low_slope : Format → List Float → List Float
straight_low_slope f k = add f (two f) (get_or k 0 nan) ∷ add f (neg (two f)) (get_or k 1 nan) ∷ get_or k 2 nan ∷ zero ∷ []

unfoldable pub straight_high_slope : Format → List Float → List Float
straight_high_slope f k = zero ∷ neg (get_or k 0 nan) ∷ sub f (neg (two f)) (get_or k 1 nan) ∷ sub f (two f) (get_or k 2 nan) ∷ []

-- an end's weights and their derivatives by t; ratio is the gap beside the end's gap, over it
abbrev pub low_of : Format → Float → Float → Bool → List Float
low_of f t ratio true = straight_low f (sub f t one) (centered_difference f one ratio)
low_of f t ratio false = cubic_low f (hermite_basis f t) (centered_difference f one ratio)

abbrev pub low_slope_of : Format → Float → Float → Bool → List Float
low_slope_of f t ratio true = straight_low_slope f (centered_difference f one ratio)
low_slope_of f t ratio false = cubic_low f (hermite_basis_derivative f t) (centered_difference f one ratio)

abbrev pub high_of : Format → Float → Float → Bool → List Float
high_of f t ratio true = straight_high f (sub f t one) (centered_difference f ratio one)
high_of f t ratio false = cubic_high f (hermite_basis f t) (centered_difference f ratio one)

abbrev pub high_slope_of : Format → Float → Float → Bool → List Float
high_slope_of f t ratio true = straight_high_slope f (centered_difference f ratio one)
high_slope_of f t ratio false = cubic_high f (hermite_basis_derivative f t) (centered_difference f ratio one)
