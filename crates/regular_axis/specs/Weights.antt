-- Clauses 4.2, 4.3, 4.6 and 4.8, regular, each operation rounded, in the Rust's order. h is the basis h00, h10, h01, h11, or its derivative.
use Rattle.std.specs.Prelude.{ℕ, suc, Bool, true, false, List, [], ◌∷◌, get_or, pos, slice_index_or, Float}
use Rattle.std.specs.Float.{nan, Format}
use Rattle.std.specs.Float.Ieee.{add, sub, mul, div, neg, of_int}
use Rattle.ieee.specs.Numbers.{zero, one}
use Rattle.interp_math.specs.Basis.{two, hermite_basis, hermite_basis_derivative}
use Rattle.multicubic.specs.declared.Place.{Place}
use Rattle.multicubic.specs.declared.Saturation.{Saturation}
use Rattle.multicubic.specs.declared.Saturation.TheVariants.{None, InsideLow, OutsideLow, InsideHigh, OutsideHigh}
use Rattle.interp_math.specs.Basis.{scaled}

-- start + step × i, two rounded operations
abbrev pub node : Format → Float → Float → ℕ → Float
node f start step i = add f start (mul f step (of_int f (pos i)))

-- t: how many steps the query lies past point 1 of its block, the node of origin + 1
abbrev pub t_of : Format → Float → Float → ℕ → Float → Float
t_of f start step origin x = div f (sub f x (node f start step (suc origin))) step

-- -h10/2, h00-h11/2, h01+h10/2, h11/2
unfoldable pub interior : Format → List Float → List Float
interior f h =
    let h00 = get_or h 0 nan in
    let h10 = get_or h 1 nan in
    let h01 = get_or h 2 nan in
    let h11 = get_or h 3 nan in
    div f (neg h10) (two f) ∷ sub f h00 (div f h11 (two f)) ∷ add f h01 (div f h10 (two f)) ∷ div f h11 (two f) ∷ []

abbrev pub one_and_half : Format → Float
one_and_half f = add f one (div f one (two f))

-- An end's weights: of the end point, the one beside it, and the next. The slopes at the first two of them have the secant for their mean.
unfoldable pub cubic_end : Format → List Float → List Float
cubic_end f h =
    let h00 = get_or h 0 nan in
    let h10 = get_or h 1 nan in
    let h01 = get_or h 2 nan in
    let h11 = get_or h 3 nan in
    add f (add f h01 (div f h10 (two f))) (mul f (one_and_half f) h11) ∷ sub f h00 (mul f (two f) h11) ∷ div f (sub f h11 h10) (two f) ∷ []

-- the straight line, s past the end point
unfoldable pub straight_end : Format → Float → List Float
straight_end f s = add f one (mul f s (one_and_half f)) ∷ mul f (neg (two f)) s ∷ div f s (two f) ∷ []

unfoldable pub straight_end_slope : Format → List Float
straight_end_slope f = one_and_half f ∷ neg (two f) ∷ div f one (two f) ∷ []

-- the unused weight is +0: the last at the low end, the first at the high end
abbrev pub at_low : List Float → List Float
at_low e = slice_index_or e 0 nan ∷ slice_index_or e 1 nan ∷ slice_index_or e 2 nan ∷ zero ∷ []

abbrev pub at_high : List Float → List Float
at_high e = zero ∷ slice_index_or e 2 nan ∷ slice_index_or e 1 nan ∷ slice_index_or e 0 nan ∷ []

abbrev pub end_of : Format → Float → Bool → List Float
end_of f t true = straight_end f (sub f t one)
end_of f t false = cubic_end f (hermite_basis f t)

abbrev pub end_slope_of : Format → Float → Bool → List Float
end_slope_of f t true = straight_end_slope f
end_slope_of f t false = cubic_end f (hermite_basis_derivative f t)

-- From an end's own point outward t grows: -t at the low end, t - 1 at the high. The straight line is for the Outside classes alone.
abbrev pub weights_of : Format → Saturation → Bool → Float → List Float
weights_of f None straight t = interior f (hermite_basis f t)
weights_of f InsideLow straight t = at_low (end_of f (neg t) false)
weights_of f OutsideLow straight t = at_low (end_of f (neg t) straight)
weights_of f InsideHigh straight t = at_high (end_of f (sub f t one) false)
weights_of f OutsideHigh straight t = at_high (end_of f (sub f t one) straight)

-- scaled by the rounded 1 / step, negated at the low end
abbrev pub derivatives_of : Format → Saturation → Bool → Float → Float → List Float
derivatives_of f None straight t inv = scaled f inv (interior f (hermite_basis_derivative f t))
derivatives_of f InsideLow straight t inv = scaled f (neg inv) (at_low (end_slope_of f (neg t) false))
derivatives_of f OutsideLow straight t inv = scaled f (neg inv) (at_low (end_slope_of f (neg t) straight))
derivatives_of f InsideHigh straight t inv = scaled f inv (at_high (end_slope_of f (sub f t one) false))
derivatives_of f OutsideHigh straight t inv = scaled f inv (at_high (end_slope_of f (sub f t one) straight))

-- the weights and derivative weights of a query at a place
abbrev pub weights_at : Format → Float → Float → Bool → Float → Place → List Float
weights_at f start step straight x p = weights_of f p.class straight (t_of f start step p.origin x)

abbrev pub derivatives_at : Format → Float → Float → Bool → Float → Place → List Float
derivatives_at f start step straight x p = derivatives_of f p.class straight (t_of f start step p.origin x) (div f one step)
