-- The Hermite basis of t and its derivative (clause 4.1), each operation rounded, in the Rust's order.
use Rattle.std.specs.Prelude.{List, [], ◌∷◌, get_or, Float}
use Rattle.std.specs.Float.{nan, Format}
use Rattle.std.specs.Float.Ieee.{add, sub, mul, neg}
use Rattle.ieee.specs.Numbers.{zero, one}

-- `mul_add` without fma: two rounded operations
abbrev pub mul_add : Format → Float → Float → Float → Float
mul_add f a b c = add f (mul f a b) c

abbrev pub two : Format → Float
two f = add f one one

abbrev pub three : Format → Float
three f = add f (two f) one

abbrev pub four : Format → Float
four f = add f (two f) (two f)

abbrev pub six : Format → Float
six f = add f (three f) (three f)

-- h00, h10, h01, h11
unfoldable pub hermite_basis : Format → Float → List Float
hermite_basis f t =
    let t2 = mul f t t in
    let t3 = mul f t2 t in
    mul_add f (two f) t3 (mul_add f (neg (three f)) t2 one)
    ∷ mul_add f t (mul_add f t (sub f t (two f)) one) zero
    ∷ mul_add f (neg (two f)) t3 (mul f (three f) t2)
    ∷ mul_add f t2 (sub f t one) zero
    ∷ []

unfoldable pub hermite_basis_derivative : Format → Float → List Float
hermite_basis_derivative f t =
    let t2 = mul f t t in
    mul f (six f) (sub f t2 t)
    ∷ add f (sub f (mul f (three f) t2) (mul f (four f) t)) one
    ∷ mul f (six f) (sub f t t2)
    ∷ sub f (mul f (three f) t2) (mul f (two f) t)
    ∷ []

-- derivative weights by t, scaled to derivative weights by the query
abbrev pub scaled : Format → Float → List Float → List Float
scaled f scale w = mul f (get_or w 0 nan) scale ∷ mul f (get_or w 1 nan) scale ∷ mul f (get_or w 2 nan) scale ∷ mul f (get_or w 3 nan) scale ∷ []
