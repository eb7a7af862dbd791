-- Three-point slopes over gaps from 2^-40 to 2^40 are finite.
use Prim.Native.Nat.{ℕ, ◌≤◌}
use mathlib.Core.List.{List}
use native.Mathlib.Omega.{arith}
use lib.Dec.{lit≤}
use lib.ListN.{get_or}
use lib.Ieee.{Float, nan, Format, binary32, binary64, emax, low, add, neg, mul, div}
use Rattle.ieee.specs.Numbers.{one}
use Rattle.ieee.proofs.Bound.{Upto, Between, upto, more, neg-upto, mul-upto, div-upto, div-between, add-upto, add-between}
use Rattle.interp_math.specs.Basis.{two}
use Rattle.rectilinear_weights.specs.Weights.{centered_difference}

-- in either format
pub most : (f : Format) (n : ℕ) → n ≤ 127 → n ≤ emax f
most binary32 n h = h
most binary64 n h = omega arith

least : (f : Format) (n : ℕ) → n ≤ 149 → n ≤ low f
least binary32 n h = h
least binary64 n h = omega arith

one-upto : Upto 0 one
one-upto = (tt, lit≤ tt)

pub one-between : Between 40 40 one
one-between = record { is_pos = tt; lower = lit≤ tt; upper = lit≤ tt }

pub two-upto : (f : Format) → Upto 121 (two f)
two-upto f = more 1 121 (two f) (lit≤ tt) (add-upto f 0 one one (most f 1 (lit≤ tt)) one-upto one-upto)

pub ratio : (f : Format) (x y : Float) → Between 20 20 x → Between 20 20 y → Between 40 40 (div f x y)
ratio f x y h k = div-between f 20 20 20 20 x y (least f 40 (lit≤ tt)) (most f 40 (lit≤ tt)) h k

abbrev pub Small : List Float → Type 0
Small k = Upto 121 (get_or k 0 nan) × Upto 121 (get_or k 1 nan) × Upto 121 (get_or k 2 nan)

pub slopes : (f : Format) (p q : Float) → Between 40 40 p → Between 40 40 q → Small (centered_difference f p q)
unfolding centered_difference
slopes f p q h k =
    let d = add f p q in
    let a = div f p d in
    let c = div f q d in
    let D = add-between f 40 40 p q (least f 40 (lit≤ tt)) (most f 41 (lit≤ tt)) h k in
    let A = upto 81 80 a (div-between f 40 40 40 41 p d (least f 81 (lit≤ tt)) (most f 80 (lit≤ tt)) h D) in
    let C = upto 81 80 c (div-between f 40 40 40 41 q d (least f 81 (lit≤ tt)) (most f 80 (lit≤ tt)) k D) in
    let over = most f 120 (lit≤ tt) in (
      more 120 121 (div f (neg c) p) (lit≤ tt) (div-upto f 80 40 40 (neg c) p over (neg-upto 80 c C) h),
      add-upto f 120 (mul f c (div f one p)) (div f (neg a) q) (most f 121 (lit≤ tt))
          (mul-upto f 80 40 c (div f one p) over C (div-upto f 0 40 40 one p (most f 40 (lit≤ tt)) one-upto h))
          (div-upto f 80 40 40 (neg a) q over (neg-upto 80 a A) k),
      more 120 121 (div f a q) (lit≤ tt) (div-upto f 80 40 40 a q over A k),
    )
