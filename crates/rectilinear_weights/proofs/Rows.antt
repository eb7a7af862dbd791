-- The rows of weights where the basis is one at one place and a zero at the others, as it is at t = 1 and at t a zero.
use mathlib.Core.Path.{◌≡◌, refl}
use Prim.Native.Nat.{ℕ, zero, suc, ◌<◌}
use mathlib.Core.Bool.{false}
use mathlib.Core.List.{List, [], ◌∷◌}
use native.Mathlib.Omega.{arith}
use lib.Dec.{lit<, lit≤}
use lib.ListN.{get_or}
use lib.Ieee.{Float, nan, Format, sub, mul, neg}
use Rattle.ieee.specs.Numbers.{zero as nought, one}
use Rattle.ieee.proofs.Zero.{IsZero}
use Rattle.ieee.proofs.ZeroOne.{add-zeros, mul-zero-left, mul_zero_right}
use Rattle.ieee.proofs.Cancel.{sub-zeros, one-add, one-sub}
use Rattle.ieee.proofs.Bound.{neg-upto, add-upto}
use Rattle.interp_math.specs.Basis.{two, hermite_basis}
use Rattle.interp_math.proofs.AtNodes.{basis_one, basis_zero}
use Rattle.multicubic.proofs.Nodes.{OneAt}
use Rattle.rectilinear_weights.specs.Weights.{interior, cubic_low, cubic_high, straight_low}
use Rattle.rectilinear_weights.proofs.Slopes.{most, two-upto, Small}

-- of four places
pub each : (P : ℕ → Type 0) → P 0 → P 1 → P 2 → P 3 → (k : ℕ) → k < 4 → P k
each P a b c d zero h = a
each P a b c d (suc zero) h = b
each P a b c d (suc (suc zero)) h = c
each P a b c d (suc (suc (suc zero))) h = d
each P a b c d (suc (suc (suc (suc k)))) h = absurd (omega arith)

-- a zero at place k, unless k is j
abbrev ZeroUnless : ℕ → List Float → ℕ → Type 0
ZeroUnless j w k = (k ≡ j → ⊥) → IsZero (get_or w k nan)

plus-zero : IsZero nought
plus-zero = (false, refl)

double : (f : Format) (z : Float) → IsZero z → IsZero (mul f (two f) z)
double f z p = mul_zero_right f (two f) z (two-upto f).0 p

-- a zero times each slope
null : (f : Format) (z : Float) (k : List Float) → IsZero z → Small k → IsZero (mul f z (get_or k 0 nan)) × IsZero (mul f z (get_or k 1 nan)) × IsZero (mul f z (get_or k 2 nan))
null f z k p K = (mul-zero-left f z (get_or k 0 nan) p K.0.0, mul-zero-left f z (get_or k 1 nan) p K.1.0, mul-zero-left f z (get_or k 2 nan) p K.2.0)

-- ---- the basis
pub at_one : (f : Format) → OneAt 2 (hermite_basis f one)
at_one f = rw basis_one (record { inside = lit< tt; one-here = refl; zero-elsewhere = each (ZeroUnless 2 (nought ∷ nought ∷ one ∷ nought ∷ [])) (λ n. plus-zero) (λ n. plus-zero) (λ n. absurd (n refl)) (λ n. plus-zero) })

pub at_zero : (f : Format) (t : Float) → IsZero t → OneAt 0 (hermite_basis f t)
at_zero f t z = rw (z.1, basis_zero) (record { inside = lit< tt; one-here = refl; zero-elsewhere = each (ZeroUnless 0 (one ∷ nought ∷ nought ∷ nought ∷ [])) (λ n. absurd (n refl)) (λ n. plus-zero) (λ n. plus-zero) (λ n. plus-zero) })

zeros : (f : Format) (h : List Float) → OneAt 2 h → IsZero (get_or h 0 nan) × IsZero (get_or h 1 nan) × IsZero (get_or h 3 nan)
zeros f h b = (b.zero-elsewhere 0 (lit< tt) (λ e. omega arith), b.zero-elsewhere 1 (lit< tt) (λ e. omega arith), b.zero-elsewhere 3 (lit< tt) (λ e. omega arith))

-- ---- the rows
pub interior-row : (f : Format) (h k0 k1 : List Float) → OneAt 2 h → Small k0 → Small k1 → OneAt 2 (interior f h k0 k1)
unfolding interior
interior-row f h k0 k1 b K0 K1 =
    let z = zeros f h b in
    let m = null f (get_or h 1 nan) k0 z.1 K0 in
    let n = null f (get_or h 3 nan) k1 z.2 K1 in
    record {
      inside = lit< tt;
      one-here = one-add f _ _ (one-add f _ _ b.one-here m.2) n.1;
      zero-elsewhere = each (ZeroUnless 2 (interior f h k0 k1)) (λ e. m.0) (λ e. add-zeros f _ _ (add-zeros f _ _ z.0 m.1) n.0) (λ e. absurd (e refl)) (λ e. n.2);
    }

pub low-row-one : (f : Format) (h k : List Float) → OneAt 2 h → Small k → OneAt 0 (cubic_low f h k)
unfolding cubic_low
low-row-one f h k b K =
    let z = zeros f h b in
    let d = double f (get_or h 3 nan) z.2 in
    let n = null f (sub f (get_or h 3 nan) (get_or h 1 nan)) k (sub-zeros f _ _ z.2 z.1) K in
    record {
      inside = lit< tt;
      one-here = one-add f _ _ (one-add f _ _ b.one-here d) n.0;
      zero-elsewhere = each (ZeroUnless 0 (cubic_low f h k)) (λ e. absurd (e refl)) (λ e. add-zeros f _ _ (sub-zeros f _ _ z.0 d) n.1) (λ e. n.2) (λ e. plus-zero);
    }

pub low-row-zero : (f : Format) (h k : List Float) → OneAt 0 h → Small k → OneAt 1 (cubic_low f h k)
unfolding cubic_low
low-row-zero f h k b K =
    let z1 = b.zero-elsewhere 1 (lit< tt) (λ e. omega arith) in
    let z2 = b.zero-elsewhere 2 (lit< tt) (λ e. omega arith) in
    let z3 = b.zero-elsewhere 3 (lit< tt) (λ e. omega arith) in
    let d = double f (get_or h 3 nan) z3 in
    let n = null f (sub f (get_or h 3 nan) (get_or h 1 nan)) k (sub-zeros f _ _ z3 z1) K in
    record {
      inside = lit< tt;
      one-here = one-add f _ _ (one-sub f _ _ b.one-here d) n.1;
      zero-elsewhere = each (ZeroUnless 1 (cubic_low f h k)) (λ e. add-zeros f _ _ (add-zeros f _ _ z2 d) n.0) (λ e. absurd (e refl)) (λ e. n.2) (λ e. plus-zero);
    }

pub high_row : (f : Format) (h k : List Float) → OneAt 2 h → Small k → OneAt 3 (cubic_high f h k)
unfolding cubic_high
high_row f h k b K =
    let z = zeros f h b in
    let d = double f (get_or h 3 nan) z.2 in
    let n = null f (sub f (get_or h 1 nan) (get_or h 3 nan)) k (sub-zeros f _ _ z.1 z.2) K in
    record {
      inside = lit< tt;
      one-here = one-add f _ _ (one-add f _ _ b.one-here d) n.2;
      zero-elsewhere = each (ZeroUnless 3 (cubic_high f h k)) (λ e. plus-zero) (λ e. n.0) (λ e. add-zeros f _ _ (sub-zeros f _ _ z.0 d) n.1) (λ e. absurd (e refl));
    }

-- on the straight line, at the end point
pub line_row : (f : Format) (s : Float) (k : List Float) → IsZero s → Small k → OneAt 0 (straight_low f s k)
unfolding straight_low
line_row f s k z K =
    let top = most f 122 (lit≤ tt) in
    let n = null f s k z K in
    let a = add-upto f 121 (two f) (get_or k 0 nan) top (two-upto f) K.0 in
    let b = add-upto f 121 (neg (two f)) (get_or k 1 nan) top (neg-upto 121 (two f) (two-upto f)) K.1 in
    record {
      inside = lit< tt;
      one-here = one-add f _ _ refl (mul-zero-left f s _ z a.0);
      zero-elsewhere = each (ZeroUnless 0 (straight_low f s k)) (λ e. absurd (e refl)) (λ e. mul-zero-left f s _ z b.0) (λ e. n.2) (λ e. plus-zero);
    }
