-- The rows of weights at the nodes, by the class and t, by computation in each format.
use Rattle.std.proofs.Common.{◌≡◌, ℕ, zero, suc, ◌<◌, Bool, true, false, cond, T, eqb, List, [], ◌∷◌, get_or, pos, refl, ◌∙◌, arith, lit<, eq-eqb, ne_eqb}
use lib.Ieee.{Float, nan, fin, Format, binary32, binary64, add, sub, mul, div, neg, of_bits}
use lib.Ieee.Scale.{finite}
use Rattle.ieee.specs.Numbers.{one}
use Rattle.ieee.proofs.Cancel.{sub_self_nil}
use Rattle.interp_math.specs.Basis.{hermite_basis}
use Rattle.multicubic.specs.declared.Saturation.TheVariants.{None, InsideLow, InsideHigh, OutsideHigh}
use Rattle.multicubic.proofs.Nodes.{OneAt}
use Rattle.regular_axis.specs.Weights.{interior, cubic_end, straight_end, weights_of}

-- one at place j, zeros of the given signs elsewhere
abbrev entry : ℕ → (ℕ → Bool) → ℕ → Float
entry j signs k = cond (eqb k j) one (fin (signs k) 0 (pos 0))

abbrev row : ℕ → (ℕ → Bool) → List Float
row j signs = entry j signs 0 ∷ entry j signs 1 ∷ entry j signs 2 ∷ entry j signs 3 ∷ []

module _ (j : ℕ) (signs : ℕ → Bool) where
  each : (k : ℕ) → k < 4 → get_or (row j signs) k nan ≡ entry j signs k
  each zero h = refl
  each (suc zero) h = refl
  each (suc (suc zero)) h = refl
  each (suc (suc (suc zero))) h = refl
  each (suc (suc (suc (suc k)))) h = absurd (omega arith)

  one_at : j < 4 → OneAt j (row j signs)
  one_at h = record {
    inside = h;
    one-here = each j h ∙ rw (eq-eqb j j refl);
    zero-elsewhere = λ k l d. rw (each k l, ne_eqb k j d) (signs k, refl);
  }

-- node 0: t is -1
pub row_low : (f : Format) (straight : Bool) → OneAt 0 (weights_of f InsideLow straight (fin true 1 (pos 0)))
unfolding hermite_basis cubic_end of_bits add sub mul div neg
row_low binary32 straight = one_at 0 (λ k. false) (lit< tt)
row_low binary64 straight = one_at 0 (λ k. false) (lit< tt)

-- nodes 1 to n-3: t is a zero
pub row_mid : (f : Format) (straight s : Bool) → OneAt 1 (weights_of f None straight (fin s 0 (pos 0)))
unfolding hermite_basis interior of_bits add sub mul div neg
row_mid binary32 straight true = one_at 1 (λ k. eqb k 0) (lit< tt)
row_mid binary32 straight false = one_at 1 (λ k. eqb k 0) (lit< tt)
row_mid binary64 straight true = one_at 1 (λ k. eqb k 0) (lit< tt)
row_mid binary64 straight false = one_at 1 (λ k. eqb k 0) (lit< tt)

-- node n-2: t is 1
pub row_high : (f : Format) (straight : Bool) → OneAt 2 (weights_of f InsideHigh straight (fin false 1 (pos 0)))
unfolding hermite_basis cubic_end of_bits add sub mul div neg
row_high binary32 straight = one_at 2 (λ k. false) (lit< tt)
row_high binary64 straight = one_at 2 (λ k. false) (lit< tt)

-- node n-1: t is 2
pub row-top : (f : Format) (straight : Bool) → OneAt 3 (weights_of f OutsideHigh straight (fin false 1 (pos 1)))
unfolding hermite_basis cubic_end straight_end of_bits add sub mul div neg
row-top binary32 true = one_at 3 (λ k. eqb k 2) (lit< tt)
row-top binary32 false = one_at 3 (λ k. false) (lit< tt)
row-top binary64 true = one_at 3 (λ k. eqb k 2) (lit< tt)
row-top binary64 false = one_at 3 (λ k. false) (lit< tt)

-- clause 9.4, must-fail/nearest_point.edit: by t - t in place of t every query of class None has the row of the stored point at or below it, and a node
-- its own. The rows at the nodes do not tell that reader from this one; the contracts do
pub row_below : (f : Format) (straight : Bool) (t : Float) → T (finite t) → OneAt 1 (weights_of f None straight (sub f t t))
row_below f straight t h = rw (sub_self_nil f t h) (row_mid f straight false)
