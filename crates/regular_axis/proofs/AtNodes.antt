-- At a query equal to node i (a zero of either sign, where the node is a zero) L is i - 1, and the row of weights is one at
-- node i's place in the block and a zero elsewhere.
use Rattle.std.proofs.Common.{◌≡◌, ℕ, suc, ◌+◌, ◌-◌, ◌*◌, ◌<◌, ◌≤◌, Bool, true, false, T, ℤ, pos, ◌-ℤ◌, sym, refl, ap, ◌∙◌, subst, ⊎_elim, eq-or-lt_of_le, arith}
use lib.Ieee.{Float, fin, Format, binary32, binary64, sub, mul, div, of_int, fits, eq}
use lib.Ieee.Exact.{HasValue}
use lib.Ieee.Fits.{add-fits, div-fits}
use Rattle.ieee.specs.Numbers.{one}
use Rattle.ieee.proofs.ZeroOne.{Same}
use Rattle.ieee.proofs.Cancel.{one-fits, eq→same}
use Rattle.ieee.proofs.Multiple.{Is, diff, is_zero, is_pos, is_neg}
use Rattle.ieee.proofs.Nan.{eq_number}
use Rattle.multicubic.specs.declared.Saturation.{Saturation}
use Rattle.multicubic.specs.declared.Saturation.TheVariants.{None, InsideLow, InsideHigh, OutsideHigh}
use Rattle.std.specs.Prelude.{Ok}
use Rattle.multicubic.specs.Place.{place_of, AxisOutcome, outcome_at}
use Rattle.multicubic.proofs.Nodes.{OneAt, AtNode}
use Rattle.multicubic.proofs.Numbers.{of_number}
use Rattle.multicubic.proofs.Places.{inside_low, interior, inside-high, outside_high}
use Rattle.regular_axis.specs.Place.{quotient, loc_of}
use Rattle.regular_axis.specs.Weights.{node, t_of, weights_of, derivatives_of, weights_at, derivatives_at}
use Rattle.regular_axis.specs.Nodes.{Premises}
use Rattle.regular_axis.proofs.Floor.{less_one, loc_whole}
use Rattle.regular_axis.proofs.Rows.{row_low, row_mid, row_high, row-top}
use Rattle.regular_axis.proofs.Exact.{is_finite, node-is, quotient_is, t-is}

-- the outcome of an axis for a query
abbrev pub outcome_of : Format → Float → Float → ℕ → Bool → Float → AxisOutcome
outcome_of f start step n straight x = outcome_at (weights_at f start step straight x) (derivatives_at f start step straight x) (loc_of f start step n x)

two_fits : (f : Format) → T (fits f (fin false 1 (pos 1)))
unfolding fits
two_fits binary32 = tt
two_fits binary64 = tt

minus_one_fits : (f : Format) → T (fits f (fin true 1 (pos 0)))
unfolding fits
minus_one_fits binary32 = tt
minus_one_fits binary64 = tt

module _ (f : Format) (straight : Bool) (start step : Float) (P : Premises start step) (n : ℕ) (four : 4 ≤ n) (most : n ≤ 4096) (i : ℕ) (inside : i < n) (x : Float) (fit : T (fits f x)) (at : T (eq x (node f start step i))) where
  same : Same x (node f start step i)
  same =
      let y = node f start step i in
      eq→same f x y (is_finite _ _ y (node-is f start step P i (omega arith))) fit (add-fits f start (mul f step (of_int f (pos i)))) at

  -- t, where the block's point 1 is d nodes before node i
  t-whole : (o d : ℕ) → suc o < n → suc o + d ≡ i → Is (pos 0) (pos d) (t_of f start step o x)
  t-whole o d h e =
      subst (λ (z : ℤ). Is (pos 0) z (t_of f start step o x)) (diff i (suc o) (omega arith) ∙ ap pos (omega arith))
      (t-is f start step P i x (omega arith) same o (omega arith))

  t-fits : (o : ℕ) → T (fits f (t_of f start step o x))
  t-fits o = div-fits f (sub f x (node f start step (suc o))) step

  t-above : (o d : ℕ) (t : Float) → suc o < n → suc o + suc d ≡ i → T (fits f t) → HasValue t false (suc d * 1) 1 → t_of f start step o x ≡ t
  t-above o d t h e q v = is_pos f (pos 0) d (t_of f start step o x) t (t-fits o) q (t-whole o (suc d) h e) v

  -- from the place, and t there
  found : (o j : ℕ) (c : Saturation) (t : Float) → place_of n (pos (i + 1) -ℤ pos 2) ≡ record { origin = o; class = c } → o + j ≡ i → t_of f start step o x ≡ t → OneAt j (weights_of f c straight t) → AtNode n (pos i -ℤ pos 1) i (outcome_of f start step n straight x)
  found o j c t p e q r =
      let place : place_of n (pos i -ℤ pos 1) ≡ record { origin = o; class = c } = ap (place_of n) (less_one i) ∙ p in
      let j-is : j ≡ i - o = omega arith in
      record {
        found = record {
          place = record { origin = o; class = c };
          weights = weights_of f c straight (t_of f start step o x);
          derivatives = derivatives_of f c straight (t_of f start step o x) (div f one step);
        };
        is = ap (outcome_at (weights_at f start step straight x) (derivatives_at f start step straight x))
            (of_number x _ (eq_number x (node f start step i) at)
            ∙ loc_whole n i (quotient f start step x) (omega arith) (quotient_is f start step P i x (omega arith) same)
            ∙ ap Ok place);
        place_is = sym place;
        low = omega arith;
        row = rw (← j-is, q) r;
      }

  at_first : 0 ≡ i → AtNode n (pos i -ℤ pos 1) i (outcome_of f start step n straight x)
  at_first z =
      let t = fin true 1 (pos 0) in
      found 0 0 InsideLow t (inside_low n (i + 1) (omega arith)) (omega arith)
      (is_neg f (pos 0) 0 (t_of f start step 0 x) t (t-fits 0) (minus_one_fits f)
      (subst (λ (k : ℕ). Is (pos 0) (pos k -ℤ pos 1) (t_of f start step 0 x)) (sym z) (t-is f start step P i x (omega arith) same 0 (omega arith))) (refl, refl))
      (row_low f straight)

  at_inner : 0 < i → suc (suc i) < n → AtNode n (pos i -ℤ pos 1) i (outcome_of f start step n straight x)
  at_inner z h =
      let o = i + 1 - 2 in
      let t = is_zero f (pos 0) (t_of f start step o x) (t-fits o) (t-whole o 0 (omega arith) (omega arith)) in
      found o 1 None (fin t.0 0 (pos 0)) (interior n (i + 1) (omega arith) four (omega arith)) (omega arith) t.1 (row_mid f straight t.0)

  at-next-to-last : suc (suc i) ≡ n → AtNode n (pos i -ℤ pos 1) i (outcome_of f start step n straight x)
  at-next-to-last h =
      let t = fin false 1 (pos 0) in
      found (n - 4) 2 InsideHigh t (inside-high n (i + 1) (omega arith) four (omega arith)) (omega arith)
      (t-above (n - 4) 0 t (omega arith) (omega arith) (one-fits f) (refl, refl))
      (row_high f straight)

  at_last : suc i ≡ n → AtNode n (pos i -ℤ pos 1) i (outcome_of f start step n straight x)
  at_last h =
      let t = fin false 1 (pos 1) in
      found (n - 4) 3 OutsideHigh t (outside_high n (i + 1) (omega arith) four (omega arith)) (omega arith)
      (t-above (n - 4) 1 t (omega arith) (omega arith) (two_fits f) (refl, refl))
      (row-top f straight)

  pub at-node : AtNode n (pos i -ℤ pos 1) i (outcome_of f start step n straight x)
  at-node =
      let first : 0 ≤ i = omega arith in
      ⊎_elim at_first (λ z. ⊎_elim at_last (λ h. ⊎_elim at-next-to-last (at_inner z) (eq-or-lt_of_le h)) (eq-or-lt_of_le inside)) (eq-or-lt_of_le first)
