-- The floor of a quotient, and the place that follows from it: what clauses 3.3 to 3.5 say of both, and what `get_loc` computes.
use Rattle.std.proofs.Common.{◌≡◌, ℕ, zero, suc, ◌+◌, ◌-◌, ◌*◌, ◌/◌, ◌^◌, ◌<◌, ◌≤◌, true, false, cond, T, ℤ, pos, negsuc, ◌-ℤ◌, neg_ℤ, sym, refl, ap, ◌∙◌, true≢false, mod-lt, suc-mul, div-lt_iff_lt-mul, div-add-mod', zero-mul, mul-one, arith, lit<, lt→ltb, ltb-false, ltb-true, le-ltb, lt-ltb}
use mathlib.Core.Bool.{or-true}
use native.Mathlib.Nat.{div-eq_of_lt}
use lib.IntN.{suc_ℤ}
use lib.Ieee.{Float, nan, inf, fin, up, down, lt, le, eq, to_unsigned}
use lib.Ieee.Bits.{is_true}
use lib.Ieee.Fits.{down_pos}
use lib.Ieee.Scale.{finite}
use Rattle.ieee.proofs.Order.{le_trans, lt_not_le, le_not_lt, lt_or_le, le_or_lt}
use Rattle.ieee.proofs.Multiple.{Is, cut, sign_pos}
use Rattle.multicubic.specs.Types.{Loc}
use Rattle.multicubic.specs.declared.LocError.TheVariants.{Unplaceable}
use Rattle.std.specs.Prelude.{Err, Ok}
use Rattle.multicubic.specs.Place.{origin_of, class_of, place_of}
use Rattle.regular_axis.specs.Place.{floor_of, refused8}

-- ---- w / d, cut and rounded up
cut_low : (w d : ℕ) → w / d * d ≤ w
cut_low w d = omega (arith, div-add-mod' w d)

cut_high : (w d : ℕ) → 0 < d → w < suc (w / d) * d
cut_high w d h = rw suc-mul (omega (arith, div-add-mod' w d, mod-lt w h))

up-low : (w d : ℕ) → 0 < d → w ≤ (w + (d - 1)) / d * d
up-low w d h = omega (arith, div-add-mod' (w + (d - 1)) d, mod-lt (w + (d - 1)) h)

up_none : (w d : ℕ) → 0 < d → w ≡ 0 → (w + (d - 1)) / d ≡ 0
up_none w d h e = div-eq_of_lt (omega arith)

-- ---- the largest whole number not above x
-- a whole number as a float, of any size
abbrev pub whole : ℤ → Float
whole (pos k) = fin false k (pos 0)
whole (negsuc k) = fin true (suc k) (pos 0)

-- z is not above x, and the next whole number is
pub record Largest (z : ℤ) (x : Float) : Type 0 where
  pub not-above : le (whole z) x ≡ true
  pub next-above : lt x (whole (suc_ℤ z)) ≡ true

pub floor_largest : (x : Float) → T (finite x) → Largest (floor_of x) x
unfolding floor_of lt
floor_largest nan t = absurd t
floor_largest (inf s) t = absurd t
floor_largest (fin false m e) t =
    let w = m * up e in
    let d = down e in
    record {
      not-above = lt_or_le (fin false m e) (whole (pos (w / d))) tt tt (le-ltb (w * 1) (w / d * 1 * d) (simp mul-one (cut_low w d)));
      next-above = lt-ltb (w * 1) (suc (w / d) * 1 * d) (simp mul-one (cut_high w d (down_pos e)));
    }
floor_largest (fin true m e) t = go ((w + (d - 1)) / d) (up-low w d D) (cut_low (w + (d - 1)) d)
  where
    w : ℕ
    w = m * up e

    d : ℕ
    d = down e

    D : 0 < d
    D = down_pos e

    go : (k : ℕ) → w ≤ k * d → k * d ≤ w + (d - 1) → Largest (neg_ℤ (pos k)) (fin true m e)
    go zero a b = record {
      not-above = lt_or_le (fin true m e) (whole (pos 0)) tt tt (le-ltb 0 (w * 1 + 0 * 1 * d) (omega (arith, zero-mul d)));
      next-above = lt-ltb 0 (w * 1 + 1 * 1 * d) (omega (arith, D));
    }
    go (suc zero) a b = record {
      not-above = lt_or_le (fin true m e) (whole (negsuc 0)) tt tt (le-ltb (1 * 1 * d) (w * 1) (omega arith));
      next-above = lt-ltb 0 (w * 1 + 0 * 1 * d) (omega (arith, D));
    }
    go (suc (suc k)) a b = record {
      not-above = lt_or_le (fin true m e) (whole (negsuc (suc k))) tt tt (le-ltb (suc (suc k) * 1 * d) (w * 1) (simp mul-one a));
      next-above = lt-ltb (suc k * 1 * d) (w * 1) (simp mul-one (omega (arith, D, suc-mul (suc k) d)));
    }

-- ---- the place, by the quotient; it is refused from 2^63 on and below -2^63
abbrev pub loc_at : ℕ → Float → Loc
loc_at n q = cond (refused8 q) (Err Unplaceable) (Ok (place_of n (floor_of q -ℤ pos 1)))

abbrev pub none : Float
none = fin false 0 (pos 0)

abbrev pub low63 : Float
low63 = fin true 1 (pos 63)

abbrev pub high63 : Float
high63 = fin false 1 (pos 63)

pub loc_high : (n : ℕ) (q : Float) → lt q high63 ≡ false → loc_at n q ≡ (Err Unplaceable)
unfolding refused8
loc_high n nan h = refl
loc_high n (inf s) h = refl
loc_high n (fin s m e) h = rw (lt_or_le (fin s m e) high63 tt tt h)

pub loc_low : (n : ℕ) (q : Float) → le low63 q ≡ false → loc_at n q ≡ (Err Unplaceable)
unfolding refused8
loc_low n nan h = refl
loc_low n (inf s) h = refl
loc_low n (fin s m e) h = rw (le_or_lt low63 (fin s m e) tt tt h, or-true)

kept : (n : ℕ) (q : Float) → T (finite q) → lt q high63 ≡ true → lt q low63 ≡ false → loc_at n q ≡ Ok (place_of n (floor_of q -ℤ pos 1))
unfolding refused8
kept n q t h l = rw (is_true (finite q) t, lt_not_le q high63 h, l)

no : {A : Type 0} → false ≡ true → A
no e = absurd (true≢false (sym e))

-- below zero the floor is negative
pub loc_negative : (n : ℕ) (q : Float) → le none q ≡ false → le low63 q ≡ true → loc_at n q ≡ Ok (place_of n (pos 0 -ℤ pos 2))
unfolding floor_of origin_of class_of le lt eq
loc_negative n nan z l = no l
loc_negative n (inf true) z l = no l
loc_negative n (inf false) z l = absurd (true≢false z)
loc_negative n (fin false m e) z l = absurd (omega (arith, ltb-true (m * up e * 1) (0 * 1 * down e) (le_or_lt none (fin false m e) tt tt z), zero-mul (down e)))
loc_negative n (fin true m e) z l =
    kept n (fin true m e) tt (lt-ltb 0 (w * 1 + 1 * 2 ^ 63 * d) (omega (arith, W))) (le_not_lt low63 (fin true m e) l) ∙ ap Ok (go ((w + (d - 1)) / d) (up-low w d (down_pos e)))
  where
    w : ℕ
    w = m * up e

    d : ℕ
    d = down e

    W : 0 < w * 1 + 0 * 1 * d
    W = ltb-true 0 (w * 1 + 0 * 1 * d) (le_or_lt none (fin true m e) tt tt z)

    go : (k : ℕ) → w ≤ k * d → place_of n (neg_ℤ (pos k) -ℤ pos 1) ≡ place_of n (pos 0 -ℤ pos 2)
    go zero h = absurd (omega (arith, W, zero-mul d))
    go (suc k) h = refl

-- from zero on it is the truncation, a count, and L is that count plus 1, less 2
pub less_one : (k : ℕ) → pos k -ℤ pos 1 ≡ pos (k + 1) -ℤ pos 2
less_one zero = refl
less_one (suc k) = rw (le-ltb (suc k) 1 (omega arith), le-ltb (suc k + 1) 2 (omega arith)) (ap pos (omega arith))

pub record Counted (q : Float) : Type 0 where
  pub is_finite : T (finite q)
  pub above : T (lt (fin true 1 (pos 0)) q)
  pub under : T (lt q (fin false 1 (pos 64)))
  pub small : to_unsigned 64 q < 2 ^ 63
  pub floor-is : floor_of q ≡ pos (to_unsigned 64 q)

pub counted : (q : Float) → le none q ≡ true → lt q high63 ≡ true → Counted q
unfolding floor_of to_unsigned le lt eq
counted nan z h = no z
counted (inf true) z h = no z
counted (inf false) z h = no h
counted (fin false m e) z h =
    let w = m * up e in
    let d = down e in
    let b : w < 2 ^ 63 * d = omega (arith, ltb-true (w * 1) (1 * 2 ^ 63 * d) h) in
    let s : w / d < 2 ^ 63 = (div-lt_iff_lt-mul (down_pos e)).1 b in
    record {
      is_finite = tt;
      above = lt→ltb 0 (1 * 1 * d + w * 1) (omega (arith, down_pos e));
      under = lt→ltb (w * 1) (1 * 2 ^ 64 * d) (omega arith);
      small = omega arith;
      floor-is = ap pos (omega arith);
    }
counted (fin true m e) z h =
    let w = m * up e in
    let d = down e in
    let W : w ≡ 0 = omega (arith, ltb-false 0 (w * 1 + 0 * 1 * d) (le_not_lt none (fin true m e) z)) in
    record {
      is_finite = tt;
      above = lt→ltb (w * 1) (1 * 1 * d) (omega (arith, down_pos e));
      under = lt→ltb 0 (w * 1 + 1 * 2 ^ 64 * d) (omega (arith, down_pos e));
      small = lit< tt;
      floor-is = ap (λ (k : ℕ). neg_ℤ (pos k)) (up_none w d (down_pos e) W);
    }

low-none : le low63 none ≡ true
unfolding le lt eq
low-none = refl

pub loc_counted : (n : ℕ) (q : Float) → le none q ≡ true → lt q high63 ≡ true → loc_at n q ≡ Ok (place_of n (pos (to_unsigned 64 q + 1) -ℤ pos 2))
unfolding lt
loc_counted n q z h =
    let c = counted q z h in
    kept n q c.is_finite h (le_not_lt low63 q (le_trans low63 none q low-none z))
    ∙ ap (λ (k : ℤ). Ok (place_of n (k -ℤ pos 1))) c.floor-is
    ∙ ap (λ (k : ℤ). Ok (place_of n k)) (less_one (to_unsigned 64 q))

-- ---- at a whole number
pub loc_whole : (n i : ℕ) (q : Float) → i < 2 ^ 63 → Is (pos 0) (pos i) q → loc_at n q ≡ Ok (place_of n (pos i -ℤ pos 1))
unfolding floor_of lt
loc_whole n i nan s h = absurd h.is
loc_whole n i (inf t) s h = absurd h.is
loc_whole n i (fin false m e) s h =
    let w = m * up e in
    let d = down e in
    let c = (cut false m e i h).0 in
    let b : w < 2 ^ 63 * d = (div-lt_iff_lt-mul (down_pos e)).0 (omega arith) in
    kept n (fin false m e) tt (lt-ltb (w * 1) (1 * 2 ^ 63 * d) (omega arith)) refl ∙ ap (λ (k : ℕ). Ok (place_of n (pos k -ℤ pos 1))) c
loc_whole n zero (fin true m e) s h =
    let w = m * up e in
    let d = down e in
    let c = cut true m e 0 h in
    let W : w ≡ 0 = omega (arith, div-add-mod' w d, ap (λ (k : ℕ). k * d) c.0, zero-mul d, c.1) in
    kept n (fin true m e) tt (lt-ltb 0 (w * 1 + 1 * 2 ^ 63 * d) (omega (arith, down_pos e))) (le-ltb (1 * 2 ^ 63 * d) (w * 1) (omega arith))
    ∙ ap (λ (k : ℕ). Ok (place_of n (neg_ℤ (pos k) -ℤ pos 1))) (up_none w d (down_pos e) W)
loc_whole n (suc i) (fin true m e) s h = absurd (true≢false (h.is.0 ∙ sign_pos h.sign h.size i h.z-is))
