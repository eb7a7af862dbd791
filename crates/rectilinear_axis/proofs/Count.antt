-- On an axis whose gaps are within the premises, i entries are below a query that is entry i as a number.
use mathlib.Core.Path.{◌≡◌, sym}
use mathlib.Core.Bool.{true, false}
use mathlib.Core.List.{List}
use Prim.Native.Nat.{ℕ, zero, suc, ◌≤◌, ◌<◌}
use native.Mathlib.Omega.{arith}
use lib.Dec.{T}
use lib.ListN.{length, get_or}
use lib.Ieee.{Float, nan, Format, lt, le, fits}
use lib.Ieee.Bits.{is_true}
use Rattle.ieee.proofs.ZeroOne.{Same, same_finite}
use Rattle.ieee.proofs.Rank.{lt→rank, rank→lt, same_rank}
use Rattle.ieee.proofs.Gap.{Apart, gap_apart}
use Rattle.rectilinear_order.specs.Grid.{disorder}
use Rattle.rectilinear_axis.specs.Place.{count_below}
use Rattle.rectilinear_order.proofs.Order.{not-true, all_up}
use Rattle.rectilinear_axis.proofs.Search.{Below, NotBelow, all-to, none_from, count_is, entries_rise}
use Rattle.rectilinear_axis.proofs.Blocks.{Held, Gap}

lt→le : (x y : Float) → T (lt x y) → le x y ≡ true
unfolding le
lt→le x y t = rw (is_true (lt x y) t)

module _ (f : Format) (g : List Float) (four : 4 ≤ length g) (held : (k : ℕ) → k < length g → T (fits f (get_or g k nan))) (gaps : (k : ℕ) → suc k < length g → Gap f (get_or g k nan) (get_or g (suc k) nan)) where
  apart : (k : ℕ) → suc k < length g → Apart (get_or g k nan) (get_or g (suc k) nan)
  apart k h = gap_apart f (get_or g k nan) (get_or g (suc k) nan) (gaps k h).is_pos

  pub entry : (k : ℕ) → k < length g → Held f (get_or g k nan)
  entry zero h = ((apart 0 (omega arith)).left, held 0 h)
  entry (suc k) h = ((apart k h).right, held (suc k) h)

  in_order : disorder g ≡ false
  in_order = all_up g (omega arith) (λ k h. lt→le (get_or g k nan) (get_or g (suc k) nan) (apart k h).rises)

  pub nodes_rise : (i j : ℕ) → i ≤ j → j < length g → lt (get_or g j nan) (get_or g i nan) ≡ false
  nodes_rise i j l h = entries_rise g in_order i j l h

  module _ (x : Float) (p : T (fits f x)) where
    not-here : (i : ℕ) → i < length g → Same x (get_or g i nan) → NotBelow g x i
    not-here i I at =
        let v = get_or g i nan in
        let e = entry i I in
        not-true (lt v x) (λ b. omega (arith, same_rank f x v at, lt→rank f v x e.0 (same_finite x v at e.0) e.1 p (rw b tt)))

    before : (i : ℕ) → i < length g → Same x (get_or g i nan) → (k : ℕ) → k < i → Below g x k
    before zero I at k h = absurd (omega arith)
    before (suc j) I at k h =
        let u = get_or g j nan in
        let v = get_or g (suc j) nan in
        let d = entry j (omega arith) in
        let e = entry (suc j) I in
        let r = lt→rank f u v d.0 e.0 d.1 e.1 (apart j I).rises in
        all-to g x in_order j (omega arith) (is_true (lt u x) (rank→lt f u x d.0 (same_finite x v at e.0) d.1 p (omega (arith, same_rank f x v at, r)))) k (omega arith)

    pub counted : (i : ℕ) → i < length g → Same x (get_or g i nan) → count_below x g ≡ i
    counted i I at = sym (count_is g x i (omega arith) (before i I at) (none_from g x in_order i (not-here i I at)))
