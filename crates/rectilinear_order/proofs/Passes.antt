-- One turn of a pass over joined axes, for any fault and its check: what is left of the axes answers for all of them.
use mathlib.Core.Path.{◌≡◌, refl, sym, ap, ◌∙◌}
use mathlib.Core.Bool.{Bool, true, false, cond}
use mathlib.Core.List.{List, ◌∷◌}
use Prim.Native.Nat.{ℕ, suc, ◌+◌, ◌-◌, ◌≤◌, ◌<◌}
use native.Mathlib.Numerals.{add-one}
use native.Mathlib.Omega.{arith}
use lib.ListN.{length, get_or, take, drop}
use lib.Seq.{slice, slice-cons, slice_empty, drop-drop}
use lib.Ieee.{Float}
use Rattle.std.specs.Prelude.{Err}
use Rattle.multicubic.specs.declared.Check.{Check}
use Rattle.multicubic.specs.Types.{accepted, refusal}
use Rattle.multicubic.specs.Grid.{sum, lowest}
use Rattle.rectilinear_order.specs.Grid.{axes_of}

-- before axis i, whose first entry stands at place at
pub record Left (check : Check) (fault : List Float → Bool) (n : ℕ) (counts : List ℕ) (axes : List Float) (at i : ℕ) : Type 0 where
  pub most : i ≤ n
  pub held : n ≤ length counts
  pub room : at + sum (slice i n counts) ≡ length axes
  pub same : lowest check fault 0 (axes_of (take n counts) axes) ≡ lowest check fault i (axes_of (slice i n counts) (drop at axes))

pub start : (check : Check) (fault : List Float → Bool) (n : ℕ) (counts : List ℕ) (axes : List Float) → n ≤ length counts → sum (take n counts) ≡ length axes → Left check fault n counts axes 0 0
start check fault n counts axes h e = record { most = omega arith; held = h; room = omega arith; same = refl }

module _ {check : Check} {fault : List Float → Bool} {n : ℕ} {counts : List ℕ} {axes : List Float} {at i : ℕ} (l : Left check fault n counts axes at i) where
  pub finish : n ≤ i → accepted ≡ lowest check fault 0 (axes_of (take n counts) axes)
  finish h =
      let e : i ≡ n = omega arith in
      sym (l.same ∙ rw (e, slice_empty))

  module _ (h : i < n) where
    sum-turn : sum (slice i n counts) ≡ get_or counts i 0 + sum (slice (suc i) n counts)
    sum-turn = let k = l.held in rw (slice-cons i n counts 0)

    pub fits : at + get_or counts i 0 ≤ length axes
    fits = omega (arith, sum-turn)

    -- the part of axis i, as the code takes it
    parts : axes_of (slice i n counts) (drop at axes) ≡ take (at + get_or counts i 0 - at) (drop at axes) ∷ axes_of (slice (suc i) n counts) (drop (at + get_or counts i 0) axes)
    parts =
        let k = l.held in
        let e : at + get_or counts i 0 - at ≡ get_or counts i 0 = omega arith in
        rw (e, slice-cons i n counts 0, drop-drop)

    turn : lowest check fault i (axes_of (slice i n counts) (drop at axes))
        ≡ cond (fault (take (at + get_or counts i 0 - at) (drop at axes))) (Err (refusal check 0 i)) (lowest check fault (suc i) (axes_of (slice (suc i) n counts) (drop (at + get_or counts i 0) axes)))
    turn = ap (lowest check fault i) parts

    -- the answer found of the part
    module _ {found : Bool} {part : List Float} (part_is : part ≡ take (at + get_or counts i 0 - at) (drop at axes)) (found_is : found ≡ fault part) where
      fault_is : fault (take (at + get_or counts i 0 - at) (drop at axes)) ≡ found
      fault_is = rw (← part_is, found_is)

      pub refused : found ≡ true → Err (refusal check 0 i) ≡ lowest check fault 0 (axes_of (take n counts) axes)
      refused e = sym (l.same ∙ turn ∙ rw (fault_is, e))

      pub next : found ≡ false → Left check fault n counts axes (at + get_or counts i 0) (i + 1)
      next e = record {
        most = omega arith;
        held = l.held;
        room = rw add-one (omega (arith, sum-turn));
        same = l.same ∙ turn ∙ rw (fault_is, e, add-one);
      }
