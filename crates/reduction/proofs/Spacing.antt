-- One turn of the loop over strides.
use mathlib.Core.Path.{◌≡◌, refl, ap}
use mathlib.Core.List.{List, [], ◌∷◌}
use Prim.Native.Nat.{ℕ, zero, suc, ◌*◌, ◌≤◌, ◌<◌}
use native.Mathlib.Nat.{mul_comm}
use native.Mathlib.Omega.{arith}
use lib.ListN.{length, get_or, take, drop, set, length-take}
use lib.Seq.{slice, slice-cons, take-set-lt}
use Rattle.multicubic.specs.Grid.{product}
use Rattle.reduction.specs.Value.{strides_of}

-- ---- the strides, from the last axis down: j is the axis after i
module _ (counts ss : List ℕ) (n i j stride : ℕ) (next : suc i ≡ j) (h : i < n) (kc : n ≤ length counts) (ks : n ≤ length ss) where
  put : (i : ℕ) (l : List ℕ) → i < length l → drop i (set l i stride) ≡ stride ∷ drop (suc i) l
  put i [] h = absurd (omega arith)
  put zero (x ∷ l) h = refl
  put (suc i) (x ∷ l) h = put i l (omega arith)

  pub strides-here : slice j n ss ≡ strides_of (slice j n counts) → stride ≡ product (slice j n counts) → slice i n (set ss i stride) ≡ strides_of (slice i n counts)
  strides-here e p =
      let r : slice (suc i) n ss ≡ strides_of (slice (suc i) n counts) = rw next e in
      let q : stride ≡ product (slice (suc i) n counts) = rw next p in
      rw (take-set-lt n ss i stride h, put i (take n ss) (rw (length-take n ss) (omega arith)), slice-cons i n counts 0 h kc, r) (ap (λ (z : ℕ). z ∷ strides_of (slice (suc i) n counts)) q)

  pub stride-next : stride ≡ product (slice j n counts) → stride * get_or counts i 0 ≡ product (slice i n counts)
  stride-next p =
      let q : stride ≡ product (slice (suc i) n counts) = rw next p in
      rw (slice-cons i n counts 0 h kc, mul_comm stride (get_or counts i 0)) (ap (λ (z : ℕ). get_or counts i 0 * z) q)
