-- What the checks leave of the axes of a grid that is taken: a query's block lies within the values, and so does the index of its first
-- value, axis by axis.
use mathlib.Core.Path.{◌≡◌, sym, ap, ◌∙◌, subst}
use mathlib.Core.List.{List, [], ◌∷◌, ◌++◌}
use Prim.Native.Nat.{ℕ, zero, suc, ◌+◌, ◌-◌, ◌*◌, ◌≤◌, ◌<◌}
use native.Mathlib.Nat.{add-mul, mul-le-mul_right}
use native.Mathlib.Omega.{arith}
use lib.IntN.{ℤ}
use lib.ListN.{length, get_or, take, get_or-map}
use lib.Ieee.{Float}
use Rattle.multicubic.specs.Types.{Loc}
use Rattle.std.specs.Prelude.{Option}
use Rattle.std.specs.Prelude.{Ok}
use Rattle.multicubic.specs.declared.Place.{Place}
use Rattle.multicubic.specs.Grid.{product}
use Rattle.multicubic.specs.Place.{origin_of, place_of}
use Rattle.multicubic.proofs.Passed.{Passed}
use Rattle.reduction.specs.Value.{strides_of, offset}
use Rattle.reduction.specs.Internal.{reach}
use Rattle.grid.specs.Query.{GridAxis, counts_of}
use Rattle.grid.specs.Internal.{no_axis}
use Rattle.grid.specs.Nodes.{All}
use Rattle.grid.proofs.Premises.{Long}
use Rattle.grid.proofs.Sizes.{all-long}
use Rattle.grid.proofs.AtNodes.{origin_most}

-- a place's block of four lies on the axis
abbrev pub Roomy : GridAxis → Type 0
Roomy g = (x : Float) (p : Place) → g.loc x ≡ Ok p → p.origin + 4 ≤ g.count

-- a place from any L
pub roomy_place : (n : ℕ) (l : ℤ) (p : Place) → 4 ≤ n → ◌≡◌ {A = Loc} (Ok (place_of n l)) (Ok p) → p.origin + 4 ≤ n
roomy_place n l p h e =
    let z : place_of n l ≡ p = cc in
    let m : origin_of n l ≤ n - 4 = origin_most n l in
    subst (λ (q : Place). q.origin + 4 ≤ n) z (omega arith)

pub record Fit (n : ℕ) (gs : List GridAxis) (values : ℕ) : Type 0 where
  pub some : 1 ≤ n
  pub few : n ≤ 4
  pub counted : length gs ≡ n
  pub roomy : All Roomy gs
  pub long : Long (counts_of gs)
  pub size : values ≡ product (counts_of gs)
  pub most : values ≤ 1048576

-- each kind has it from its checks 1 to 4
pub fits_by : {n : ℕ} {counts : List ℕ} {values : ℕ} {axes : Option ℕ} (gs : List GridAxis) → Passed n counts values axes → length gs ≡ n → counts_of gs ≡ take n counts → All Roomy gs → Fit n gs values
fits_by {n} {counts} gs p counted same roomy =
    record {
      some = p.some;
      few = p.few;
      counted = counted;
      roomy = roomy;
      long = subst Long (sym same) (all-long (take n counts) p.long);
      size = p.values-is ∙ ap product (sym same);
      most = let v = p.values-is in let s = p.size in omega arith;
    }

-- ---- blocks of four from the first few origins
abbrev pub RoomTo : List ℕ → List ℕ → Type 0
RoomTo [] cs = Unit
RoomTo (o ∷ os) (c ∷ cs) = (o + 4 ≤ c) × RoomTo os cs
RoomTo (o ∷ os) [] = ⊥

pub room-one : (os cs : List ℕ) (o : ℕ) → RoomTo os cs → length os < length cs → o + 4 ≤ get_or cs (length os) 0 → RoomTo (os ++ (o ∷ [])) cs
room-one [] [] o r h k = absurd (omega arith)
room-one [] (c ∷ cs) o r h k = (k, tt)
room-one (a ∷ os) [] o r h k = absurd (omega arith)
room-one (a ∷ os) (c ∷ cs) o r h k = (r.0, room-one os cs o r.1 (omega arith) k)

positive : (cs : List ℕ) → Long cs → 0 < product cs
positive [] h = omega arith
positive (c ∷ cs) h =
    let m : 4 * product cs ≤ c * product cs = mul-le-mul_right (product cs) h.0 in
    omega (arith, m, positive cs h.1)

-- the first value of a block, or what of its index is known so far
pub base_below : (os cs : List ℕ) → RoomTo os cs → Long cs → offset os (strides_of cs) < product cs
base_below [] cs r h = positive cs h
base_below (o ∷ os) [] r h = absurd r
base_below (o ∷ os) (c ∷ cs) r h =
    let m : (o + 4) * product cs ≤ c * product cs = mul-le-mul_right (product cs) r.0 in
    omega (arith, m, add-mul o 4 (product cs), base_below os cs r.1 h.1)

-- its last value
pub reached : (os cs : List ℕ) → RoomTo os cs → length os ≡ length cs → offset os (strides_of cs) + reach (strides_of cs) < product cs
reached [] [] r e = omega arith
reached [] (c ∷ cs) r e = absurd (omega arith)
reached (o ∷ os) [] r e = absurd r
reached (o ∷ os) (c ∷ cs) r e =
    let m : (o + 4) * product cs ≤ c * product cs = mul-le-mul_right (product cs) r.0 in
    omega (arith, m, add-mul o 4 (product cs), reached os cs r.1 (omega arith))

-- axis i
roomy_at : (gs : List GridAxis) (i : ℕ) → All Roomy gs → i < length gs → Roomy (get_or gs i no_axis)
roomy_at [] i r h = absurd (omega arith)
roomy_at (g ∷ gs) zero r h = r.0
roomy_at (g ∷ gs) (suc i) r h = roomy_at gs i r.1 (omega arith)

pub room_at : (gs : List GridAxis) (i : ℕ) → All Roomy gs → i < length gs → (x : Float) (p : Place) → Ok p ≡ (get_or gs i no_axis).loc x → p.origin + 4 ≤ get_or (counts_of gs) i 0
room_at gs i r h x p e = rw (get_or-map (λ (g : GridAxis). g.count) gs i no_axis) (roomy_at gs i r h x p (sym e))
