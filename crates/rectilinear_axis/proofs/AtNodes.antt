-- Clause 8.3 on one rectilinear axis within the premises: at node i the query is placed, with L = i - 2, and its row of weights is
-- one at the node's place in the block.
use mathlib.Core.Path.{◌≡◌, refl, sym, ap, ◌∙◌, subst}
use mathlib.Core.Logic.{inl, inr}
use mathlib.Core.Bool.{Bool, false}
use mathlib.Core.List.{List, [], ◌∷◌}
use Prim.Native.Nat.{ℕ, zero, suc, ◌+◌, ◌-◌, ◌≤◌, ◌<◌}
use native.Mathlib.Nat.{eq-or-lt_of_le}
use native.Mathlib.Omega.{arith}
use lib.IntN.{pos, ◌-ℤ◌}
use lib.Dec.{T}
use lib.ListN.{length, get_or}
use lib.Ieee.{Float, nan, Format, lt, eq, fits}
use lib.Ieee.Scale.{finite}
use Rattle.ieee.proofs.ZeroOne.{Same}
use Rattle.ieee.proofs.Cancel.{eq→same}
use Rattle.ieee.proofs.Gap.{within}
use Rattle.ieee.proofs.Nan.{eq_number}
use Rattle.std.specs.Prelude.{Ok}
use Rattle.multicubic.specs.declared.Saturation.{Saturation}
use Rattle.multicubic.specs.declared.Saturation.TheVariants.{None, InsideLow, OutsideLow, InsideHigh}
use Rattle.multicubic.specs.declared.Place.{Place}
use Rattle.multicubic.specs.Place.{place_of, AxisOutcome, outcome_at}
use Rattle.multicubic.proofs.Nodes.{OneAt, AtNode}
use Rattle.multicubic.proofs.Numbers.{of_number}
use Rattle.multicubic.proofs.Places.{outside_low, inside_low, interior, inside-high}
use Rattle.rectilinear_axis.specs.Place.{loc_of}
use Rattle.rectilinear_axis.specs.Weights.{weights_of, weights_at, derivatives_at}
use Rattle.rectilinear_axis.specs.Nodes.{Premises}
use Rattle.rectilinear_axis.proofs.Cell.{entries}
use Rattle.rectilinear_axis.proofs.Blocks.{Held, Gap, first, second, mid, last}
use Rattle.rectilinear_axis.proofs.Count.{entry, counted, nodes_rise as rise}

-- the outcome of an axis for a query
abbrev pub outcome_of : Format → List Float → Bool → Float → AxisOutcome
outcome_of f g straight x = outcome_at (weights_at f g straight x) (derivatives_at f g straight x) (loc_of g x)

abbrev block : ℕ → Saturation → Place
block o c = record { origin = o; class = c }

module _ (f : Format) (straight : Bool) (g : List Float) (four : 4 ≤ length g) (held : (k : ℕ) → k < length g → T (fits f (get_or g k nan))) (ok : Premises f g) (x : Float) where
  gaps : (k : ℕ) → suc k < length g → Gap f (get_or g k nan) (get_or g (suc k) nan)
  gaps k h = within 19 20 _ (ok.least k h) (ok.most k h)

  abbrev place_at : ℕ → Place
  place_at i = place_of (length g) (pos i -ℤ pos 2)

  -- the row at node i, were p its place
  abbrev Row : ℕ → Place → Type 0
  Row i p = (p.origin ≤ i) × OneAt (i - p.origin) (weights_at f g straight x p)

  frame : (i o j : ℕ) (c : Saturation) → o + 4 ≤ length g → i ≡ o + j → place_at i ≡ block o c
      → OneAt j (weights_of f c straight (get_or g o nan ∷ get_or g (suc o) nan ∷ get_or g (suc (suc o)) nan ∷ get_or g (suc (suc (suc o))) nan ∷ []) x) → Row i (place_at i)
  frame i o j c h e p r =
      let d : i - o ≡ j = omega arith in
      subst (λ (p : Place). Row i p) (sym p) (omega arith, rw (d, entries g o h) r)

  node : (k : ℕ) → k < length g → Held f (get_or g k nan)
  node = entry f g four held gaps

  row-top : (o : ℕ) → suc (suc (suc (suc o))) ≡ length g → Same x (get_or g (suc (suc (suc o))) nan) → Row (suc (suc (suc o))) (place_at (suc (suc (suc o))))
  row-top o e at =
      frame (suc (suc (suc o))) o 3 InsideHigh (omega arith) (omega arith)
      (inside-high (length g) (suc (suc (suc o))) (omega arith) four (omega arith) ∙ ap (λ (m : ℕ). block m InsideHigh) (omega arith))
      (last f straight (get_or g o nan) _ _ _ x (node (suc (suc o)) (omega arith)) (gaps (suc o) (omega arith)) (gaps (suc (suc o)) (omega arith)) at)

  row_inside : (o : ℕ) → suc (suc (suc o)) < length g → Same x (get_or g (suc (suc o)) nan) → Row (suc (suc o)) (place_at (suc (suc o)))
  row_inside o h at =
      frame (suc (suc o)) o 2 None (omega arith) (omega arith)
      (interior (length g) (suc (suc o)) (omega arith) four (omega arith) ∙ ap (λ (m : ℕ). block m None) (omega arith))
      (mid f straight _ _ _ _ x (node (suc o) (omega arith)) (gaps o (omega arith)) (gaps (suc o) (omega arith)) (gaps (suc (suc o)) (omega arith)) at)

  row-at : (i : ℕ) → i < length g → Same x (get_or g i nan) → Row i (place_at i)
  row-at zero I at =
      frame 0 0 0 OutsideLow (omega arith) refl (outside_low (length g) 0 refl)
      (first f straight _ _ _ (get_or g 3 nan) x (node 0 I) (node 1 (omega arith)) (gaps 0 (omega arith)) (gaps 1 (omega arith)) at)
  row-at (suc zero) I at =
      frame 1 0 1 InsideLow (omega arith) refl (inside_low (length g) 1 refl)
      (second f straight _ _ _ (get_or g 3 nan) x (node 1 I) (gaps 0 (omega arith)) (gaps 1 (omega arith)) at)
  row-at (suc (suc zero)) I at = row_inside 0 (omega arith) at
  row-at (suc (suc (suc o))) I at = elim (eq-or-lt_of_le I) [
    | inl e ↦ row-top o e at
    | inr l ↦ row_inside (suc o) l at
  ]

  node_at : T (fits f x) → (i : ℕ) → i < length g → T (eq x (get_or g i nan)) → AtNode (length g) (pos i -ℤ pos 2) i (outcome_of f g straight x)
  node_at p i I q =
      let at = eq→same f x (get_or g i nan) (node i I).0 p (held i I) q in
      let place = place_at i in
      let r = row-at i I at in
      record {
        found = record {
          place = place;
          weights = weights_at f g straight x place;
          derivatives = derivatives_at f g straight x place;
        };
        is = ap (outcome_at (weights_at f g straight x) (derivatives_at f g straight x))
            (of_number x _ (eq_number x (get_or g i nan) q) ∙ ap (λ (k : ℕ). Ok (place_at k)) (counted f g four held gaps x p i I at));
        place_is = refl;
        low = r.0;
        row = r.1;
      }

-- under the same premises every entry is finite, and none is below one before it
pub node-finite : (f : Format) (g : List Float) → 4 ≤ length g → ((k : ℕ) → k < length g → T (fits f (get_or g k nan))) → Premises f g → (i : ℕ) → i < length g → T (finite (get_or g i nan))
node-finite f g four held ok i h = (node f false g four held ok nan i h).0

pub nodes_rise : (f : Format) (g : List Float) → 4 ≤ length g → ((k : ℕ) → k < length g → T (fits f (get_or g k nan))) → Premises f g → (i j : ℕ) → i ≤ j → j < length g → lt (get_or g j nan) (get_or g i nan) ≡ false
nodes_rise f g four held ok i j l h = rise f g four held (gaps f false g four held ok nan) i j l h

-- the query equals entry i as a number, so it may be -0 where that is +0
pub at-node : (f : Format) (straight : Bool) (g : List Float) → 4 ≤ length g → ((k : ℕ) → k < length g → T (fits f (get_or g k nan))) → Premises f g
    → (i : ℕ) → i < length g → (x : Float) → T (fits f x) → T (eq x (get_or g i nan)) → AtNode (length g) (pos i -ℤ pos 2) i (outcome_of f g straight x)
at-node f straight g four held ok i I x p q = node_at f straight g four held ok x p i I q
