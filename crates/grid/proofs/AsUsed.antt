-- A grid that holds its edges answers a query as the same grid in the cubic setting answers the query as used: the same outcome, places and
-- value, for all inputs. Only derivative weights of replaced coordinates differ.
use mathlib.Core.Path.{◌≡◌, refl, sym, ap, ◌∙◌, subst}
use mathlib.Core.List.{List, [], ◌∷◌, map}
use Prim.Native.Nat.{ℕ, suc, ◌+◌, ◌<◌}
use native.Mathlib.Omega.{arith}
use lib.ListN.{length, get_or}
use lib.Ieee.{Float, Format}
use Rattle.multicubic.specs.Types.{Loc, Outcome}
use Rattle.multicubic.specs.declared.LocError.TheVariants.{NotANumber, Unplaceable}
use Rattle.std.specs.Prelude.{Err, Ok}
use Rattle.multicubic.specs.declared.Place.{Place}
use Rattle.multicubic.specs.Answers.{answered}
use Rattle.multicubic.specs.Grid.{◌then◌}
use Rattle.multicubic.specs.Place.{nowhere, Placed, outcome_at}
use Rattle.reduction.specs.Value.{strides_of, block, reduce_of}
use Rattle.grid.specs.Query.{GridAxis, outcome, hold, held_axis, counts_of, Grid, grid_counts, Found, refused_at, places, located, find, origins_of, rows_of, value_of, found_value, found_outcome, outcome_of, value_answer, four_of, places_of, four_places, place_answer}
use Rattle.grid.specs.Internal.{no_axis}

abbrev pub held_grid : Grid → Grid
held_grid g = record { checked = g.checked; axis-count = g.axis-count; axes = map held_axis g.axes; vals = g.vals }

-- used is the query as used, axis by axis
abbrev pub Uses : ℕ → List GridAxis → (ℕ → Float) → (ℕ → Float) → Type 0
Uses axis [] query used = Unit
Uses axis (g ∷ gs) query used = (used axis ≡ hold g (query axis)) × Uses (suc axis) gs query used

-- there is one
abbrev pub used_on : List GridAxis → (ℕ → Float) → ℕ → Float
used_on gs query axis = hold (get_or gs axis no_axis) (query axis)

pub uses : (gs : List GridAxis) (query : ℕ → Float) → Uses 0 gs query (used_on gs query)
uses gs query = go 0 gs (used_on gs query) (λ i h. let z : 0 + i ≡ i = omega arith in rw z refl)
  where
    go : (axis : ℕ) (hs : List GridAxis) (used : ℕ → Float) → ((i : ℕ) → i < length hs → used (axis + i) ≡ hold (get_or hs i no_axis) (query (axis + i))) → Uses axis hs query used
    go axis [] used e = tt
    go axis (h ∷ hs) used e =
        let z : axis + 0 ≡ axis = omega arith in (
          subst (λ (k : ℕ). used k ≡ hold h (query k)) z (e 0 (omega arith)),
          go (suc axis) hs used (λ i l. let s : axis + suc i ≡ suc axis + i = omega arith in subst (λ (k : ℕ). used k ≡ hold (get_or hs i no_axis) (query k)) s (e (suc i) (omega arith))),
        )

-- ---- what is found, without derivative weights
abbrev bare : Placed → Placed
bare p = record { place = p.place; weights = p.weights; derivatives = [] }

abbrev bared : Found → Found
bared (refused_at check axis) = refused_at check axis
bared (places ps) = places (map bare ps)

bared-located : (axis : ℕ) (w d d' : Place → List Float) (l : Loc) (r r' : Found) → bared r ≡ bared r' → bared (located axis (outcome_at w d l) r) ≡ bared (located axis (outcome_at w d' l) r')
bared-located axis w d d' (Err NotANumber) r r' e = refl
bared-located axis w d d' (Err Unplaceable) r r' e = refl
bared-located axis w d d' (Ok p) (refused_at k a) (refused_at m b) e = e
bared-located axis w d d' (Ok p) (refused_at k a) (places qs) e = absurd (let y : ◌≡◌ {A = ℕ} 0 1 = cc in omega arith)
bared-located axis w d d' (Ok p) (places ps) (refused_at m b) e = absurd (let y : ◌≡◌ {A = ℕ} 0 1 = cc in omega arith)
bared-located axis w d d' (Ok p) (places ps) (places qs) e =
    let z : map bare ps ≡ map bare qs = cc in
    ap (λ (rs : List Placed). places (record { place = p; weights = w p; derivatives = [] } ∷ rs)) z

found_as_used : (axis : ℕ) (gs : List GridAxis) (query used : ℕ → Float) → Uses axis gs query used → bared (find axis (map held_axis gs) query) ≡ bared (find axis gs used)
found_as_used axis [] query used u = refl
found_as_used axis (g ∷ gs) query used u =
    bared-located axis (g.weights (hold g (query axis))) ((held_axis g).derivatives (query axis)) (g.derivatives (hold g (query axis))) (g.loc (hold g (query axis)))
    (find (suc axis) (map held_axis gs) query) (find (suc axis) gs used) (found_as_used (suc axis) gs query used u.1)
    ∙ ap (λ (x : Float). bared (located axis (outcome g x) (find (suc axis) gs used))) (sym u.0)

-- ---- outcome, places and value need no more
origins_bare : (ps : List Placed) → origins_of (map bare ps) ≡ origins_of ps
origins_bare [] = refl
origins_bare (p ∷ ps) = ap (λ (os : List ℕ). p.place.origin ∷ os) (origins_bare ps)

rows-bare : (ps : List Placed) → rows_of (map bare ps) ≡ rows_of ps
rows-bare [] = refl
rows-bare (p ∷ ps) = ap (λ (rs : List (List Float)). p.weights ∷ rs) (rows-bare ps)

places_bare : (ps : List Placed) → places_of (map bare ps) ≡ places_of ps
places_bare [] = refl
places_bare (p ∷ ps) = ap (λ (rs : List Place). p.place ∷ rs) (places_bare ps)

outcome-bared : (number : ℕ) (r : Found) → found_outcome number (bared r) ≡ found_outcome number r
outcome-bared number (refused_at k axis) = refl
outcome-bared number (places ps) = refl

value-bared : (f : Format) (counts : List ℕ) (vals : List Float) (r : Found) → found_value f counts vals (bared r) ≡ found_value f counts vals r
unfolding value_of
value-bared f counts vals (refused_at k axis) = refl
value-bared f counts vals (places ps) = λ k. reduce_of f (rows-bare ps k) (block vals (strides_of counts) (origins_bare ps k))

four-bared : (o : Outcome) (r : Found) → four_places o (bared r) ≡ four_places o r
four-bared o (refused_at k axis) = refl
four-bared o (places ps) = ap (λ (xs : List Place). four_of o nowhere xs) (places_bare ps)

counts_held : (gs : List GridAxis) → counts_of (map held_axis gs) ≡ counts_of gs
counts_held [] = refl
counts_held (g ∷ gs) = ap (λ (cs : List ℕ). g.count ∷ cs) (counts_held gs)

module _ (g : Grid) (query used : ℕ → Float) (u : Uses 0 g.axes query used) where
  same-found : bared (find 0 (map held_axis g.axes) query) ≡ bared (find 0 g.axes used)
  same-found = found_as_used 0 g.axes query used u

  pub outcome-as-used : outcome_of (held_grid g) query ≡ outcome_of g used
  outcome-as-used =
      ap (λ (o : Outcome). g.checked then o)
      (sym (outcome-bared 0 (find 0 (map held_axis g.axes) query)) ∙ ap (found_outcome 0) same-found ∙ outcome-bared 0 (find 0 g.axes used))

  pub value-as-used : (f : Format) → value_answer f (held_grid g) query ≡ value_answer f g used
  value-as-used f =
      let v : found_value f (grid_counts (held_grid g)) g.vals (find 0 (map held_axis g.axes) query) ≡ found_value f (grid_counts g) g.vals (find 0 g.axes used) =
      ap (λ (cs : List ℕ). found_value f cs g.vals (find 0 (map held_axis g.axes) query)) (counts_held g.axes)
      ∙ sym (value-bared f (grid_counts g) g.vals (find 0 (map held_axis g.axes) query))
      ∙ ap (found_value f (grid_counts g) g.vals) same-found
      ∙ value-bared f (grid_counts g) g.vals (find 0 g.axes used) in
      λ k. answered (outcome-as-used k) (v k)

  pub place-as-used : place_answer (held_grid g) query ≡ place_answer g used
  place-as-used =
      ap (λ (o : Outcome). four_places o (find 0 (map held_axis g.axes) query)) outcome-as-used
      ∙ sym (four-bared (outcome_of g used) (find 0 (map held_axis g.axes) query))
      ∙ ap (four_places (outcome_of g used)) same-found
      ∙ four-bared (outcome_of g used) (find 0 g.axes used)
