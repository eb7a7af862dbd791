-- The axes looked through one after the other, as the code does it: what is known after the first i of them.
use mathlib.Core.Path.{◌≡◌, refl, sym, ap, ◌∙◌}
use mathlib.Core.List.{List, [], ◌∷◌, ◌++◌, map}
use Prim.Native.Nat.{ℕ, suc, ◌+◌, ◌<◌}
use native.Mathlib.Numerals.{add-one}
use native.Mathlib.Omega.{arith}
use lib.ListN.{length, get_or, take, drop, set, length-map}
use lib.Seq.{drop-cons, drop-length}
use lib.Ieee.{Float}
use Rattle.multicubic.specs.declared.Check.{Check}
use Rattle.multicubic.specs.declared.LocError.{LocError}
use Rattle.std.specs.Prelude.{Err}
use Rattle.multicubic.specs.Types.{Loc, Outcome, accepted, refusal}
use Rattle.std.specs.Prelude.{Ok}
use Rattle.multicubic.specs.declared.Place.{Place}
use Rattle.multicubic.specs.declared.PlaceAnswer.{PlaceAnswer}
use Rattle.multicubic.specs.Answers.{check_of}
use Rattle.multicubic.specs.Place.{nowhere, Placed, refused, placed, outcome_at}
use Rattle.multicubic.specs.Internal.{four_nowhere}
use Rattle.grid.specs.Query.{GridAxis, outcome, Grid, Found, refused_at, places, located, find, outcome_of, places_of, place_answer}
use Rattle.grid.specs.Internal.{Located, no_axis}

-- ---- a list with one entry more
pub append_one : {A : Type 0} (xs ys : List A) (x : A) → xs ++ (x ∷ ys) ≡ (xs ++ (x ∷ [])) ++ ys
append_one [] ys x = refl
append_one {A = A} (a ∷ xs) ys x = ap (λ (l : List A). a ∷ l) (append_one xs ys x)

append_none : {A : Type 0} (xs : List A) → xs ++ [] ≡ xs
append_none [] = refl
append_none {A = A} (a ∷ xs) = ap (λ (l : List A). a ∷ l) (append_none xs)

pub length-one : {A : Type 0} (xs : List A) (x : A) → length (xs ++ (x ∷ [])) ≡ suc (length xs)
length-one [] x = refl
length-one (a ∷ xs) x = ap suc (length-one xs x)

pub map-one : {A B : Type 0} (f : A → B) (xs : List A) (x : A) → map f (xs ++ (x ∷ [])) ≡ map f xs ++ (f x ∷ [])
map-one f [] x = refl
map-one {B = B} f (a ∷ xs) x = ap (λ (l : List B). f a ∷ l) (map-one f xs x)

-- one more of four, with others in place of what is missing
pub put_four : {A : Type 0} (other : A) (xs : List A) (x : A) (k : ℕ) → length xs ≡ k → k < 4 → set (take 4 (xs ++ (other ∷ other ∷ other ∷ other ∷ []))) k x ≡ take 4 ((xs ++ (x ∷ [])) ++ (other ∷ other ∷ other ∷ other ∷ []))
put_four {A = A} other xs x k e h = rw (← e) (go xs (omega arith))
  where
    go : (ys : List A) → length ys < 4 → set (take 4 (ys ++ (other ∷ other ∷ other ∷ other ∷ []))) (length ys) x ≡ take 4 ((ys ++ (x ∷ [])) ++ (other ∷ other ∷ other ∷ other ∷ []))
    go [] h = refl
    go (a ∷ []) h = refl
    go (a ∷ b ∷ []) h = refl
    go (a ∷ b ∷ c ∷ []) h = refl
    go (a ∷ b ∷ c ∷ d ∷ rest) h = absurd (omega arith)

-- ---- the first i axes have placed the query at ps; the others are still to be looked through
-- the places ps before those that are found later
abbrev after : List Placed → Found → Found
after ps (refused_at check axis) = refused_at check axis
after ps (places qs) = places (ps ++ qs)

pub after_none : (r : Found) → r ≡ after [] r
after_none (refused_at check axis) = refl
after_none (places qs) = refl

pub after_one : (axis : ℕ) (ps : List Placed) (p : Placed) (r : Found) → after ps (located axis (placed p) r) ≡ after (ps ++ (p ∷ [])) r
after_one axis ps p (refused_at check later) = refl
after_one axis ps p (places qs) = ap places (append_one ps qs p)

pub record SoFar (gs : List GridAxis) (query : ℕ → Float) (i : ℕ) : Type 0 where
  pub ps : List Placed
  pub many : length ps ≡ i
  pub is : find 0 gs query ≡ after ps (find i (drop i gs) query)

-- what an axis gives at a place
abbrev pub placed_on : GridAxis → Float → Place → Placed
placed_on g x p = record { place = p; weights = g.weights x p; derivatives = g.derivatives x p }

module _ (gs : List GridAxis) (query : ℕ → Float) where
  abbrev pub so-far-none : SoFar gs query 0
  so-far-none = record { ps = []; many = refl; is = after_none (find 0 gs query) }

  module _ (i : ℕ) (s : SoFar gs query i) where
    module _ (h : i < length gs) where
      -- axis i is next
      pub next : find 0 gs query ≡ after s.ps (find i (get_or gs i no_axis ∷ drop (suc i) gs) query)
      next = s.is ∙ ap (λ (rest : List GridAxis). after s.ps (find i rest query)) (drop-cons gs i no_axis h)

      abbrev pub so-far-placed : (p : Place) → Ok p ≡ (get_or gs i no_axis).loc (query i) → SoFar gs query (i + 1)
      so-far-placed p e =
          let q : Placed = placed_on (get_or gs i no_axis) (query i) p in
          record {
            ps = s.ps ++ (q ∷ []);
            many = length-one s.ps q ∙ ap suc s.many ∙ sym (add-one i);
            is = rw add-one (next ∙ rw (sym e) (after_one i s.ps q (find (suc i) (drop (suc i) gs) query)));
          }

      pub so-far-refused : (check : Check) → outcome (get_or gs i no_axis) (query i) ≡ refused check → find 0 gs query ≡ refused_at check i
      so-far-refused check e = next ∙ rw e refl

    pub so-far-all : i ≡ length gs → find 0 gs query ≡ places s.ps
    so-far-all z =
        let none : drop i gs ≡ [] = rw z (drop-length gs) in
        s.is ∙ rw none (ap places (append_none s.ps))

-- ---- the four places so far
pub record Placing (gs : List GridAxis) (query : ℕ → Float) (i : ℕ) (kept : List Place) : Type 0 where
  pub so_far : SoFar gs query i
  pub kept-is : kept ≡ take 4 (places_of so_far.ps ++ four_nowhere)

module _ (gs : List GridAxis) (query : ℕ → Float) (kept : List Place) where
  pub placing-none : kept ≡ four_nowhere → Placing gs query 0 kept
  placing-none e = record { so_far = so-far-none gs query; kept-is = e }

  module _ (i : ℕ) (s : Placing gs query i kept) where
    pub placing-turn : i < length gs → i < 4 → (p : Place) → Ok p ≡ (get_or gs i no_axis).loc (query i) → Placing gs query (i + 1) (set kept i p)
    placing-turn h m p e =
        let ps = s.so_far.ps in
        record {
          so_far = so-far-placed gs query i s.so_far h p e;
          kept-is = rw (s.kept-is, map-one) (put_four nowhere (places_of ps) p i (length-map ps (λ (r : Placed). r.place) ∙ s.so_far.many) m);
        }

    pub placing-all : i ≡ length gs → (number : ℕ) → Located number gs query (record { outcome = accepted; places = kept })
    placing-all z number =
        let e = so-far-all gs query i s.so_far z in
        (rw e refl, rw e s.kept-is)

-- a grid that is taken answers what its axes give
pub place_found : (g : Grid) (query : ℕ → Float) (r : PlaceAnswer) → g.checked ≡ accepted → Located 0 g.axes query r → (r.outcome ≡ outcome_of g query) × (r.places ≡ place_answer g query)
place_found g query r e p = (rw e p.0, rw e p.1)

-- an axis without a place for the query refuses it
pub unplaced_on : (g : GridAxis) (x : Float) (error : LocError) → Err error ≡ g.loc x → outcome g x ≡ refused (check_of error)
unplaced_on g x error e = ap (outcome_at (g.weights x) (g.derivatives x)) (sym e)

-- so nothing is placed
pub located-refused : (gs : List GridAxis) (query : ℕ → Float) (i : ℕ) → SoFar gs query i → i < length gs → (error : LocError) → Err error ≡ (get_or gs i no_axis).loc (query i)
    → (o : Outcome) (kept : List Place) → o ≡ Err (refusal (check_of error) 0 i) → kept ≡ four_nowhere → Located 0 gs query (record { outcome = o; places = kept })
located-refused gs query i s h error e o kept p n =
    let f = so-far-refused gs query i s h (check_of error) (unplaced_on (get_or gs i no_axis) (query i) error e) in
    (p ∙ rw f refl, n ∙ rw f refl)
