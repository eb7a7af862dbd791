-- What the place of a query says: 9, or 0 and the place, its class by the rectilinear list. At most all entries are below the query.
use mathlib.Core.Path.{◌≡◌, refl, sym, ap, ◌∙◌}
use mathlib.Core.Bool.{Bool, true, false, cond}
use mathlib.Core.List.{List, [], ◌∷◌}
use Prim.Native.Nat.{ℕ, ◌≤◌}
use native.Mathlib.Omega.{arith}
use lib.IntN.{pos, ◌-ℤ◌}
use lib.ListN.{length}
use lib.Ieee.{Float, is_nan, ne}
use Rattle.multicubic.specs.Types.{Loc}
use Rattle.multicubic.specs.declared.LocError.TheVariants.{NotANumber}
use Rattle.std.specs.Prelude.{Err, Ok}
use Rattle.multicubic.specs.declared.Place.{Place}
use Rattle.multicubic.specs.declared.Saturation.{Saturation}
use Rattle.multicubic.specs.Answers.{number_of, place_outcome, place_in}
use Rattle.multicubic.specs.Place.{origin_of, place_of}
use Rattle.multicubic.proofs.Numbers.{asked-nan, asked-number}
use Rattle.multicubic.proofs.Places.{lists_agree}
use Rattle.rectilinear_axis.specs.Place.{count_below, loc_of, loc_number, loc_place}
use Rattle.rectilinear_axis.proofs.Search.{at_most}

number : (missing : Bool) (p : Place) → number_of (place_outcome 0 0 (cond missing (Err NotANumber) (Ok p))) ≡ cond missing 9 0
number true p = refl
number false p = refl

place : (missing : Bool) (p : Place) → place_in (cond missing (Err NotANumber) (Ok p)) ≡ cond missing [] (p ∷ [])
place true p = refl
place false p = refl

module _ (g : List Float) (x : Float) where
  abbrev Says : Loc → Type 0
  Says r = (r ≡ loc_of g x) × ((number_of (place_outcome 0 0 r) ≡ loc_number x) × (place_in r ≡ loc_place g x))

  says : {r : Loc} → 4 ≤ length g → r ≡ loc_of g x → Says r
  says four e =
      let l = pos (count_below x g) -ℤ pos 2 in
      let below = at_most g x (length g) (λ k h m. absurd (omega arith)) in
      let at : Saturation → List Place = λ class. cond (is_nan x) [] (record { origin = origin_of (length g) l; class = class } ∷ []) in
      let p = place_of (length g) l in
      let agree = ap at (sym (lists_agree (length g) (count_below x g) four below)) in
      (e, (ap (λ r. number_of (place_outcome 0 0 r)) e ∙ number (is_nan x) p, ap place_in e ∙ place (is_nan x) p ∙ agree))

  -- where the code finds x no number, and where it finds it one and places it by the count k
  pub nan_says : {r : Loc} → 4 ≤ length g → ne x x ≡ true → r ≡ (Err NotANumber) → Says r
  nan_says four d e = says four (e ∙ sym (asked-nan x _ d))

  pub number_says : {p : Place} {n k : ℕ} → 4 ≤ n → length g ≡ n → ne x x ≡ false → k ≡ count_below x g → p ≡ place_of n (pos k -ℤ pos 2) → Says (Ok p)
  number_says {n = n} four long is_number count e =
      let place = ap (λ k. place_of n (pos k -ℤ pos 2)) count ∙ ap (λ n. place_of n (pos (count_below x g) -ℤ pos 2)) (sym long) in
      says (omega arith) (ap Ok (e ∙ place) ∙ sym (asked-number x _ is_number))
