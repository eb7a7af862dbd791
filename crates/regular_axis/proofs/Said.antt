-- What the place of a query says: 9, 8, or 0 and the place.
use Rattle.std.proofs.Common.{◌≡◌, ℕ, Bool, true, false, cond, [], ◌∷◌, pos, ◌-ℤ◌, refl, sym, ap, ◌∙◌}
use lib.Ieee.{Float, Format, is_nan, ne, sub, div}
use Rattle.multicubic.specs.Types.{Loc}
use Rattle.multicubic.specs.declared.LocError.TheVariants.{NotANumber, Unplaceable}
use Rattle.std.specs.Prelude.{Err, Ok}
use Rattle.multicubic.specs.declared.Place.{Place}
use Rattle.multicubic.specs.Answers.{number_of, place_outcome, place_in}
use Rattle.multicubic.specs.Place.{place_of}
use Rattle.multicubic.proofs.Numbers.{asked-nan, asked-number}
use Rattle.regular_axis.specs.Place.{quotient, floor_of, refused8, loc_of, loc_number, loc_place}
use Rattle.regular_axis.proofs.Floor.{loc_at}

number : (missing refused : Bool) (p : Place) → number_of (place_outcome 0 0 (cond missing (Err NotANumber) (cond refused (Err Unplaceable) (Ok p)))) ≡ cond missing 9 (cond refused 8 0)
number true refused p = refl
number false true p = refl
number false false p = refl

place : (missing refused : Bool) (p : Place) → place_in (cond missing (Err NotANumber) (cond refused (Err Unplaceable) (Ok p))) ≡ cond missing [] (cond refused [] (p ∷ []))
place true refused p = refl
place false true p = refl
place false false p = refl

module _ (f : Format) (start step : Float) (n : ℕ) (x : Float) where
  abbrev Says : Loc → Type 0
  Says r = (r ≡ loc_of f start step n x) × ((number_of (place_outcome 0 0 r) ≡ loc_number f start step x) × (place_in r ≡ loc_place f start step n x))

  says : {r : Loc} → r ≡ loc_of f start step n x → Says r
  says e =
      let q = quotient f start step x in
      let p = place_of n (floor_of q -ℤ pos 1) in
      (e, (ap (λ r. number_of (place_outcome 0 0 r)) e ∙ number (is_nan x) (refused8 q) p, ap place_in e ∙ place (is_nan x) (refused8 q) p))

  -- where the code finds x no number, and where it finds it one and places it by the quotient q
  pub nan_says : {r : Loc} → ne x x ≡ true → r ≡ (Err NotANumber) → Says r
  nan_says d e = says (e ∙ sym (asked-nan x _ d))

  pub number_says : {r l : Loc} {d q : Float} → ne x x ≡ false → d ≡ sub f x start → q ≡ div f d step → loc_at n q ≡ l → r ≡ l → Says r
  number_says is_number less over there e = says (e ∙ sym there ∙ ap (loc_at n) (over ∙ ap (λ d. div f d step) less) ∙ sym (asked-number x _ is_number))
