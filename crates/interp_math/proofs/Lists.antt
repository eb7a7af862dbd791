-- What stands in a list of values, or in rows of them, read as lists of floats.
use Rattle.std.proofs.Common.{◌≡◌, sym, ◌∙◌, ap, List, [], map, ℕ, ◌<◌, length, get_or, set, take, drop}
use Rattle.std.specs.Float.{Float, nan}
use Rattle.std.proofs.lemmas.List.{get_or-map, length-map, map-set, take-map, drop-map}

module _ {A : Type 0} {float : A → Float} {floats : List A → List Float} (law : (xs : List A) → map float xs ≡ floats xs) where
  pub float_get : (xs : List A) (k : ℕ) (d : A) → k < length xs → get_or (floats xs) k nan ≡ float (get_or xs k d)
  float_get xs k d l = ap (λ ys. get_or ys k nan) (sym (law xs)) ∙ get_or-map float xs k d nan l

  pub float_at : (xs : List A) (k : ℕ) (x : A) → k < length xs → x ≡ get_or xs k x → get_or (floats xs) k nan ≡ float x
  float_at xs k x l e = float_get xs k x l ∙ ap float (sym e)

  pub floats_length : (xs : List A) → length (floats xs) ≡ length xs
  floats_length xs = ap length (sym (law xs)) ∙ length-map xs float

  pub floats_set : (xs : List A) (k : ℕ) (x : A) → floats (set xs k x) ≡ set (floats xs) k (float x)
  floats_set xs k x = sym (law (set xs k x)) ∙ map-set float xs k x ∙ ap (λ ys. set ys k (float x)) (law xs)

  pub floats_part : (n k : ℕ) (xs : List A) → floats (take n (drop k xs)) ≡ take n (drop k (floats xs))
  floats_part n k xs = sym (law (take n (drop k xs))) ∙ sym (take-map float n (drop k xs)) ∙ ap (take n) (sym (drop-map float k xs) ∙ ap (drop k) (law xs))

  module _ {rows : List (List A) → List (List Float)} (rows_law : (xs : List (List A)) → map (map float) xs ≡ rows xs) where
    pub row_at : (xs : List (List A)) (k : ℕ) → k < length xs → get_or (rows xs) k [] ≡ floats (get_or xs k [])
    row_at xs k l = ap (λ ys. get_or ys k []) (sym (rows_law xs)) ∙ get_or-map (map float) xs k [] [] l ∙ law (get_or xs k [])

    pub rows_length : (xs : List (List A)) → length (rows xs) ≡ length xs
    rows_length xs = ap length (sym (rows_law xs)) ∙ length-map xs (map float)
