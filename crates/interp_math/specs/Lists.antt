-- Rows of floats, each row read as it stands, are the rows.
use Rattle.std.specs.Prelude.{◌≡◌, List, map}
use Rattle.std.proofs.Common.{◌∙◌}
use Rattle.std.proofs.lemmas.List.{map-id}

pub map_rows : {A : Type 0} → (xs : List (List A)) → map (map (λ (x : A). x)) xs ≡ xs
map_rows xs = (λ i. map (λ ys. map-id ys i) xs) ∙ map-id xs
