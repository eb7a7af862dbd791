-- The block's entries, one by one.
use mathlib.Core.Path.{◌≡◌}
use mathlib.Core.List.{List, [], ◌∷◌}
use Prim.Native.Nat.{ℕ, suc, ◌+◌, ◌≤◌}
use native.Mathlib.Numerals.{add-one}
use native.Mathlib.Omega.{arith}
use lib.ListN.{length, get_or}
use lib.Seq.{drop-cons}
use lib.Ieee.{Float, nan}
use Rattle.rectilinear_axis.specs.Weights.{cell_of}

module _ (g : List Float) (o : ℕ) (h : o + 4 ≤ length g) where
  pub entries : cell_of g o ≡ get_or g o nan ∷ get_or g (suc o) nan ∷ get_or g (suc (suc o)) nan ∷ get_or g (suc (suc (suc o))) nan ∷ []
  entries = rw (drop-cons g o nan (omega arith), drop-cons g (suc o) nan (omega arith), drop-cons g (suc (suc o)) nan (omega arith), drop-cons g (suc (suc (suc o))) nan (omega arith))

  -- at the indexes that the code adds up
  pub read_is : get_or g o nan ∷ get_or g (o + 1) nan ∷ get_or g (o + 2) nan ∷ get_or g (o + 3) nan ∷ [] ≡ cell_of g o
  read_is =
      let two : o + 2 ≡ suc (suc o) = omega arith in
      let three : o + 3 ≡ suc (suc (suc o)) = omega arith in
      rw (add-one, two, three, entries)
