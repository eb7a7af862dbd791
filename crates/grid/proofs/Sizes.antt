-- What passing its checks says of a grid.
use mathlib.Core.Path.{◌≡◌, sym, ap, ◌∙◌, subst}
use mathlib.Core.Bool.{Bool, false}
use mathlib.Core.List.{List, [], ◌∷◌}
use Prim.Native.Nat.{ℕ, suc, ◌≤◌, ◌<◌}
use native.Mathlib.Omega.{arith}
use lib.ListN.{length, get_or, take}
use lib.Seq.{length-take-le, get_or-take}
use Rattle.multicubic.specs.declared.Check.{Check}
use Rattle.std.specs.Prelude.{Option}
use Rattle.multicubic.specs.Types.{accepted}
use Rattle.multicubic.specs.Grid.{lowest, product}
use Rattle.multicubic.proofs.Passed.{Passed, no_fault}
use Rattle.grid.specs.Query.{Grid, grid_counts}
use Rattle.grid.specs.Nodes.{All}
use Rattle.grid.proofs.Premises.{Long, Sized}

pub all-long : (cs : List ℕ) → ((j : ℕ) → j < length cs → 4 ≤ get_or cs j 0) → Long cs
all-long [] h = tt
all-long (c ∷ cs) h = (h 0 (omega arith), all-long cs (λ j k. h (suc j) (omega arith)))

-- no axis has the fault of a check that is passed
pub all_sound : {A : Type 0} (k : Check) (fault : A → Bool) (axis : ℕ) (xs : List A) → lowest k fault axis xs ≡ accepted → All (λ (x : A). fault x ≡ false) xs
all_sound k fault axis [] e = tt
all_sound k fault axis (x ∷ xs) e = let here = no_fault (fault x) k axis (lowest k fault (suc axis) xs) e in (here.0, all_sound k fault (suc axis) xs here.1)

pub sized-by : (g : Grid) {n : ℕ} {counts : List ℕ} {axes : Option ℕ} → Passed n counts (length g.vals) axes → grid_counts g ≡ take n counts → Sized g
sized-by g {n} {counts} p e = record {
  long = subst Long (sym e) (all-long (take n counts) p.long);
  size = p.values-is ∙ ap product (sym e);
}

-- every count in use is 4 or more
pub each_long : (n : ℕ) (counts : List ℕ) (values : ℕ) (axes : Option ℕ) → Passed n counts values axes → length counts ≡ 4 → (i : ℕ) → i < n → 4 ≤ get_or counts i 0
each_long n counts values axes p four i h =
    let few : n ≤ 4 = p.few in
    subst (λ (k : ℕ). 4 ≤ k) (get_or-take n counts i 0 h) (p.long i (subst (λ (k : ℕ). i < k) (sym (length-take-le n counts (omega arith))) h))
