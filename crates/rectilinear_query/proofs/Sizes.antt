-- What checks 1 to 4 leave of a rectilinear grid that is accepted.
use mathlib.Core.Path.{◌≡◌, refl, sym}
use mathlib.Core.List.{List, [], ◌∷◌}
use Prim.Native.Nat.{ℕ, ◌+◌, ◌≤◌, ◌<◌}
use native.Mathlib.Omega.{arith}
use lib.ListN.{length, get_or, take, drop, length-drop}
use lib.Seq.{length-take-le}
use lib.Ieee.{Float, Format}
use borrow.Author.Tests.{eqb-true, not-false}
use Rattle.std.specs.Prelude.{Some}
use Rattle.multicubic.specs.Types.{accepted}
use Rattle.multicubic.specs.declared.EdgeMode.{EdgeMode}
use Rattle.multicubic.specs.Grid.{sum, size_checks}
use Rattle.multicubic.proofs.Passed.{then_accepted, Passed, accepted as passed_by}
use Rattle.rectilinear_order.specs.Grid.{axes_of}
use Rattle.grid.specs.Query.{counts_of}
use Rattle.grid.proofs.Premises.{Sized}
use Rattle.grid.proofs.Edges.{edge_count}
use Rattle.grid.proofs.Sizes.{sized-by, each_long}
use Rattle.rectilinear_query.specs.Grid.{checks_of, grid_axis, grid_axes, grid_of}

-- the first part has its count, and the rest are joined in what is left
module _ (c : ℕ) (cs : List ℕ) (joined : List Float) (e : length joined ≡ c + sum cs) where
  pub part_length : length (take c joined) ≡ c
  part_length = length-take-le c joined (omega arith)

  pub rest-length : length (drop c joined) ≡ sum cs
  rest-length = simp length-drop (omega arith)

pub grid_counts_lem : (f : Format) (mode : EdgeMode) (cs : List ℕ) (joined : List Float) → length joined ≡ sum cs → counts_of (grid_axes f mode (axes_of cs joined)) ≡ cs
grid_counts_lem f mode [] joined e = refl
grid_counts_lem f mode (c ∷ cs) joined e =
    λ k. edge_count mode (λ straight. grid_axis f straight (take c joined)) c (λ straight. part_length c cs joined e) k ∷ grid_counts_lem f mode cs (drop c joined) (rest-length c cs joined e) k

module _ (n : ℕ) (counts : List ℕ) (joined : List Float) (values : ℕ) (taken : checks_of n counts joined values ≡ accepted) where
  pub passed : Passed n counts values (Some (length joined))
  passed = passed_by n counts values (Some (length joined)) (then_accepted _ _ taken).0

  pub joined_length : length joined ≡ sum (take n counts)
  joined_length = eqb-true (length joined) (sum (take n counts)) (not-false _ passed.joined)

pub sized : (f : Format) (n : ℕ) (counts : List ℕ) (joined vals : List Float) (mode : EdgeMode) → (grid_of f n counts joined vals mode).checked ≡ accepted → Sized (grid_of f n counts joined vals mode)
sized f n counts joined vals mode e =
    sized-by (grid_of f n counts joined vals mode) (passed n counts joined (length vals) e)
    (grid_counts_lem f mode (take n counts) joined (joined_length n counts joined (length vals) e))

-- what `check_order` asks, once checks 1 to 4 have passed
pub orderable : (n : ℕ) (counts : List ℕ) (joined : List Float) (values : ℕ) → length counts ≡ 4 → size_checks n counts values (Some (length joined)) ≡ accepted → (n ≤ 4) × (sum (take n counts) ≡ length joined) × ((i : ℕ) → i < n → 4 ≤ get_or counts i 0)
orderable n counts joined values four e =
    let p = passed_by n counts values (Some (length joined)) e in
    (p.few, sym (eqb-true (length joined) (sum (take n counts)) (not-false _ p.joined)), each_long n counts values (Some (length joined)) p four)
