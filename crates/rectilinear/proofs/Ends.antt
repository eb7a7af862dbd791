-- The ends of each axis of a rectilinear grid that is accepted are in order: holding twice is holding once (clause 3.7), and no query is marked at both (3.8). And
-- what the marks of two tables over the same axes have in common.
use mathlib.Core.Path.{◌≡◌, refl, sym, ◌∙◌}
use mathlib.Core.Bool.{false}
use mathlib.Core.List.{List, [], ◌∷◌}
use Prim.Native.Nat.{ℕ, ◌-◌, ◌≤◌}
use native.Mathlib.Omega.{arith}
use lib.ListN.{length, take, drop}
use lib.Ieee.{Float, Format}
use Rattle.std.specs.Prelude.{Some}
use Rattle.multicubic.specs.declared.Check.TheVariants.{Disordered}
use Rattle.multicubic.specs.Types.{accepted}
use Rattle.multicubic.specs.declared.EdgeMode.{EdgeMode}
use Rattle.multicubic.specs.Grid.{sum, size_checks}
use Rattle.multicubic.proofs.Passed.{then_accepted}
use Rattle.rectilinear_order.specs.Grid.{axes_of, disorder, order_checks}
use Rattle.rectilinear_order.proofs.Strict.{six-passed}
use Rattle.rectilinear_axis.proofs.Search.{entries_rise}
use Rattle.grid.specs.Query.{GridAxis, hold, outcome_of, mark_answer}
use Rattle.grid.specs.Nodes.{All}
use Rattle.grid.proofs.Edges.{EndsInOrder, holds_once, edge_ends}
use Rattle.grid.proofs.Marking.{edge_marks, marks_each, marks_alike}
use Rattle.grid.proofs.Premises.{Long}
use Rattle.grid.proofs.Sizes.{all-long, all_sound}
use Rattle.grid.proofs.Unmarked.{OneMark, one_marks}
use Rattle.rectilinear_query.specs.Grid.{grid_axis, axis_in, grid_axes, axes_in, grid_of}
use Rattle.rectilinear_query.proofs.Sizes.{part_length, rest-length, passed, joined_length}

ends_of : (f : Format) (mode : EdgeMode) (cs : List ℕ) (joined : List Float) → length joined ≡ sum cs → Long cs
    → All (λ (g : List Float). disorder g ≡ false) (axes_of cs joined) → All EndsInOrder (grid_axes f mode (axes_of cs joined))
ends_of f mode [] joined e long sound = tt
ends_of f mode (c ∷ cs) joined e long sound =
    let part = take c joined in
    let some : 4 ≤ length part = omega (arith, part_length c cs joined e, long.0) in
    let rises = entries_rise part sound.0 0 (length part - 1) (omega arith) (omega arith) in
    (edge_ends mode (λ straight. grid_axis f straight part) (λ straight. rises), ends_of f mode cs (drop c joined) (rest-length c cs joined e) long.1 sound.1)

module _ (f : Format) (n : ℕ) (counts : List ℕ) (joined vals : List Float) (mode : EdgeMode) (e : (grid_of f n counts joined vals mode).checked ≡ accepted) where
  ends : All EndsInOrder (axes_in f mode n counts joined)
  ends =
      let parts = axes_of (take n counts) joined in
      let checked = then_accepted (size_checks n counts (length vals) (Some (length joined))) (order_checks parts) e in
      ends_of f mode (take n counts) joined (joined_length n counts joined (length vals) e) (all-long (take n counts) (passed n counts joined (length vals) e).long)
      (all_sound Disordered disorder 0 parts (six-passed parts checked.1))

  pub held-once : All (λ (g : GridAxis). (given : Float) → hold g (hold g given) ≡ hold g given) (axes_in f mode n counts joined)
  held-once = holds_once (axes_in f mode n counts joined) ends

  pub one_mark : All OneMark (axes_in f mode n counts joined)
  one_mark = one_marks (axes_in f mode n counts joined) ends

-- where both answer a query, neither the setting nor the values have a say in its marks
pub same_marks : (f : Format) (n : ℕ) (counts : List ℕ) (joined vals vals' : List Float) (mode mode' : EdgeMode) (query : ℕ → Float)
    → outcome_of (grid_of f n counts joined vals mode) query ≡ accepted → outcome_of (grid_of f n counts joined vals' mode') query ≡ accepted
    → mark_answer (grid_of f n counts joined vals mode) query ≡ mark_answer (grid_of f n counts joined vals' mode') query
same_marks f n counts joined vals vals' mode mode' query e e' =
    marks_alike (grid_of f n counts joined vals mode) (grid_of f n counts joined vals' mode') query e e'
    (marks_each (axis_in f mode) (axis_in f mode')
    (λ g x. edge_marks mode (λ straight. grid_axis f straight g) refl refl x ∙ sym (edge_marks mode' (λ straight. grid_axis f straight g) refl refl x))
    0 (axes_of (take n counts) joined) query)
