-- The ends of each axis of a regular grid that is accepted are in order: holding twice is holding once (clause 3.7), and no query is marked at both (3.8). And
-- what the marks of two tables over the same axes have in common.
use mathlib.Core.Path.{◌≡◌, refl, sym, ◌∙◌}
use mathlib.Core.Bool.{false}
use mathlib.Core.List.{List, [], ◌∷◌}
use Prim.Native.Nat.{ℕ, ◌-◌}
use lib.Dec.{T}
use lib.ListN.{length, take}
use lib.Ieee.{Float, Format, lt, fits}
use borrow.Author.Tests.{not-false}
use Rattle.ieee.specs.Numbers.{zero}
use Rattle.ieee.proofs.Rises.{multiples_rise}
use Rattle.std.specs.Prelude.{None}
use Rattle.multicubic.specs.declared.Check.TheVariants.{NotRising}
use Rattle.multicubic.specs.Types.{Axis, accepted}
use Rattle.multicubic.specs.declared.EdgeMode.{EdgeMode}
use Rattle.multicubic.specs.Grid.{lowest, size_checks}
use Rattle.multicubic.proofs.Passed.{then_accepted}
use Rattle.grid.specs.Query.{GridAxis, hold, outcome_of, mark_answer}
use Rattle.grid.specs.Nodes.{All}
use Rattle.grid.proofs.Edges.{EndsInOrder, holds_once, edge_ends}
use Rattle.grid.proofs.Marking.{edge_marks, marks_each, marks_alike}
use Rattle.grid.proofs.Sizes.{all_sound}
use Rattle.grid.proofs.Unmarked.{OneMark, one_marks}
use Rattle.regular_query.specs.Grid.{not_rising, counts_of, grid_axis, axis_in, grid_axes, axes_in, grid_of}

-- the type of an f64 or an f32, and no premise
abbrev StartsFit : Format → List Axis → Type 0
StartsFit f axes = All (λ (a : Axis). T (fits f a.start)) axes

ends_of : (f : Format) (mode : EdgeMode) (axes : List Axis) → StartsFit f axes → All (λ (a : Axis). not_rising a ≡ false) axes → All EndsInOrder (grid_axes f mode axes)
ends_of f mode [] fit sound = tt
ends_of f mode (a ∷ axes) fit sound =
    let rises = multiples_rise f a.start a.step (a.count - 1) fit.0 (not-false (lt zero a.step) sound.0) in
    (edge_ends mode (λ straight. grid_axis f straight a) (λ straight. rises), ends_of f mode axes fit.1 sound.1)

module _ (f : Format) (n : ℕ) (axes : List Axis) (vals : List Float) (mode : EdgeMode) (e : (grid_of f n axes vals mode).checked ≡ accepted) (fit : StartsFit f (take n axes)) where
  ends : All EndsInOrder (axes_in f mode n axes)
  ends = ends_of f mode (take n axes) fit (all_sound NotRising not_rising 0 (take n axes) (then_accepted (size_checks n (counts_of axes) (length vals) None) (lowest NotRising not_rising 0 (take n axes)) e).1)

  pub held-once : All (λ (g : GridAxis). (given : Float) → hold g (hold g given) ≡ hold g given) (axes_in f mode n axes)
  held-once = holds_once (axes_in f mode n axes) ends

  pub one_mark : All OneMark (axes_in f mode n axes)
  one_mark = one_marks (axes_in f mode n axes) ends

-- where both answer a query, neither the setting nor the values have a say in its marks
pub same_marks : (f : Format) (n : ℕ) (axes : List Axis) (vals vals' : List Float) (mode mode' : EdgeMode) (query : ℕ → Float)
    → outcome_of (grid_of f n axes vals mode) query ≡ accepted → outcome_of (grid_of f n axes vals' mode') query ≡ accepted
    → mark_answer (grid_of f n axes vals mode) query ≡ mark_answer (grid_of f n axes vals' mode') query
same_marks f n axes vals vals' mode mode' query e e' =
    marks_alike (grid_of f n axes vals mode) (grid_of f n axes vals' mode') query e e'
    (marks_each (axis_in f mode) (axis_in f mode')
    (λ a x. edge_marks mode (λ straight. grid_axis f straight a) refl refl x ∙ sym (edge_marks mode' (λ straight. grid_axis f straight a) refl refl x))
    0 (take n axes) query)
