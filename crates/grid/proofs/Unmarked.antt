-- What the order of an axis's nodes says of the marks: no query has both where its ends are in order, which they are on every accepted grid; and at a node, an
-- end node too, there is none where all nodes are, as they are within the premises of clause 8.2.
use mathlib.Core.Path.{◌≡◌, refl, ap, ◌∙◌}
use mathlib.Core.Bool.{Bool, true, false, ◌&&◌}
use mathlib.Core.List.{List, [], ◌∷◌, map}
use Prim.Native.Nat.{ℕ, suc, ◌<◌}
use lib.Dec.{T}
use lib.Ieee.{Float, Format, eq}
use Rattle.multicubic.specs.Types.{Outcome, accepted}
use Rattle.std.specs.Prelude.{Err, Ok}
use Rattle.multicubic.specs.declared.Marks.{Marks}
use Rattle.multicubic.specs.Place.{unmarked}
use Rattle.multicubic.specs.Internal.{four_unmarked}
use Rattle.grid.specs.Query.{GridAxis, Grid, outcome_of, four_of, marks_at, marks_from, mark_answer}
use Rattle.grid.specs.Nodes.{All, AtIndex}
use Rattle.grid.proofs.Edges.{EndsInOrder, one_end, InOrder, node-within}

-- past one end alone
abbrev pub OneMark : GridAxis → Type 0
OneMark g = (given : Float) → ((marks_at g given).below && (marks_at g given).above) ≡ false

one_mark : (g : GridAxis) → EndsInOrder g → OneMark g
one_mark g rises given = go (marks_at g given).below (marks_at g given).above (one_end g given rises)
  where
    go : (b a : Bool) → (a ≡ true → b ≡ false) → (b && a) ≡ false
    go false a h = refl
    go true false h = refl
    go true true h = h refl

pub one_marks : (gs : List GridAxis) → All EndsInOrder gs → All OneMark gs
one_marks [] ok = tt
one_marks (g ∷ gs) ok = (one_mark g ok.0, one_marks gs ok.1)

pub node-unmarked : (f : Format) (g : GridAxis) → InOrder f g → (i : ℕ) → i < g.count → (given : Float) → T (eq given (g.node i)) → marks_at g given ≡ unmarked
node-unmarked f g ok i here given at = let within = node-within f g ok i here given at in λ k. record { below = within.0 k; above = within.1 k }

abbrev none : List GridAxis → List Marks
none gs = map (λ (g : GridAxis). unmarked) gs

each : (f : Format) (query : ℕ → Float) (axis : ℕ) (gs : List GridAxis) (is : List ℕ) → All (InOrder f) gs → AtIndex axis gs is query → marks_from axis gs query ≡ none gs
each f query axis [] [] ok at = refl
each f query axis [] (i ∷ is) ok at = absurd at
each f query axis (g ∷ gs) [] ok at = absurd at
each f query axis (g ∷ gs) (i ∷ is) ok at = λ k. node-unmarked f g ok.0 i at.0 (query axis) at.1 k ∷ each f query (suc axis) gs is ok.1 at.2 k

four : (outcome : Outcome) (gs : List GridAxis) → four_of outcome unmarked (none gs) ≡ four_unmarked
four (Err r) gs = refl
four (Ok _) [] = refl
four (Ok _) (a ∷ []) = refl
four (Ok _) (a ∷ b ∷ []) = refl
four (Ok _) (a ∷ b ∷ c ∷ []) = refl
four (Ok _) (a ∷ b ∷ c ∷ d ∷ gs) = refl

pub nodes_unmarked : (f : Format) (g : Grid) (query : ℕ → Float) (is : List ℕ) → All (InOrder f) g.axes → AtIndex 0 g.axes is query → mark_answer g query ≡ four_unmarked
nodes_unmarked f g query is ok at = ap (four_of (outcome_of g query) unmarked) (each f query 0 g.axes is ok at) ∙ four (outcome_of g query) g.axes
