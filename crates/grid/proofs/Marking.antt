-- The marks, axis by axis as the code sets them; and what they say.
use mathlib.Core.Path.{◌≡◌, refl, sym, ap, ◌∙◌}
use mathlib.Core.Bool.{Bool, true, false, cond, ◌||◌}
use mathlib.Core.List.{List, [], ◌∷◌, ◌++◌, map}
use Prim.Native.Nat.{ℕ, zero, suc, ◌+◌, ◌-◌, ◌<◌}
use native.Mathlib.Numerals.{add-one}
use native.Mathlib.Omega.{arith}
use lib.ListN.{length, get_or, take, set}
use lib.Seq.{length-take-le, take_all, take-suc}
use lib.IntN.{pos}
use lib.Ieee.{Float, nan, inf, fin, lt, eq}
use Rattle.multicubic.specs.declared.Refusal.{Refusal}
use Rattle.ieee.proofs.Order.{true-not-false, lt_irrefl, eq-lt-left, eq_lt_right}
use Rattle.multicubic.specs.declared.EdgeMode.{EdgeMode}
use Rattle.multicubic.specs.declared.EdgeMode.TheVariants.{Cubic, Straight, Held}
use Rattle.multicubic.specs.Types.{Outcome, accepted, refusal}
use Rattle.multicubic.specs.declared.LocError.TheVariants.{Unplaceable}
use Rattle.std.specs.Prelude.{Err}
use Rattle.multicubic.specs.declared.Marks.{Marks}
use Rattle.multicubic.specs.Place.{unmarked}
use Rattle.multicubic.specs.Internal.{four_unmarked}
use Rattle.multicubic.proofs.Passed.{then_accepted}
use Rattle.grid.specs.Query.{GridAxis, below, above, hold, held_axis, edge_axis, Grid, find, found_outcome, outcome_of, four_of, marks_at, marks_from, marks_beside, mark_answer}
use Rattle.grid.specs.Internal.{no_axis}
use Rattle.grid.proofs.Locating.{put_four}
use Rattle.grid.proofs.Edges.{refuted, hold-inside, hold-below, hold-above}

marks_length : (axis : ℕ) (gs : List GridAxis) (query : ℕ → Float) → length (marks_from axis gs query) ≡ length gs
marks_length axis [] query = refl
marks_length axis (g ∷ gs) query = ap suc (marks_length (suc axis) gs query)

marks_at_lem : (axis i : ℕ) (gs : List GridAxis) (query : ℕ → Float) → i < length gs → get_or (marks_from axis gs query) i unmarked ≡ marks_at (get_or gs i no_axis) (query (axis + i))
marks_at_lem axis i [] query h = absurd (omega arith)
marks_at_lem axis zero (g ∷ gs) query h = let z : axis ≡ axis + 0 = omega arith in ap (λ (k : ℕ). marks_at g (query k)) z
marks_at_lem axis (suc i) (g ∷ gs) query h =
    let z : suc axis + i ≡ axis + suc i = omega arith in
    marks_at_lem (suc axis) i gs query (omega arith) ∙ ap (λ (k : ℕ). marks_at (get_or gs i no_axis) (query k)) z

-- ---- the first i of them are set
pub record Marking (gs : List GridAxis) (query : ℕ → Float) (i : ℕ) (marks : List Marks) : Type 0 where
  pub marks-are : marks ≡ four_of accepted unmarked (take i (marks_from 0 gs query))

pub marking_none : (gs : List GridAxis) (query : ℕ → Float) (marks : List Marks) → marks ≡ four_unmarked → Marking gs query 0 marks
marking_none gs query marks e = record { marks-are = e }

module _ {gs : List GridAxis} {query : ℕ → Float} {i : ℕ} {marks : List Marks} (s : Marking gs query i marks) where
  pub marking-turn : i < length gs → i < 4 → (m : Marks) → m ≡ marks_at (get_or gs i no_axis) (query i) → Marking gs query (i + 1) (set marks i m)
  marking-turn h four m e =
      let ms = marks_from 0 gs query in
      let k : i < length ms = omega (arith, marks_length 0 gs query) in
      let z : i ≡ 0 + i = omega arith in
      let own : m ≡ get_or ms i unmarked = e ∙ ap (λ (j : ℕ). marks_at (get_or gs i no_axis) (query j)) z ∙ sym (marks_at_lem 0 i gs query h) in
      record { marks-are = rw (s.marks-are, own) (put_four unmarked (take i ms) (get_or ms i unmarked) i (length-take-le i ms (omega arith)) four ∙ rw (add-one, take-suc ms i unmarked k) refl) }

  pub marking-all : i ≡ length gs → marks ≡ marks_beside accepted gs query
  marking-all z = s.marks-are ∙ ap (four_of accepted unmarked) (take_all i (marks_from 0 gs query) (omega (arith, marks_length 0 gs query)))

-- ---- beside the outcome of a call
pub marks_beside_lem : (g : Grid) (query : ℕ → Float) (outcome : Outcome) (marks : List Marks) → outcome ≡ outcome_of g query
    → marks ≡ marks_beside outcome g.axes query → marks ≡ mark_answer g query
marks_beside_lem g query outcome marks e m = m ∙ ap (λ (o : Outcome). marks_beside o g.axes query) e

-- an accepted query's grid is taken
pub checked_first : (g : Grid) (query : ℕ → Float) (outcome : Outcome) → outcome ≡ outcome_of g query → outcome ≡ accepted → g.checked ≡ accepted
checked_first g query outcome e a = (then_accepted g.checked (found_outcome 0 (find 0 g.axes query)) (sym e ∙ a)).0

-- ---- what they say
-- refused, none is set
pub marks_refused : (g : Grid) (query : ℕ → Float) (by : Refusal) → outcome_of g query ≡ Err by → mark_answer g query ≡ four_unmarked
marks_refused g query by e = ap (λ (o : Outcome). marks_beside o g.axes query) e

-- an axis has the same marks in every setting
pub edge_marks : (mode : EdgeMode) (axis : Bool → GridAxis) → (axis true).count ≡ (axis false).count → (axis true).node ≡ (axis false).node
    → (given : Float) → marks_at (edge_axis mode axis) given ≡ marks_at (axis false) given
edge_marks Cubic axis c n given = refl
edge_marks Straight axis c n given = λ k. record { below = lt given (n k 0); above = lt (n k (c k - 1)) given }
edge_marks Held axis c n given = refl

-- so in each the two comparisons of the code give them
pub marks_by : (mode : EdgeMode) (axis : Bool → GridAxis) → (axis true).count ≡ (axis false).count → (axis true).node ≡ (axis false).node
    → (given : Float) (m : Marks) → m.below ≡ below (axis false) given → m.above ≡ above (axis false) given → m ≡ marks_at (edge_axis mode axis) given
marks_by mode axis c n given m b a = (λ k. record { below = b k; above = a k }) ∙ sym (edge_marks mode axis c n given)

pub marks_each : {A : Type 0} (told told' : A → GridAxis) → ((x : A) (given : Float) → marks_at (told x) given ≡ marks_at (told' x) given)
    → (axis : ℕ) (xs : List A) (query : ℕ → Float) → marks_from axis (map told xs) query ≡ marks_from axis (map told' xs) query
marks_each told told' e axis [] query = refl
marks_each told told' e axis (x ∷ xs) query = λ k. e x (query axis) k ∷ marks_each told told' e (suc axis) xs query k

-- two tables that answer a query have the same marks, whatever their values and their settings, where each axis has
pub marks_alike : (g g' : Grid) (query : ℕ → Float) → outcome_of g query ≡ accepted → outcome_of g' query ≡ accepted
    → marks_from 0 g.axes query ≡ marks_from 0 g'.axes query → mark_answer g query ≡ mark_answer g' query
marks_alike g g' query e e' m =
    ap (λ (o : Outcome). marks_beside o g.axes query) e ∙ ap (four_of accepted unmarked) m ∙ sym (ap (λ (o : Outcome). marks_beside o g'.axes query) e')

-- held, a coordinate is replaced exactly where it is marked: where it is not, it is used as given; where it is, another number is
pub unmarked_used : (g : GridAxis) (given : Float) → marks_at g given ≡ unmarked → hold g given ≡ given
unmarked_used g given e = hold-inside g given (ap (λ (m : Marks). m.below) e) (ap (λ (m : Marks). m.above) e)

pub marked_replaced : (g : GridAxis) (given : Float) → ((marks_at g given).below || (marks_at g given).above) ≡ true → eq (hold g given) given ≡ false
marked_replaced g given marked = go (below g given) (above g given) refl refl marked
  where
    other : (x : Float) → hold g given ≡ x → (eq x given ≡ true → lt given given ≡ true) → eq (hold g given) given ≡ false
    other x e less = ap (λ (y : Float). eq y given) e ∙ refuted (eq x given) (λ same. true-not-false (sym (less same) ∙ lt_irrefl given))

    go : (b a : Bool) → below g given ≡ b → above g given ≡ a → (b || a) ≡ true → eq (hold g given) given ≡ false
    go true a e d m = other (g.node 0) (hold-below g given e) (λ same. eq_lt_right (g.node 0) given given same e)
    go false true e d m = other (g.node (g.count - 1)) (hold-above g given e d) (λ same. eq-lt-left (g.node (g.count - 1)) given given same d)
    go false false e d m = absurd (true-not-false (sym m))

-- a NaN has neither
pub nan-unmarked : (g : GridAxis) → marks_at g nan ≡ unmarked
unfolding lt
nan-unmarked g = ap (λ (b : Bool). record { below = false; above = b }) (go (g.node (g.count - 1)))
  where
    go : (y : Float) → lt y nan ≡ false
    go lib.Ieee.nan = refl
    go (lib.Ieee.inf s) = refl
    go (lib.Ieee.fin s m e) = refl

-- ---- on an axis from 0 to 3: past an end a query is marked, at the end's node it is not, a -0 for its +0 neither; also where the edge is held
abbrev toy_node : ℕ → Float
toy_node zero = fin false 0 (pos 0)
toy_node (suc i) = fin false 3 (pos 0)

abbrev toy : GridAxis
toy = record { count = 4; loc = λ x. (Err Unplaceable); weights = λ x p. []; derivatives = λ x p. []; node = toy_node }

abbrev asked : GridAxis → List Marks
asked g = map (marks_at g) (fin true 1 (pos 0) ∷ fin true 0 (pos 0) ∷ fin false 0 (pos 0) ∷ fin false 3 (pos 0) ∷ fin false 1 (pos 2) ∷ inf false ∷ nan ∷ [])

abbrev expected : List Marks
expected =
    record { below = true; above = false }
    ∷ unmarked
    ∷ unmarked
    ∷ unmarked
    ∷ record { below = false; above = true }
    ∷ record { below = false; above = true }
    ∷ unmarked
    ∷ []

pub toy_marks : asked toy ≡ expected
unfolding lt
toy_marks = refl

pub toy_marks_held : asked (held_axis toy) ≡ expected
unfolding lt
toy_marks_held = refl
