-- Two grids that have what their kind supplies have what is owed of the kept grids, in any format.
use mathlib.Core.Path.{◌≡◌, sym, ◌∙◌, subst}
use mathlib.Core.List.{List}
use Prim.Native.Nat.{ℕ}
use lib.ListN.{length, take}
use lib.Ieee.{Float, Format}
use Rattle.multicubic.specs.Types.{Axis}
use Rattle.multicubic.specs.declared.EdgeMode.{EdgeMode}
use Rattle.multicubic.specs.declared.EdgeMode.TheVariants.{Held}
use Rattle.grid.specs.Query.{Grid, at, mark_answer}
use Rattle.grid.specs.Edges.{AtClamped}
use Rattle.grid.specs.Nodes.{Fits}
use Rattle.grid.proofs.AtNodes.{AtEach}
use Rattle.guarantees.specs.Marked.{UnmarkedAtNode}
use Rattle.guarantees.specs.Statements.{IsAccepted}
use Rattle.guarantees.proofs.Typing.{Typed, typed}
use Rattle.guarantees.proofs.Nodes.{Supplied, held-edge, held-in-batch}
use Rattle.guarantees.proofs.Blocks.{Counted}
use Rattle.guarantees.proofs.Owed.{owed_alone, owed_in_batch}
use Rattle.rectilinear_order.specs.Grid.{axes_of}
use Rattle.regular_query.specs.Grid as Reg
use Rattle.rectilinear_query.specs.Grid as Rect
use Rattle.regular_guarantees.proofs.Supplied as Regular
use Rattle.rectilinear_guarantees.proofs.Supplied as Rectilinear
use Rattle.grids_guarantees.specs.Statements.{OwedKept, HeldKept, Shared}

module _ {f : Format} {premises : Type 0} {g : Grid} (kind : Supplied f premises g) where
  owed-kept : {g' : Grid} → Supplied f premises g' → Counted g → ((query : ℕ → Float) → UnmarkedAtNode premises g query (mark_answer g query)) → OwedKept f premises g g'
  owed-kept kind' counted at_nodes = record {
    alone = λ x fit answer answer' o o' xs xs' e e'. owed_alone kind kind' (typed f x fit) e.0 e'.0 (e.1, e.2) (e'.1, e'.2);
    in-batch = λ queries fit o o' before after before' after' grad grad-after grad' grad-after' e b e' b'.
        owed_in_batch kind kind' counted (typed f queries fit) (e, b.0) (e', b'.0) b.1 b'.1;
    unmarked = λ x marks e node taken inside where-at. e ∙ at_nodes (at x) node taken inside where-at;
  }

  held_kept : ((query : ℕ → Float) → Typed f query → IsAccepted g → premises → (is : List ℕ) → AtClamped 0 g.axes is query → AtEach 0 g.axes is query) → HeldKept f premises g
  held_kept rows = record {
    alone = λ x fit answer e. held-edge f premises g kind rows (at x) (typed f x fit) answer e;
    in-batch = λ queries fit outcome before after e b. held-in-batch f premises g kind rows queries before after outcome (typed f queries fit) e b;
  }

-- ---- regular
pub regular : (f : Format) (n n' : ℕ) (axes axes' : List Axis) (vals vals' : List Float) (mode mode' : EdgeMode)
    → n ≡ n' → axes ≡ axes' → length axes ≡ 4 → Fits f vals → Fits f vals' → OwedKept f (Reg.AllPremises (take n axes)) (Reg.grid_of f n axes vals mode) (Reg.grid_of f n' axes' vals' mode')
regular f n n' axes axes' vals vals' mode mode' same_count same-axes four fit fit' =
    let other = Regular.supplied f n' axes' vals' mode' (typed f vals' fit') in
    let counted-alike = subst (λ (k : ℕ). Supplied f (Reg.AllPremises (take k axes')) (Reg.grid_of f n' axes' vals' mode')) (sym same_count) other in
    let alike = subst (λ (l : List Axis). Supplied f (Reg.AllPremises (take n l)) (Reg.grid_of f n' axes' vals' mode')) (sym same-axes) counted-alike in
    owed-kept (Regular.supplied f n axes vals mode (typed f vals fit)) alike (Regular.counted f n axes vals mode four) (Regular.at_nodes f n axes vals mode)

pub held_regular : (f : Format) (n : ℕ) (axes : List Axis) (vals : List Float) (mode : EdgeMode) → mode ≡ Held → Fits f vals → HeldKept f (Reg.AllPremises (take n axes)) (Reg.grid_of f n axes vals mode)
held_regular f n axes vals mode holds fit =
    subst (λ (m : EdgeMode). HeldKept f (Reg.AllPremises (take n axes)) (Reg.grid_of f n axes vals m)) (sym holds)
    (held_kept (Regular.supplied f n axes vals Held (typed f vals fit)) (Regular.clamped f n axes vals))

-- ---- rectilinear
module _ (f : Format) (n n' : ℕ) (counts counts' : List ℕ) (axes axes' vals vals' : List Float) where
  abbrev premises_of : ℕ → List ℕ → List Float → Type 0
  premises_of k cs joined = Rect.AllPremises f (axes_of (take k cs) joined)

  pub rectilinear : (mode mode' : EdgeMode) → Shared f n n' counts counts' axes axes' vals vals'
      → OwedKept f (premises_of n counts axes) (Rect.grid_of f n counts axes vals mode) (Rect.grid_of f n' counts' axes' vals' mode')
  rectilinear mode mode' s =
      let joined = typed f axes s.entries in
      let joined' = typed f axes' (subst (λ (l : List Float). Fits f l) s.same-joined s.entries) in
      let g' = Rect.grid_of f n' counts' axes' vals' mode' in
      let other = Rectilinear.supplied f n' counts' axes' vals' mode' joined' (typed f vals' s.held') in
      let by_count = subst (λ (k : ℕ). Supplied f (premises_of k counts' axes') g') (sym s.same_count) other in
      let by-counts = subst (λ (cs : List ℕ). Supplied f (premises_of n cs axes') g') (sym s.same_four) by_count in
      let alike = subst (λ (l : List Float). Supplied f (premises_of n counts l) g') (sym s.same-joined) by-counts in
      owed-kept (Rectilinear.supplied f n counts axes vals mode joined (typed f vals s.held)) alike
      (Rectilinear.counted f n counts axes vals mode s.long) (Rectilinear.at_nodes f n counts axes vals mode joined)

pub held_rectilinear : (f : Format) (n : ℕ) (counts : List ℕ) (axes vals : List Float) (mode : EdgeMode) → mode ≡ Held → Fits f axes → Fits f vals
    → HeldKept f (Rect.AllPremises f (axes_of (take n counts) axes)) (Rect.grid_of f n counts axes vals mode)
held_rectilinear f n counts axes vals mode holds entries fit =
    let joined = typed f axes entries in
    subst (λ (m : EdgeMode). HeldKept f (Rect.AllPremises f (axes_of (take n counts) axes)) (Rect.grid_of f n counts axes vals m)) (sym holds)
    (held_kept (Rectilinear.supplied f n counts axes vals Held joined (typed f vals fit)) (Rectilinear.clamped f n counts axes vals joined))
