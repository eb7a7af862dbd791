-- `marks_along`: each turn sets one pair of marks more.
use mathlib.Core.Path.{◌≡◌, sym, refl, ap, ◌∙◌}
use Prim.Native.Nat.{◌<◌}
use native.Mathlib.Omega.{arith}
use lib.ListN.{length, get_or}
use lib.Ieee.{nan, binary64}
use Rattle.multicubic.specs.declared.EdgeMode.{EdgeMode}
use Rattle.grid.specs.Query.{at, GridAxis, marks_at}
use Rattle.grid.specs.Internal.{no_axis as no_grid_axis}
use Rattle.grid.proofs.Marking.{marking_none, marking-turn, marking-all, marks_by}
use Rattle.rectilinear_query.specs.Grid.{axes_in}
use Rattle.rectilinear_query.proofs.Taking.{first-in-hand, next-in-hand, fits, line, same}
use Rattle.rectilinear_query.proofs.marks_along.Goals as goal

pub loop-i-init : goal.loop-i-init
loop-i-init c = record {
  values = c.requires.values;
  hand = first-in-hand _ _ _ _ c.well_formed.1.0.1.0.1 c.requires.checked;
  marking = λ mode. marking_none _ _ _ c.unmarked-marks.ensures;
}

pub loop-i-preserved : goal.loop-i-preserved
loop-i-preserved c =
    let hand = c.loop-i.invariant.hand in
    let h = c.loop-i-test.true in
    let few = hand.few in
    let inside : (mode : EdgeMode) → c.loop-i.i < length (axes_in binary64 mode c.args.axis_count c.args.counts c.args.axes.now) = λ mode. rw (fits hand binary64 mode).counted h in
    let own : (mode : EdgeMode) → c.marks_at.result ≡ marks_at (get_or (axes_in binary64 mode c.args.axis_count c.args.counts c.args.axes.now) c.loop-i.i no_grid_axis) (at c.args.x c.loop-i.i) =
    λ mode. marks_by mode (line hand binary64 mode) refl refl (get_or c.args.x c.loop-i.i nan) c.marks_at.result c.marks_at.ensures.below_value c.marks_at.ensures.above_value
    ∙ ap (λ (g : GridAxis). marks_at g (get_or c.args.x c.loop-i.i nan)) (same hand binary64 mode h) in
    record {
      values = c.loop-i.invariant.values;
      hand = next-in-hand hand;
      marking = λ mode. marking-turn (c.loop-i.invariant.marking mode) (inside mode) (omega arith) _ (own mode);
    }

pub returns : goal.returns
returns c mode =
    let e : c.loop-i.i ≡ c.args.axis_count = omega arith in
    marking-all (c.loop-i.invariant.marking mode) (e ∙ sym (fits c.loop-i.invariant.hand binary64 mode).counted)
