-- `marks_along`: each turn sets one pair of marks more.
use Prim.Native.Nat.{◌<◌}
use mathlib.Core.Path.{◌≡◌, ◌∙◌, sym, refl, ap}
use native.Mathlib.Omega.{arith}
use lib.ListN.{length, get_or}
use lib.Ieee.{nan, binary64}
use Rattle.multicubic.specs.declared.EdgeMode.{EdgeMode}
use Rattle.multicubic.specs.declared.EdgeMode.TheVariants.{Cubic}
use Rattle.grid.specs.Query.{at, GridAxis, marks_at}
use Rattle.grid.specs.Internal.{no_axis as no_grid_axis}
use Rattle.grid.proofs.Marking.{marking_none, marking-turn, marking-all, marks_by}
use Rattle.regular_query.specs.Grid.{grid_axis, axes_in}
use Rattle.regular_query.proofs.Calls.{no_axis}
use Rattle.regular_query.proofs.Locating.{fit, spanned, axis-is}
use Rattle.regular_query.proofs.marks_along.Goals as goal

pub loop-i-init : goal.loop-i-init
loop-i-init c =
    let four = c.well_formed.1.0.1.0.1 in
    record { few = (fit binary64 Cubic four c.requires).few; four = four; marking = λ mode. marking_none _ _ _ c.unmarked-marks.ensures }

pub marks_at-requires : goal.marks_at-requires
marks_at-requires c = spanned binary64 Cubic c.loop-i.invariant.four c.requires c.loop-i.i c.loop-i-test.true

pub loop-i-preserved : goal.loop-i-preserved
loop-i-preserved c =
    let a = c.args in
    let four = c.loop-i.invariant.four in
    let inside : (mode : EdgeMode) → c.loop-i.i < length (axes_in binary64 mode a.axis_count a.axes) = λ mode. rw (fit binary64 mode four c.requires).counted c.loop-i-test.true in
    let own : (mode : EdgeMode) → c.marks_at.result ≡ marks_at (get_or (axes_in binary64 mode a.axis_count a.axes) c.loop-i.i no_grid_axis) (at a.x c.loop-i.i) =
    λ mode. marks_by mode (λ straight. grid_axis binary64 straight (get_or a.axes c.loop-i.i no_axis)) refl refl (get_or a.x c.loop-i.i nan)
    c.marks_at.result c.marks_at.ensures.below_value c.marks_at.ensures.above_value
    ∙ ap (λ (g : GridAxis). marks_at g (get_or a.x c.loop-i.i nan)) (axis-is binary64 mode four c.requires c.loop-i.i c.loop-i-test.true) in
    record {
      few = c.loop-i.invariant.few;
      four = four;
      marking = λ mode. marking-turn (c.loop-i.invariant.marking mode) (inside mode) (omega arith) _ (own mode);
    }

pub returns : goal.returns
returns c mode =
    let e : c.loop-i.i ≡ c.args.axis_count = omega arith in
    marking-all (c.loop-i.invariant.marking mode) (e ∙ sym (fit binary64 mode c.loop-i.invariant.four c.requires).counted)
