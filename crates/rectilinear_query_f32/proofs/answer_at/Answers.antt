-- `answer_at`: each turn puts one axis more into the pass, and the reduction over all of them gives what is asked.
use mathlib.Core.Path.{◌≡◌, refl, sym, ap, ◌∙◌}
use mathlib.Core.List.{List}
use Prim.Native.Nat.{ℕ, ◌+◌, ◌*◌, ◌≤◌, ◌<◌}
use native.Mathlib.Omega.{arith}
use lib.ListN.{get_or}
use lib.Ieee.{nan, binary32}
use Rattle.std.specs.Prelude.{Ok}
use Rattle.std.proofs.lemmas.Result.{err_from_is_err_and}
use Rattle.multicubic.specs.declared.Place.{Place}
use Rattle.multicubic.specs.Place.{straight_of, Placed}
use Rattle.reduction.specs.Value.{strides_of, offset, shifted}
use Rattle.reduction.specs.Internal.{Reads}
use Rattle.grid.specs.Query.{counts_of, places, origins_of}
use Rattle.grid.specs.Batch.{found_at}
use Rattle.grid.specs.Internal.{row_at}
use Rattle.grid.proofs.Edges.{own-loc, own_row}
use Rattle.grid.proofs.Answering.{turn_none, turn-refused, turn_small, turn-next, turn-read, turn-reach, turn-value}
use Rattle.rectilinear_query.specs.Grid.{axes_in}
use Rattle.rectilinear_query.proofs.Locating.{taken_of, spaced-by}
use Rattle.rectilinear_query.proofs.Taking.{placed-by, unplaced-by, first-in-hand, next-in-hand, fits, line, own, same, room}
use Rattle.rectilinear_query_f32.proofs.answer_at.Goals as goal
use Rattle.rectilinear_query_f32.proofs.answer_at.Goals.{At-loop-axis, After-get_loc}

pub loop-axis-init : goal.loop-axis-init
loop-axis-init c =
    let four = c.well_formed.1.0.1.0.1 in
    let ready = c.requires.ready in
    let spaced = spaced-by binary32 c.args.mode four (taken_of ready) c.args.strides ready.spaced in
    record {
      hand = first-in-hand _ _ _ _ four ready.checked;
      turn = turn_none _ _ _ _ _ _ _ _ c.requires.i_lt_count.0 c.requires.i_lt_count.1 c.requires.asked c.well_formed.1.1.1.1.1.0.1.0.1 spaced refl;
    }

-- the place on the axis in hand, as the grid's axis has it; with it, the index of the block's first value stays small
module _ (c : After-get_loc) where
  located : c.get_loc.result ≡ (own c.loop-axis.invariant.hand binary32 c.args.mode).loc (get_or c.args.queries.now c.loop-axis.at nan)
  located =
      own-loc c.args.mode (line c.loop-axis.invariant.hand binary32 c.args.mode) (get_or c.args.queries.now c.loop-axis.at nan) _ _
      c.replaced_at-replaced.ensures c.hold-used.ensures _ c.get_loc.ensures.value

  small : (p : Place) → Ok p ≡ c.get_loc.result → c.loop-axis.base + p.origin * get_or c.args.strides c.loop-axis.axis 0 < 1048576
  small p e =
      turn_small (fits c.loop-axis.invariant.hand binary32 c.args.mode) c.loop-axis.invariant.turn c.loop-axis-test.true
      (own c.loop-axis.invariant.hand binary32 c.args.mode) (same c.loop-axis.invariant.hand binary32 c.args.mode c.loop-axis-test.true) p (e ∙ located)

pub returns-in_err-place : goal.returns-in_err-place
returns-in_err-place c =
    let hand = c.loop-axis.invariant.hand in
    let by = err_from_is_err_and c.from_residual.result c.from_residual.ensures.1 in
    let none = unplaced-by _ _ _ _ (sym c.in_err-place.was ∙ c.place_at.ensures) in
    let there = turn-refused (fits hand binary32 c.args.mode) c.loop-axis.invariant.turn c.loop-axis-test.true
    (own hand binary32 c.args.mode) (same hand binary32 c.args.mode c.loop-axis-test.true) binary32 c.args.vals.now none.0 (none.1 ∙ located (goal.at.returns-in_err-place c).After-get_loc) in
    rw (by.1, by.2, none.2) there

pub row_at-requires : goal.row_at-requires
row_at-requires c =
    room c.loop-axis.invariant.hand binary32 c.args.mode c.loop-axis-test.true (straight_of c.args.mode) _ _
    (placed-by _ _ _ _ (sym c.in_ok-place.was ∙ c.place_at.ensures) ∙ c.get_loc.ensures.value)

pub overflow_mul-base : goal.overflow_mul-base
overflow_mul-base c = omega (arith, small (goal.at.overflow_mul-base c).After-get_loc _ (placed-by _ _ _ _ (sym c.in_ok-place.was ∙ c.place_at.ensures)))

pub overflow_add-base : goal.overflow_add-base
overflow_add-base c = omega (arith, small (goal.at.overflow_add-base c).After-get_loc _ (placed-by _ _ _ _ (sym c.in_ok-place.was ∙ c.place_at.ensures)))

pub loop-axis-preserved : goal.loop-axis-preserved
loop-axis-preserved c =
    let hand = c.loop-axis.invariant.hand in
    let given = get_or c.args.queries.now c.loop-axis.at nan in
    let row = own_row c.args.mode (line hand binary32 c.args.mode) given _ _
    c.replaced_at-replaced.ensures c.hold-used.ensures _ c.linearize_extrapolation-straight.ensures _
    c.in_ok-place.place c.is_component-derivative.result c.row_at.ensures in
    let put = ap (row_at (own hand binary32 c.args.mode) given c.in_ok-place.place) c.is_component-derivative.ensures in
    record {
      hand = next-in-hand hand;
      turn = turn-next (fits hand binary32 c.args.mode) c.loop-axis.invariant.turn c.loop-axis-test.true (own hand binary32 c.args.mode) (same hand binary32 c.args.mode c.loop-axis-test.true) _
          (placed-by _ _ _ _ (sym c.in_ok-place.was ∙ c.place_at.ensures) ∙ located (goal.at.loop-axis-preserved c).After-get_loc) _ (row ∙ put);
    }

-- clause 5.5, at the base that the reduction gets: the way of its reads leads to the sum of (origin + j) × stride
read_here : (c : At-loop-axis) → c.args.axis_count ≤ c.loop-axis.axis → (ps : List Placed) → found_at (axes_in binary32 c.args.mode c.args.axis_count c.args.counts c.args.axes.now) c.args.count c.args.queries.now c.args.i ≡ places ps
    → (js : List ℕ) (read : ℕ) → Reads c.args.axis_count c.loop-axis.base c.args.strides js read
    → read ≡ offset (shifted (origins_of ps) js) (strides_of (counts_of (axes_in binary32 c.args.mode c.args.axis_count c.args.counts c.args.axes.now)))
read_here c h = turn-read (fits c.loop-axis.invariant.hand binary32 c.args.mode) c.loop-axis.invariant.turn h

pub reduce1-requires : goal.reduce1-requires
reduce1-requires c = omega (arith, (turn-reach (fits c.loop-axis.invariant.hand binary32 c.args.mode) c.loop-axis.invariant.turn c.loop-axis-test.false).0 c.in-1.is)

pub returns-in-1 : goal.returns-in-1
returns-in-1 c = turn-value (fits c.loop-axis.invariant.hand binary32 c.args.mode) c.loop-axis.invariant.turn c.loop-axis-test.false binary32 _ 1 c.in-1.is _ c.reduce1.ensures

pub reduce2-requires : goal.reduce2-requires
reduce2-requires c = omega (arith, (turn-reach (fits c.loop-axis.invariant.hand binary32 c.args.mode) c.loop-axis.invariant.turn c.loop-axis-test.false).1 c.in-2.is)

pub returns-in-2 : goal.returns-in-2
returns-in-2 c = turn-value (fits c.loop-axis.invariant.hand binary32 c.args.mode) c.loop-axis.invariant.turn c.loop-axis-test.false binary32 _ 2 c.in-2.is _ c.reduce2.ensures

pub reduce3-requires : goal.reduce3-requires
reduce3-requires c = omega (arith, (turn-reach (fits c.loop-axis.invariant.hand binary32 c.args.mode) c.loop-axis.invariant.turn c.loop-axis-test.false).2 c.in-3.is)

pub returns-in-3 : goal.returns-in-3
returns-in-3 c = turn-value (fits c.loop-axis.invariant.hand binary32 c.args.mode) c.loop-axis.invariant.turn c.loop-axis-test.false binary32 _ 3 c.in-3.is _ c.reduce3.ensures

pub reduce4-requires : goal.reduce4-requires
reduce4-requires c =
    let f = fits c.loop-axis.invariant.hand binary32 c.args.mode in
    let n : c.args.axis_count ≡ 4 = omega (arith, f.some, f.few) in
    omega (arith, (turn-reach f c.loop-axis.invariant.turn c.loop-axis-test.false).3 n)

pub returns-in_default : goal.returns-in_default
returns-in_default c =
    let f = fits c.loop-axis.invariant.hand binary32 c.args.mode in
    let n : c.args.axis_count ≡ 4 = omega (arith, f.some, f.few) in
    turn-value f c.loop-axis.invariant.turn c.loop-axis-test.false binary32 _ 4 n _ c.reduce4.ensures
