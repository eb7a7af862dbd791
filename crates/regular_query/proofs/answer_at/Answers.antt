-- `answer_at`: each turn puts one axis more into the pass, and the reduction over all of them gives what is asked.
use mathlib.Core.Path.{◌≡◌, refl, sym, ap, ◌∙◌}
use Rattle.std.proofs.Common.{rules}
use mathlib.Core.List.{List}
use Prim.Native.Nat.{ℕ, ◌+◌, ◌*◌, ◌≤◌, ◌<◌}
use native.Mathlib.Omega.{arith}
use lib.ListN.{length, get_or}
use lib.Ieee.{nan, binary64}
use Rattle.std.specs.Prelude.{Ok, Err}
use Rattle.multicubic.specs.declared.Place.{Place}
use Rattle.multicubic.specs.Types.{Answer, Loc}
use Rattle.multicubic.specs.Place.{Placed}
use Rattle.reduction.specs.Value.{strides_of, offset, shifted}
use Rattle.reduction.specs.Internal.{Reads}
use Rattle.grid.specs.Query.{counts_of, places, origins_of}
use Rattle.grid.specs.Batch.{found_at}
use Rattle.grid.specs.Internal.{row_at}
use Rattle.grid.proofs.Answering.{turn_none, turn-room, turn-refused, turn_small, turn-next, turn-read, turn-reach, turn-value}
use Rattle.regular_query.specs.Grid.{axes_in}
use Rattle.regular_query.proofs.Taking.{placed-by, unplaced-by, own, Taking, fits, spaced, ends, same, low, located, weighed}
use Rattle.regular_query.proofs.answer_at.Goals as goal
use Rattle.regular_query.proofs.answer_at.Goals.{After-place_at, At-loop-axis}

pub loop-axis-init : goal.loop-axis-init
loop-axis-init c =
    let t : Taking c.args.mode c.args.axis_count c.args.axes (length c.args.vals.now) c.args.strides c.linearize_extrapolation-straight.result =
    record { four = c.well_formed.1.0.1.0.1; ready = c.requires.ready; lined = c.linearize_extrapolation-straight.ensures } in
    record {
      few = (fits t).few;
      taking = t;
      turn = turn_none _ _ _ _ _ _ _ _ c.requires.i_lt_count.0 c.requires.i_lt_count.1 c.requires.asked c.well_formed.1.1.1.1.0.1.0.1 (spaced t) refl;
    }

pub offset_bounds-queries-at : goal.offset_bounds-queries-at
offset_bounds-queries-at c = omega (arith, turn-room (fits c.loop-axis.invariant.taking) c.loop-axis.invariant.turn c.loop-axis-test.true, c.well_formed)

pub bounds-queries-at : goal.bounds-queries-at
bounds-queries-at c = omega (arith, turn-room (fits c.loop-axis.invariant.taking) c.loop-axis.invariant.turn c.loop-axis-test.true)

pub replaced_at-replaced-requires : goal.replaced_at-replaced-requires
replaced_at-replaced-requires c = ends c.loop-axis.invariant.taking c.loop-axis-test.true

pub hold-used-requires : goal.hold-used-requires
hold-used-requires c = ends c.loop-axis.invariant.taking c.loop-axis-test.true

pub get_loc-requires : goal.get_loc-requires
get_loc-requires c = (ends c.loop-axis.invariant.taking c.loop-axis-test.true).0

-- the place on the axis in hand has been asked for: it is what the grid's axis has
found : (c : After-place_at) → c.get_loc.result ≡ (own c.args.mode c.args.axes c.loop-axis.axis).loc (get_or c.args.queries.now c.loop-axis.at nan)
found c = located c.loop-axis.invariant.taking c.loop-axis-test.true _ _ _ c.replaced_at-replaced.ensures c.hold-used.ensures _ c.get_loc.ensures.value

-- where it is none, that is the query's answer
pub returns-in_err-place : goal.returns-in_err-place
returns-in_err-place c =
    let e : ◌≡◌ {A = Answer} c.from_residual.result (Err c.in_err-place.field-0.0) = search rules in
    let u = unplaced-by c.args.i c.loop-axis.axis c.get_loc.result (sym c.in_err-place.was ∙ c.place_at.ensures) in
    let s = same c.loop-axis.invariant.taking c.loop-axis-test.true in
    e ∙ ap Err u.2 ∙ turn-refused (fits c.loop-axis.invariant.taking) c.loop-axis.invariant.turn c.loop-axis-test.true _ s binary64 c.args.vals.now u.0 (u.1 ∙ found (goal.at.returns-in_err-place c).After-place_at)

pub row_at-requires : goal.row_at-requires
row_at-requires c = low c.loop-axis.invariant.taking c.loop-axis-test.true _ _ _ (sym c.in_ok-place.was ∙ c.place_at.ensures) c.get_loc.ensures.value

-- where it has placed the query
module _ (c : After-place_at) (p : Place) (was : c.place_at.result ≡ Ok p) where
  placed : ◌≡◌ {A = Loc} (Ok p) ((own c.args.mode c.args.axes c.loop-axis.axis).loc (get_or c.args.queries.now c.loop-axis.at nan))
  placed = placed-by c.args.i c.loop-axis.axis c.get_loc.result (sym was ∙ c.place_at.ensures) ∙ found c

  -- the index of the block's first value stays small
  small : c.loop-axis.base + p.origin * get_or c.args.strides c.loop-axis.axis 0 < 1048576
  small = turn_small (fits c.loop-axis.invariant.taking) c.loop-axis.invariant.turn c.loop-axis-test.true _ (same c.loop-axis.invariant.taking c.loop-axis-test.true) _ placed

pub overflow_mul-base : goal.overflow_mul-base
overflow_mul-base c = omega (arith, small (goal.at.overflow_mul-base c).After-place_at _ c.in_ok-place.was)

pub overflow_add-base : goal.overflow_add-base
overflow_add-base c = omega (arith, small (goal.at.overflow_add-base c).After-place_at _ c.in_ok-place.was)

pub overflow_add-at : goal.overflow_add-at
overflow_add-at c = omega (arith, turn-room (fits c.loop-axis.invariant.taking) c.loop-axis.invariant.turn c.loop-axis-test.true, c.well_formed)

pub loop-axis-preserved : goal.loop-axis-preserved
loop-axis-preserved c =
    let t = c.loop-axis.invariant.taking in
    let g = get_or c.args.queries.now c.loop-axis.at nan in
    let row = weighed t c.loop-axis-test.true g _ _ c.replaced_at-replaced.ensures c.hold-used.ensures _ c.in_ok-place.place c.is_component-derivative.result c.row_at.ensures in
    let put = ap (row_at (own c.args.mode c.args.axes c.loop-axis.axis) g c.in_ok-place.place) c.is_component-derivative.ensures in
    record {
      few = c.loop-axis.invariant.few;
      taking = t;
      turn = turn-next (fits t) c.loop-axis.invariant.turn c.loop-axis-test.true _ (same t c.loop-axis-test.true) _ (placed (goal.at.loop-axis-preserved c).After-place_at _ c.in_ok-place.was) _ (row ∙ put);
    }

-- clause 5.5, at the base that the reduction gets: the way of its reads leads to the sum of (origin + j) × stride
read_here : (c : At-loop-axis) → c.args.axis_count ≤ c.loop-axis.axis → (ps : List Placed) → found_at (axes_in binary64 c.args.mode c.args.axis_count c.args.axes) c.args.count c.args.queries.now c.args.i ≡ places ps
    → (js : List ℕ) (read : ℕ) → Reads c.args.axis_count c.loop-axis.base c.args.strides js read
    → read ≡ offset (shifted (origins_of ps) js) (strides_of (counts_of (axes_in binary64 c.args.mode c.args.axis_count c.args.axes)))
read_here c h = turn-read (fits c.loop-axis.invariant.taking) c.loop-axis.invariant.turn h

pub reduce1-requires : goal.reduce1-requires
reduce1-requires c = omega (arith, (turn-reach (fits c.loop-axis.invariant.taking) c.loop-axis.invariant.turn c.loop-axis-test.false).0 c.in-1.is)

pub reduce2-requires : goal.reduce2-requires
reduce2-requires c = omega (arith, (turn-reach (fits c.loop-axis.invariant.taking) c.loop-axis.invariant.turn c.loop-axis-test.false).1 c.in-2.is)

pub reduce3-requires : goal.reduce3-requires
reduce3-requires c = omega (arith, (turn-reach (fits c.loop-axis.invariant.taking) c.loop-axis.invariant.turn c.loop-axis-test.false).2 c.in-3.is)

pub reduce4-requires : goal.reduce4-requires
reduce4-requires c =
    let f = fits c.loop-axis.invariant.taking in
    omega (arith, (turn-reach f c.loop-axis.invariant.turn c.loop-axis-test.false).3 (omega (arith, f.some, c.in_default)))

pub returns-in-1 : goal.returns-in-1
returns-in-1 c = turn-value (fits c.loop-axis.invariant.taking) c.loop-axis.invariant.turn c.loop-axis-test.false binary64 _ 1 c.in-1.is _ c.reduce1.ensures

pub returns-in-2 : goal.returns-in-2
returns-in-2 c = turn-value (fits c.loop-axis.invariant.taking) c.loop-axis.invariant.turn c.loop-axis-test.false binary64 _ 2 c.in-2.is _ c.reduce2.ensures

pub returns-in-3 : goal.returns-in-3
returns-in-3 c = turn-value (fits c.loop-axis.invariant.taking) c.loop-axis.invariant.turn c.loop-axis-test.false binary64 _ 3 c.in-3.is _ c.reduce3.ensures

pub returns-in_default : goal.returns-in_default
returns-in_default c =
    let f = fits c.loop-axis.invariant.taking in
    turn-value f c.loop-axis.invariant.turn c.loop-axis-test.false binary64 _ 4 (omega (arith, f.some, c.in_default)) _ c.reduce4.ensures
