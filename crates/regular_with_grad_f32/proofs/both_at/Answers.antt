-- `both_at`: each turn puts one axis more into the pass, and the shared reduction over all of them gives value and gradient.
use mathlib.Core.Path.{◌≡◌, refl, ◌∙◌}
use mathlib.Core.Bool.{true, false}
use mathlib.Core.List.{List}
use Prim.Native.Nat.{ℕ, ◌+◌, ◌*◌, ◌≤◌, ◌<◌}
use native.Mathlib.Omega.{arith}
use lib.ListN.{length, get_or}
use lib.Ieee.{nan, binary32}
use Rattle.std.specs.Prelude.{Ok}
use Rattle.multicubic.specs.declared.Place.{Place}
use Rattle.multicubic.specs.Types.{Loc}
use Rattle.multicubic.specs.Answers.{place_at}
use Rattle.multicubic.specs.Place.{Placed}
use Rattle.reduction.specs.Value.{strides_of, offset, shifted}
use Rattle.reduction.specs.Internal.{Reads}
use Rattle.grid.specs.Query.{counts_of, places, find, at, origins_of}
use Rattle.regular_query.specs.Grid.{axes_in}
use Rattle.regular_query_f32.proofs.Taking.{Placing, placed-by, unplaced-by, own, Taking, fits, spaced, ends, same, low, located, weighed}
use Rattle.shared_sums.proofs.Both.{both-none, both-refused, both_small, both-turn, both_read, both-room, both-done}
use Rattle.regular_with_grad_f32.proofs.both_at.Goals as goal
use Rattle.regular_with_grad_f32.proofs.both_at.Goals.{After-place_at, At-loop-axis}

pub loop-axis-init : goal.loop-axis-init
loop-axis-init c =
    let t : Taking c.args.mode c.args.axis_count c.args.axes (length c.args.vals.now) c.args.strides c.linearize_extrapolation-straight.result =
    record { four = c.well_formed.1.0.1.0.1; ready = c.requires; lined = c.linearize_extrapolation-straight.ensures } in
    record {
      few = (fits t).few;
      taking = t;
      both = both-none _ _ _ _ _ _ c.well_formed.1.1.1.1.0.1.0.1 (spaced t) refl refl;
    }

pub replaced_at-replaced-requires : goal.replaced_at-replaced-requires
replaced_at-replaced-requires c = ends c.loop-axis.invariant.taking c.loop-axis-test.true

pub hold-used-requires : goal.hold-used-requires
hold-used-requires c = ends c.loop-axis.invariant.taking c.loop-axis-test.true

pub get_loc-requires : goal.get_loc-requires
get_loc-requires c = (ends c.loop-axis.invariant.taking c.loop-axis-test.true).0

-- the place on the axis in hand has been asked for: it is what the grid's axis has
found : (c : After-place_at) → c.get_loc.result ≡ (own c.args.mode c.args.axes c.loop-axis.axis).loc (get_or c.args.x c.loop-axis.axis nan)
found c = located c.loop-axis.invariant.taking c.loop-axis-test.true _ _ _ c.replaced_at-replaced.ensures c.hold-used.ensures _ c.get_loc.ensures.value

-- where it is none, the query is refused
pub returns-in-Err : goal.returns-in-Err
returns-in-Err c =
    let t = c.loop-axis.invariant.taking in
    let u = unplaced-by 0 c.loop-axis.axis c.get_loc.result c.in-Err.ensures in
    both-refused (fits t) c.loop-axis.invariant.both c.loop-axis-test.true _ (same t c.loop-axis-test.true) binary32 c.args.vals.now
    u.0 (u.1 ∙ found (goal.at.returns-in-Err c).After-place_at) u.2 c.refused.ensures

pub row_at-requires : goal.row_at-requires
row_at-requires c = low c.loop-axis.invariant.taking c.loop-axis-test.true _ _ _ c.in-Ok.ensures c.get_loc.ensures.value

pub row_at-requires-in-loop-axis : goal.row_at-requires-in-loop-axis
row_at-requires-in-loop-axis c = low c.loop-axis.invariant.taking c.loop-axis-test.true _ _ _ c.in-Ok.ensures c.get_loc.ensures.value

-- where it has placed the query
module _ (c : After-place_at) (p : Place) (e : ◌≡◌ {A = Placing} (Ok p) (place_at 0 c.loop-axis.axis c.get_loc.result)) where
  placed : ◌≡◌ {A = Loc} (Ok p) ((own c.args.mode c.args.axes c.loop-axis.axis).loc (get_or c.args.x c.loop-axis.axis nan))
  placed = placed-by 0 c.loop-axis.axis c.get_loc.result e ∙ found c

  -- the index of the block's first value stays small
  small : c.loop-axis.base + p.origin * get_or c.args.strides c.loop-axis.axis 0 < 1048576
  small = both_small (fits c.loop-axis.invariant.taking) c.loop-axis.invariant.both c.loop-axis-test.true _ (same c.loop-axis.invariant.taking c.loop-axis-test.true) _ placed

pub overflow_mul-base : goal.overflow_mul-base
overflow_mul-base c = omega (arith, small (goal.at.overflow_mul-base c).After-place_at _ c.in-Ok.ensures)

pub overflow_add-base : goal.overflow_add-base
overflow_add-base c = omega (arith, small (goal.at.overflow_add-base c).After-place_at _ c.in-Ok.ensures)

pub loop-axis-preserved : goal.loop-axis-preserved
loop-axis-preserved c =
    let t = c.loop-axis.invariant.taking in
    let row = weighed t c.loop-axis-test.true (get_or c.args.x c.loop-axis.axis nan) _ _ c.replaced_at-replaced.ensures c.hold-used.ensures in
    record {
      few = c.loop-axis.invariant.few;
      taking = t;
      both = both-turn (fits t) c.loop-axis.invariant.both c.loop-axis-test.true _ (same t c.loop-axis-test.true) _ (placed (goal.at.loop-axis-preserved c).After-place_at _ c.in-Ok.ensures) _ _
          (row _ c.in-Ok.place false c.row_at.ensures) (row _ c.in-Ok.place true c.row_at-in-loop-axis.ensures);
    }

-- clause 5.5, at the base that the reduction gets: the way of its reads leads to the sum of (origin + j) × stride
read_here : (c : At-loop-axis) → c.args.axis_count ≤ c.loop-axis.axis → (ps : List Placed) → find 0 (axes_in binary32 c.args.mode c.args.axis_count c.args.axes) (at c.args.x) ≡ places ps
    → (js : List ℕ) (read : ℕ) → Reads c.args.axis_count c.loop-axis.base c.args.strides js read
    → read ≡ offset (shifted (origins_of ps) js) (strides_of (counts_of (axes_in binary32 c.args.mode c.args.axis_count c.args.axes)))
read_here c h = both_read (fits c.loop-axis.invariant.taking) c.loop-axis.invariant.both h

pub reduce_shared-shared-requires : goal.reduce_shared-shared-requires
reduce_shared-shared-requires c = omega (arith, both-room (fits c.loop-axis.invariant.taking) c.loop-axis.invariant.both c.loop-axis-test.false)

pub returns : goal.returns
returns c =
    let r = c.reduce_shared-shared in
    let long : length r.result.gradient ≡ 4 = r.type_inv.1.1.1.0.1.0.1 in
    both-done (fits c.loop-axis.invariant.taking) c.loop-axis.invariant.both c.loop-axis-test.false binary32 c.args.vals.now long r.ensures.reduced
    (c.marks_of-marks.ensures c.args.mode) r.ensures.taken_value
