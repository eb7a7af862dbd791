-- `locate`: each turn keeps one place more.
use mathlib.Core.Path.{◌≡◌, sym, ap, ◌∙◌}
use Prim.Native.Nat.{◌<◌}
use native.Mathlib.Omega.{arith}
use lib.ListN.{length, get_or}
use lib.Ieee.{nan, binary32}
use Rattle.std.specs.Prelude.{Err}
use Rattle.grid.specs.Query.{at, GridAxis}
use Rattle.grid.specs.Internal.{no_axis as no_grid_axis}
use Rattle.grid.proofs.Edges.{own-loc}
use Rattle.grid.proofs.Locating.{placing-none, placing-turn, placing-all, located-refused}
use Rattle.rectilinear_query.specs.Grid.{axes_in}
use Rattle.rectilinear_query.proofs.Taking.{placed-by, unplaced-by, first-in-hand, next-in-hand, fits, line, same}
use Rattle.rectilinear_f32.proofs.locate.Goals as goal
use Rattle.rectilinear_f32.proofs.locate.Goals.{After-get_loc}

pub loop-i-init : goal.loop-i-init
loop-i-init c = record {
  values = c.requires.values;
  hand = first-in-hand _ _ _ _ c.well_formed.1.0.1.0.1 c.requires.checked;
  placing = placing-none _ _ _ c.nowhere-places.ensures;
}

-- the place on the axis in hand, as the grid's axis has it
module _ (c : After-get_loc) where
  inside : c.loop-i.i < length (axes_in binary32 c.args.mode c.args.axis_count c.args.counts c.args.axes.now)
  inside = rw (fits c.loop-i.invariant.hand binary32 c.args.mode).counted c.loop-i-test.true

  located : c.get_loc.result ≡ (get_or (axes_in binary32 c.args.mode c.args.axis_count c.args.counts c.args.axes.now) c.loop-i.i no_grid_axis).loc (at c.args.x c.loop-i.i)
  located =
      own-loc c.args.mode (line c.loop-i.invariant.hand binary32 c.args.mode) (get_or c.args.x c.loop-i.i nan) _ _ c.replaced_at-replaced.ensures c.hold-used.ensures _ c.get_loc.ensures.value
      ∙ ap (λ (g : GridAxis). g.loc (get_or c.args.x c.loop-i.i nan)) (same c.loop-i.invariant.hand binary32 c.args.mode c.loop-i-test.true)

pub returns-in-Err : goal.returns-in-Err
returns-in-Err c =
    let s = (goal.at.returns-in-Err c).After-get_loc in
    let none = unplaced-by _ _ _ _ (sym c.in-Err.is ∙ c.place_at.ensures) in
    located-refused (axes_in binary32 c.args.mode c.args.axis_count c.args.counts c.args.axes.now) (at c.args.x) c.loop-i.i c.loop-i.invariant.placing.so_far (inside s)
    none.0 (none.1 ∙ located s) c.unplaced.result.outcome c.unplaced.result.places (c.unplaced.ensures.outcome_value ∙ ap Err none.2) c.unplaced.ensures.places_value

pub loop-i-preserved : goal.loop-i-preserved
loop-i-preserved c =
    let s = (goal.at.loop-i-preserved c).After-get_loc in
    let few = c.loop-i.invariant.hand.few in
    record {
      values = c.loop-i.invariant.values;
      hand = next-in-hand c.loop-i.invariant.hand;
      placing = placing-turn _ _ _ c.loop-i.i c.loop-i.invariant.placing (inside s) (omega arith) _ (placed-by _ _ _ _ (sym c.in-Ok.is ∙ c.place_at.ensures) ∙ located s);
    }

pub returns : goal.returns
returns c =
    let e : c.loop-i.i ≡ c.args.axis_count = omega arith in
    placing-all _ _ _ c.loop-i.i c.loop-i.invariant.placing (e ∙ sym (fits c.loop-i.invariant.hand binary32 c.args.mode).counted) 0
