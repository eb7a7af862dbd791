-- `locate`: each turn keeps one place more.
use Prim.Native.Nat.{◌<◌}
use mathlib.Core.Path.{◌≡◌, ◌∙◌, sym, ap}
use native.Mathlib.Omega.{arith}
use lib.ListN.{length, get_or}
use lib.Ieee.{nan, binary64}
use Rattle.std.specs.Prelude.{Err}
use Rattle.grid.specs.Query.{at, GridAxis}
use Rattle.grid.specs.Internal.{no_axis as no_grid_axis}
use Rattle.grid.proofs.Edges.{own-loc}
use Rattle.grid.proofs.Locating.{placing-none, placing-turn, located-refused}
use Rattle.regular_query.specs.Grid.{axes_in}
use Rattle.regular_query.proofs.Locating.{fit, spanned, axis-is}
use Rattle.regular_query.proofs.Taking.{line, placed-by, unplaced-by}
use Rattle.regular.proofs.locate.Goals as goal
use Rattle.regular.proofs.locate.Goals.{After-place_at}

pub loop-i-init : goal.loop-i-init
loop-i-init c = record { few = (fit binary64 c.args.mode c.well_formed.1.0.1.0.1 c.requires).few; placing = placing-none _ _ _ c.nowhere-places.ensures }

pub replaced_at-replaced-requires : goal.replaced_at-replaced-requires
replaced_at-replaced-requires c = spanned binary64 c.args.mode c.well_formed.1.0.1.0.1 c.requires c.loop-i.i c.loop-i-test.true

pub hold-used-requires : goal.hold-used-requires
hold-used-requires c = spanned binary64 c.args.mode c.well_formed.1.0.1.0.1 c.requires c.loop-i.i c.loop-i-test.true

pub get_loc-requires : goal.get_loc-requires
get_loc-requires c = (spanned binary64 c.args.mode c.well_formed.1.0.1.0.1 c.requires c.loop-i.i c.loop-i-test.true).0

-- the place on the axis in hand has been asked for: it is what the grid's axis has
module _ (c : After-place_at) where
  inside : c.loop-i.i < length (axes_in binary64 c.args.mode c.args.axis_count c.args.axes)
  inside = rw (fit binary64 c.args.mode c.well_formed.1.0.1.0.1 c.requires).counted c.loop-i-test.true

  found : c.get_loc.result ≡ (get_or (axes_in binary64 c.args.mode c.args.axis_count c.args.axes) c.loop-i.i no_grid_axis).loc (at c.args.x c.loop-i.i)
  found =
      own-loc c.args.mode (line c.args.axes c.loop-i.i) (get_or c.args.x c.loop-i.i nan) _ _ c.replaced_at-replaced.ensures c.hold-used.ensures _ c.get_loc.ensures.value
      ∙ ap (λ (g : GridAxis). g.loc (get_or c.args.x c.loop-i.i nan)) (axis-is binary64 c.args.mode c.well_formed.1.0.1.0.1 c.requires c.loop-i.i c.loop-i-test.true)

-- where it is none the query has no places
pub returns-in-Err : goal.returns-in-Err
returns-in-Err c =
    let a = (goal.at.returns-in-Err c).After-place_at in
    let u = unplaced-by 0 c.loop-i.i c.get_loc.result (sym c.in-Err.is ∙ c.place_at.ensures) in
    located-refused (axes_in binary64 c.args.mode c.args.axis_count c.args.axes) _ c.loop-i.i c.loop-i.invariant.placing.so_far (inside a) u.0 (u.1 ∙ found a)
    _ _ (c.unplaced.ensures.outcome_value ∙ ap Err u.2) c.unplaced.ensures.places_value

pub loop-i-preserved : goal.loop-i-preserved
loop-i-preserved c =
    let a = (goal.at.loop-i-preserved c).After-place_at in
    let placed = placed-by 0 c.loop-i.i c.get_loc.result (sym c.in-Ok.is ∙ c.place_at.ensures) ∙ found a in
    record { few = c.loop-i.invariant.few; placing = placing-turn _ _ _ c.loop-i.i c.loop-i.invariant.placing (inside a) (omega arith) _ placed }
