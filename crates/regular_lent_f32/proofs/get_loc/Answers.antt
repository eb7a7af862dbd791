-- Nowhere on a refused grid.
use mathlib.Core.Path.{◌∙◌}
use lib.Ieee.{binary32}
use Rattle.slices.proofs.Lent.{refused-places}
use Rattle.regular_query.specs.Grid.{grid_of}
use Rattle.regular_lent_f32.proofs.get_loc.Goals as goal

pub returns-in-Err : goal.returns-in-Err
returns-in-Err c =
    let a = c.args in
    let away = refused-places (grid_of binary32 a.axis_count a.axes a.vals.now a.mode) c.new.ensures c.in-Err.is a.x in
    (c.unplaced.ensures.outcome_value ∙ away.0, c.unplaced.ensures.places_value ∙ away.1, c.unmarked.ensures ∙ away.2)
