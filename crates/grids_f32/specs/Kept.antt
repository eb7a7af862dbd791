-- The grid that a caller's struct keeps: the plain calls' grid, of the fields.
use Rattle.std.specs.Float.{Format}
use Rattle.grid.specs.Query.{Grid}
use Rattle.regular_query.specs.Grid.{grid_of as regular_of}
use Rattle.rectilinear_query.specs.Grid.{grid_of as rectilinear_of}
use Rattle.grids_f32.specs.declared.MulticubicRegular.{MulticubicRegular}
use Rattle.grids_f32.specs.declared.MulticubicRectilinear.{MulticubicRectilinear}

abbrev pub kept_regular : Format → MulticubicRegular → Grid
kept_regular f g = regular_of f g.axis_count g.axes g.vals.now g.mode

abbrev pub kept_rectilinear : Format → MulticubicRectilinear → Grid
kept_rectilinear f g = rectilinear_of f g.axis_count g.counts g.axes.now g.vals.now g.mode
