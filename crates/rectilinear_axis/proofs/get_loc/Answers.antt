-- `get_loc`: no number, by the first test; then the place of the count, by `place_from`'s contract.
use mathlib.Core.Path.{refl}
use native.Mathlib.Omega.{arith}
use Rattle.interp_math.proofs.Lists.{floats_length}
use Rattle.interp_math.proofs.Comparing.{differ}
use Rattle.rectilinear_axis.proofs.Said.{nan_says, number_says}
use Rattle.rectilinear_axis.proofs.get_loc.Goals as goal

pub returns-then-ne : goal.returns-then-ne
returns-then-ne g c =
    let a = c.args in
    let long = floats_length g.met.T.Real.floats_law a.grid.now in
    let is_nan = differ _ g.met.T.Float.float_eq_law _ _ c.ne.ensures c.if-ne.true in
    let every = nan_says (g.T.Real.floats a.grid.now) (g.T.Float.float a.v) (omega (arith, long, c.requires.in_bounds)) is_nan refl in
    record {
      value = every.0;
      result_value = every.1.0;
      result_value_2 = every.1.1;
    }

pub returns : goal.returns
returns g c =
    let a = c.args in
    let long = floats_length g.met.T.Real.floats_law a.grid.now in
    let is_number = differ _ g.met.T.Float.float_eq_law _ _ c.ne.ensures c.if-ne.false in
    let every = number_says (g.T.Real.floats a.grid.now) (g.T.Float.float a.v) c.requires.in_bounds long is_number c.partition_point.ensures c.place_from.ensures in
    record {
      value = every.0;
      result_value = every.1.0;
      result_value_2 = every.1.1;
    }
