-- `partition_point`: the count stays between lo and lo + size, and each turn leaves a quarter of size, or the last part.
use Prim.Native.Nat.{◌+◌, ◌/◌}
use native.Mathlib.Omega.{arith}
use lib.ListN.{length}
use Rattle.interp_math.proofs.Lists.{floats_length}
use Rattle.rectilinear_axis.proofs.Search.{at_most, rest_holds}
use Rattle.rectilinear_axis.proofs.partition_point.Goals as goal

pub loop-size-init : goal.loop-size-init
loop-size-init g c =
    let a = c.args in
    (omega arith, omega arith, at_most (g.T.Real.floats a.grid.now) (g.T.Float.float a.v) (0 + length a.grid.now) (λ k h u. absurd (omega (arith, floats_length g.met.T.Real.floats_law a.grid.now))))

pub forward-lo-requires : goal.forward-lo-requires
forward-lo-requires g c = record {
  q_in_bounds = omega arith;
  grid_value = c.requires;
  lo_bound = c.loop-size.invariant.1;
}

pub loop-size-preserved : goal.loop-size-preserved
loop-size-preserved g c =
    let l = c.loop-size in
    let f = c.forward-lo.ensures in
    (omega (arith, f.1), f.0, rest_holds _ l.lo (l.size / 4) l.size _ f (omega arith) l.invariant.2)

pub count_from-requires : goal.count_from-requires
count_from-requires g c =
    let i = c.loop-size.invariant in
    record {
      size_in_bounds = i.0;
      grid_value = c.requires;
      lo_bound = i.1;
      grid_bound = i.2;
    }

pub returns : goal.returns
returns g c = c.count_from.ensures
