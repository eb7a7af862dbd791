-- The structs of both kinds and widths have what is owed: an f32 axis is read as one of the definitions'.
use lib.ListN.{length}
use lib.Ieee.{binary32, binary64}
use Rattle.guarantees.proofs.Typing.{typed}
use Rattle.rectilinear_guarantees.proofs.Relied.{rising, gaps}
use Rattle.grids_guarantees.specs.Kept.{OwedRegular, OwedRegularF32, HeldRegular, HeldRegularF32, OwedRectilinear, OwedRectilinearF32, HeldRectilinear, HeldRectilinearF32, RisesRectilinear, RisesRectilinearF32}
use Rattle.grids_guarantees.proofs.Owed as Owed

pub regular : OwedRegular
regular g g' s = Owed.regular binary64 _ _ _ _ _ _ g.mode g'.mode s.same_count s.same_four s.long s.held s.held'

pub regular-f32 : OwedRegularF32
regular-f32 g g' s = Owed.regular binary32 _ _ _ _ _ _ g.mode g'.mode s.same_count s.same_four s.long s.held s.held'

pub held_regular : HeldRegular
held_regular g holds fit = Owed.held_regular binary64 g.axis_count g.axes g.vals.now g.mode holds fit

pub held_regular_f32 : HeldRegularF32
held_regular_f32 g holds fit = Owed.held_regular binary32 g.axis_count g.axes g.vals.now g.mode holds fit

pub rectilinear : OwedRectilinear
rectilinear g g' s = Owed.rectilinear binary64 _ _ _ _ _ _ _ _ g.mode g'.mode s

pub rectilinear-f32 : OwedRectilinearF32
rectilinear-f32 g g' s = Owed.rectilinear binary32 _ _ _ _ _ _ _ _ g.mode g'.mode s

pub held_rectilinear : HeldRectilinear
held_rectilinear g holds entries fit = Owed.held_rectilinear binary64 g.axis_count g.counts g.axes.now g.vals.now g.mode holds entries fit

pub held_rectilinear_f32 : HeldRectilinearF32
held_rectilinear_f32 g holds entries fit = Owed.held_rectilinear binary32 g.axis_count g.counts g.axes.now g.vals.now g.mode holds entries fit

-- clause 2.6
pub rises_rectilinear : RisesRectilinear
rises_rectilinear g entries taken = (
  rising g.axis_count g.counts g.axes.now (length g.vals.now) taken,
  gaps g.axis_count g.counts g.axes.now (length g.vals.now) taken binary64 (typed binary64 g.axes.now entries),
)

pub rises_rectilinear_f32 : RisesRectilinearF32
rises_rectilinear_f32 g entries taken = (
  rising g.axis_count g.counts g.axes.now (length g.vals.now) taken,
  gaps g.axis_count g.counts g.axes.now (length g.vals.now) taken binary32 (typed binary32 g.axes.now entries),
)
