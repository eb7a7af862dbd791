-- The same of the structs: both kinds, in f64 and in f32.
use Rattle.std.specs.Prelude.{◌≡◌, [], take, length}
use Rattle.std.specs.Float.{binary32, binary64}
use Rattle.multicubic.specs.declared.EdgeMode.TheVariants.{Held}
use Rattle.multicubic.specs.Types.{accepted}
use Rattle.grid.specs.Nodes.{Fits}
use Rattle.rectilinear_order.specs.Grid.{axes_of, Rising, GapsAbove}
use Rattle.regular_query.specs.Grid.{AllPremises as RegularPremises}
use Rattle.rectilinear_query.specs.Grid.{checks_of, AllPremises as RectilinearPremises}
use Rattle.grids.specs.declared.MulticubicRegular.{MulticubicRegular}
use Rattle.grids.specs.declared.MulticubicRectilinear.{MulticubicRectilinear}
use Rattle.grids.specs.Kept.{kept_regular, kept_rectilinear}
use Rattle.grids_f32.specs.declared.MulticubicRegular.{MulticubicRegular as MulticubicRegularF32}
use Rattle.grids_f32.specs.declared.MulticubicRectilinear.{MulticubicRectilinear as MulticubicRectilinearF32}
use Rattle.grids_f32.specs.Kept.{kept_regular as kept_regular_f32, kept_rectilinear as kept_rectilinear_f32}
use Rattle.grids_guarantees.specs.Statements.{OwedKept, HeldKept, Shared}

-- ---- regular
abbrev pub OwedRegular : Type 0
OwedRegular =
    (g g' : MulticubicRegular) → Shared binary64 g.axis_count g'.axis_count g.axes g'.axes [] [] g.vals.now g'.vals.now
    → OwedKept binary64 (RegularPremises (take g.axis_count g.axes)) (kept_regular binary64 g) (kept_regular binary64 g')

abbrev pub OwedRegularF32 : Type 0
OwedRegularF32 =
    (g g' : MulticubicRegularF32) → Shared binary32 g.axis_count g'.axis_count g.axes g'.axes [] [] g.vals.now g'.vals.now
    → OwedKept binary32 (RegularPremises (take g.axis_count g.axes)) (kept_regular_f32 binary32 g) (kept_regular_f32 binary32 g')

abbrev pub HeldRegular : Type 0
HeldRegular =
    (g : MulticubicRegular) → g.mode ≡ Held → Fits binary64 g.vals.now
    → HeldKept binary64 (RegularPremises (take g.axis_count g.axes)) (kept_regular binary64 g)

abbrev pub HeldRegularF32 : Type 0
HeldRegularF32 =
    (g : MulticubicRegularF32) → g.mode ≡ Held → Fits binary32 g.vals.now
    → HeldKept binary32 (RegularPremises (take g.axis_count g.axes)) (kept_regular_f32 binary32 g)

-- ---- rectilinear
abbrev pub OwedRectilinear : Type 0
OwedRectilinear =
    (g g' : MulticubicRectilinear)
    → Shared binary64 g.axis_count g'.axis_count g.counts g'.counts g.axes.now g'.axes.now g.vals.now g'.vals.now
    → OwedKept binary64 (RectilinearPremises binary64 (axes_of (take g.axis_count g.counts) g.axes.now)) (kept_rectilinear binary64 g) (kept_rectilinear binary64 g')

abbrev pub OwedRectilinearF32 : Type 0
OwedRectilinearF32 =
    (g g' : MulticubicRectilinearF32)
    → Shared binary32 g.axis_count g'.axis_count g.counts g'.counts g.axes.now g'.axes.now g.vals.now g'.vals.now
    → OwedKept binary32 (RectilinearPremises binary32 (axes_of (take g.axis_count g.counts) g.axes.now)) (kept_rectilinear_f32 binary32 g) (kept_rectilinear_f32 binary32 g')

abbrev pub HeldRectilinear : Type 0
HeldRectilinear =
    (g : MulticubicRectilinear) → g.mode ≡ Held → Fits binary64 g.axes.now → Fits binary64 g.vals.now
    → HeldKept binary64 (RectilinearPremises binary64 (axes_of (take g.axis_count g.counts) g.axes.now)) (kept_rectilinear binary64 g)

abbrev pub HeldRectilinearF32 : Type 0
HeldRectilinearF32 =
    (g : MulticubicRectilinearF32) → g.mode ≡ Held → Fits binary32 g.axes.now → Fits binary32 g.vals.now
    → HeldKept binary32 (RectilinearPremises binary32 (axes_of (take g.axis_count g.counts) g.axes.now)) (kept_rectilinear_f32 binary32 g)

-- ---- 2.6: where `rectilinear_new` accepts, every axis rises strictly, and no gap is zero
abbrev pub RisesRectilinear : Type 0
RisesRectilinear =
    (g : MulticubicRectilinear) → Fits binary64 g.axes.now → checks_of g.axis_count g.counts g.axes.now (length g.vals.now) ≡ accepted
    → let parts = axes_of (take g.axis_count g.counts) g.axes.now in Rising parts × GapsAbove binary64 parts

abbrev pub RisesRectilinearF32 : Type 0
RisesRectilinearF32 =
    (g : MulticubicRectilinearF32) → Fits binary32 g.axes.now → checks_of g.axis_count g.counts g.axes.now (length g.vals.now) ≡ accepted
    → let parts = axes_of (take g.axis_count g.counts) g.axes.now in Rising parts × GapsAbove binary32 parts
