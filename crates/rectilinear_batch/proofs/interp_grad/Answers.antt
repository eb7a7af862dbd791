-- `interp_grad`: a grid that the checks accept has what its calls ask, and the columns are the buffer that is asked for.
use mathlib.Core.Path.{sym, ◌∙◌}
use lib.ListN.{length}
use lib.Ieee.{binary64}
use Rattle.multicubic.proofs.Passed.{then_accepted}
use Rattle.grid.proofs.Batches.{gradient-checked}
use Rattle.grid.proofs.Running.{columns-are}
use Rattle.rectilinear_query.specs.Grid.{grid_of}
use Rattle.rectilinear_query.proofs.Sizes.{passed}
use Rattle.rectilinear_query.proofs.Locating.{fit}
use Rattle.rectilinear_batch.proofs.interp_grad.Goals as goal

pub check_gradients-requires : goal.check_gradients-requires
check_gradients-requires c = λ e. let p = passed c.args.axis_count c.args.counts c.args.axes.now (length c.args.vals.now) (sym c.new.ensures.value ∙ e) in (p.some, p.few)

pub strides-requires : goal.strides-requires
strides-requires c =
    let taken = (then_accepted _ _ (sym c.check_gradients.ensures ∙ c.in_ok-check_gradients.was)).0 in
    let p = passed c.args.axis_count c.args.counts c.args.axes.now (length c.args.vals.now) (sym c.new.ensures.value ∙ taken) in
    record { n_bound = p.few; counts_value = p.within }

pub nonzero_div-out : goal.nonzero_div-out
nonzero_div-out c =
    let taken = (then_accepted _ _ (sym c.check_gradients.ensures ∙ c.in_ok-check_gradients.was)).0 in
    (passed c.args.axis_count c.args.counts c.args.axes.now (length c.args.vals.now) (sym c.new.ensures.value ∙ taken)).some

pub returns-clause-out_after : goal.returns-clause-out_after
returns-clause-out_after c =
    let g = grid_of binary64 c.args.axis_count c.args.counts c.args.axes.now c.args.vals.now c.args.mode in
    let checks = gradient-checked binary64 g c.args.queries.now c.args.out.now _ _ c.new.ensures.value c.check_gradients.ensures ∙ c.in_ok-check_gradients.was in
    let f = fit binary64 c.args.mode c.well_formed.1.0.1.0.1 (record { values = length c.args.vals.now; checked = (then_accepted _ _ checks).0 }) in
    columns-are binary64 g c.args.queries.now c.args.out.now _ f.counted f.some checks c.fill_columns.ensures.filled_columns
