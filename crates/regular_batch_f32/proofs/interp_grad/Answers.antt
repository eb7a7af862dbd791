-- `interp_grad`: the checks leave a grid that has axes and strides, and the columns are the buffer that is asked for.
use mathlib.Core.Path.{◌≡◌, sym, ◌∙◌}
use native.Mathlib.Omega.{arith}
use lib.ListN.{length}
use lib.Ieee.{binary32}
use Rattle.multicubic.specs.Types.{accepted}
use Rattle.multicubic.proofs.Passed.{then_accepted}
use Rattle.grid.proofs.Batches.{gradient-checked}
use Rattle.grid.proofs.Running.{columns-are}
use Rattle.regular_query.specs.Grid.{checks_of, grid_of}
use Rattle.regular_query.proofs.Sizes.{passed}
use Rattle.regular_query.proofs.Locating.{spaceable, fit}
use Rattle.regular_batch_f32.proofs.interp_grad.Goals as goal
use Rattle.regular_batch_f32.proofs.interp_grad.Goals.{After-counts_of}

pub check_gradients-requires : goal.check_gradients-requires
check_gradients-requires c e = let p = passed c.args.axis_count c.args.axes (length c.args.vals.now) (sym c.new.ensures.value ∙ e) in (p.some, p.few)

-- all checks have passed, so those of the grid have
taken : (c : After-counts_of) → checks_of c.args.axis_count c.args.axes (length c.args.vals.now) ≡ accepted
taken c = sym c.new.ensures.value ∙ (then_accepted _ _ (sym c.check_gradients.ensures ∙ c.in_ok-check_gradients.was)).0

pub strides-requires : goal.strides-requires
strides-requires c =
    let every = spaceable c.args.axis_count c.args.axes (length c.args.vals.now) (taken (goal.at.strides-requires c).After-counts_of) _ c.counts_of.ensures in
    record { n_bound = every.0; counts_value = every.1 }

pub nonzero_div-out : goal.nonzero_div-out
nonzero_div-out c = omega (arith, (passed c.args.axis_count c.args.axes (length c.args.vals.now) (taken (goal.at.nonzero_div-out c).After-counts_of)).some)

pub returns-clause-out_after : goal.returns-clause-out_after
returns-clause-out_after c =
    let a = c.args in
    let g = grid_of binary32 a.axis_count a.axes a.vals.now a.mode in
    let checks = gradient-checked binary32 g a.queries.now a.out.now _ _ c.new.ensures.value c.check_gradients.ensures ∙ c.in_ok-check_gradients.was in
    let f = fit binary32 a.mode {axes = a.axes} c.well_formed.1.0.1.0.1 (record { values = length a.vals.now; checked = taken (goal.at.returns-clause-out_after c).After-counts_of }) in
    columns-are binary32 g a.queries.now a.out.now _ f.counted f.some checks c.fill_columns.ensures.filled_columns
