-- `find_value`: a grid that is taken has strides, and is asked of the only query of its batch.
use mathlib.Core.Path.{sym, ◌∙◌}
use native.Mathlib.Omega.{arith}
use lib.ListN.{length}
use lib.Ieee.{binary32}
use Rattle.grid.proofs.Singles.{value-single, value-says}
use Rattle.regular_query.specs.Grid.{grid_of}
use Rattle.regular_query.proofs.Locating.{spaceable}
use Rattle.regular_f32.proofs.find_value.Goals as goal

pub strides-requires : goal.strides-requires
strides-requires c =
    let every = spaceable c.args.axis_count c.args.axes (length c.args.vals.now) (sym c.new.ensures.value ∙ c.in_ok-new.was) _ c.counts_of.ensures in
    record { n_bound = every.0; counts_value = every.1 }

pub answer_at-requires-clause-i_lt_count : goal.answer_at-requires-clause-i_lt_count
answer_at-requires-clause-i_lt_count c =
    let few = (spaceable c.args.axis_count c.args.axes (length c.args.vals.now) (sym c.new.ensures.value ∙ c.in_ok-new.was) _ c.counts_of.ensures).0 in
    (omega arith, omega arith)

pub returns-clause-says : goal.returns-clause-says
returns-clause-says c =
    let a = c.args in
    let g = grid_of binary32 a.axis_count a.axes a.vals.now a.mode in
    (value-says binary32 g a.x (c.answer_at.ensures ∙ value-single binary32 g a.x (sym c.new.ensures.value ∙ c.in_ok-new.was))).1.0
