-- `find_value`: the grid's refusal, or what is asked of the only query of its batch.
use mathlib.Core.Path.{sym, ◌∙◌}
use native.Mathlib.Omega.{arith}
use lib.ListN.{length}
use lib.Ieee.{binary32}
use Rattle.grid.proofs.Singles.{value-single, value-says}
use Rattle.rectilinear_query.specs.Grid.{grid_of}
use Rattle.rectilinear_query.proofs.Locating.{spaceable, ready_by}
use Rattle.rectilinear_f32.proofs.find_value.Goals as goal

pub strides-requires : goal.strides-requires
strides-requires c =
    let every = spaceable c.args.axis_count c.args.counts c.args.axes.now (length c.args.vals.now) (sym c.new.ensures.value ∙ c.in_ok-new.was) in
    record { n_bound = every.0; counts_value = every.1 }

pub answer_at-requires : goal.answer_at-requires
answer_at-requires c =
    let taken = sym c.new.ensures.value ∙ c.in_ok-new.was in
    let few = (spaceable c.args.axis_count c.args.counts c.args.axes.now (length c.args.vals.now) taken).0 in
    record {
      ready = ready_by c.args.axis_count c.args.counts c.args.axes.now (length c.args.vals.now) taken _ c.strides.ensures;
      i_lt_count = (omega arith, omega arith);
      asked = tt;
    }

pub returns : goal.returns
returns c =
    let every = value-says binary32 (grid_of binary32 c.args.axis_count c.args.counts c.args.axes.now c.args.vals.now c.args.mode) c.args.x
    (c.answer_at.ensures ∙ value-single binary32 (grid_of binary32 c.args.axis_count c.args.counts c.args.axes.now c.args.vals.now c.args.mode) c.args.x
    (sym c.new.ensures.value ∙ c.in_ok-new.was)) in
    record {
      result_value = every.0;
      says = every.1.0;
      result_value_2 = every.1.1;
    }
