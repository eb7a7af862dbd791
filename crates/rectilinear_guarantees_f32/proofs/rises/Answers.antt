-- `rises`: the outcome is the definition's own, and what is lent fits the format.
use mathlib.Core.Path.{sym, ◌∙◌}
use lib.Ieee.{binary32}
use lib.ListN.{length}
use Rattle.rectilinear_guarantees.proofs.Relied.{rising, gaps, taken_back}
use Rattle.rectilinear_guarantees_f32.proofs.rises.Goals as goal

pub returns : goal.returns
returns c =
    let a = c.args in
    let outcome = c.new.ensures.value in
    record {
      value = outcome;
      rising = λ e. rising a.axis_count a.counts a.axes.now (length a.vals.now) (sym outcome ∙ e);
      gaps_above = λ e. gaps a.axis_count a.counts a.axes.now (length a.vals.now) (sym outcome ∙ e) binary32 c.type_inv.axes;
      value_2 = λ sizes rise. outcome ∙ taken_back a.axis_count a.counts a.axes.now (length a.vals.now) sizes rise;
    }
