-- The buffer is the definition's own, what is lent fits the format, and the kind supplies the rows of a query past an end.
use lib.Ieee.{binary32}
use Rattle.multicubic.specs.declared.EdgeMode.TheVariants.{Held}
use Rattle.guarantees.proofs.Nodes.{held-in-batch}
use Rattle.rectilinear_guarantees.proofs.Supplied.{supplied, clamped}
use Rattle.rectilinear_guarantees_f32.proofs.held_in_batch.Goals as goal

pub returns : goal.returns
returns c =
    let a = c.args in
    let e = c.interp.ensures in record {
      held_in_batch = held-in-batch binary32 _ _ (supplied binary32 a.axis_count a.counts a.axes.now a.vals.now Held c.type_inv.axes c.type_inv.vals)
          (clamped binary32 a.axis_count a.counts a.axes.now a.vals.now c.type_inv.axes) a.queries.now a.out.now _ _ c.type_inv.queries e.value e.out_after;
      value = e.value;
      out_after = e.out_after;
    }
