-- `fill`: each turn puts one answer more, or meets the refusal.
use Rattle.std.proofs.lemmas.Result.{err_from_is_err_and}
use Rattle.grid.proofs.Running.{filling-turn, filling-refused}
use Rattle.rectilinear_batch.proofs.fill.Goals as goal

pub returns-in_err-out : goal.returns-in_err-out
returns-in_err-out c =
    let by = err_from_is_err_and c.from_residual.result c.from_residual.ensures.1 in
    let w = filling-refused c.loop-i.invariant c.loop-i-test.true c.answer_at.ensures c.in_err-out.was in
    record {
      value = rw (by.1, by.2) (rw c.in_err-out.was at w.0);
      out_after = w.1;
    }

pub loop-i-preserved : goal.loop-i-preserved
loop-i-preserved c = filling-turn c.loop-i.invariant c.loop-i-test.true c.answer_at.ensures c.in_ok-out.was
