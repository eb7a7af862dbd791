-- `check_batch`: each test is one of check 7's.
use mathlib.Core.Path.{◌∙◌}
use native.Mathlib.Nat.{mul-le-mul_right}
use native.Mathlib.Omega.{arith}
use borrow.Author.Rules.{rules}
use Rattle.grid.proofs.Checks.{over-cap, other-queries, other-buffer, batch-passes}
use Rattle.grid.proofs.check_batch.Goals as goal

pub refused_batch-requires : goal.refused_batch-requires
refused_batch-requires c = search rules

pub returns-then-count-gt1048576 : goal.returns-then-count-gt1048576
returns-then-count-gt1048576 c =
    let a = c.args in
    c.refused_batch.ensures ∙ over-cap a.axis_count a.count a.queries a.entries a.buffer c.if-count-gt1048576.true

pub overflow_mul-all : goal.overflow_mul-all
overflow_mul-all c = omega (arith, mul-le-mul_right c.args.count c.requires)

pub refused_batch-requires-then-queries-all : goal.refused_batch-requires-then-queries-all
refused_batch-requires-then-queries-all c = search rules

pub returns-then-queries-all : goal.returns-then-queries-all
returns-then-queries-all c =
    let a = c.args in
    c.refused_batch-then-queries-all.ensures ∙ other-queries a.axis_count a.count a.queries a.entries a.buffer c.if-count-gt1048576.false c.if-queries-all.true

pub refused_batch-requires-then-buffer-entries : goal.refused_batch-requires-then-buffer-entries
refused_batch-requires-then-buffer-entries c = search rules

pub returns-then-buffer-entries : goal.returns-then-buffer-entries
returns-then-buffer-entries c =
    let a = c.args in
    c.refused_batch-then-buffer-entries.ensures ∙ other-buffer a.axis_count a.count a.queries a.entries a.buffer c.if-count-gt1048576.false c.if-queries-all.false c.if-buffer-entries.true

pub returns : goal.returns
returns c =
    let a = c.args in
    batch-passes a.axis_count a.count a.queries a.entries a.buffer c.if-count-gt1048576.false c.if-queries-all.false c.if-buffer-entries.false
