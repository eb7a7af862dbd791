-- `place_from`: one law of proofs/Places.antt for each class.
use mathlib.Core.Path.{sym}
use native.Mathlib.Omega.{arith}
use Rattle.multicubic.proofs.Places.{outside_low, inside_low, interior, inside-high, outside_high}
use Rattle.multicubic.proofs.place_from.Goals as goal

pub returns-then-k-eq0 : goal.returns-then-k-eq0
returns-then-k-eq0 c = sym (outside_low c.args.n c.args.k c.if-k-eq0.true)

pub returns-then-k-eq1 : goal.returns-then-k-eq1
returns-then-k-eq1 c = sym (inside_low c.args.n c.args.k c.if-k-eq1.true)

pub returns-then-k-n : goal.returns-then-k-n
returns-then-k-n c =
    let a = c.args in
    sym (interior a.n a.k (omega arith) (omega arith) c.if-k-n.true)

pub returns-then-k-n-2 : goal.returns-then-k-n-2
returns-then-k-n-2 c =
    let a = c.args in
    sym (inside-high a.n a.k (omega arith) (omega arith) c.if-k-n-2.true)

pub returns-else-k-n-2 : goal.returns-else-k-n-2
returns-else-k-n-2 c =
    let a = c.args in
    sym (outside_high a.n a.k (omega arith) (omega arith) (omega arith))
