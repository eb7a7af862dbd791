-- `check_sizes`: one law of proofs/Checks.antt for each return.
use mathlib.Core.Path.{◌∙◌, sym, ap}
use native.Mathlib.Omega.{arith}
use Rattle.multicubic.specs.Grid.{misjoined}
use Rattle.multicubic.proofs.Checks.{no-axes, many-axes, long-axis, large_product, other_length, other-join, lengths-match}
use borrow.Author.Rules.{rules}
use Rattle.multicubic.proofs.check_sizes.Goals as goal

pub returns-then-axis_count-eq0 : goal.returns-then-axis_count-eq0
returns-then-axis_count-eq0 c =
    let a = c.args in
    c.refused.ensures ∙ no-axes a.axis_count a.counts a.values a.axes c.if-axis_count-eq0.true

pub returns-then-axis_count-gt4 : goal.returns-then-axis_count-gt4
returns-then-axis_count-gt4 c =
    let a = c.args in
    c.refused-then-axis_count-gt4.ensures ∙ many-axes a.axis_count a.counts a.values a.axes c.if-axis_count-gt4.true

pub returns-then-any_over : goal.returns-then-any_over
returns-then-any_over c =
    let s = c in
    let a = s.args in
    c.refused-then-any_over.ensures ∙ long-axis a.axis_count a.counts a.values a.axes s.if-axis_count-eq0.false s.if-axis_count-gt4.false (sym s.any_over.ensures ∙ c.if-any_over.true)

pub product_of-size-requires : goal.product_of-size-requires
product_of-size-requires c = record {
  counts_bound = search rules;
  counts_value = sym c.any_over.ensures ∙ c.if-any_over.false;
}

pub returns-then-size-gt1048576 : goal.returns-then-size-gt1048576
returns-then-size-gt1048576 c =
    let p = c in
    let s = p in
    let a = s.args in
    c.refused-then-size-gt1048576.ensures ∙ large_product a.axis_count a.counts a.values a.axes s.if-axis_count-eq0.false s.if-axis_count-gt4.false (omega (arith, p.product_of-size.ensures, c.if-size-gt1048576.true))

pub returns-then-values-size : goal.returns-then-values-size
returns-then-values-size c =
    let p = c in
    let s = p in
    let a = s.args in
    let none = sym s.any_over.ensures ∙ p.if-any_over.false in
    c.refused-then-values-size.ensures ∙ other_length a.axis_count a.counts a.values a.axes s.if-axis_count-eq0.false s.if-axis_count-gt4.false none (omega (arith, p.product_of-size.ensures, c.if-size-gt1048576.false)) (λ e. c.if-values-size.true (e ∙ sym p.product_of-size.ensures))

pub sum_of-total-requires : goal.sum_of-total-requires
sum_of-total-requires c =
    let s = c in
    record {
      n_bound = search rules;
      counts_value = sym s.any_over.ensures ∙ c.if-any_over.false;
    }

pub returns-then-misjoined : goal.returns-then-misjoined
returns-then-misjoined c =
    let p = c in
    let s = p in
    let a = s.args in
    let none = sym s.any_over.ensures ∙ p.if-any_over.false in
    let m = c in
    c.refused-then-misjoined.ensures ∙ other-join a.axis_count a.counts a.values a.axes s.if-axis_count-eq0.false s.if-axis_count-gt4.false none (omega (arith, p.product_of-size.ensures, m.if-size-gt1048576.false)) (ap (misjoined a.axes) (sym m.sum_of-total.ensures) ∙ sym m.misjoined.ensures ∙ c.if-misjoined.true)

pub returns : goal.returns
returns c =
    let p = c in
    let s = p in
    let a = s.args in
    let none = sym s.any_over.ensures ∙ p.if-any_over.false in
    let m = c in
    c.first_short.ensures ∙ lengths-match a.axis_count a.counts a.values a.axes s.if-axis_count-eq0.false s.if-axis_count-gt4.false none (omega (arith, p.product_of-size.ensures, m.if-size-gt1048576.false)) (m.if-values-size.false ∙ p.product_of-size.ensures) (ap (misjoined a.axes) (sym m.sum_of-total.ensures) ∙ sym m.misjoined.ensures ∙ c.if-misjoined.false)
