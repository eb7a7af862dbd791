-- `get_loc`: no number, by the first test; then one law of proofs/Floor.antt for each return.
use Rattle.std.proofs.Common.{ℕ, ◌+◌, pos, ◌-ℤ◌, refl, ap, ◌∙◌, arith}
use lib.Ieee.{neg}
use Rattle.std.specs.Prelude.{Ok}
use Rattle.multicubic.specs.Place.{place_of}
use Rattle.interp_math.proofs.Comparing.{differ, below, not_below}
use Rattle.regular_axis.proofs.Said.{nan_says, number_says}
use Rattle.regular_axis.proofs.Floor.{counted, loc_counted, loc_high, loc_negative, loc_low}
use Rattle.regular_axis.proofs.get_loc.Goals as goal

pub truncated-floor-requires : goal.truncated-floor-requires
truncated-floor-requires g c =
    let F = g.met.T.Float in
    let above = not_below _ F.float_order_law _ _ refl (ap g.T.Float.float c.zero.ensures ∙ F.float_zero_law) c.ge.ensures c.if-ge.true in
    let under = below _ F.float_order_law _ _ refl c.two_to_63.ensures c.lt.ensures c.if-lt.true in
    let k = counted _ above under in
    record {
      lower_bound = k.above;
      upper_bound = k.under;
    }

pub overflow_add-floor : goal.overflow_add-floor
overflow_add-floor g c =
    let F = g.met.T.Float in
    let above = not_below _ F.float_order_law _ _ refl (ap g.T.Float.float c.zero.ensures ∙ F.float_zero_law) c.ge.ensures c.if-ge.true in
    let under = below _ F.float_order_law _ _ refl c.two_to_63.ensures c.lt.ensures c.if-lt.true in
    omega (arith, c.truncated-floor.ensures, (counted _ above under).small)

pub returns-then-ne : goal.returns-then-ne
returns-then-ne g c =
    let F = g.met.T.Float in
    let a = c.args in
    let float = g.T.Float.float in
    let every = nan_says g.T.Float.format (float a.axis.start) (float a.axis.step) a.axis.count (float a.v) (differ _ F.float_eq_law _ _ c.ne.ensures c.if-ne.true) refl in
    record {
      value = every.0;
      result_value = every.1.0;
      result_value_2 = every.1.1;
    }

pub returns-then-lt : goal.returns-then-lt
returns-then-lt g c =
    let F = g.met.T.Float in
    let a = c.args in
    let float = g.T.Float.float in
    let above = not_below _ F.float_order_law _ _ refl (ap g.T.Float.float c.zero.ensures ∙ F.float_zero_law) c.ge.ensures c.if-ge.true in
    let under = below _ F.float_order_law _ _ refl c.two_to_63.ensures c.lt.ensures c.if-lt.true in
    let is_number = differ _ F.float_eq_law _ _ c.ne.ensures c.if-ne.false in
    let every = number_says g.T.Float.format (float a.axis.start) (float a.axis.step) a.axis.count (float a.v) is_number (F.float_sub_law _ _ _ c.sub.ensures) (F.float_div_law _ _ _ c.div-q.ensures)
    (loc_counted a.axis.count _ above under)
    (ap Ok (c.place_from.ensures ∙ ap (λ (k : ℕ). place_of a.axis.count (pos (k + 1) -ℤ pos 2)) c.truncated-floor.ensures)) in
    record {
      value = every.0;
      result_value = every.1.0;
      result_value_2 = every.1.1;
    }

pub returns-then-ge : goal.returns-then-ge
returns-then-ge g c =
    let F = g.met.T.Float in
    let a = c.args in
    let float = g.T.Float.float in
    let under = below _ F.float_order_law _ _ refl c.two_to_63.ensures c.lt.ensures c.if-lt.false in
    let is_number = differ _ F.float_eq_law _ _ c.ne.ensures c.if-ne.false in
    let every = number_says g.T.Float.format (float a.axis.start) (float a.axis.step) a.axis.count (float a.v) is_number (F.float_sub_law _ _ _ c.sub.ensures) (F.float_div_law _ _ _ c.div-q.ensures)
    (loc_high a.axis.count _ under) refl in
    record {
      value = every.0;
      result_value = every.1.0;
      result_value_2 = every.1.1;
    }

pub returns-then-ge-2 : goal.returns-then-ge-2
unfolding neg
returns-then-ge-2 g c =
    let F = g.met.T.Float in
    let a = c.args in
    let float = g.T.Float.float in
    let under = not_below _ F.float_order_law _ _ refl (ap g.T.Float.float c.zero.ensures ∙ F.float_zero_law) c.ge.ensures c.if-ge.false in
    let low = F.float_neg_law _ _ c.neg.ensures ∙ ap neg c.two_to_63-2.ensures in
    let above = not_below _ F.float_order_law _ _ refl low c.ge-2.ensures c.if-ge-2.true in
    let is_number = differ _ F.float_eq_law _ _ c.ne.ensures c.if-ne.false in
    let every = number_says g.T.Float.format (float a.axis.start) (float a.axis.step) a.axis.count (float a.v) is_number (F.float_sub_law _ _ _ c.sub.ensures) (F.float_div_law _ _ _ c.div-q.ensures)
    (loc_negative a.axis.count _ under above) (ap Ok c.place_from-then-ge-2.ensures) in
    record {
      value = every.0;
      result_value = every.1.0;
      result_value_2 = every.1.1;
    }

pub returns : goal.returns
unfolding neg
returns g c =
    let F = g.met.T.Float in
    let a = c.args in
    let float = g.T.Float.float in
    let low = F.float_neg_law _ _ c.neg.ensures ∙ ap neg c.two_to_63-2.ensures in
    let above = not_below _ F.float_order_law _ _ refl low c.ge-2.ensures c.if-ge-2.false in
    let is_number = differ _ F.float_eq_law _ _ c.ne.ensures c.if-ne.false in
    let every = number_says g.T.Float.format (float a.axis.start) (float a.axis.step) a.axis.count (float a.v) is_number (F.float_sub_law _ _ _ c.sub.ensures) (F.float_div_law _ _ _ c.div-q.ensures)
    (loc_low a.axis.count _ above) refl in
    record {
      value = every.0;
      result_value = every.1.0;
      result_value_2 = every.1.1;
    }
