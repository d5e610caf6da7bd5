-- `decimal` meets its contract, by the digit that the loop reads.
use Rattle.std.proofs.Common.{sym, ◌∙◌, ◌≡◌, ◌+◌, ◌-◌, ◌*◌, true, arith, eq-eqb, eqb-true, get_or, true≢false}
use Rattle.words.specs.Decimal.{zero_digit, is_digit}
use Rattle.words.specs.laws.Decimal.{value_empty, value_whole, not_digit, next_digit, low_byte, high_byte, digit_byte, capped_most, value_end}
use Rattle.arguments.specs.Decimal.{largest}
use Rattle.arguments.proofs.digits.decimal.Goals as goal

pub returns-then-is_empty : goal.returns-then-is_empty
returns-then-is_empty c = sym (value_empty largest c.args.text.now (eqb-true _ 0 (sym c.is_empty.ensures ∙ c.if-is_empty.true)))

pub loop-digit-init : goal.loop-digit-init
loop-digit-init c = record {
  within = omega arith;
  same = sym (value_whole largest c.args.text.now (λ e. true≢false (sym (c.is_empty.ensures ∙ eq-eqb _ 0 e) ∙ c.if-is_empty.false)));
}

pub returns-then-digit-lt48 : goal.returns-then-digit-lt48
returns-then-digit-lt48 c =
    sym (not_digit largest c.args.text.now c.loop-digit.digit-index (omega arith) c.loop-digit.value (low_byte _ c.if-digit-lt48.true)) ∙ c.loop-digit.invariant.same

pub returns-then-digit-gt57 : goal.returns-then-digit-gt57
returns-then-digit-gt57 c =
    sym (not_digit largest c.args.text.now c.loop-digit.digit-index (omega arith) c.loop-digit.value (high_byte _ c.if-digit-gt57.true)) ∙ c.loop-digit.invariant.same

pub loop-digit-preserved : goal.loop-digit-preserved
loop-digit-preserved c =
    let text = c.args.text.now in
    let byte = get_or text c.loop-digit.digit-index 0 in
    let digit : is_digit byte ≡ true = digit_byte byte (omega arith) (omega arith) in
    record {
      within = omega (arith, c.with_digit-value.ensures, capped_most largest (10 * c.loop-digit.value + (byte - zero_digit)));
      same = sym (next_digit largest text c.loop-digit.digit-index (omega arith) c.loop-digit.value digit c.with_digit-value.ensures) ∙ c.loop-digit.invariant.same;
    }

pub returns : goal.returns
returns c =
    sym (value_end largest c.args.text.now c.loop-digit.digit-index c.loop-digit.value (omega arith) c.loop-digit.invariant.within) ∙ c.loop-digit.invariant.same
