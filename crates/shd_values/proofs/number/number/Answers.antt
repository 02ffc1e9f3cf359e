use Rattle.std.proofs.Common.{arith, ap, ◌+◌, ◌∙◌}
use Rattle.std.proofs.lemmas.List.{take_all}
use Rattle.std.specs.Str.Parse.{digits_value}
use Rattle.std.proofs.lemmas.Int.Digits.{digits_value_more}
use Rattle.std.proofs.lemmas.Str.Parse.{digit_at}
use Rattle.base_texts.proofs.QuantityLemmas.{digits_value-take-le}
use Rattle.shd_values.proofs.number.number.Goals as goal

pub with_digit-requires : goal.with_digit-requires
with_digit-requires c = digit_at c.args.digits.now c.loop-digit.digit-index c.requires (omega arith)

pub returns-in_err-value : goal.returns-in_err-value
returns-in_err-value c =
    let digits = c.args.digits.now in
    let i = c.loop-digit.digit-index in
    let more = digits_value_more 10 digits i (omega arith) in
    let below = digits_value-take-le (i + 1) digits in
    rw c.from_residual.ensures (λ small. c.in_err-value.ensures (omega (arith, more, below, c.loop-digit.invariant.0)))

pub loop-digit-preserved : goal.loop-digit-preserved
loop-digit-preserved c =
    let more = digits_value_more 10 c.args.digits.now c.loop-digit.digit-index (omega arith) in
    (omega (arith, more, c.in_ok-value.ensures.1, c.loop-digit.invariant.0), omega (arith, c.in_ok-value.ensures.0, c.in_ok-value.ensures.1))

pub returns : goal.returns
returns c =
    let whole = ap (digits_value 10) (take_all c.loop-digit.digit-index c.args.digits.now (omega arith)) in
    (omega (arith, whole, c.loop-digit.invariant.0, c.loop-digit.invariant.1), c.loop-digit.invariant.0 ∙ whole)
