use Rattle.base_texts.proofs.QuantityLemmas.{AllDigits_front}
use Rattle.shd_values.proofs.number.leading_number.Goals as goal

pub number-requires : goal.number-requires
number-requires c = rw (c.split_at.ensures.front, c.digits_len.ensures.len) (AllDigits_front c.args.text.now)
