use Rattle.std.proofs.Common.{◌∙◌, arith}
use Rattle.pcap_text.proofs.Folding.{all_left, next_left, left_summed}
use Rattle.pcap_text.proofs.checksum.sum_on.Goals as goal

pub loop-rest-init : goal.loop-rest-init
loop-rest-init c =
    all_left c.args.sum c.from-wide.result c.args.bytes.now (let fits = c.ranges.sum in omega arith) (λ i. let fits = c.type_inv.bytes i in omega arith) c.from-wide.ensures

pub loop-rest-preserved : goal.loop-rest-preserved
loop-rest-preserved c =
    next_left c.args.sum c.args.bytes.now c.loop-rest.wide c.loop-rest.rest.now c.split_at.result.0.now c.split_at.result.1.now c.wide_word.result c.carried_wide-wide.result
    c.loop-rest-test.true c.loop-rest.invariant c.split_at.ensures.front c.split_at.ensures.back c.wide_word.ensures c.carried_wide-wide.ensures

pub returns : goal.returns
returns c =
    c.sum_by_words.ensures
    ∙ left_summed c.args.sum c.args.bytes.now c.loop-rest.wide c.loop-rest.rest.now c.folded.result c.loop-rest.invariant c.folded.ensures
