use Rattle.std.proofs.Common.{ap, ◌∙◌}
use Rattle.pcap_text.specs.Checksum.{sum_on}
use Rattle.pcap_text.proofs.Sums.{tcp_checked}
use Rattle.pcap_text.proofs.datagram.tcp_check.Goals as goal

pub returns : goal.returns
returns c = tcp_checked c.args.packet.now c.args.control.flags c.args.control.seq c.args.control.ack c.args.control.window c.args.text.now c.sum_on-sum.result c.sum_on-sum-2.result c.sum_on.result c.requires.load
    (c.sum_on-sum.ensures ∙ ap (sum_on 0) c.pseudo_header.ensures)
    (c.sum_on-sum-2.ensures ∙ ap (sum_on c.sum_on-sum.result) c.tcp_front.ensures)
    (c.sum_on.ensures ∙ ap (sum_on c.sum_on-sum-2.result) c.as_slice.ensures)
