use Rattle.std.proofs.Common.{◌≡◌, ◌++◌, List, ℕ, ap, ◌∙◌, codes}
use Rattle.std.specs.Fmt.{decimal}
use Rattle.sim_base.specs.Packet.{packet_size}
use Rattle.sim_base.specs.declared.packet.Load.TheVariants.{Tcp}
use Rattle.sim_base.specs.declared.packet.Packet.{Packet}
use Rattle.out_text.specs.Address.{addr_text}
use Rattle.out_text.specs.Log.{flags_word, protocol_word, segment_words}
use Rattle.out_text.proofs.LineWords.{words_behind}
use Rattle.out_text.proofs.log.push_packet.Goals as goal

pub returns-in_ok-push_segment-in-Tcp : goal.returns-in_ok-push_segment-in-Tcp
returns-in_ok-push_segment-in-Tcp c =
    let p : Packet = c.args.packet.now in
    let words : segment_words p.load ≡ segment_words (Tcp c.in-Tcp.flags c.in-Tcp.seq c.in-Tcp.ack c.in-Tcp.window c.in-Tcp.text) = ap segment_words c.in-Tcp.is in
    rw words
    (c.in_ok-push_segment-in-Tcp.ensures ∙ ap (λ (xs : List ℕ). xs ++ (codes " " ++ (flags_word c.in-Tcp.flags ++ (codes " " ++ (decimal c.in-Tcp.seq ++ (codes " " ++ decimal c.in-Tcp.ack)))))) c.in_ok-push_ends.ensures
    ∙ words_behind c.args.into.now (protocol_word p.load) (addr_text p.from) (addr_text p.to) (decimal (packet_size p)) _)
