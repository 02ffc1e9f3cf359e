use Rattle.std.proofs.Common.{◌≡◌, ◌∙◌, Some, sym, ap, arith}
use Rattle.pcap_text.specs.Datagram.{datagram_bytes}
use Rattle.pcap_text.specs.Packets.{fields}
use Rattle.pcap_text.proofs.Datagrams.{datagram_is, fields_size, is_datagram, tells}
use Rattle.pcap_text.proofs.packets.packet_of.Goals as goal

pub returns-then-bytes-gt-LONGEST-clause-only : goal.returns-then-bytes-gt-LONGEST-clause-only
returns-then-bytes-gt-LONGEST-clause-only c = λ p fits e. absurd (omega (arith, (datagram_is p c.args.bytes.now e).long))

pub returns-in_default-clause-only : goal.returns-in_default-clause-only
returns-in_default-clause-only c = λ p fits e. sym c.in_default.is ∙ (c.in_ok-packet.ensures.value ∙ tells p c.args.bytes.now fits e)

pub is_datagram_of-requires : goal.is_datagram_of-requires
is_datagram_of-requires c =
    let told : fields c.args.bytes.now ≡ Some c.in-Some.packet = sym c.in_ok-packet.ensures.value ∙ c.in-Some.is in
    omega (arith, fields_size c.args.bytes.now c.in-Some.packet told)

pub returns-then-same-clause-found : goal.returns-then-same-clause-found
returns-then-same-clause-found c =
    let told : fields c.args.bytes.now ≡ Some c.in-Some.packet = sym c.in_ok-packet.ensures.value ∙ c.in-Some.is in
    is_datagram c.in-Some.packet c.args.bytes.now (omega (arith, fields_size c.args.bytes.now c.in-Some.packet told)) (c.in_ok-same.ensures.0 c.if-same.true)

pub returns-then-same-clause-only : goal.returns-then-same-clause-only
returns-then-same-clause-only c = λ p fits e. sym c.in-Some.is ∙ (c.in_ok-packet.ensures.value ∙ tells p c.args.bytes.now fits e)

pub returns-else-same-clause-only : goal.returns-else-same-clause-only
returns-else-same-clause-only c = λ p fits e.
    let told = sym c.in-Some.is ∙ (c.in_ok-packet.ensures.value ∙ tells p c.args.bytes.now fits e) in
    let one : c.in-Some.packet ≡ p = cc in
    let same : datagram_bytes c.in-Some.packet ≡ c.args.bytes.now = ap datagram_bytes one ∙ (datagram_is p c.args.bytes.now e).same in
    let yes = c.in_ok-same.ensures.1 same in
    absurd cc
