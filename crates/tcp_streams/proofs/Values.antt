-- a stream of one byte, step by step, where the server's acknowledgements of text and FIN are lost
use Rattle.std.proofs.Common.{◌≡◌, inl, inr, ℕ, true, List, [], ◌∷◌, Contains, refl, sym, subst, arith}
use Rattle.std.specs.List.Sorted.{IsPermutation}
use Rattle.std.proofs.lemmas.List.Sorted.{IsPermutation-refl, IsPermutation-middle}
use Rattle.sim_base.specs.declared.address.Addr.{Addr}
use Rattle.sim_base.specs.declared.packet.Load.TheVariants.{Tcp}
use Rattle.sim_base.specs.declared.packet.Packet.{Packet}
use Rattle.sock_tcp.specs.declared.connection.effects.Shut.TheVariants.{Writing}
use Rattle.sock_tcp.specs.segment.Number.{wire, distance}
use Rattle.sock_tcp.specs.segment.Control.{fresh_control, without_ack, writing_ended}
use Rattle.sock_tcp.specs.segment.Verdict.{syn_sent_verdict, synchronized_verdict, verdict_of}
use Rattle.sock_tcp.specs.connection.Tcb.{Tcb, Turn}
use Rattle.sock_tcp.specs.connection.Segment.{with_ack, sends_ack}
use Rattle.sock_tcp.specs.connection.Timer.{needs_timer, judged, restarted, restarts}
use Rattle.sock_tcp.specs.connection.Output.{pieces, sends_text, sends_fin, follows, output}
use Rattle.sock_tcp.specs.connection.Congestion.{is_duplicate}
use Rattle.sock_tcp.specs.connection.Arrival.{peer_known, established, establishes, advanced, advances, hears_duplicate, notices, fitting_text, keeps, text_comes, receives_text, fin_received, receives_fin, wants_ack, answers, waits_again, unless_over, concludes, receives, connects, takes_segment, takes_packet}
use Rattle.sock_tcp.specs.connection.Process.{fresh_tcb, opened, answered, bytes_taken, writes, reads, pays_ack, flows, ends_writing, shuts}
use Rattle.tcp_laws.specs.Acts.{begun_by, acted}
use Rattle.tcp_laws.specs.Acts.Start.{active, passive}
use Rattle.tcp_laws.specs.Acts.Act.{arrival, write, read, flow, shut}
use Rattle.tcp_streams.specs.Exchange.{Exchange, empty_exchange, Flies, AreSteps, last_exchange}
use Rattle.tcp_streams.specs.Exchange.Step.{acts, begins}
use Rattle.tcp_streams.specs.Frame.{everywhere}
use Rattle.tcp_streams.specs.Stream.{stream_of}
use Rattle.tcp_streams.proofs.Members.{Contains_here, IsIn_from_Contains}

abbrev client : Addr
client = record { ip = record { bits = 1 }; port = 10000 }

abbrev server : Addr
server = record { ip = record { bits = 2 }; port = 80 }

-- the segments; the numbers of the handshake are those of RFC 9293, section 3.5, figure 6
abbrev up : ℕ → ℕ → ℕ → List ℕ → Packet
up flags seq ack text =
    record { from = client; to = server; load = Tcp flags seq ack 65535 text }

abbrev syn : Packet
syn = up 2 100 0 []

abbrev syn_ack : Packet
syn_ack = record { from = server; to = client; load = Tcp 18 300 101 65535 [] }

abbrev ack : Packet
ack = up 16 101 301 []

abbrev text : Packet
text = up 16 101 301 (120 ∷ [])

abbrev fin : Packet
fin = up 17 102 301 []

-- the client
abbrev opens : Turn
opens = begun_by (active client server 100)

abbrev connected : Turn
connected = acted (arrival syn_ack) opens.tcb

abbrev written : Turn
written = acted (write (120 ∷ [])) connected.tcb

abbrev sending : Turn
sending = acted flow written.tcb

abbrev ending : Turn
ending = acted (shut Writing) sending.tcb

-- the server
abbrev answering : Turn
answering = begun_by (passive server client 300 100)

abbrev accepted : Turn
accepted = acted (arrival ack) answering.tcb

abbrev received : Turn
received = acted (arrival text) accepted.tcb

abbrev first_read : Turn
first_read = acted (read 10) received.tcb

abbrev ended : Turn
ended = acted (arrival fin) first_read.tcb

abbrev last_read : Turn
last_read = acted (read 10) ended.tcb

-- what they send
opens_sends : opens.sent ≡ syn ∷ []
unfolding opened fresh_control without_ack
opens_sends = refl

answering_sends : answering.sent ≡ syn_ack ∷ []
unfolding answered fresh_tcb fresh_control with_ack wire
answering_sends = refl

connected_sends : connected.sent ≡ ack ∷ []
unfolding opened fresh_tcb fresh_control without_ack with_ack wire takes_packet takes_segment verdict_of syn_sent_verdict connects peer_known establishes established judged needs_timer restarts restarted sends_ack output follows sends_text sends_fin pieces
connected_sends = refl

accepted_sends : accepted.sent ≡ []
unfolding answered fresh_tcb fresh_control with_ack wire distance takes_packet takes_segment verdict_of synchronized_verdict establishes established judged needs_timer restarts restarted receives unless_over concludes receives_text fitting_text text_comes receives_fin wants_ack answers waits_again output follows sends_text sends_fin pieces
accepted_sends = refl

sending_sends : sending.sent ≡ text ∷ []
unfolding opened fresh_tcb fresh_control without_ack with_ack wire takes_packet takes_segment verdict_of syn_sent_verdict connects peer_known establishes established judged needs_timer restarts restarted sends_ack output follows sends_text sends_fin pieces writes bytes_taken flows unless_over pays_ack
sending_sends = refl

ending_sends : ending.sent ≡ fin ∷ []
unfolding opened fresh_tcb fresh_control without_ack with_ack wire takes_packet takes_segment verdict_of syn_sent_verdict connects peer_known establishes established judged needs_timer restarts restarted sends_ack output follows sends_text sends_fin pieces writes bytes_taken flows unless_over pays_ack shuts ends_writing writing_ended
ending_sends = refl

-- each exchange, with the packets that are still on their way
abbrev exchange : Tcb → Tcb → List Packet → Exchange
exchange r s packets = record { records = r ∷ s ∷ []; flying = packets }

abbrev exchanges : List Exchange
exchanges =
    record { records = opens.tcb ∷ []; flying = opens.sent }
    ∷ exchange answering.tcb opens.tcb answering.sent
    ∷ exchange connected.tcb answering.tcb connected.sent
    ∷ exchange accepted.tcb connected.tcb []
    ∷ exchange written.tcb accepted.tcb []
    ∷ exchange sending.tcb accepted.tcb sending.sent
    ∷ exchange received.tcb sending.tcb []
    ∷ exchange first_read.tcb sending.tcb []
    ∷ exchange ending.tcb first_read.tcb ending.sent
    ∷ exchange ended.tcb ending.tcb []
    ∷ exchange last_read.tcb ending.tcb []
    ∷ []

-- what was sent is on its way, or nothing is
now : (before sent : List Packet) → Flies everywhere before sent sent
now before sent p c = inr (inl c)

nothing : (before sent : List Packet) → Flies everywhere before sent []
nothing before sent p c = absurd (IsIn_from_Contains p [] c)

alone : (p : Packet) (packets : List Packet) → packets ≡ p ∷ [] → Contains packets p
alone p packets e = subst (λ (xs : List Packet). Contains xs p) (sym e) (Contains_here p [])

same : (r s : Tcb) → IsPermutation (r ∷ s ∷ []) (r ∷ s ∷ [])
same r s = IsPermutation-refl (r ∷ s ∷ [])

turned : (r s : Tcb) → IsPermutation (r ∷ s ∷ []) (s ∷ r ∷ [])
turned r s = IsPermutation-middle (r ∷ []) s []

-- the server's ends stay
ends_accepted : (server ≡ accepted.tcb.control.local) × (client ≡ accepted.tcb.control.peer)
unfolding answered fresh_tcb fresh_control with_ack wire distance takes_packet takes_segment verdict_of synchronized_verdict establishes established advanced advances is_duplicate hears_duplicate notices judged needs_timer restarts restarted receives unless_over concludes receives_text fitting_text keeps text_comes receives_fin wants_ack answers waits_again sends_ack output follows sends_text sends_fin pieces
ends_accepted = (refl, refl)

ends_read : (server ≡ first_read.tcb.control.local) × (client ≡ first_read.tcb.control.peer)
unfolding answered fresh_tcb fresh_control with_ack wire distance takes_packet takes_segment verdict_of synchronized_verdict establishes established advanced advances is_duplicate hears_duplicate notices judged needs_timer restarts restarted receives unless_over concludes receives_text fitting_text keeps text_comes receives_fin wants_ack answers waits_again sends_ack output follows sends_text sends_fin pieces reads
ends_read = (refl, refl)

steps : AreSteps everywhere empty_exchange exchanges
unfolding opened answered fresh_tcb fresh_control
steps = (
  begins (active client server 100) (omega arith) tt (IsPermutation-refl (opens.tcb ∷ [])) (now [] opens.sent),
  (
    begins (passive server client 300 100) (omega arith) (record {
      packet = syn;
      flies = alone syn opens.sent opens_sends;
      to = refl;
      from = refl;
      asks = (refl, refl);
    }) (same answering.tcb opens.tcb) (now opens.sent answering.sent),
    (
      acts opens.tcb (answering.tcb ∷ []) (arrival syn_ack) (turned answering.tcb opens.tcb) (alone syn_ack answering.sent answering_sends, refl, refl) (same connected.tcb answering.tcb) (now answering.sent connected.sent),
      (
        acts answering.tcb (connected.tcb ∷ []) (arrival ack) (turned connected.tcb answering.tcb) (alone ack connected.sent connected_sends, refl, refl) (same accepted.tcb connected.tcb) (nothing connected.sent accepted.sent),
        (
          acts connected.tcb (accepted.tcb ∷ []) (write (120 ∷ [])) (turned accepted.tcb connected.tcb) tt (same written.tcb accepted.tcb) (nothing [] written.sent),
          (
            acts written.tcb (accepted.tcb ∷ []) flow (same written.tcb accepted.tcb) tt (same sending.tcb accepted.tcb) (now [] sending.sent),
            (
              acts accepted.tcb (sending.tcb ∷ []) (arrival text) (turned sending.tcb accepted.tcb) (alone text sending.sent sending_sends, ends_accepted.0, ends_accepted.1) (same received.tcb sending.tcb) (nothing sending.sent received.sent),
              (
                acts received.tcb (sending.tcb ∷ []) (read 10) (same received.tcb sending.tcb) tt (same first_read.tcb sending.tcb) (nothing [] first_read.sent),
                (
                  acts sending.tcb (first_read.tcb ∷ []) (shut Writing) (turned first_read.tcb sending.tcb) tt (same ending.tcb first_read.tcb) (now [] ending.sent),
                  (
                    acts first_read.tcb (ending.tcb ∷ []) (arrival fin) (turned ending.tcb first_read.tcb) (alone fin ending.sent ending_sends, ends_read.0, ends_read.1) (same ended.tcb ending.tcb) (nothing ending.sent ended.sent),
                    (
                      acts ended.tcb (ending.tcb ∷ []) (read 10) (same ended.tcb ending.tcb) tt (same last_read.tcb ending.tcb) (nothing [] last_read.sent),
                      tt,
                    ),
                  ),
                ),
              ),
            ),
          ),
        ),
      ),
    ),
  ),
)

-- the server has read the byte and seen the end
stream : stream_of client server (last_exchange empty_exchange exchanges).records ≡ record { written = 120 ∷ []; read = 120 ∷ []; ended = true }
unfolding opened answered fresh_tcb fresh_control without_ack with_ack wire distance takes_packet takes_segment verdict_of syn_sent_verdict synchronized_verdict connects peer_known establishes established advanced advances is_duplicate hears_duplicate notices judged needs_timer restarts restarted receives unless_over concludes receives_text fitting_text keeps text_comes fin_received receives_fin wants_ack answers waits_again sends_ack output follows sends_text sends_fin pieces writes bytes_taken reads flows pays_ack shuts ends_writing writing_ended
stream = refl
