-- what answers a segment of no connection (RFC 9293, section 3.10.7.1)
use Rattle.std.specs.Prelude.{ℕ, ◌+◌, [], length, Bool, if◌then◌else◌, Option, Some, None}
use Rattle.sim_base.specs.declared.packet.Packet.{Packet}
use Rattle.sim_base.specs.declared.packet.Load.{Load}
use Rattle.sim_base.specs.declared.packet.Load.TheVariants.{Udp, Tcp}
use Rattle.sim_base.specs.Packet.{rst_flag, ack_flag}
use Rattle.sock_tcp.specs.segment.Congestion.{max_window}
use Rattle.sock_tcp.specs.declared.segment.header.Header.{Header}
use Rattle.sock_tcp.specs.segment.Header.{header_of}
use Rattle.sock_tcp.specs.segment.Number.{wire}

-- back to where a packet came from
abbrev pub sent_back : Packet → ℕ → ℕ → ℕ → Packet
sent_back p flags seq ack = record { from = p.to; to = p.from; load = Tcp flags seq ack max_window [] }

-- a SYN and a FIN take a number each
abbrev pub one_if : Bool → ℕ
one_if b = if b then 1 else 0

-- a RST gets nothing, what acknowledges something is refused by its number, and everything else is
-- acknowledged and refused
unfoldable pub header_refusal : Packet → Header → ℕ → Option Packet
header_refusal p h count =
    if h.rst then None
    else if h.has_ack then Some (sent_back p rst_flag h.ack 0)
    else Some (sent_back p (rst_flag + ack_flag) 0 (wire h.seq (count + (one_if h.syn + one_if h.fin))))

abbrev pub load_refusal : Packet → Load → Option Packet
load_refusal p (Udp text) = None
load_refusal p (Tcp flags seq ack window text) =
    header_refusal p (header_of flags seq ack window) (length text)

abbrev pub refusal_of : Packet → Option Packet
refusal_of p = load_refusal p p.load
