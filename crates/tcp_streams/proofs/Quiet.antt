-- what tells a record nothing of its peer
use Rattle.std.proofs.Common.{◌≡◌, ℕ, ◌-◌, List, Bool, true, false, refl, sym, ap, ◌∙◌}
use Rattle.sim_base.specs.declared.errno.Errno.TheVariants.{Econnrefused, Econnreset}
use Rattle.sim_base.specs.declared.packet.Packet.{Packet}
use Rattle.sim_base.specs.declared.packet.Load.{Load}
use Rattle.sim_base.specs.declared.packet.Load.TheVariants.{Udp, Tcp}
use Rattle.sock_tcp.specs.declared.connection.effects.Shut.{Shut}
use Rattle.sock_tcp.specs.declared.connection.effects.Shut.TheVariants.{Reading, Writing, Both}
use Rattle.sock_tcp.specs.declared.segment.header.Header.{Header}
use Rattle.sock_tcp.specs.declared.segment.verdict.Verdict.{Verdict}
use Rattle.sock_tcp.specs.declared.segment.verdict.Verdict.TheVariants.{Dropped, Acknowledged, SynAcknowledged, Refused, ConnectRefused, Reset, Gone, Connects, Establishes, Advances, Continues}
use Rattle.sock_tcp.specs.segment.Header.{header_of}
use Rattle.sock_tcp.specs.segment.Number.{wire}
use Rattle.sock_tcp.specs.connection.Tcb.{Tcb, Turn}
use Rattle.sock_tcp.specs.connection.Begin.{begin}
use Rattle.sock_tcp.specs.connection.Arrival.{verdict, acts_on, takes_segment, takes_load, takes_packet}
use Rattle.sock_tcp.specs.connection.Process.{reads, ends_reading, shuts_end, shuts}
use Rattle.tcp_laws.specs.Acts.{Act, acted}
use Rattle.tcp_laws.specs.Acts.Act.{arrival, write, read, flow, shut, close, expiry, error_read}
use Rattle.tcp_streams.specs.Exchange.{IsVoid}
use Rattle.tcp_streams.proofs.Verdicts.{Says, verdict_says}
use Rattle.tcp_streams.proofs.Ears.{Ear, ear, HearsAs, judged_ear, sends_ack_ear, sends_syn_ack_ear, sends_refusal_ear, ends_ear, vanishes_ear, writes_ear, flows_ear, ends_writing_ear, closes_ear, error_taken_ear, expires_ear}

-- what came from the peer
pub record Told : Type 0 where
  pub irs : ℕ
  pub rcv : ℕ
  pub received : List ℕ
  pub discarded : ℕ
  pub taken : Bool

abbrev told_in : Ear → Told
told_in e =
    record { irs = e.irs; rcv = e.rcv; received = e.received; discarded = e.discarded; taken = e.taken }

abbrev pub told : Tcb → Told
told r = told_in (ear r)

-- a RST, or no segment
not_both : (b : Bool) (X : Type 0) → b ≡ true → b ≡ false → X
not_both b X e k = let no : true ≡ false = sym e ∙ k in absurd (cc)

reset_ear : (v : Verdict) (h : Header) (text : List ℕ) (r : Tcb) → h.rst ≡ true → Says r.control.state h v → HearsAs (ear r) (acts_on v h text (begin r))
reset_ear Dropped h text r e says = refl
reset_ear Acknowledged h text r e says = sends_ack_ear (begin r)
reset_ear SynAcknowledged h text r e says = sends_syn_ack_ear (begin r)
reset_ear Refused h text r e says = sends_refusal_ear h.ack (begin r)
reset_ear ConnectRefused h text r e says = ends_ear Econnrefused (begin r)
reset_ear Reset h text r e says = ends_ear Econnreset (begin r)
reset_ear Gone h text r e says = vanishes_ear (begin r)
reset_ear Connects h text r e says = not_both h.rst _ e says.2
reset_ear Establishes h text r e says = not_both h.rst _ e says.1
reset_ear (Advances by) h text r e says = not_both h.rst _ e says
reset_ear Continues h text r e says = not_both h.rst _ e says

void_load_ear : (load : Load) (r : Tcb) → IsVoid load → HearsAs (ear r) (takes_load load (begin r))
unfolding takes_segment
void_load_ear (Udp text) r e = refl
void_load_ear (Tcp flags seq ack window text) r e =
    let h = header_of flags seq ack window in
    let v = verdict r h in
    let says = verdict_says r.control.state (r.highest - r.una) (wire r.irs r.rcv) (wire r.iss r.una) h in
    judged_ear (acts_on v h text (begin r)) ∙ reset_ear v h text r e says

void_ear : (p : Packet) (r : Tcb) → IsVoid p.load → HearsAs (ear r) (takes_packet p (begin r))
unfolding takes_packet
void_ear p r e = void_load_ear p.load r e

-- reads and the end of reading
told_reads : (count : ℕ) (r : Tcb) → told (reads count r) ≡ told r
unfolding reads
told_reads count r = refl

told_ends_reading : (t : Turn) → told (ends_reading t).tcb ≡ told t.tcb
unfolding ends_reading
told_ends_reading t = refl

told_shuts_end : (end : Shut) (t : Turn) → told (shuts_end end t).tcb ≡ told t.tcb
told_shuts_end Reading t = told_ends_reading t
told_shuts_end Writing t = ap told_in (ends_writing_ear t)
told_shuts_end Both t = ap told_in (ends_writing_ear (ends_reading t)) ∙ told_ends_reading t

told_shuts : (end : Shut) (t : Turn) → told (shuts end t).tcb ≡ told t.tcb
unfolding shuts
told_shuts end t = ap told_in (judged_ear (shuts_end end t)) ∙ told_shuts_end end t

-- every act but the arrival of a segment
abbrev pub IsQuiet : Act → Type 0
IsQuiet (arrival p) = IsVoid p.load
IsQuiet (write bytes) = Unit {0}
IsQuiet (read count) = Unit {0}
IsQuiet flow = Unit {0}
IsQuiet (shut end) = Unit {0}
IsQuiet close = Unit {0}
IsQuiet expiry = Unit {0}
IsQuiet error_read = Unit {0}

pub quiet : (act : Act) (r : Tcb) → IsQuiet act → told (acted act r).tcb ≡ told r
quiet (arrival p) r e = ap told_in (void_ear p r e)
quiet (write bytes) r e = ap told_in (writes_ear bytes (begin r))
quiet (read count) r e = told_reads count r
quiet flow r e = ap told_in (flows_ear (begin r))
quiet (shut end) r e = told_shuts end (begin r)
quiet close r e = ap told_in (closes_ear (begin r))
quiet expiry r e = ap told_in (expires_ear (begin r))
quiet error_read r e = ap told_in (error_taken_ear (begin r))
