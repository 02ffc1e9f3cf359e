-- states and verdicts
use Rattle.std.proofs.Common.{◌≡◌, ℕ, true, false, refl}
use Rattle.sock_tcp.specs.declared.segment.state.TcpState.{TcpState}
use Rattle.sock_tcp.specs.declared.segment.state.TcpState.TheVariants.{SynSent, SynReceived, Established, FinWait1, FinWait2, CloseWait, Closing, LastAck, TimeWait, Ended, Vanished}
use Rattle.sock_tcp.specs.declared.segment.verdict.Verdict.{Verdict}
use Rattle.sock_tcp.specs.declared.segment.verdict.Verdict.TheVariants.{Dropped, Acknowledged, SynAcknowledged, Refused, ConnectRefused, Reset, Gone, Connects, Establishes, Advances, Continues}
use Rattle.sock_tcp.specs.segment.State.{phase_of, after_peer_fin, is_over, is_opening, is_syn_sent, is_syn_received, is_synchronized}
use Rattle.sock_tcp.specs.segment.Verdict.{ComesIn}

pub is_synchronized_else : (state : TcpState) → is_over state ≡ false → is_syn_sent state ≡ false → is_syn_received state ≡ false → is_synchronized state ≡ true
is_synchronized_else SynSent o s r = cc
is_synchronized_else SynReceived o s r = cc
is_synchronized_else Established o s r = refl
is_synchronized_else FinWait1 o s r = refl
is_synchronized_else FinWait2 o s r = refl
is_synchronized_else CloseWait o s r = refl
is_synchronized_else Closing o s r = refl
is_synchronized_else LastAck o s r = refl
is_synchronized_else TimeWait o s r = refl
is_synchronized_else Ended o s r = cc
is_synchronized_else Vanished o s r = cc

is_opening_syn_sent : (state : TcpState) → is_syn_sent state ≡ true → is_opening state ≡ true
is_opening_syn_sent SynSent e = refl
is_opening_syn_sent SynReceived e = refl
is_opening_syn_sent Established e = cc
is_opening_syn_sent FinWait1 e = cc
is_opening_syn_sent FinWait2 e = cc
is_opening_syn_sent CloseWait e = cc
is_opening_syn_sent Closing e = cc
is_opening_syn_sent LastAck e = cc
is_opening_syn_sent TimeWait e = cc
is_opening_syn_sent Ended e = cc
is_opening_syn_sent Vanished e = cc

pub comes_in_syn_sent : (verdict : Verdict) (state : TcpState) (in_flight : ℕ) → ComesIn SynSent 0 verdict → is_syn_sent state ≡ true → ComesIn state in_flight verdict
comes_in_syn_sent Dropped state n h e = tt
comes_in_syn_sent Acknowledged state n h e = tt
comes_in_syn_sent SynAcknowledged state n h e = tt
comes_in_syn_sent Refused state n h e = tt
comes_in_syn_sent ConnectRefused state n h e = tt
comes_in_syn_sent Reset state n h e = tt
comes_in_syn_sent Gone state n h e = tt
comes_in_syn_sent Connects state n h e = is_opening_syn_sent state e
comes_in_syn_sent Establishes state n h e = is_opening_syn_sent state e
comes_in_syn_sent (Advances by) state n h e = let no : false ≡ true = h.0 in cc
comes_in_syn_sent Continues state n h e = tt

-- the peer's FIN and the end of writing
pub phase_of_after_peer_fin : (state : TcpState) → phase_of (after_peer_fin state) ≡ phase_of state
phase_of_after_peer_fin SynSent = refl
phase_of_after_peer_fin SynReceived = refl
phase_of_after_peer_fin Established = refl
phase_of_after_peer_fin FinWait1 = refl
phase_of_after_peer_fin FinWait2 = refl
phase_of_after_peer_fin CloseWait = refl
phase_of_after_peer_fin Closing = refl
phase_of_after_peer_fin LastAck = refl
phase_of_after_peer_fin TimeWait = refl
phase_of_after_peer_fin Ended = refl
phase_of_after_peer_fin Vanished = refl

pub ruleset phases = (phase_of_after_peer_fin)
