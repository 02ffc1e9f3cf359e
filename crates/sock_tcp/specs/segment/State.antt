-- the states of a record, and how they follow one another (RFC 9293, section 3.3.2)
use Rattle.sock_tcp.specs.declared.segment.state.TcpState.{TcpState}
use Rattle.sock_tcp.specs.declared.segment.state.TcpState.TheVariants.{SynSent, SynReceived, Established, FinWait1, FinWait2, CloseWait, Closing, LastAck, TimeWait, Ended, Vanished}
use Rattle.sock_tcp.specs.declared.segment.state.Phase.{Phase}
use Rattle.sock_tcp.specs.declared.segment.state.Phase.TheVariants.{Opening, Open, Ending, Finished, Over}
use Rattle.std.specs.Prelude.{Bool, true, false}

-- before ESTABLISHED; while writing is open; once it has ended and until the own FIN is
-- acknowledged; after that; and when nothing is sent or received any more
abbrev pub phase_of : TcpState → Phase
phase_of SynSent = Opening
phase_of SynReceived = Opening
phase_of Established = Open
phase_of FinWait1 = Ending
phase_of FinWait2 = Finished
phase_of CloseWait = Open
phase_of Closing = Ending
phase_of LastAck = Ending
phase_of TimeWait = Finished
phase_of Ended = Over
phase_of Vanished = Over

-- the end of writing (section 3.10.4, CLOSE)
abbrev pub after_writing : TcpState → TcpState
after_writing Established = FinWait1
after_writing CloseWait = LastAck
after_writing state = state

-- the own FIN is acknowledged (section 3.10.7.4, the ACK field)
abbrev pub after_own_fin : TcpState → TcpState
after_own_fin FinWait1 = FinWait2
after_own_fin Closing = TimeWait
after_own_fin LastAck = Vanished
after_own_fin state = state

-- the peer's FIN is taken (section 3.10.7.4, the FIN bit)
abbrev pub after_peer_fin : TcpState → TcpState
after_peer_fin Established = CloseWait
after_peer_fin FinWait1 = Closing
after_peer_fin FinWait2 = TimeWait
after_peer_fin state = state

-- the states in which text and a FIN are taken (section 3.10.7.4, the segment text)
abbrev pub takes_text : TcpState → Bool
takes_text Established = true
takes_text FinWait1 = true
takes_text FinWait2 = true
takes_text _ = false

abbrev pub is_over : TcpState → Bool
is_over Ended = true
is_over Vanished = true
is_over _ = false

abbrev pub is_time_wait : TcpState → Bool
is_time_wait TimeWait = true
is_time_wait _ = false

abbrev pub is_sending_phase : Phase → Bool
is_sending_phase Open = true
is_sending_phase Ending = true
is_sending_phase _ = false

-- the states in which text or the FIN may be sent
abbrev pub is_sending : TcpState → Bool
is_sending state = is_sending_phase (phase_of state)

abbrev pub is_opening : TcpState → Bool
is_opening SynSent = true
is_opening SynReceived = true
is_opening _ = false

abbrev pub is_syn_sent : TcpState → Bool
is_syn_sent SynSent = true
is_syn_sent _ = false

abbrev pub is_syn_received : TcpState → Bool
is_syn_received SynReceived = true
is_syn_received _ = false

abbrev pub is_synchronized_phase : Phase → Bool
is_synchronized_phase Opening = false
is_synchronized_phase Over = false
is_synchronized_phase _ = true

-- the states from ESTABLISHED on, until the record is over
abbrev pub is_synchronized : TcpState → Bool
is_synchronized state = is_synchronized_phase (phase_of state)
