-- the packets among what is wanted
use Rattle.std.proofs.Common.{◌≡◌, inl, inr, ⊎_elim, ℕ, List, [], ◌∷◌, ◌++◌, map, Contains, Option, Some, None, refl, ap, subst, ◌∙◌, append-nil}
use Rattle.std.proofs.lemmas.List.Elements.{Contains-append_left, Contains-append_right, Contains-append_cases, filter_map-append}
use Rattle.std.specs.List.{filter_map}
use Rattle.sim_base.specs.declared.address.Addr.{Addr}
use Rattle.sim_base.specs.declared.alarm.AlarmTarget.{AlarmTarget}
use Rattle.sim_base.specs.declared.alarm.AlarmTarget.TheVariants.{Socket}
use Rattle.sim_base.specs.declared.packet.Packet.{Packet}
use Rattle.sim_base.specs.declared.time.Time.{Time}
use Rattle.host_wants.specs.declared.outlet.Want.TheVariants.{Send, Alarm}
use Rattle.host_sockets.specs.declared.tcp_sock.KeptTimer.{KeptTimer}
use Rattle.host_wants.specs.Wanted.{Wanted, sends, next_serial, wants_alarm, due_after}
use Rattle.host_sockets.specs.TcpSocket.{TcpSocket}
use Rattle.host_sockets.specs.TcpActs.{starts}
use Rattle.host_sockets.specs.ListenerActs.{timer_starts}
use Rattle.socket_streams.specs.Records.{packet_in, packets_of}
use Rattle.socket_streams.proofs.Listening.{Flown}

all_packets : (sent : List Packet) → filter_map packet_in (map Send sent) ≡ sent
all_packets [] = refl
all_packets (p ∷ sent) = ap (λ (xs : List Packet). p ∷ xs) (all_packets sent)

pub sends_packets : (sent : List Packet) (w : Wanted) → packets_of (sends sent w) ≡ packets_of w ++ sent
sends_packets sent w =
    filter_map-append packet_in w.wants (map Send sent) ∙ ap (λ (xs : List Packet). packets_of w ++ xs) (all_packets sent)

pub alarm_packets : (target : AlarmTarget) (due : Time) (w : Wanted) → packets_of (wants_alarm target due w).1 ≡ packets_of w
alarm_packets target due w =
    filter_map-append packet_in w.wants (Alarm target (next_serial w) due ∷ []) ∙ append-nil (packets_of w)

pub starts_packets : (now : Time) (k : ℕ) (o : Option Time) (s : TcpSocket) (w : Wanted) → packets_of (starts now k o s w).1 ≡ packets_of w
starts_packets now k None s w = refl
starts_packets now k (Some length) s w = alarm_packets (Socket k) (due_after now length) w

pub timer_starts_packets : (now : Time) (k : ℕ) (a b : Addr) (o : Option Time) (timers : List KeptTimer) (w : Wanted) → packets_of (timer_starts now k a b o timers w).1 ≡ packets_of w
timer_starts_packets now k a b None timers w = refl
timer_starts_packets now k a b (Some length) timers w = alarm_packets (Socket k) (due_after now length) w

-- beside packets that were on their way already
flown_by : (flying sent : List Packet) (w after : Wanted) → packets_of after ≡ packets_of w ++ sent → Flown (flying ++ packets_of w) sent (flying ++ packets_of after)
flown_by flying sent w after e p c =
    ⊎_elim
    (λ k. inl (Contains-append_left flying (packets_of w) p k))
    (λ k.
    ⊎_elim
    (λ b. inl (Contains-append_right flying (packets_of w) p b))
    (λ s. inr s)
    (Contains-append_cases (packets_of w) sent p (subst (λ (xs : List Packet). Contains xs p) e k)))
    (Contains-append_cases flying (packets_of after) p c)

pub sends_flown : (flying sent : List Packet) (w : Wanted) → Flown (flying ++ packets_of w) sent (flying ++ packets_of (sends sent w))
sends_flown flying sent w = flown_by flying sent w (sends sent w) (sends_packets sent w)

pub starts_flown : (flying sent : List Packet) (now : Time) (k : ℕ) (o : Option Time) (s : TcpSocket) (w : Wanted) → Flown (flying ++ packets_of w) sent (flying ++ packets_of (starts now k o s (sends sent w)).1)
starts_flown flying sent now k o s w =
    flown_by flying sent w (starts now k o s (sends sent w)).1 (starts_packets now k o s (sends sent w) ∙ sends_packets sent w)

pub timer_starts_flown : (flying sent : List Packet) (now : Time) (k : ℕ) (a b : Addr) (o : Option Time) (timers : List KeptTimer) (w : Wanted) → Flown (flying ++ packets_of w) sent (flying ++ packets_of (timer_starts now k a b o timers (sends sent w)).1)
timer_starts_flown flying sent now k a b o timers w =
    flown_by flying sent w (timer_starts now k a b o timers (sends sent w)).1 (timer_starts_packets now k a b o timers (sends sent w) ∙ sends_packets sent w)
