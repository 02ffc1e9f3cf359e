-- how large the congestion window is
use Rattle.std.proofs.Common.{◌≡◌, ℕ, ◌+◌, ◌-◌, ◌==◌, ◌<◌, ◌≤◌, ◌&&◌, nat_lt, List, [], ◌∷◌, length, min, Bool, true, false, refl, arith}
use Rattle.sim_base.specs.declared.packet.Load.{Load}
use Rattle.sim_base.specs.declared.packet.Load.TheVariants.{Udp, Tcp}
use Rattle.sock_tcp.specs.declared.segment.congestion.Congestion.{Congestion}
use Rattle.sock_tcp.specs.declared.segment.header.Header.{Header}
use Rattle.sock_tcp.specs.declared.segment.verdict.Verdict.{Verdict}
use Rattle.sock_tcp.specs.declared.segment.verdict.Verdict.TheVariants.{Dropped, Acknowledged, SynAcknowledged, Refused, ConnectRefused, Reset, Gone, Connects, Establishes, Advances, Continues}
use Rattle.sock_tcp.specs.segment.Header.{header_of}
use Rattle.sock_tcp.specs.segment.Congestion.{opened_window, growth, grown, acknowledged, threshold_after, halved, timed_out}
use Rattle.sock_tcp.specs.segment.Refusal.{one_if}
use Rattle.sock_tcp.specs.segment.State.{is_synchronized, is_time_wait}
use Rattle.sock_tcp.specs.connection.Tcb.{Tcb, data_end}
use Rattle.sock_tcp.specs.connection.Timer.{is_in_flight}
use Rattle.sock_tcp.specs.connection.Congestion.{CongestionEvent, Flight, after_event, tells_loss, is_duplicate}
use Rattle.sock_tcp.specs.connection.Congestion.CongestionEvent.{opens, acknowledges, duplicates, times_out}
use Rattle.sock_tcp.specs.connection.Arrival.{verdict}
use Rattle.tcp_laws.specs.Acts.{Act}
use Rattle.tcp_laws.specs.Acts.Act.{arrival, write, read, flow, shut, close, expiry, error_read}
use Rattle.tcp_laws.specs.Order.{IsInOrder}
use Rattle.tcp_laws.specs.Window.{verdict_events, load_events, loss_events, running_events, events_of, Bounded}
use Rattle.tcp_laws.proofs.Tests.{by_test}
use Rattle.tcp_laws.proofs.Holds.{IsBuffered}
use Rattle.tcp_laws.proofs.Acting.{flight_by}

-- how much is in flight at what happens
abbrev pub IsNear : CongestionEvent → Type 0
IsNear (opens expired) = Unit {0}
IsNear (acknowledges by) = Unit {0}
IsNear (duplicates una highest) = highest - una < 131072
IsNear (times_out retries una highest) = highest - una < 131072

abbrev pub AreNear : List CongestionEvent → Type 0
AreNear [] = Unit {0}
AreNear (e ∷ events) = IsNear e × AreNear events

threshold_least : (n : ℕ) → 2920 ≤ threshold_after n
threshold_least n = omega arith

threshold_most : (n : ℕ) → n < 131072 → threshold_after n ≤ 65535
threshold_most n h = omega arith

opened_bounded : (expired : Bool) (c : Congestion) → Bounded c → Bounded (opened_window expired c)
opened_bounded true c h = record { least = omega arith; most = omega arith; threshold = h.threshold }
opened_bounded false c h = record { least = omega arith; most = omega arith; threshold = h.threshold }

grown_bounded : (cwnd more : ℕ) → 1460 ≤ cwnd → (1460 ≤ min 65535 (cwnd + more)) × (min 65535 (cwnd + more) ≤ 65535)
grown_bounded cwnd more h = (omega arith, omega arith)

acknowledged_bounded : (by : ℕ) (c : Congestion) → Bounded c → Bounded (acknowledged by c)
acknowledged_bounded by c h =
    by_test Bounded (nat_lt 0 by) (grown by c) c
    (λ e. let g = grown_bounded c.cwnd (growth by c) h.least in record { least = g.0; most = g.1; threshold = h.threshold })
    (λ e. h)

halved_bounded : (n : ℕ) → n < 131072 → Bounded (halved n)
halved_bounded n b = record {
  least = omega (arith, threshold_least n);
  most = threshold_most n b;
  threshold = threshold_least n;
}

late_bounded : (first : Bool) (n : ℕ) (c : Congestion) → Bounded c → Bounded (timed_out first n c)
late_bounded true n c h = record { least = omega arith; most = omega arith; threshold = threshold_least n }
late_bounded false n c h = record { least = omega arith; most = omega arith; threshold = h.threshold }

event_bounded : (e : CongestionEvent) (f : Flight) → IsNear e → Bounded f.congestion → Bounded (after_event e f).congestion
event_bounded (opens expired) f n h = opened_bounded expired f.congestion h
event_bounded (acknowledges by) f n h = acknowledged_bounded by f.congestion h
event_bounded (duplicates una highest) f n h =
    by_test (λ (g : Flight). Bounded g.congestion) (tells_loss una f) _ _
    (λ e. halved_bounded (highest - una) n)
    (λ e. h)
event_bounded (times_out retries una highest) f n h = late_bounded (retries == 0) (highest - una) f.congestion h

pub events_bounded : (events : List CongestionEvent) (f : Flight) → AreNear events → Bounded f.congestion → Bounded (flight_by events f).congestion
events_bounded [] f n h = h
events_bounded (e ∷ events) f n h = events_bounded events (after_event e f) n.1 (event_bounded e f n.0 h)

-- in a record what is in flight fits its send buffer
in_flight_near : (una highest end : ℕ) (wanted : Bool) (long : ℕ) → end ≡ 1 + long → highest ≤ end + one_if wanted → long ≤ una - 1 + 65535 → highest - una < 131072
in_flight_near una highest end true long e a b = omega arith
in_flight_near una highest end false long e a b = omega arith

near : (r : Tcb) → IsInOrder r → IsBuffered r → r.highest - r.una < 131072
near r order buffered =
    in_flight_near r.una r.highest (data_end r) r.control.fin_wanted (length r.written) refl order.last buffered

verdict_near : (v : Verdict) (h : Header) (count : ℕ) (r : Tcb) → r.highest - r.una < 131072 → AreNear (verdict_events v h count r)
verdict_near Dropped h count r n = tt
verdict_near Acknowledged h count r n = tt
verdict_near SynAcknowledged h count r n = tt
verdict_near Refused h count r n = tt
verdict_near ConnectRefused h count r n = tt
verdict_near Reset h count r n = tt
verdict_near Gone h count r n = tt
verdict_near Connects h count r n = (tt, tt)
verdict_near Establishes h count r n = (tt, tt)
verdict_near (Advances by) h count r n =
    by_test AreNear (is_duplicate by h count r) _ _ (λ e. (n, tt)) (λ e. (tt, tt))
verdict_near Continues h count r n = tt

load_near : (load : Load) (r : Tcb) → r.highest - r.una < 131072 → AreNear (load_events load r)
load_near (Udp text) r n = tt
load_near (Tcp flags seq ack window text) r n =
    let h = header_of flags seq ack window in verdict_near (verdict r h) h (length text) r n

loss_near : (r : Tcb) → r.highest - r.una < 131072 → AreNear (loss_events r)
loss_near r n =
    by_test AreNear (is_synchronized r.control.state && is_in_flight r) _ _ (λ e. (n, tt)) (λ e. tt)

running_near : (r : Tcb) → r.highest - r.una < 131072 → AreNear (running_events r)
running_near r n =
    by_test AreNear (is_time_wait r.control.state) _ _
    (λ e. tt)
    (λ e. by_test AreNear (nat_lt r.control.retries 6) _ _ (λ k. loss_near r n) (λ k. tt))

pub act_near : (act : Act) (r : Tcb) → IsInOrder r → IsBuffered r → AreNear (events_of act r)
act_near (arrival p) r order buffered = load_near p.load r (near r order buffered)
act_near (write bytes) r order buffered = tt
act_near (read count) r order buffered = tt
act_near flow r order buffered = tt
act_near (shut end) r order buffered = tt
act_near close r order buffered = tt
act_near expiry r order buffered =
    by_test AreNear r.control.timer _ _ (λ e. running_near r (near r order buffered)) (λ e. tt)
act_near error_read r order buffered = tt
