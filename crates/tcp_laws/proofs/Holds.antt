-- what every act on a record keeps
use Rattle.std.proofs.Common.{◌≡◌, ℕ, ◌+◌, ◌-◌, ◌≤◌, List, [], length, take, inl, inr, Bool, true, false, refl, sym, append-nil, arith}
use Rattle.sim_base.specs.declared.packet.Packet.{Packet}
use Rattle.sock_tcp.specs.declared.segment.state.TcpState.{TcpState}
use Rattle.sock_tcp.specs.segment.State.{phase_of}
use Rattle.sock_tcp.specs.segment.Refusal.{one_if}
use Rattle.sock_tcp.specs.connection.Tcb.{Tcb, Turn, data_end}
use Rattle.sock_tcp.specs.connection.Begin.{begin}
use Rattle.sock_tcp.specs.connection.Congestion.{CongestionEvent, Flight, after_event, flight_of}
use Rattle.sock_tcp.specs.connection.StandsFor.{FitsPhase}
use Rattle.tcp_laws.specs.Order.{IsInOrder}
use Rattle.tcp_laws.specs.Received.{IsCounted}
use Rattle.tcp_laws.specs.Sending.{AreOf}
use Rattle.tcp_laws.specs.Growth.{GrowsTo}
use Rattle.tcp_laws.specs.Window.{FitWindow}

-- the window, what the process was given, and whether text may have gone out again
pub record Kept : Type 0 where
  pub flight : Flight
  pub given : List ℕ
  pub again : Bool

abbrev pub kept_of : Tcb → Kept
kept_of r = record { flight = flight_of r; given = take r.read r.received; again = false }

abbrev pub kept_after : CongestionEvent → Kept → Kept
kept_after e k = record k { flight = after_event e k.flight }

abbrev pub kept_again : Kept → Kept
kept_again k = record k { again = true }

-- what isn't acknowledged fits the send buffer
abbrev pub IsBuffered : Tcb → Type 0
IsBuffered r = length r.written ≤ r.una - 1 + 65535

-- a call on its way: the record is in order and counts what it received, it has grown from another,
-- what it sent so far is its own and fits its windows, and these are its congestion window and what the
-- process was given
pub record Holds (f : Kept) (r0 : Tcb) (t : Turn) : Type 0 where
  pub order : IsInOrder t.tcb
  pub heard : IsCounted t.tcb
  pub grown : GrowsTo r0 t.tcb
  pub sent : AreOf t.tcb t.sent
  pub flight : flight_of t.tcb ≡ f.flight
  pub given : take t.tcb.read t.tcb.received ≡ f.given
  pub fits : FitWindow f.again t.tcb t.sent
  pub buffered : IsBuffered t.tcb

-- while it sends, what is next to send may be past the highest sent
pub record Ordered (state : TcpState) (wanted : Bool) (una nxt highest end : ℕ) : Type 0 where
  pub unacknowledged : una ≤ nxt
  pub next : nxt ≤ end + one_if wanted
  pub last : highest ≤ end + one_if wanted
  pub phase : FitsPhase (phase_of state) wanted una nxt highest end

abbrev pub IsOrdered : Tcb → Type 0
IsOrdered r =
    Ordered r.control.state r.control.fin_wanted r.una r.nxt r.highest (data_end r)

pub record Sending (f : Kept) (r0 : Tcb) (t : Turn) : Type 0 where
  pub order : IsOrdered t.tcb
  pub heard : IsCounted t.tcb
  pub grown : GrowsTo r0 t.tcb
  pub sent : AreOf t.tcb t.sent
  pub flight : flight_of t.tcb ≡ f.flight
  pub given : take t.tcb.read t.tcb.received ≡ f.given
  pub fits : FitWindow f.again t.tcb t.sent
  pub buffered : IsBuffered t.tcb

pub sending_of : (f : Kept) (r0 : Tcb) (t : Turn) → Holds f r0 t → Sending f r0 t
sending_of f r0 t h = record {
  order = record {
    unacknowledged = h.order.unacknowledged;
    next = omega (arith, h.order.next, h.order.last);
    last = h.order.last;
    phase = h.order.phase;
  };
  heard = h.heard;
  grown = h.grown;
  sent = h.sent;
  flight = h.flight;
  given = h.given;
  fits = h.fits;
  buffered = h.buffered;
}

-- where a call begins
pub Grows-refl : (r : Tcb) → GrowsTo r r
Grows-refl r = record {
  local = refl;
  peer = refl;
  iss = refl;
  more = [];
  written = sym (append-nil r.written);
  ended = λ e. (e, refl);
}

pub holds_begin : (r : Tcb) → IsInOrder r → IsCounted r → IsBuffered r → Holds (kept_of r) r (begin r)
holds_begin r order heard buffered =
    record { order = order; heard = heard; grown = Grows-refl r; sent = tt; flight = refl; given = refl; fits = inl tt; buffered = buffered }

-- what fits with no text that goes out again fits with one
fits_again : (again : Bool) (r : Tcb) (packets : List Packet) → FitWindow again r packets → FitWindow true r packets
fits_again again r packets (inl h) = inl h
fits_again again r packets (inr h) = inr (refl, h.1)

pub holds_again : (f : Kept) (r0 : Tcb) (t : Turn) → Holds f r0 t → Holds (kept_again f) r0 t
holds_again f r0 t h = record {
  order = h.order;
  heard = h.heard;
  grown = h.grown;
  sent = h.sent;
  flight = h.flight;
  given = h.given;
  fits = fits_again f.again t.tcb t.sent h.fits;
  buffered = h.buffered;
}
