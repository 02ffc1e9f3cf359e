-- the congestion window as a fold over what happens to a record (RFC 5681)
use Rattle.std.specs.Prelude.{ℕ, ◌+◌, ◌-◌, ◌==◌, nat_lt, nat_le, List, fold, Bool, not, ◌&&◌, if◌then◌else◌}
use Rattle.sock_tcp.specs.declared.segment.congestion.Congestion.{Congestion}
use Rattle.sock_tcp.specs.declared.segment.header.Header.{Header}
use Rattle.sock_tcp.specs.segment.Congestion.{fresh_congestion, opened_window, acknowledged, halved, timed_out}
use Rattle.sock_tcp.specs.connection.Tcb.{Tcb}

-- what happens: the record becomes ESTABLISHED, after an expiry of its timer or without; as many more
-- are acknowledged; a duplicate acknowledgement comes while what was sent from una up to highest is in
-- flight; the timer expires while that is, after so many expiries in a row
pub data CongestionEvent : Type 0 where
  opens : (expired : Bool) → CongestionEvent
  acknowledges : (by : ℕ) → CongestionEvent
  duplicates : (una highest : ℕ) → CongestionEvent
  times_out : (retries una highest : ℕ) → CongestionEvent

-- the window, how many duplicates came since more was acknowledged, and what was the highest offset when
-- a loss was last noticed
pub record Flight : Type 0 where
  pub congestion : Congestion
  pub duplicates : ℕ
  pub recover : ℕ

abbrev pub fresh_flight : Flight
fresh_flight = record { congestion = fresh_congestion; duplicates = 0; recover = 0 }

-- the next duplicate is the third, which tells of a loss (section 3.2)
abbrev pub is_third : Flight → Bool
is_third f = f.duplicates == 2

-- one loss is noticed once: the third duplicate tells of one only where all that was in flight at the
-- last one is acknowledged (RFC 6582, section 3.2)
abbrev pub tells_loss : ℕ → Flight → Bool
tells_loss una f = is_third f && nat_le f.recover una

abbrev pub counted : Flight → Flight
counted f = record f { duplicates = f.duplicates + 1 }

abbrev pub after_duplicate : ℕ → ℕ → Flight → Flight
after_duplicate una highest f =
    if tells_loss una f
    then record (counted f) { congestion = halved (highest - una); recover = highest }
    else counted f

-- how many duplicates are counted once as many more as by are acknowledged
abbrev pub still_counted : ℕ → ℕ → ℕ
still_counted by count = if nat_lt 0 by then 0 else count

abbrev pub after_acknowledgement : ℕ → Flight → Flight
after_acknowledgement by f = record f {
  congestion = acknowledged by f.congestion;
  duplicates = still_counted by f.duplicates;
}

abbrev pub after_event : CongestionEvent → Flight → Flight
after_event (opens expired) f = record f { congestion = opened_window expired f.congestion }
after_event (acknowledges by) f = after_acknowledgement by f
after_event (duplicates una highest) f = after_duplicate una highest f
after_event (times_out retries una highest) f = record {
  congestion = timed_out (retries == 0) (highest - una) f.congestion;
  duplicates = 0;
  recover = highest;
}

-- that of a record after all that happened to it
abbrev pub flight_after : List CongestionEvent → Flight
flight_after events = fold (λ f e. after_event e f) fresh_flight events

abbrev pub flight_of : Tcb → Flight
flight_of r =
    record { congestion = r.control.congestion; duplicates = r.duplicates; recover = r.recover }

-- something happens to a record
abbrev pub happens : CongestionEvent → Tcb → Tcb
happens e r =
    let after = after_event e (flight_of r) in
    record r {
      duplicates = after.duplicates;
      recover = after.recover;
      control = record r.control { congestion = after.congestion };
    }

-- a duplicate acknowledgement (section 2): it acknowledges nothing more while something is in flight, and
-- has no text, no SYN or FIN, and the same window
unfoldable pub is_duplicate : ℕ → Header → ℕ → Tcb → Bool
is_duplicate by h count r =
    (by == 0)
    && (nat_lt r.una r.highest
    && ((count == 0) && (not h.syn && (not h.fin && (h.window == r.control.window)))))
