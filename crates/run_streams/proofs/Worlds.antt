-- each turn of a run leads from the exchange of its world to that of the next
use Rattle.std.proofs.Common.{◌≡◌, inl, ⊎_elim, ℕ, zero, suc, ◌+◌, Bool, true, false, nat_lt, List, [], ◌∷◌, ◌++◌, map, flat_map, set, Contains, Option, Some, None, unwrap_or, if◌then◌else◌, slice_get, refl, sym, ap, subst, ◌∙◌, append-nil}
use Rattle.std.specs.List.Sorted.{IsPermutation}
use Rattle.std.proofs.lemmas.List.Elements.{Contains-append_left, Contains-append_right, Contains-append_cases, filter_map-append}
use Rattle.std.proofs.lemmas.List.Sorted.{Contains-permutation, IsPermutation-refl, IsPermutation-sym}
use Rattle.host_draws.specs.Draws.{host_generator}
use Rattle.sim_base.specs.declared.address.Ip.{Ip}
use Rattle.sim_base.specs.declared.address.Addr.{Addr}
use Rattle.sim_base.specs.declared.event.Event.{Event}
use Rattle.sim_base.specs.declared.event.What.TheVariants as what
use Rattle.sim_base.specs.declared.packet.Packet.{Packet}
use Rattle.sim_base.specs.declared.time.Time.{Time}
use Rattle.tcp_streams.specs.Exchange as streams
use Rattle.tcp_streams.specs.Exchange.{empty_exchange, AreSteps, last_exchange}
use Rattle.tcp_streams.specs.Exchange.Step.{goes_on}
use Rattle.tcp_streams.specs.Frame.{everywhere}
use Rattle.tcp_streams.specs.Stream.{IsSimple, stream_of, IsFaithful}
use Rattle.tcp_streams.proofs.Members.{Contains_here, Contains_there, IsIn_from_Contains}
use Rattle.tcp_streams.proofs.Frames.{joined}
use Rattle.tcp_streams.proofs.Promise.{streams}
use Rattle.host_wants.specs.Wanted.{nothing_wanted}
use Rattle.host_sockets.specs.Sockets.{no_sockets}
use Rattle.host_link.specs.declared.line.Line.{Line}
use Rattle.host_link.specs.Net.{Net}
use Rattle.host_rows.specs.declared.row.ProcessRow.{ProcessRow}
use Rattle.host_rows.specs.declared.row.Row.{Row}
use Rattle.host_state.specs.Fire.{fire}
use Rattle.host_state.specs.Fits.{model}
use Rattle.host_link.specs.Home.{home}
use Rattle.host_state.specs.HostRecord.{HostRecord}
use Rattle.host_link.specs.Link.{LinkState, new_link, numbers}
use Rattle.host_link.specs.Beginning.{begins_shutdown, begins_process, begins_all}
use Rattle.host_state.specs.Opening.{host_begins, opening}
use Rattle.host_state.specs.World.{World, opening_world}
use Rattle.world_order.specs.EventOrder.{take_least}
use Rattle.world_order.specs.Model.{Fired, with_host, fires_at, fires}
use Rattle.world_order.specs.World.{after_firing, by_least, next}
use Rattle.world_order.proofs.Least.{take_least_IsPermutation}
use Rattle.socket_laws.specs.Histories.{SocketsAct, sockets_after}
use Rattle.socket_streams.specs.Records.{packets_of}
use Rattle.socket_streams.proofs.Acts.{none_plain}
use Rattle.socket_streams.proofs.Chains.{both, goes}
use Rattle.socket_streams.proofs.Shares.{same_permutation, share_of, AllHold, set_hold}
use Rattle.call_streams.specs.Parts.{sockets_in}
use Rattle.run_streams.specs.Exchanges.{carried, waiting_in, packets_carried, link_packets, host_packets, host_records, world_records, world_exchange}
use Rattle.run_streams.specs.Run.{IsReached}
use Rattle.run_streams.specs.Run.IsReached.{begins, turns}
use Rattle.run_streams.proofs.Every.{every_here, given, every_given, flat_member, flat_set_cases}
use Rattle.run_streams.proofs.Links.{Carries, Any, link_member, carries_numbers}
use Rattle.run_streams.proofs.Hosts.{IsGood, part_of, sockets_joined}
use Rattle.run_streams.proofs.Firing.{fired_host, fires_move, fired_good, fired_packets, fires_so}

-- what is known of each host of a run: where its sockets come from, and that they are plain
pub record IsKnown (net : Net) (h : HostRecord) : Type 0 where
  pub own : Ip
  pub n : ℕ
  pub good : IsGood own n h
  pub draws : List ℕ
  pub acts : List (Time × SocketsAct)
  pub history : sockets_after net.known.book acts (no_sockets own, nothing_wanted draws) ≡ sockets_in h.parts

abbrev pub AllKnown : Net → World → Type 0
AllKnown net w = AllHold (IsKnown net) w.hosts

-- ---- the opening world has no records and no packets

abbrev pub Never : Packet → Type 0
Never p = ⊥

module _ (net : Net) (S : Packet → Type 0) (own : Ip) (n : ℕ) where
  shut_carries : (p : ℕ) (due : Option Time) (l : LinkState) → Carries S own n l → Carries S own n (begins_shutdown p due l)
  shut_carries p None l h = h
  shut_carries p (Some due) l h = carries_numbers net S own n due (what.Shutdown p) l tt h

  all_carry : (p : ℕ) (rows : List ProcessRow) (l : LinkState) → Carries S own n l → Carries S own n (begins_all p rows l)
  unfolding begins_all
  all_carry p [] l h = h
  all_carry p (row ∷ rows) l h =
      let first : LinkState = numbers row.start (what.Start p) l in
      all_carry (p + 1) rows (begins_process p row l)
      (shut_carries p row.shutdown first (carries_numbers net S own n row.start (what.Start p) l tt h))

pub row_carries : (net : Net) (S : Packet → Type 0) (row : Row) → Carries S row.address row.host.index (host_begins row).link
row_carries net S row =
    all_carry net S row.address row.host.index 0 row.processes (new_link row) (record { number = refl; up = tt; down = tt; made = tt })

pub row_good : (net : Net) (row : Row) → IsGood row.address row.host.index (opening row).host
row_good net row =
    let link = row_carries net Any row in
    record { address = refl; plain = none_plain row.address; link = record { number = link.number; up = link.up; down = link.down; made = tt } }

row_known : (net : Net) (row : Row) → IsKnown net (opening row).host
row_known net row = record {
  own = row.address;
  n = row.host.index;
  good = row_good net row;
  draws = host_generator row.seed row.host.index;
  acts = [];
  history = refl;
}

-- its hosts have no packets, and its events carry none
pub row_packets : (net : Net) (row : Row) (p : Packet) → Contains (host_packets (opening row).host) p → ⊥
row_packets net row p c =
    let link = row_carries net Never row in
    let l : LinkState = (opening row).host.link in
    ⊎_elim
    (λ a. link_member Never row.address row.host.index l p (record { number = link.number; up = link.up; down = link.down; made = tt }) a)
    (λ a. absurd (IsIn_from_Contains p [] a))
    (Contains-append_cases (link_packets l) [] p c)

-- none of some events carries a packet
abbrev pub CarryNone : List Event → Type 0
CarryNone events = (p : Packet) → Contains (packets_carried events) p → ⊥

row_events : (net : Net) (row : Row) → CarryNone (opening row).made
row_events net row p c =
    let link = row_carries net Never row in
    let l : LinkState = (host_begins row).link in
    link_member Never row.address row.host.index l p link
    (Contains-append_right (waiting_in l.up) (waiting_in l.down ++ packets_carried l.made) p (Contains-append_right (waiting_in l.down) (packets_carried l.made) p c))

pub rows_events : (net : Net) (rows : List Row) → CarryNone (flat_map (λ (row : Row). (opening row).made) rows)
rows_events net [] p c = absurd (IsIn_from_Contains p [] c)
rows_events net (row ∷ rows) p c =
    let made = (opening row).made in
    let more = flat_map (λ (r : Row). (opening r).made) rows in
    ⊎_elim (λ a. row_events net row p a) (λ a. rows_events net rows p a)
    (Contains-append_cases (packets_carried made) (packets_carried more) p (subst (λ (xs : List Packet). Contains xs p) (filter_map-append carried made more) c))

pub rows_hold : (P : HostRecord → Type 0) (rows : List Row) → ((row : Row) → P (opening row).host) → AllHold P (map (λ (row : Row). (opening row).host) rows)
rows_hold P [] f k h e = cc
rows_hold P (row ∷ rows) f zero h e = let same : (opening row).host ≡ h = cc in subst P same (f row)
rows_hold P (row ∷ rows) f (suc k) h e = rows_hold P rows f k h e

rows_records : (rows : List Row) → flat_map host_records (map (λ (row : Row). (opening row).host) rows) ≡ []
rows_records [] = refl
rows_records (row ∷ rows) = rows_records rows

rows_packets : (net : Net) (rows : List Row) (p : Packet) → Contains (flat_map host_packets (map (λ (row : Row). (opening row).host) rows)) p → ⊥
rows_packets net [] p c = absurd (IsIn_from_Contains p [] c)
rows_packets net (row ∷ rows) p c =
    ⊎_elim (λ a. row_packets net row p a) (λ a. rows_packets net rows p a)
    (Contains-append_cases (host_packets (opening row).host) (flat_map host_packets (map (λ (r : Row). (opening r).host) rows)) p c)

-- ---- a turn of a run: the event of least key fires

pub record IsTurn (net : Net) (w v : World) : Type 0 where
  pub event : Event
  pub rest : List Event
  pub taken : IsPermutation w.events (event ∷ rest)
  pub due : nat_lt event.key.due.nanos net.stop.nanos ≡ true
  pub is : after_firing w event rest (fires (model net) w.hosts event) ≡ v

turn_if : (net : Net) (w v : World) (e : Event) (rest : List Event) (b : Bool) → nat_lt e.key.due.nanos net.stop.nanos ≡ b → IsPermutation w.events (e ∷ rest) → (if b then Some (after_firing w e rest (fires (model net) w.hosts e)) else None) ≡ Some v → IsTurn net w v
turn_if net w v e rest true due taken k =
    let same : after_firing w e rest (fires (model net) w.hosts e) ≡ v = ap (λ (o : Option World). unwrap_or o v) k in
    record { event = e; rest = rest; taken = taken; due = due; is = same }
turn_if net w v e rest false due taken k = cc

turn_by : (net : Net) (w v : World) (o : Option (Event × List Event)) → take_least w.events ≡ o → by_least (model net) net.stop.nanos w o ≡ Some v → IsTurn net w v
turn_by net w v None e k = cc
turn_by net w v (Some (first, rest)) e k =
    turn_if net w v first rest (nat_lt first.key.due.nanos net.stop.nanos) refl (take_least_IsPermutation w.events (first, rest) e) k

pub turn_of : (net : Net) (w v : World) → next (model net) net.stop.nanos w ≡ Some v → IsTurn net w v
unfolding next
turn_of net w v k = turn_by net w v (take_least w.events) refl k

-- ---- it leads from the exchange of all hosts to the next one

pub record WorldMoves (net : Net) (w v : World) : Type 0 where
  pub known : AllKnown net v
  pub exchanges : List streams.Exchange
  pub steps : AreSteps everywhere (world_exchange w) exchanges
  pub last : last_exchange (world_exchange w) exchanges ≡ world_exchange v

-- the other events were there before
pub rest_carried : (w : World) (e : Event) (rest : List Event) (p : Packet) → IsPermutation w.events (e ∷ rest) → Contains (packets_carried rest) p → Contains (packets_carried w.events) p
rest_carried w e rest p taken c =
    every_given (λ (x : Event). Contains w.events x) (λ (q : Packet). Contains (packets_carried w.events) q) carried rest p
    (λ x there is. given carried w.events x p there is)
    (every_here (λ (x : Event). Contains w.events x) rest
    (λ x k. Contains-permutation (e ∷ rest) w.events x (IsPermutation-sym w.events (e ∷ rest) taken) (Contains_there e x rest k)))
    c

pub made_member : (l : LinkState) (p : Packet) → Contains (packets_carried l.made) p → Contains (link_packets l) p
made_member l p c =
    Contains-append_right (waiting_in l.up) (waiting_in l.down ++ packets_carried l.made) p (Contains-append_right (waiting_in l.down) (packets_carried l.made) p c)

-- where no host is there the event goes
nobody : (net : Net) (w : World) (e : Event) (rest : List Event) → IsPermutation w.events (e ∷ rest) → AllKnown net w → WorldMoves net w (after_firing w e rest (fires_at (model net) w.hosts e None))
nobody net w e rest taken known =
    let v : World = after_firing w e rest (fires_at (model net) w.hosts e None) in
    let all = flat_map host_packets w.hosts in
    record {
      known = known;
      exchanges = world_exchange v ∷ [];
      steps = (
        goes_on (IsPermutation-refl (world_records w))
            (λ p c.
            inl (⊎_elim
            (λ a. Contains-append_left all (packets_carried w.events) p a)
            (λ a. Contains-append_right all (packets_carried w.events) p (rest_carried w e rest p taken (subst (λ (events : List Event). Contains (packets_carried events) p) (append-nil rest) a)))
            (Contains-append_cases all (packets_carried (rest ++ [])) p c))),
        tt,
      );
      last = refl;
    }

-- a host fires
somebody : (net : Net) (w : World) (e : Event) (rest : List Event) (h : HostRecord) → slice_get w.hosts (home net e) ≡ Some h → IsPermutation w.events (e ∷ rest) → AllKnown net w → WorldMoves net w (after_firing w e rest (with_host w.hosts (home net e) (fire net h e)))
somebody net w e rest h at taken known =
    let k = known (home net e) h at in
    let share = share_of host_records w.hosts (home net e) h at in
    let all = flat_map host_packets w.hosts in
    let flying = all ++ packets_carried w.events in
    let there : Contains w.events e = Contains-permutation (e ∷ rest) w.events e (IsPermutation-sym w.events (e ∷ rest) taken) (Contains_here e rest) in
    let m = fires_move net everywhere k.own k.n share.rest flying e h
    (λ p is. Contains-append_right all (packets_carried w.events) p (given carried w.events e p there is))
    k.good in
    let after : HostRecord = fired_host net h e in
    let f = fire net h e in
    let v : World = after_firing w e rest (with_host w.hosts (home net e) f) in
    let out = packets_of h.parts.shared.outlet in
    let left = packets_of after.parts.shared.outlet in
    let made = packets_carried after.link.made in
    let enters = goes everywhere k.own (world_exchange w) (part_of share.rest flying h)
    (IsPermutation-sym (world_records w) (host_records h ++ share.rest) share.here)
    (λ p c.
    inl (⊎_elim
    (λ a.
    ⊎_elim
    (λ b. b)
    (λ b. Contains-append_left all (packets_carried w.events) p (flat_member host_packets w.hosts (home net e) h p at (Contains-append_left (link_packets h.link) out p b)))
    (Contains-append_cases flying (link_packets h.link) p a))
    (λ a. Contains-append_left all (packets_carried w.events) p (flat_member host_packets w.hosts (home net e) h p at (Contains-append_right (link_packets h.link) out p a)))
    (Contains-append_cases (flying ++ link_packets h.link) out p c))) in
    let fits : (p : Packet) → Contains (host_packets after) p → Contains ((flying ++ link_packets after.link) ++ left) p =
    λ p c.
    ⊎_elim
    (λ a. Contains-append_left (flying ++ link_packets after.link) left p (Contains-append_right flying (link_packets after.link) p a))
    (λ a. Contains-append_right (flying ++ link_packets after.link) left p a)
    (Contains-append_cases (link_packets after.link) left p c) in
    let before : (p : Packet) → Contains flying p → Contains ((flying ++ link_packets after.link) ++ left) p =
    λ p c. Contains-append_left (flying ++ link_packets after.link) left p (Contains-append_left flying (link_packets after.link) p c) in
    let leaves = goes everywhere k.own (part_of share.rest flying after) (world_exchange v)
    (share.put f.host)
    (λ p c.
    inl (⊎_elim
    (λ a.
    ⊎_elim
    (λ b. before p (Contains-append_left all (packets_carried w.events) p b))
    (λ b. fits p (fired_packets net e h p b))
    (flat_set_cases host_packets w.hosts (home net e) f.host p a))
    (λ a.
    ⊎_elim
    (λ b. before p (Contains-append_right all (packets_carried w.events) p (rest_carried w e rest p taken b)))
    (λ b. fits p (Contains-append_left (link_packets after.link) left p (made_member after.link p b)))
    (Contains-append_cases (packets_carried rest) made p (subst (λ (xs : List Packet). Contains xs p) (filter_map-append carried rest after.link.made) a)))
    (Contains-append_cases (flat_map host_packets (set w.hosts (home net e) f.host)) (packets_carried (rest ++ after.link.made)) p c))) in
    let led = both everywhere k.own (world_exchange w) (part_of share.rest flying h) (world_exchange v) enters
    (both everywhere k.own (part_of share.rest flying h) (part_of share.rest flying after) (world_exchange v) m.leads leaves) in
    record {
      known = set_hold (IsKnown net) w.hosts (home net e) f.host known (record {
        own = k.own;
        n = k.n;
        good = fired_good net k.own k.n e h m.good;
        draws = k.draws;
        acts = k.acts ++ m.acts;
        history = sockets_joined net.known.book k.acts m.acts (no_sockets k.own, nothing_wanted k.draws) (sockets_in h.parts) (sockets_in after.parts) k.history m.after;
      });
      exchanges = led.exchanges;
      steps = led.steps;
      last = led.last;
    }

fires_lead : (net : Net) (w : World) (e : Event) (rest : List Event) (o : Option HostRecord) → slice_get w.hosts (home net e) ≡ o → IsPermutation w.events (e ∷ rest) → nat_lt e.key.due.nanos net.stop.nanos ≡ true → AllKnown net w → WorldMoves net w (after_firing w e rest (fires_at (model net) w.hosts e o))
fires_lead net w e rest None at taken due known = nobody net w e rest taken known
fires_lead net w e rest (Some h) at taken due known =
    subst (λ (f : Fired HostRecord Line). WorldMoves net w (after_firing w e rest (with_host w.hosts (home net e) f))) (sym (fires_so net h e due)) (somebody net w e rest h at taken known)

turn_leads : (net : Net) (w v : World) → next (model net) net.stop.nanos w ≡ Some v → AllKnown net w → WorldMoves net w v
turn_leads net w v k known =
    let turn = turn_of net w v k in
    subst (WorldMoves net w) turn.is (fires_lead net w turn.event turn.rest (slice_get w.hosts (home net turn.event)) refl turn.taken turn.due known)

-- ---- and so does a run

pub record IsLed (net : Net) (w : World) : Type 0 where
  pub known : AllKnown net w
  pub exchanges : List streams.Exchange
  pub steps : AreSteps everywhere empty_exchange exchanges
  pub last : last_exchange empty_exchange exchanges ≡ world_exchange w

opening_led : (net : Net) (rows : List Row) → IsLed net (opening_world rows)
opening_led net rows =
    let w : World = opening_world rows in
    record {
      known = rows_hold (IsKnown net) rows (row_known net);
      exchanges = world_exchange w ∷ [];
      steps = (
        goes_on (same_permutation (world_records w) [] (rows_records rows))
            (λ p c.
            absurd (⊎_elim (λ a. rows_packets net rows p a) (λ a. rows_events net rows p a)
            (Contains-append_cases (flat_map host_packets w.hosts) (packets_carried w.events) p c))),
        tt,
      );
      last = refl;
    }

led_on : (net : Net) (w v : World) → IsLed net w → WorldMoves net w v → IsLed net v
led_on net w v led m =
    let more = subst (λ (n : streams.Exchange). AreSteps everywhere n m.exchanges) (sym led.last) m.steps in
    let all = joined everywhere empty_exchange led.exchanges m.exchanges led.steps more in
    record {
      known = m.known;
      exchanges = led.exchanges ++ m.exchanges;
      steps = all.0;
      last = all.1 ∙ (ap (λ (n : streams.Exchange). last_exchange n m.exchanges) led.last ∙ m.last);
    }

pub run_led : (net : Net) (rows : List Row) (w : World) → IsReached net (opening_world rows) w → IsLed net w
run_led net rows w (begins v same) = subst (IsLed net) same (opening_led net rows)
run_led net rows w (turns u v reached k) =
    let led = run_led net rows u reached in led_on net u v led (turn_leads net u v k led.known)

-- the promise for all hosts
pub wide : (net : Net) (rows : List Row) (w : World) (from to : Addr) → IsReached net (opening_world rows) w → IsSimple from to (world_records w) → IsFaithful (stream_of from to (world_records w))
wide net rows w from to reached simple =
    let led = run_led net rows w reached in
    subst (λ (n : streams.Exchange). IsFaithful (stream_of from to n.records)) led.last
    (streams everywhere led.exchanges from to refl led.steps (subst (λ (n : streams.Exchange). IsSimple from to n.records) (sym led.last) simple))
