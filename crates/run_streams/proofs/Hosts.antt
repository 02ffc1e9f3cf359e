-- what an act of a host does to its exchange, beside the records of others
use Rattle.std.proofs.Common.{◌≡◌, inl, ⊎_elim, ℕ, Bool, List, [], ◌∷◌, ◌++◌, filter_map, Contains, refl, sym, ap, subst, ◌∙◌}
use Rattle.std.proofs.lemmas.List.Elements.{Contains-append_left, Contains-append_right, Contains-append_cases}
use Rattle.std.proofs.lemmas.List.Sorted.{IsPermutation-refl}
use Rattle.sim_base.specs.declared.address.Ip.{Ip}
use Rattle.sim_base.specs.declared.address.Addr.{Addr}
use Rattle.sim_base.specs.declared.packet.Packet.{Packet}
use Rattle.sim_base.specs.declared.time.Time.{Time}
use Rattle.sock_tcp.specs.connection.Tcb.{Tcb}
use Rattle.tcp_streams.specs.Exchange as streams
use Rattle.tcp_streams.proofs.Members.{IsIn_from_Contains, Contains_here, Contains_there}
use Rattle.host_wants.specs.declared.outlet.Want.{Want}
use Rattle.host_wants.specs.declared.outlet.Want.TheVariants as wanted
use Rattle.host_wants.specs.Wanted.{Wanted}
use Rattle.host_sockets.specs.Sockets.{SocketsRecord}
use Rattle.host_calls.specs.Parts.{PartsRecord}
use Rattle.host_link.specs.Net.{Net}
use Rattle.host_state.specs.Host.{with_link, with_parts, wire_of, with_wire, does_wanted}
use Rattle.host_link.specs.Wants.{does_wants}
use Rattle.host_state.specs.HostRecord.{HostRecord}
use Rattle.host_link.specs.Link.{LinkState}
use Rattle.host_link.specs.Sending.{Wire}
use Rattle.socket_laws.specs.Histories.{SocketsAct, sockets_acted, sockets_after}
use Rattle.socket_laws.specs.Histories.SocketsAct.{elsewhere}
use Rattle.socket_streams.specs.Records.{packet_in, packets_of, exchange_with}
use Rattle.socket_streams.specs.Leads.{Leads}
use Rattle.socket_streams.specs.May.{ArePlain, Moves}
use Rattle.socket_streams.proofs.Chains.{both, goes}
use Rattle.socket_streams.proofs.Acts.{moves_lead}
use Rattle.call_streams.specs.Parts.{sockets_in}
use Rattle.run_streams.specs.Exchanges.{link_packets, host_records}
use Rattle.run_streams.proofs.Every.{Every}
use Rattle.run_streams.proofs.Links.{Carries, Any, link_member, link_as, Wired, FitsWant, wants_done}

-- a host's exchange beside other records, with packets that are on their way already
abbrev pub part_of : List Tcb → List Packet → HostRecord → streams.Exchange
part_of others flying h =
    exchange_with (host_records h ++ others) ((flying ++ link_packets h.link) ++ packets_of h.parts.shared.outlet)

-- what every act of a host leaves as it was
pub record IsGood (own : Ip) (n : ℕ) (h : HostRecord) : Type 0 where
  pub address : h.row.address ≡ own
  pub plain : ArePlain own h.parts.sockets
  pub link : Carries Any own n h.link

pub record HostMoves (net : Net) (scope : Addr → Addr → Bool) (own : Ip) (n : ℕ) (others : List Tcb) (flying : List Packet) (h k : HostRecord) : Type 0 where
  pub good : IsGood own n k
  pub leads : Leads scope own (part_of others flying h) (part_of others flying k)
  pub acts : List (Time × SocketsAct)
  pub after : sockets_after net.known.book acts (sockets_in h.parts) ≡ sockets_in k.parts

sockets_on : (hosts : List Ip) (acts more : List (Time × SocketsAct)) (t : SocketsRecord) (w : Wanted) → sockets_after hosts (acts ++ more) (t, w) ≡ sockets_after hosts more (sockets_after hosts acts (t, w))
sockets_on hosts [] more t w = refl
sockets_on hosts ((now, act) ∷ acts) more t w =
    let next = sockets_acted hosts now act t w in sockets_on hosts acts more next.0 next.1

pub sockets_joined : (hosts : List Ip) (acts more : List (Time × SocketsAct)) (x y z : SocketsRecord × Wanted) → sockets_after hosts acts x ≡ y → sockets_after hosts more y ≡ z → sockets_after hosts (acts ++ more) x ≡ z
sockets_joined hosts acts more x y z e k =
    sockets_on hosts acts more x.0 x.1 ∙ (ap (λ (u : SocketsRecord × Wanted). sockets_after hosts more u) e ∙ k)

module _ (net : Net) (scope : Addr → Addr → Bool) (own : Ip) (n : ℕ) (others : List Tcb) (flying : List Packet) where
  abbrev H : HostRecord → HostRecord → Type 0
  H h k = HostMoves net scope own n others flying h k

  pub rests : (h : HostRecord) → IsGood own n h → H h h
  rests h good = record {
    good = good;
    leads = goes scope own (part_of others flying h) (part_of others flying h) (IsPermutation-refl (host_records h ++ others)) (λ p c. inl c);
    acts = [];
    after = refl;
  }

  pub on : (h k l : HostRecord) → H h k → (IsGood own n k → H k l) → H h l
  on h k l first then_ =
      let second = then_ first.good in
      record {
        good = second.good;
        leads = both scope own (part_of others flying h) (part_of others flying k) (part_of others flying l) first.leads second.leads;
        acts = first.acts ++ second.acts;
        after = sockets_joined net.known.book first.acts second.acts (sockets_in h.parts) (sockets_in k.parts) (sockets_in l.parts) first.after second.after;
      }

  -- its parts act
  pub parts_move : (h : HostRecord) (parts : PartsRecord) → IsGood own n h → Moves net.known.book (flying ++ link_packets h.link) (sockets_in h.parts) (sockets_in parts) → H h (with_parts parts h)
  parts_move h parts good moves =
      let led = moves_lead scope net.known.book own others (flying ++ link_packets h.link) (sockets_in h.parts) (sockets_in parts) good.plain moves in
      record {
        good = record { address = good.address; plain = led.1; link = good.link };
        leads = led.0;
        acts = moves.acts;
        after = moves.after;
      }

  -- packets of the link stay, leave or are dropped
  fewer : (l m : LinkState) (out : List Packet) (p : Packet) → ((q : Packet) → Contains (link_packets m) q → Contains (flying ++ link_packets l) q) → Contains ((flying ++ link_packets m) ++ out) p → Contains ((flying ++ link_packets l) ++ out) p
  fewer l m out p from c =
      ⊎_elim
      (λ a.
      Contains-append_left (flying ++ link_packets l) out p
      (⊎_elim
      (λ b. Contains-append_left flying (link_packets l) p b)
      (λ b. from p b)
      (Contains-append_cases flying (link_packets m) p a)))
      (λ a. Contains-append_right (flying ++ link_packets l) out p a)
      (Contains-append_cases (flying ++ link_packets m) out p c)

  pub link_moves : (h : HostRecord) (m : LinkState) → IsGood own n h → ((S : Packet → Type 0) → ((p : Packet) → Contains flying p → S p) → Carries S own n h.link → Carries S own n m) → H h (with_link m h)
  link_moves h m good keeps =
      let before = flying ++ link_packets h.link in
      let S : Packet → Type 0 = λ p. Contains before p in
      let kept = keeps S (λ p c. Contains-append_left flying (link_packets h.link) p c) (link_as Any S own n h.link (λ p c. Contains-append_right flying (link_packets h.link) p c) good.link) in
      record {
        good = record { address = good.address; plain = good.plain; link = keeps Any (λ p c. tt) good.link };
        leads = goes scope own (part_of others flying h) (part_of others flying (with_link m h)) (IsPermutation-refl (host_records h ++ others))
            (λ p c. inl (fewer h.link m (packets_of h.parts.shared.outlet) p (λ q k. link_member S own n m q kept k) c));
        acts = [];
        after = refl;
      }

  -- what is wanted is sent
  each_wanted : (wants : List Want) (S : Packet → Type 0) → ((p : Packet) → Contains (filter_map packet_in wants) p → S p) → Every (FitsWant net S own n) wants
  each_wanted [] S f = tt
  each_wanted (wanted.Send packet ∷ wants) S f =
      (f packet (Contains_here packet (filter_map packet_in wants)), each_wanted wants S (λ p c. f p (Contains_there packet p (filter_map packet_in wants) c)))
  each_wanted (wanted.Alarm target serial due ∷ wants) S f = (tt, each_wanted wants S f)

  pub wire_moves : (h : HostRecord) (v : Wire) (ws : List Want) → ((p : Packet) → Contains (filter_map packet_in ws) p → Contains (packets_of h.parts.shared.outlet) p) → IsGood own n h → ((S : Packet → Type 0) → Carries S own n h.link → ((p : Packet) → Contains (packets_of h.parts.shared.outlet) p → S p) → Wired net S own n ws v) → H h (with_wire v h)
  wire_moves h v ws wanted_before good keeps =
      let out = packets_of h.parts.shared.outlet in
      let S : Packet → Type 0 = λ p. Contains (link_packets h.link ++ out) p in
      let kept = keeps S (link_as Any S own n h.link (λ p c. Contains-append_left (link_packets h.link) out p c) good.link) (λ p c. Contains-append_right (link_packets h.link) out p c) in
      let any = keeps Any good.link (λ p c. tt) in
      let left : packets_of v.1 ≡ filter_map packet_in ws = ap (λ (wants : List Want). filter_map packet_in wants) kept.quiet in
      record {
        good = record { address = good.address; plain = record { host = good.plain.host; sockets = good.plain.sockets }; link = any.link };
        leads = goes scope own (part_of others flying h) (part_of others flying (with_wire v h)) (IsPermutation-refl (host_records h ++ others))
            (λ p c.
            inl (⊎_elim
            (λ a.
            ⊎_elim
            (λ b. Contains-append_left (flying ++ link_packets h.link) out p (Contains-append_left flying (link_packets h.link) p b))
            (λ b.
            ⊎_elim
            (λ q. Contains-append_left (flying ++ link_packets h.link) out p (Contains-append_right flying (link_packets h.link) p q))
            (λ q. Contains-append_right (flying ++ link_packets h.link) out p q)
            (Contains-append_cases (link_packets h.link) out p (link_member S own n v.0 p kept.link b)))
            (Contains-append_cases flying (link_packets v.0) p a))
            (λ a. Contains-append_right (flying ++ link_packets h.link) out p (wanted_before p (subst (λ (xs : List Packet). Contains xs p) left a)))
            (Contains-append_cases (flying ++ link_packets v.0) (packets_of v.1) p c)));
        acts = (record { nanos = 0 }, elsewhere v.1) ∷ [];
        after = refl;
      }

  pub did_wanted : (h : HostRecord) → IsGood own n h → H h (does_wanted net h)
  unfolding does_wanted
  did_wanted h good =
      wire_moves h (does_wants net h.row.address (wire_of h)) [] (λ p c. absurd (IsIn_from_Contains p [] c)) good
      (λ S c f.
      subst (λ (a : Ip). Wired net S own n [] (does_wants net a (wire_of h))) (sym good.address)
      (wants_done net S own n (wire_of h) (each_wanted h.parts.shared.outlet.wants S f) c))

  -- with more packets on their way, which were the host's
  pub narrowed : (extra : List Packet) (h k : HostRecord) → ((p : Packet) → Contains extra p → Contains (flying ++ link_packets h.link) p) → HostMoves net scope own n others (flying ++ extra) h k → H h k
  narrowed extra h k from moves =
      let before = flying ++ link_packets h.link in
      let wide = flying ++ extra in
      let out = packets_of h.parts.shared.outlet in
      let left = packets_of k.parts.shared.outlet in
      record {
        good = moves.good;
        leads = both scope own (part_of others flying h) (part_of others wide h) (part_of others flying k)
            (goes scope own (part_of others flying h) (part_of others wide h) (IsPermutation-refl (host_records h ++ others))
            (λ p c.
            inl (⊎_elim
            (λ a.
            Contains-append_left before out p
            (⊎_elim
            (λ b. ⊎_elim (λ q. Contains-append_left flying (link_packets h.link) p q) (λ q. from p q) (Contains-append_cases flying extra p b))
            (λ b. Contains-append_right flying (link_packets h.link) p b)
            (Contains-append_cases wide (link_packets h.link) p a)))
            (λ a. Contains-append_right before out p a)
            (Contains-append_cases (wide ++ link_packets h.link) out p c))))
            (both scope own (part_of others wide h) (part_of others wide k) (part_of others flying k) moves.leads
            (goes scope own (part_of others wide k) (part_of others flying k) (IsPermutation-refl (host_records k ++ others))
            (λ p c.
            inl (⊎_elim
            (λ a.
            Contains-append_left (wide ++ link_packets k.link) left p
            (⊎_elim
            (λ b. Contains-append_left wide (link_packets k.link) p (Contains-append_left flying extra p b))
            (λ b. Contains-append_right wide (link_packets k.link) p b)
            (Contains-append_cases flying (link_packets k.link) p a)))
            (λ a. Contains-append_right (wide ++ link_packets k.link) left p a)
            (Contains-append_cases (flying ++ link_packets k.link) left p c)))));
        acts = moves.acts;
        after = moves.after;
      }
