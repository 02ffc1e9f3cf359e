-- every act of a host's sockets, and every list of them
use Rattle.std.proofs.Common.{Bool, List, [], ◌∷◌, ◌++◌, refl, subst, ⊎_elim, inl}
use Rattle.std.proofs.lemmas.List.Elements.{Contains-append_left, Contains-append_cases}
use Rattle.std.proofs.lemmas.List.Sorted.{IsPermutation-refl}
use Rattle.sim_base.specs.declared.address.Ip.{Ip}
use Rattle.sim_base.specs.declared.address.Addr.{Addr}
use Rattle.sim_base.specs.declared.packet.Packet.{Packet}
use Rattle.sim_base.specs.declared.time.Time.{Time}
use Rattle.sock_tcp.specs.connection.Tcb.{Tcb}
use Rattle.host_wants.specs.Wanted.{Wanted}
use Rattle.host_sockets.specs.Sockets.{SocketsRecord, no_sockets}
use Rattle.host_sockets.specs.Udp.{udp_in, new_udp, binds_udp, connects_udp, sends_udp, receives_udp, closes_udp}
use Rattle.host_sockets.specs.Records.{records_of}
use Rattle.socket_laws.specs.Histories.{SocketsAct, sockets_acted, sockets_after}
use Rattle.socket_laws.specs.Histories.SocketsAct.{make_udp, bind_udp, connect_udp, send_udp, recv_udp, close_udp, make_tcp, bind_tcp, listen_tcp, accept_tcp, connect_tcp, connect_again, send_tcp, recv_tcp, shut_tcp, take_error, close_tcp, arrival, alarm, elsewhere}
use Rattle.socket_streams.specs.Records.{packets_of, exchange_of}
use Rattle.socket_streams.specs.Leads.{Leads}
use Rattle.socket_streams.specs.May.{MayDo, MayAllFreely, MayAll, MovesFreely, Moves, ArePlain}
use Rattle.socket_streams.proofs.Chains.{both, goes}
use Rattle.socket_streams.proofs.Hosts.{Reaches, rests_reach}
use Rattle.socket_streams.proofs.Rows.{send_reach, recv_reach, shut_reach, error_taken_reach, close_reach, again_reach, connect_reach, bind_reach, listen_reach, accept_reach, made_reach, slots_reach, udp_reach, arrival_reach, alarm_reach}

pub none_plain : (own : Ip) → ArePlain own (no_sockets own)
none_plain own = record { host = refl; sockets = λ k s e. cc }

module _ (scope : Addr → Addr → Bool) (hosts : List Ip) (own : Ip) (others : List Tcb) (flying : List Packet) where
  elsewhere_reach : (t : SocketsRecord) (w after : Wanted) → MayDo (flying ++ packets_of w) (flying ++ packets_of w) (elsewhere after) → ArePlain own t → Reaches scope own others flying (t, w) (t, after)
  elsewhere_reach t w after may plain = record {
    plain = plain;
    leads = goes scope own (exchange_of others flying (t, w)) (exchange_of others flying (t, after)) (IsPermutation-refl (records_of t ++ others))
        (λ p c. ⊎_elim (λ k. inl (Contains-append_left flying (packets_of w) p k)) (λ k. may p k) (Contains-append_cases flying (packets_of after) p c));
  }

  pub acted_reach : (now : Time) (act : SocketsAct) (t : SocketsRecord) (w : Wanted) → ArePlain own t → MayDo (flying ++ packets_of w) (flying ++ packets_of w) act → Reaches scope own others flying (t, w) (sockets_acted hosts now act t w)
  unfolding new_udp binds_udp connects_udp sends_udp receives_udp closes_udp
  acted_reach now make_udp t w plain may = slots_reach scope own others flying t _ _ w plain
  acted_reach now (bind_udp k at) t w plain may = udp_reach scope own others flying _ k (udp_in k t) t w plain
  acted_reach now (connect_udp k to) t w plain may = udp_reach scope own others flying _ k (udp_in k t) t w plain
  acted_reach now (send_udp k bytes to) t w plain may = udp_reach scope own others flying _ k (udp_in k t) t w plain
  acted_reach now (recv_udp k n) t w plain may = udp_reach scope own others flying _ k (udp_in k t) t w plain
  acted_reach now (close_udp k) t w plain may = slots_reach scope own others flying t _ _ w plain
  acted_reach now make_tcp t w plain may = made_reach scope own others flying t w plain
  acted_reach now (bind_tcp k at) t w plain may = bind_reach scope own others flying k at t w plain
  acted_reach now (listen_tcp k n) t w plain may = listen_reach scope own others flying k n t w plain
  acted_reach now (accept_tcp k) t w plain may = accept_reach scope own others flying k t w plain
  acted_reach now (connect_tcp k to) t w plain may = connect_reach scope own others flying hosts now k to t w plain
  acted_reach now (connect_again k) t w plain may = again_reach scope own others flying now k t w plain
  acted_reach now (send_tcp k bytes to quiet) t w plain may = send_reach scope own others flying hosts now k bytes to quiet t w plain
  acted_reach now (recv_tcp k n) t w plain may = recv_reach scope own others flying now k n t w plain
  acted_reach now (shut_tcp k how) t w plain may = shut_reach scope own others flying now k how t w plain
  acted_reach now (take_error k) t w plain may = error_taken_reach scope own others flying now k t w plain
  acted_reach now (close_tcp k) t w plain may = close_reach scope own others flying now k t w plain
  acted_reach now (arrival p) t w plain may = arrival_reach scope own others flying p.load now p t w may plain
  acted_reach now (alarm k serial) t w plain may = alarm_reach scope own others flying now k serial t w plain
  acted_reach now (elsewhere after) t w plain may = elsewhere_reach t w after may plain

  -- what was on its way before is so still
  still_may : (act : SocketsAct) (w : Wanted) → MayDo flying (flying ++ packets_of w) act → MayDo (flying ++ packets_of w) (flying ++ packets_of w) act
  still_may (arrival p) w may = Contains-append_left flying (packets_of w) p may
  still_may (elsewhere after) w may = may
  still_may make_udp w may = may
  still_may (bind_udp k at) w may = may
  still_may (connect_udp k to) w may = may
  still_may (send_udp k bytes to) w may = may
  still_may (recv_udp k n) w may = may
  still_may (close_udp k) w may = may
  still_may make_tcp w may = may
  still_may (bind_tcp k at) w may = may
  still_may (listen_tcp k n) w may = may
  still_may (accept_tcp k) w may = may
  still_may (connect_tcp k to) w may = may
  still_may (connect_again k) w may = may
  still_may (send_tcp k bytes to quiet) w may = may
  still_may (recv_tcp k n) w may = may
  still_may (shut_tcp k how) w may = may
  still_may (take_error k) w may = may
  still_may (close_tcp k) w may = may
  still_may (alarm k serial) w may = may

  after_reach : (acts : List (Time × SocketsAct)) (t : SocketsRecord) (w : Wanted) → ArePlain own t → MayAllFreely hosts flying acts t w → Reaches scope own others flying (t, w) (sockets_after hosts acts (t, w))
  after_reach [] t w plain may = rests_reach scope own others flying t w plain
  after_reach ((now, act) ∷ acts) t w plain may =
      let next = sockets_acted hosts now act t w in
      let first = acted_reach now act t w plain may.0 in
      let rest = after_reach acts next.0 next.1 first.plain may.1 in
      record {
        plain = rest.plain;
        leads = both scope own (exchange_of others flying (t, w)) (exchange_of others flying next) (exchange_of others flying (sockets_after hosts acts next)) first.leads rest.leads;
      }

  pub freely_lead : (x y : SocketsRecord × Wanted) → ArePlain own x.0 → MovesFreely hosts flying x y → Leads scope own (exchange_of others flying x) (exchange_of others flying y) × ArePlain own y.0
  freely_lead x y plain moves =
      let all = after_reach moves.acts x.0 x.1 plain moves.may in (
        subst (λ (z : SocketsRecord × Wanted). Leads scope own (exchange_of others flying x) (exchange_of others flying z)) moves.after all.leads,
        subst (λ (z : SocketsRecord × Wanted). ArePlain own z.0) moves.after all.plain,
      )

  all_may : (acts : List (Time × SocketsAct)) (t : SocketsRecord) (w : Wanted) → MayAll hosts flying acts t w → MayAllFreely hosts flying acts t w
  all_may [] t w may = tt
  all_may ((now, act) ∷ acts) t w may =
      let next = sockets_acted hosts now act t w in (still_may act w may.0, all_may acts next.0 next.1 may.1)

  pub moves_lead : (x y : SocketsRecord × Wanted) → ArePlain own x.0 → Moves hosts flying x y → Leads scope own (exchange_of others flying x) (exchange_of others flying y) × ArePlain own y.0
  moves_lead x y plain moves =
      freely_lead x y plain (record { acts = moves.acts; may = all_may moves.acts x.0 x.1 moves.may; after = moves.after })
