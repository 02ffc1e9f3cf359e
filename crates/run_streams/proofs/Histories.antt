-- the sockets of every host of a run have a history
use Rattle.std.proofs.Common.{◌≡◌, ℕ, ◌≤◌, ◌||◌, true, false, List, Some, slice_get, Ok, sym, ap, subst, ◌∙◌}
use Rattle.sim_base.specs.Addresses.{loopback, is_same_ip}
use Rattle.sim_base.specs.declared.address.Ip.{Ip}
use Rattle.sim_base.specs.declared.address.Addr.{Addr}
use Rattle.sim_base.specs.declared.time.Time.{Time}
use Rattle.sock_udp.specs.Socket.{UdpState, takes}
use Rattle.sock_tcp.specs.connection.Tcb.{Tcb}
use Rattle.sock_tcp.specs.listener.Listen.{Listen}
use Rattle.host_sockets.specs.Accepting.{accepts_at}
use Rattle.host_sockets.specs.Connecting.{connect_asked}
use Rattle.host_sockets.specs.Sockets.{SocketsRecord}
use Rattle.host_sockets.specs.TcpSocket.{TcpSocket, listens_to}
use Rattle.host_wants.specs.Wanted.{Wanted}
use Rattle.host_link.specs.Net.{Net}
use Rattle.host_rows.specs.declared.row.Row.{Row}
use Rattle.host_state.specs.HostRecord.{HostRecord}
use Rattle.host_state.specs.World.{World, IsResult, opening_world}
use Rattle.world_order.specs.World as order
use Rattle.socket_laws.specs.Apart.{BoundApart, BoundHere}
use Rattle.socket_laws.specs.Histories.{SocketsAct, sockets_of}
use Rattle.socket_laws.specs.Pairs.{live_records}
use Rattle.socket_laws.proofs.ApartActs.{bound_apart}
use Rattle.socket_laws.proofs.ApartTakers.{one_takes}
use Rattle.socket_laws.proofs.HistoryKeeps.{history_rests}
use Rattle.socket_laws.proofs.HistoryPairs.{history_single}
use Rattle.socket_laws.proofs.ListenActs.{one_listens}
use Rattle.socket_laws.proofs.HereActs.{history_here, history_connects}
use Rattle.run_streams.specs.Run.{IsReached, HasHistory}
use Rattle.run_streams.specs.Run.IsReached.{turns}
use Rattle.run_streams.proofs.Worlds.{IsKnown, run_led}

known_history : (net : Net) (h : HostRecord) → IsKnown net h → HasHistory net h
known_history net h k =
    let same : h.parts.sockets ≡ sockets_of net.known.book k.own k.draws k.acts = sym (ap (λ (x : SocketsRecord × Wanted). x.0) k.history) in
    record {
      draws = k.draws;
      acts = k.acts;
      is = same ∙ ap (λ (own : Ip). sockets_of net.known.book own k.draws k.acts) (sym k.good.address);
    }

module _ (net : Net) (rows : List Row) (w : World) (i : ℕ) (h : HostRecord) (reached : IsReached net (opening_world rows) w) (at : slice_get w.hosts i ≡ Some h) where
  known : IsKnown net h
  known = (run_led net rows w reached).known i h at

  pub history : HasHistory net h
  history = known_history net h known

  abbrev here : Ip
  here = h.row.address

  -- what holds after every history
  after_all : (P : SocketsRecord → Type 0) → ((draws : List ℕ) (acts : List (Time × SocketsAct)) → P (sockets_of net.known.book here draws acts)) → P h.parts.sockets
  after_all P all = subst P (sym history.is) (all history.draws history.acts)

  pub pairs : (own other : Addr) → live_records own other h.parts.sockets ≤ 1
  pairs own other = after_all (λ t. live_records own other t ≤ 1) (λ draws acts. history_single own other net.known.book here draws acts)

  pub bound : BoundApart h.parts.sockets
  bound = after_all BoundApart (λ draws acts. bound_apart net.known.book here draws acts)

  pub taker : (from to : Addr) (j k : ℕ) (u v : UdpState) → slice_get h.parts.sockets.udp j ≡ Some (Some u) → takes from to u ≡ true → slice_get h.parts.sockets.udp k ≡ Some (Some v) → takes from to v ≡ true → j ≡ k
  taker from to j k u v there first other second =
      after_all (λ t. slice_get t.udp j ≡ Some (Some u) → takes from to u ≡ true → slice_get t.udp k ≡ Some (Some v) → takes from to v ≡ true → j ≡ k)
      (λ draws acts a b c d. one_takes net.known.book here draws acts from to j k u v a b c d) there first other second

  pub listener : (to : Addr) (j k : ℕ) (a b : TcpSocket) → slice_get h.parts.sockets.tcp j ≡ Some a → listens_to to a ≡ true → slice_get h.parts.sockets.tcp k ≡ Some b → listens_to to b ≡ true → j ≡ k
  listener to j k a b there first other second =
      after_all (λ t. slice_get t.tcp j ≡ Some a → listens_to to a ≡ true → slice_get t.tcp k ≡ Some b → listens_to to b ≡ true → j ≡ k)
      (λ draws acts p q r s. one_listens net.known.book here draws acts to j k a b p q r s) there first other second

  pub accepted : (k : ℕ) (r : Tcb) (rest : Listen) → accepts_at k h.parts.sockets ≡ Some (r, rest) → r.control.timer ≡ false
  accepted k r rest e =
      after_all (λ t. accepts_at k t ≡ Some (r, rest) → r.control.timer ≡ false)
      (λ draws acts a. history_rests net.known.book here draws acts k r rest a) e

  pub local : BoundHere here h.parts.sockets
  local = after_all (BoundHere here) (λ draws acts. history_here net.known.book here draws acts)

  pub connects : (k : ℕ) (to own : Addr) → connect_asked net.known.book k to h.parts.sockets ≡ Ok own → is_same_ip to.ip loopback ≡ true → (is_same_ip own.ip loopback || is_same_ip own.ip here) ≡ true
  connects k to own e inside =
      after_all (λ t. connect_asked net.known.book k to t ≡ Ok own → (is_same_ip own.ip loopback || is_same_ip own.ip here) ≡ true)
      (λ draws acts a. history_connects net.known.book here draws acts k to own a inside) e

-- the result of a run is reached
pub result_reached : (net : Net) (first result w : World) → IsReached net first w → IsResult net result w → IsReached net first result
result_reached net first result w reached (order.is_over v over same) = subst (IsReached net first) same reached
result_reached net first result w reached (order.goes_on v u is rest) = result_reached net first result u (turns w u reached is) rest
