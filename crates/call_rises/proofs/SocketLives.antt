-- no act makes a socket at a number that one has
use Rattle.std.proofs.Common.{◌≡◌, ℕ, ◌==◌, Bool, true, false, List, [], ◌∷◌, ◌++◌, Option, Some, None, Result, Ok, Err, refl, ap, subst, ◌∙◌, arith}
use Rattle.std.proofs.lemmas.Bool.Decides.{nat_tests}
use Rattle.sim_base.specs.declared.address.Ip.{Ip}
use Rattle.sim_base.specs.declared.time.Time.{Time}
use Rattle.sock_tcp.specs.connection.Tcb.{Tcb}
use Rattle.sock_tcp.specs.listener.Listen.{Listen}
use Rattle.host_wants.specs.Wanted.{Wanted, nothing_wanted}
use Rattle.host_wants.specs.declared.error.Refusal.{Refusal}
use Rattle.host_sockets.specs.declared.glance.Glance.{Glance}
use Rattle.host_sockets.specs.Accepting.{accept_asked, accepts_at, given_up, accepts_tcp}
use Rattle.host_sockets.specs.Sockets.{SocketsRecord, no_sockets, changes_at, tcp_place, new_tcp}
use Rattle.host_sockets.specs.Udp.{new_udp}
use Rattle.socket_laws.specs.Histories.{SocketsAct, sockets_acted, sockets_after, make_udp, bind_udp, connect_udp, send_udp, recv_udp, close_udp, make_tcp, bind_tcp, listen_tcp, accept_tcp, connect_tcp, connect_again, send_tcp, recv_tcp, shut_tcp, take_error, close_tcp, arrival, alarm, elsewhere}
use Rattle.socket_laws.specs.Rises.{sees_tcp, sees_udp, accepts_at_number, makes_tcp, makes_udp, has_rise, counted_by, rises_counted, tcp_rises_counted, udp_rises_counted}
use Rattle.call_rises.specs.Sockets.{has_udp, has_tcp, SocketLasts, sockets_left, rises_since}
use Rattle.call_rises.proofs.SocketActs.{accept_row, new_tcp_there, new_udp_there, accepted_there}
use Rattle.call_rises.proofs.There.{not_both, OneMade}

same_number : (a b : ℕ) → (a == b) ≡ true → a ≡ b
same_number a b e = grind (arith, nat_tests)

-- a number that is given is another one
another : (n k : ℕ) (has others : ℕ → SocketsRecord → Bool) (t u : SocketsRecord) → OneMade n has others t u → has k t ≡ true → (n == k) ≡ false
another n k has others t u made h = by_test (n == k) refl
  where
    by_test : (b : Bool) → (n == k) ≡ b → b ≡ false
    by_test false e = refl
    by_test true e =
        absurd (not_both (has k t) h (subst (λ (m : ℕ). has m t ≡ false) (same_number n k e) made.is_new))

answers_another : (listener k : ℕ) (asked : Result (Unit {0}) Refusal) (a : Option (Tcb × Listen)) (t : SocketsRecord) → has_tcp k t ≡ true → accepts_at_number k (accept_row listener asked a t) ≡ false
answers_another listener k (Err why) a t h = refl
answers_another listener k (Ok u) None t h = refl
answers_another listener k (Ok u) (Some (r, rest)) t h =
    another (tcp_place (changes_at listener (given_up r rest) t)) k has_tcp has_udp t _ (accepted_there t listener r rest) h

accepts_another : (listener k : ℕ) (t : SocketsRecord) → has_tcp k t ≡ true → accepts_at_number k (accepts_tcp listener t) ≡ false
unfolding accepts_tcp
accepts_another listener k t h = answers_another listener k (accept_asked listener t) (accepts_at listener t) t h

tcp_not_made : (k : ℕ) (act : SocketsAct) (t : SocketsRecord) → has_tcp k t ≡ true → makes_tcp k act t ≡ false
tcp_not_made k make_udp t h = refl
tcp_not_made k (bind_udp j at) t h = refl
tcp_not_made k (connect_udp j to) t h = refl
tcp_not_made k (send_udp j bytes to) t h = refl
tcp_not_made k (recv_udp j count) t h = refl
tcp_not_made k (close_udp j) t h = refl
tcp_not_made k make_tcp t h = another (new_tcp t).0 k has_tcp has_udp t (new_tcp t).1 (new_tcp_there t) h
tcp_not_made k (bind_tcp j at) t h = refl
tcp_not_made k (listen_tcp j count) t h = refl
tcp_not_made k (accept_tcp j) t h = accepts_another j k t h
tcp_not_made k (connect_tcp j to) t h = refl
tcp_not_made k (connect_again j) t h = refl
tcp_not_made k (send_tcp j bytes to quiet) t h = refl
tcp_not_made k (recv_tcp j count) t h = refl
tcp_not_made k (shut_tcp j how) t h = refl
tcp_not_made k (take_error j) t h = refl
tcp_not_made k (close_tcp j) t h = refl
tcp_not_made k (arrival p) t h = refl
tcp_not_made k (alarm n serial) t h = refl
tcp_not_made k (elsewhere after) t h = refl

udp_not_made : (k : ℕ) (act : SocketsAct) (t : SocketsRecord) → has_udp k t ≡ true → makes_udp k act t ≡ false
udp_not_made k make_udp t h = another (new_udp t).0 k has_udp has_tcp t (new_udp t).1 (new_udp_there t) h
udp_not_made k (bind_udp j at) t h = refl
udp_not_made k (connect_udp j to) t h = refl
udp_not_made k (send_udp j bytes to) t h = refl
udp_not_made k (recv_udp j count) t h = refl
udp_not_made k (close_udp j) t h = refl
udp_not_made k make_tcp t h = refl
udp_not_made k (bind_tcp j at) t h = refl
udp_not_made k (listen_tcp j count) t h = refl
udp_not_made k (accept_tcp j) t h = refl
udp_not_made k (connect_tcp j to) t h = refl
udp_not_made k (connect_again j) t h = refl
udp_not_made k (send_tcp j bytes to quiet) t h = refl
udp_not_made k (recv_tcp j count) t h = refl
udp_not_made k (shut_tcp j how) t h = refl
udp_not_made k (take_error j) t h = refl
udp_not_made k (close_tcp j) t h = refl
udp_not_made k (arrival p) t h = refl
udp_not_made k (alarm n serial) t h = refl
udp_not_made k (elsewhere after) t h = refl

-- counts over acts, and then over more
module _ (bit : ℕ) (makes : SocketsAct → SocketsRecord → Bool) (sees : SocketsRecord → Glance) (hosts : List Ip) where
  counted_on : (acts more : List (Time × SocketsAct)) (t : SocketsRecord) (w : Wanted) (count : ℕ) → rises_counted bit makes sees hosts (acts ++ more) (t, w) count ≡ rises_counted bit makes sees hosts more (sockets_after hosts acts (t, w)) (rises_counted bit makes sees hosts acts (t, w) count)
  counted_on [] more t w count = refl
  counted_on ((now, act) ∷ acts) more t w count =
      let next = sockets_acted hosts now act t w in
      counted_on acts more next.0 next.1 (counted_by (makes act t) (has_rise bit (sees t) (sees next.0)) count)

  -- where none of them makes the socket
  since : (has : SocketsRecord → Bool) → ((act : SocketsAct) (t : SocketsRecord) → has t ≡ true → makes act t ≡ false) → (acts : List (Time × SocketsAct)) (t : SocketsRecord) (w : Wanted) (count : ℕ) → has t ≡ true → SocketLasts hosts has acts t w → rises_counted bit makes sees hosts acts (t, w) count ≡ rises_since bit sees hosts acts (t, w) count
  since has none [] t w count h lasts = refl
  since has none ((now, act) ∷ acts) t w count h lasts =
      let next = sockets_acted hosts now act t w in
      let risen = has_rise bit (sees t) (sees next.0) in
      ap (λ (made : Bool). rises_counted bit makes sees hosts acts next (counted_by made risen count)) (none act t h)
      ∙ since has none acts next.0 next.1 (counted_by false risen count) lasts.0 lasts.1

  lives_on : (has : SocketsRecord → Bool) → ((act : SocketsAct) (t : SocketsRecord) → has t ≡ true → makes act t ≡ false) → (acts more : List (Time × SocketsAct)) (t : SocketsRecord) (w : Wanted) (count : ℕ) (x : SocketsRecord × Wanted) → sockets_after hosts acts (t, w) ≡ x → has x.0 ≡ true → SocketLasts hosts has more x.0 x.1 → rises_counted bit makes sees hosts (acts ++ more) (t, w) count ≡ rises_since bit sees hosts more x (rises_counted bit makes sees hosts acts (t, w) count)
  lives_on has none acts more t w count x e h lasts =
      counted_on acts more t w count
      ∙ (ap (λ (y : SocketsRecord × Wanted). rises_counted bit makes sees hosts more y (rises_counted bit makes sees hosts acts (t, w) count)) e
      ∙ since has none more x.0 x.1 (rises_counted bit makes sees hosts acts (t, w) count) h lasts)

pub udp_lives_on : (hosts : List Ip) (own : Ip) (draws : List ℕ) (acts more : List (Time × SocketsAct)) (k bit : ℕ) → has_udp k (sockets_left hosts own draws acts).0 ≡ true → SocketLasts hosts (has_udp k) more (sockets_left hosts own draws acts).0 (sockets_left hosts own draws acts).1 → udp_rises_counted bit k hosts own draws (acts ++ more) ≡ rises_since bit (sees_udp k) hosts more (sockets_left hosts own draws acts) (udp_rises_counted bit k hosts own draws acts)
udp_lives_on hosts own draws acts more k bit h lasts =
    lives_on bit (makes_udp k) (sees_udp k) hosts (has_udp k) (udp_not_made k) acts more (no_sockets own) (nothing_wanted draws) 0 (sockets_left hosts own draws acts) refl h lasts

pub tcp_lives_on : (hosts : List Ip) (own : Ip) (draws : List ℕ) (acts more : List (Time × SocketsAct)) (k bit : ℕ) → has_tcp k (sockets_left hosts own draws acts).0 ≡ true → SocketLasts hosts (has_tcp k) more (sockets_left hosts own draws acts).0 (sockets_left hosts own draws acts).1 → tcp_rises_counted bit k hosts own draws (acts ++ more) ≡ rises_since bit (sees_tcp k) hosts more (sockets_left hosts own draws acts) (tcp_rises_counted bit k hosts own draws acts)
tcp_lives_on hosts own draws acts more k bit h lasts =
    lives_on bit (makes_tcp k) (sees_tcp k) hosts (has_tcp k) (tcp_not_made k) acts more (no_sockets own) (nothing_wanted draws) 0 (sockets_left hosts own draws acts) refl h lasts
