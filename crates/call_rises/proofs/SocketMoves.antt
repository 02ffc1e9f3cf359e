-- acts on sockets, one behind another
use Rattle.std.proofs.Common.{◌≡◌, Bool, true, List, [], ◌∷◌, ◌++◌, refl, sym, ap, subst, ◌∙◌}
use Rattle.sim_base.specs.declared.address.Ip.{Ip}
use Rattle.sim_base.specs.declared.time.Time.{Time}
use Rattle.host_wants.specs.Wanted.{Wanted}
use Rattle.host_sockets.specs.Sockets.{SocketsRecord}
use Rattle.socket_laws.specs.Histories.{SocketsAct, sockets_acted, sockets_after}
use Rattle.socket_laws.specs.Histories.SocketsAct.{elsewhere}
use Rattle.call_rises.specs.Sockets.{has_udp, has_tcp, SocketLasts, SocketsMove}
use Rattle.call_rises.proofs.There.{AllStay}

module _ (hosts : List Ip) where
  pub sockets_on : (acts more : List (Time × SocketsAct)) (t : SocketsRecord) (w : Wanted) → sockets_after hosts (acts ++ more) (t, w) ≡ sockets_after hosts more (sockets_after hosts acts (t, w))
  sockets_on [] more t w = refl
  sockets_on ((now, act) ∷ acts) more t w =
      let next = sockets_acted hosts now act t w in sockets_on acts more next.0 next.1

  abbrev pub LastsFrom : (SocketsRecord → Bool) → List (Time × SocketsAct) → SocketsRecord × Wanted → Type 0
  LastsFrom has acts x = SocketLasts hosts has acts x.0 x.1

  pub lasts_on : (has : SocketsRecord → Bool) (acts more : List (Time × SocketsAct)) (t : SocketsRecord) (w : Wanted) → SocketLasts hosts has acts t w → LastsFrom has more (sockets_after hosts acts (t, w)) → SocketLasts hosts has (acts ++ more) t w
  lasts_on has [] more t w a b = b
  lasts_on has ((now, act) ∷ acts) more t w a b =
      let next = sockets_acted hosts now act t w in (a.0, lasts_on has acts more next.0 next.1 a.1 b)

  pub sockets_rest : (x : SocketsRecord) → SocketsMove hosts x x
  sockets_rest x = record { acts = []; after = λ w. refl; udp_last = λ k e f w. tt; tcp_last = λ k e f w. tt }

  -- one act, of what is wanted then
  pub sockets_move : (now : Time) (act : SocketsAct) (x y : SocketsRecord) (w : Wanted) → (sockets_acted hosts now act x w).0 ≡ y → SocketsMove hosts x y
  sockets_move now act x y w e = record {
    acts = (now, elsewhere w) ∷ (now, act) ∷ [];
    after = λ v. e;
    udp_last = λ k before after v. (before, (subst (λ (u : SocketsRecord). has_udp k u ≡ true) (sym e) after, tt));
    tcp_last = λ k before after v. (before, (subst (λ (u : SocketsRecord). has_tcp k u ≡ true) (sym e) after, tt));
  }

  -- one behind another, where the second makes none
  module _ (x y z : SocketsRecord) (a : SocketsMove hosts x y) (b : SocketsMove hosts y z) (none : AllStay z y) where
    abbrev mid : Wanted → SocketsRecord × Wanted
    mid w = sockets_after hosts a.acts (x, w)

    both_after : (w : Wanted) → (sockets_after hosts (a.acts ++ b.acts) (x, w)).0 ≡ z
    both_after w =
        ap (λ (u : SocketsRecord × Wanted). u.0) (sockets_on a.acts b.acts x w)
        ∙ subst (λ (u : SocketsRecord). (sockets_after hosts b.acts (u, (mid w).1)).0 ≡ z) (sym (a.after w)) (b.after (mid w).1)

    both_last : (has : SocketsRecord → Bool) (w : Wanted) → SocketLasts hosts has a.acts x w → SocketLasts hosts has b.acts y (mid w).1 → SocketLasts hosts has (a.acts ++ b.acts) x w
    both_last has w p q =
        lasts_on has a.acts b.acts x w p (subst (λ (u : SocketsRecord). SocketLasts hosts has b.acts u (mid w).1) (sym (a.after w)) q)

    pub sockets_both : SocketsMove hosts x z
    sockets_both = record {
      acts = a.acts ++ b.acts;
      after = both_after;
      udp_last = λ k before after w.
          let still = none.udp k after in both_last (has_udp k) w (a.udp_last k before still w) (b.udp_last k still after (mid w).1);
      tcp_last = λ k before after w.
          let still = none.tcp k after in both_last (has_tcp k) w (a.tcp_last k before still w) (b.tcp_last k still after (mid w).1);
    }
