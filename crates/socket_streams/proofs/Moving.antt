-- acts one behind another
use Rattle.std.proofs.Common.{◌≡◌, inl, inr, ⊎_elim, List, [], ◌∷◌, ◌++◌, Contains, Result, Ok, refl, sym, ap, subst, ◌∙◌}
use Rattle.std.proofs.lemmas.List.Elements.{Contains-append_right, Contains-append_cases}
use Rattle.sim_base.specs.declared.address.Ip.{Ip}
use Rattle.sim_base.specs.declared.packet.Packet.{Packet}
use Rattle.sim_base.specs.declared.time.Time.{Time}
use Rattle.tcp_streams.specs.Exchange.{IsVoid}
use Rattle.tcp_streams.proofs.Members.{IsIn_from_Contains}
use Rattle.host_wants.specs.declared.error.Refusal.{Refusal}
use Rattle.host_wants.specs.Wanted.{Wanted, sends}
use Rattle.host_sockets.specs.Sockets.{SocketsRecord}
use Rattle.socket_laws.specs.Histories.{SocketsAct, left_by, sockets_acted, sockets_after}
use Rattle.socket_laws.specs.Histories.SocketsAct.{elsewhere}
use Rattle.socket_streams.specs.Records.{packets_of}
use Rattle.socket_streams.specs.May.{MayFly, MayDo, MayAll, HasSent, IsTold, AreTold, Moves}
use Rattle.socket_streams.proofs.Wants.{sends_packets}

module _ (hosts : List Ip) (flying : List Packet) where
  pub moves_none : (x : SocketsRecord × Wanted) → Moves hosts flying x x
  moves_none x = record { acts = []; may = tt; told = tt; after = refl }

  pub moves_by : (now : Time) (act : SocketsAct) (t : SocketsRecord) (w : Wanted) → MayDo flying (flying ++ packets_of w) act → IsTold hosts t w act → Moves hosts flying (t, w) (sockets_acted hosts now act t w)
  moves_by now act t w may told = record { acts = (now, act) ∷ []; may = (may, tt); told = (told, tt); after = refl }

  after-append : (acts more : List (Time × SocketsAct)) (t : SocketsRecord) (w : Wanted) → sockets_after hosts (acts ++ more) (t, w) ≡ sockets_after hosts more (sockets_after hosts acts (t, w))
  after-append [] more t w = refl
  after-append ((now, act) ∷ acts) more t w =
      let next = sockets_acted hosts now act t w in after-append acts more next.0 next.1

  abbrev MayFrom : List (Time × SocketsAct) → SocketsRecord × Wanted → Type 0
  MayFrom acts x = MayAll hosts flying acts x.0 x.1

  may_append : (acts more : List (Time × SocketsAct)) (t : SocketsRecord) (w : Wanted) → MayAll hosts flying acts t w → MayFrom more (sockets_after hosts acts (t, w)) → MayAll hosts flying (acts ++ more) t w
  may_append [] more t w may then = then
  may_append ((now, act) ∷ acts) more t w may then =
      let next = sockets_acted hosts now act t w in (may.0, may_append acts more next.0 next.1 may.1 then)

  abbrev ToldFrom : List (Time × SocketsAct) → SocketsRecord × Wanted → Type 0
  ToldFrom acts x = AreTold hosts acts x.0 x.1

  told_append : (acts more : List (Time × SocketsAct)) (t : SocketsRecord) (w : Wanted) → AreTold hosts acts t w → ToldFrom more (sockets_after hosts acts (t, w)) → AreTold hosts (acts ++ more) t w
  told_append [] more t w told then = then
  told_append ((now, act) ∷ acts) more t w told then =
      let next = sockets_acted hosts now act t w in (told.0, told_append acts more next.0 next.1 told.1 then)

  pub moves_both : (x y z : SocketsRecord × Wanted) → Moves hosts flying x y → Moves hosts flying y z → Moves hosts flying x z
  moves_both x y z a b = record {
    acts = a.acts ++ b.acts;
    may = may_append a.acts b.acts x.0 x.1 a.may (subst (λ (u : SocketsRecord × Wanted). MayFrom b.acts u) (sym a.after) b.may);
    told = told_append a.acts b.acts x.0 x.1 a.told (subst (λ (u : SocketsRecord × Wanted). ToldFrom b.acts u) (sym a.after) b.told);
    after = after-append a.acts b.acts x.0 x.1 ∙ (ap (λ (u : SocketsRecord × Wanted). sockets_after hosts b.acts u) a.after ∙ b.after);
  }

  -- elsewhere words are drawn and alarms are wanted, but no packets
  abbrev at_any_time : Time
  at_any_time = record { nanos = 0 }

  pub moves_elsewhere : (t : SocketsRecord) (w after : Wanted) → ((p : Packet) → Contains (packets_of after) p → MayFly (flying ++ packets_of w) p) → IsTold hosts t w (elsewhere after) → Moves hosts flying (t, w) (t, after)
  moves_elsewhere t w after may told = moves_by at_any_time (elsewhere after) t w may told

  pub moves_quietly : (t : SocketsRecord) (w after : Wanted) → packets_of after ≡ packets_of w → Moves hosts flying (t, w) (t, after)
  moves_quietly t w after e =
      moves_elsewhere t w after
      (λ p c. inl (Contains-append_right flying (packets_of w) p (subst (λ (xs : List Packet). Contains xs p) e c)))
      (λ p c. inl (subst (λ (xs : List Packet). Contains xs p) e c))

  -- or a packet that a UDP socket has sent, and that tells nothing of a stream
  pub moves_sending : (t : SocketsRecord) (w : Wanted) (q : Packet) → IsVoid q.load → HasSent hosts t q → Moves hosts flying (t, w) (t, sends (q ∷ []) w)
  moves_sending t w q void sent =
      moves_elsewhere t w (sends (q ∷ []) w)
      (λ p c.
      ⊎_elim
      (λ b. inl (Contains-append_right flying (packets_of w) p b))
      (λ s. ⊎_elim (λ same. inr (subst (λ (y : Packet). IsVoid y.load) (sym same) void)) (λ none. absurd none) (IsIn_from_Contains p (q ∷ []) s))
      (Contains-append_cases (packets_of w) (q ∷ []) p (subst (λ (xs : List Packet). Contains xs p) (sends_packets (q ∷ []) w) c)))
      (λ p c.
      ⊎_elim
      (λ b. inl b)
      (λ s. ⊎_elim (λ same. inr (subst (HasSent hosts t) (sym same) sent)) (λ none. absurd none) (IsIn_from_Contains p (q ∷ []) s))
      (Contains-append_cases (packets_of w) (q ∷ []) p (subst (λ (xs : List Packet). Contains xs p) (sends_packets (q ∷ []) w) c)))

  -- what a row leaves that wasn't refused
  pub moves_alone : {A : Type 0} (row : Result (A × SocketsRecord) Refusal) (b : A × SocketsRecord) (t : SocketsRecord) (w : Wanted) → row ≡ Ok b → Moves hosts flying (t, w) (left_by row t, w) → Moves hosts flying (t, w) (b.1, w)
  moves_alone {A} row b t w e moves =
      subst (λ (x : SocketsRecord). Moves hosts flying (t, w) (x, w)) (ap (λ (r : Result (A × SocketsRecord) Refusal). left_by r t) e) moves

  pub moves_left : {A : Type 0} (row : Result (A × (SocketsRecord × Wanted)) Refusal) (b : A × (SocketsRecord × Wanted)) (t : SocketsRecord) (w : Wanted) → row ≡ Ok b → Moves hosts flying (t, w) (left_by row (t, w)) → Moves hosts flying (t, w) b.1
  moves_left {A} row b t w e moves =
      subst (λ (x : SocketsRecord × Wanted). Moves hosts flying (t, w) x) (ap (λ (r : Result (A × (SocketsRecord × Wanted)) Refusal). left_by r (t, w)) e) moves
