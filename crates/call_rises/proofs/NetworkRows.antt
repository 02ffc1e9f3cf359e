-- calls on sockets: they leave pipes, eventfds and timers as they are
use Rattle.std.proofs.Common.{◌≡◌, ℕ, Bool, true, false, List, Option, None, is_some, Result, Ok, refl, sym, ap, subst, ◌∙◌}
use Rattle.std.specs.FinMap as map
use Rattle.std.specs.Int.{w32, cast_signed}
use Rattle.sim_base.specs.Refusals.{◌>>=◌, or_refuse}
use Rattle.sim_base.specs.declared.address.Ip.{Ip}
use Rattle.sim_base.specs.declared.address.Addr.{Addr}
use Rattle.sim_base.specs.declared.time.Time.{Time}
use Rattle.guest_args.specs.Span.{counted, span}
use Rattle.guest_args.specs.declared.address.AddressPlace.{AddressPlace}
use Rattle.sock_tcp.specs.declared.connection.effects.Shut.{Shut}
use Rattle.host_files.specs.declared.file.File.{File}
use Rattle.host_files.specs.declared.file.Object.TheVariants as kind
use Rattle.host_files.specs.Files.{FilesState}
use Rattle.host_wants.specs.declared.error.Refusal.{Refusal}
use Rattle.host_wants.specs.Wanted.{Wanted}
use Rattle.host_sockets.specs.Sockets.{SocketsRecord, new_tcp}
use Rattle.host_sockets.specs.Udp.{new_udp, udp_fits, binds_udp, connects_udp, sends_udp, receives_udp}
use Rattle.host_sockets.specs.Binding.{binds_tcp, listens_tcp}
use Rattle.host_sockets.specs.Accepting.{accepts_tcp}
use Rattle.host_sockets.specs.Connecting.{connects_taking, connect_answers}
use Rattle.host_sockets.specs.Moving.{sends_taking, receives_taking, shuts_tcp}
use Rattle.host_sockets.specs.Names.{takes_error}
use Rattle.call_parts.specs.declared.making.NewSocket.{NewSocket}
use Rattle.call_parts.specs.declared.options.Asked.{Asked}
use Rattle.host_calls.specs.declared.accepting.AcceptPlan.{AcceptPlan}
use Rattle.host_calls.specs.declared.connecting.ConnectPlan.{ConnectPlan}
use Rattle.host_calls.specs.declared.receiving.RecvPlan.{RecvPlan}
use Rattle.call_parts.specs.declared.messages.Message.{Message}
use Rattle.host_calls.specs.declared.sending.SendPlan.{SendPlan}
use Rattle.host_calls.specs.declared.sending.SendPlan.TheVariants as sending
use Rattle.host_calls.specs.declared.sending.StreamSend.{StreamSend}
use Rattle.call_parts.specs.declared.sockets.SocketNumber.{SocketNumber}
use Rattle.call_parts.specs.declared.sockets.SocketNumber.TheVariants as number
use Rattle.host_calls.specs.Parts.{Scene, local_of}
use Rattle.call_parts.specs.Sockets.{open_socket, tcp_number, given_address, address, result_address, socket_asked, getsockopt_asked}
use Rattle.host_calls.specs.Sockets.{with_socket, socket, binds, bind_asked, bind, listen, connect_tcp, connect_udp, connect_again, connect_call, name_of, peer_of, getsockname, getpeername, send_udp, send_tcp, recv_udp, recv_tcp, told_error, told_option, getsockopt, shut_of, shuts, shutdown, accepts, connects, sends_by, recv_by, receives, socket_file, with_tcp_file, with_udp_file, accepted_by}
use Rattle.socket_laws.specs.Histories.{SocketsAct as act}
use Rattle.socket_laws.specs.Histories.{SocketsAct, left_by, sockets_acted}
use Rattle.call_rises.proofs.Moving.{by_test, stays, Moved, moved, Leads, answers, refused, asks, tries, moved_by, asks_so}
use Rattle.call_rises.specs.Names.{is_there, is_single}
use Rattle.call_rises.specs.Sockets.{has_udp, has_tcp, SocketsMove}
use Rattle.call_rises.proofs.Asked.{socket_free}
use Rattle.call_rises.proofs.Opening.{with_open, opened_named, new_object}
use Rattle.call_rises.proofs.SocketActs.{Stays, stays_there, new_tcp_there, new_udp_there, accepts_there}
use Rattle.call_rises.proofs.SocketMoves.{sockets_rest, sockets_move}
use Rattle.call_rises.proofs.There.{AllStay, all_stay, same_stay, not_both, OneMade}
use Rattle.call_rises.proofs.Views.{View, view, grows_so, by_number}

abbrev pub scene_view : Scene → View
scene_view s = view s.task s.shared s.sockets

-- what a row leaves that wasn't refused
left_alone : {A : Type 0} (row : Result (A × SocketsRecord) Refusal) (b : A × SocketsRecord) (t : SocketsRecord) → row ≡ Ok b → left_by row t ≡ b.1
left_alone {A} row b t e = ap (λ (r : Result (A × SocketsRecord) Refusal). left_by r t) e

left_wanted : {A : Type 0} (row : Result (A × (SocketsRecord × Wanted)) Refusal) (b : A × (SocketsRecord × Wanted)) (t : SocketsRecord) (w : Wanted) → row ≡ Ok b → (left_by row (t, w)).0 ≡ b.1.0
left_wanted {A} row b t w e = ap (λ (r : Result (A × (SocketsRecord × Wanted)) Refusal). (left_by r (t, w)).0) e

-- where one is made, the others stay
made_stays : (k : ℕ) (has others : ℕ → SocketsRecord → Bool) (t u : SocketsRecord) → OneMade k has others t u → (j : ℕ) → has j t ≡ true → has j u ≡ true
made_stays k has others t u made j e =
    by_number k j (has j u ≡ true)
    (λ same. absurd (not_both (has k t) (subst (λ (n : ℕ). has n t ≡ true) (sym same) e) made.is_new))
    (λ apart. sym (made.apart j apart) ∙ e)

tcp_made : (k : ℕ) (t u : SocketsRecord) → OneMade k has_tcp has_udp t u → AllStay t u
tcp_made k t u made = record { udp = λ j e. sym (made.same j) ∙ e; tcp = made_stays k has_tcp has_udp t u made }

udp_made : (k : ℕ) (t u : SocketsRecord) → OneMade k has_udp has_tcp t u → AllStay t u
udp_made k t u made = record { udp = made_stays k has_udp has_tcp t u made; tcp = λ j e. sym (made.same j) ∙ e }

module _ (hosts : List Ip) (now : ℕ) where
  -- what a row does to files, names and sockets
  abbrev pub SceneMoved : Scene → Scene → Type 0
  SceneMoved s t = Moved now (scene_view s) (scene_view t) × SocketsMove hosts s.sockets t.sockets

  abbrev R : {A : Type 0} → Scene → Result (A × Scene) Refusal → Type 0
  R s row = Leads (SceneMoved s) row

  abbrev ask : {A B : Type 0} (s : Scene) (asked : Result B Refusal) (f : B → Result (A × Scene) Refusal) → ((b : B) → R s (f b)) → R s (asked >>= f)
  ask s asked f h = asks (SceneMoved s) asked f h

  abbrev ask_so : {A B : Type 0} (s : Scene) (asked : Result B Refusal) (f : B → Result (A × Scene) Refusal) → ((b : B) → asked ≡ Ok b → R s (f b)) → R s (asked >>= f)
  ask_so s asked f h = asks_so (SceneMoved s) asked f h

  leaves : {A : Type 0} (a : A) (s after : Scene) → s.shared.files ≡ after.shared.files → s.task.table ≡ after.task.table → s.task.epolls ≡ after.task.epolls → AllStay s.sockets after.sockets → SocketsMove hosts s.sockets after.sockets → R s (Ok (a, after))
  leaves a s after files table epolls stay sockets =
      let pipes = ap (λ (x : FilesState). x.pipes) files in
      let eventfds = ap (λ (x : FilesState). x.eventfds) files in
      let timers = ap (λ (x : FilesState). x.timers) files in
      answers (SceneMoved s) a after (
        moved now (scene_view s) (scene_view after) (stays now s.shared.files after.shared.files pipes eventfds timers) table (ap (λ (x : FilesState). x.files) files) epolls
            (grows_so s.shared.files after.shared.files pipes eventfds timers) stay,
        sockets,
      )

  -- no socket changes
  pub keeps : {A : Type 0} (a : A) (s after : Scene) → s.shared.files ≡ after.shared.files → s.task.table ≡ after.task.table → s.task.epolls ≡ after.task.epolls → s.sockets ≡ after.sockets → R s (Ok (a, after))
  keeps a s after files table epolls same =
      leaves a s after files table epolls
      (subst (λ (u : SocketsRecord). AllStay s.sockets u) same (all_stay s.sockets))
      (subst (λ (u : SocketsRecord). SocketsMove hosts s.sockets u) same (sockets_rest hosts s.sockets))

  -- or by an act that makes and closes none
  acted : {A : Type 0} (a : A) (s after : Scene) (moment : Time) (done : SocketsAct) → Stays done → (sockets_acted hosts moment done s.sockets s.shared.outlet).0 ≡ after.sockets → s.shared.files ≡ after.shared.files → s.task.table ≡ after.task.table → s.task.epolls ≡ after.task.epolls → R s (Ok (a, after))
  acted a s after moment done none is files table epolls =
      let left = (sockets_acted hosts moment done s.sockets s.shared.outlet).0 in
      leaves a s after files table epolls
      (subst (λ (u : SocketsRecord). AllStay s.sockets u) is (same_stay s.sockets left (stays_there s.sockets hosts moment done s.shared.outlet none)))
      (sockets_move hosts moment done s.sockets after.sockets s.shared.outlet is)

  abbrev any_time : Time
  any_time = record { nanos = 0 }

  -- a socket is opened, of which the files know nothing but its number
  opens_socket : (fd : ℕ) (file : File) (s after : Scene) → map.get s.task.table fd ≡ None → AllStay s.sockets after.sockets → SocketsMove hosts s.sockets after.sockets → is_there file.object s.shared.files after.sockets ≡ true → (is_single file.object ≡ true → is_there file.object s.shared.files s.sockets ≡ false) → scene_view after ≡ with_open (scene_view s) fd file s.shared.files s.task.epolls after.sockets → SceneMoved s after
  opens_socket fd file s after free stay sockets here new is = (
    subst (λ (w : View). Moved now (scene_view s) w) (sym is)
        (moved_by now (scene_view s) (with_open (scene_view s) fd file s.shared.files s.task.epolls after.sockets) (stays now s.shared.files _ refl refl refl) refl
        (opened_named now (scene_view s) fd file s.shared.files s.task.epolls after.sockets free refl (grows_so s.shared.files s.shared.files refl refl refl) stay here (λ k x h. h)
        (λ process tasks h. new_object (scene_view s) file process tasks h new))),
    sockets,
  )

  opens_tcp : (fd : ℕ) (nonblocking : Bool) (k : ℕ) (done : SocketsAct) (s after : Scene) → map.get s.task.table fd ≡ None → OneMade k has_tcp has_udp s.sockets after.sockets → (sockets_acted hosts any_time done s.sockets s.shared.outlet).0 ≡ after.sockets → scene_view after ≡ with_open (scene_view s) fd (socket_file nonblocking (kind.Tcp k)) s.shared.files s.task.epolls after.sockets → SceneMoved s after
  opens_tcp fd nonblocking k done s after free made acted_so is =
      opens_socket fd (socket_file nonblocking (kind.Tcp k)) s after free (tcp_made k s.sockets after.sockets made)
      (sockets_move hosts any_time done s.sockets after.sockets s.shared.outlet acted_so) made.is_here (λ one. made.is_new) is

  opens_udp : (fd : ℕ) (nonblocking : Bool) (k : ℕ) (done : SocketsAct) (s after : Scene) → map.get s.task.table fd ≡ None → OneMade k has_udp has_tcp s.sockets after.sockets → (sockets_acted hosts any_time done s.sockets s.shared.outlet).0 ≡ after.sockets → scene_view after ≡ with_open (scene_view s) fd (socket_file nonblocking (kind.Udp k)) s.shared.files s.task.epolls after.sockets → SceneMoved s after
  opens_udp fd nonblocking k done s after free made acted_so is =
      opens_socket fd (socket_file nonblocking (kind.Udp k)) s after free (udp_made k s.sockets after.sockets made)
      (sockets_move hosts any_time done s.sockets after.sockets s.shared.outlet acted_so) made.is_here (λ one. made.is_new) is

  made : (new : NewSocket) (nonblocking : Bool) (s : Scene) → map.get s.task.table new.fd ≡ None → SceneMoved s (with_socket new nonblocking s)
  made new nonblocking s free =
      by_test (SceneMoved s) new.stream _ _
      (λ e. opens_tcp new.fd nonblocking (new_tcp s.sockets).0 act.make_tcp s (with_tcp_file new.fd nonblocking (new_tcp s.sockets) s) free (new_tcp_there s.sockets) refl refl)
      (λ e. opens_udp new.fd nonblocking (new_udp s.sockets).0 act.make_udp s (with_udp_file new.fd nonblocking (new_udp s.sockets) s) free (new_udp_there s.sockets) refl refl)

  pub socket_leads : (family type protocol : ℕ) (s : Scene) → R s (socket family type protocol s)
  socket_leads family type protocol s =
      ask_so s (socket_asked family type protocol s.task) _
      (λ new e. answers (SceneMoved s) _ _ (made new _ s ((socket_free family type protocol s.task).gives new e)))

  bound : {A : Type 0} (a : A) (socket : SocketNumber) (at : Addr) (s after : Scene) (b : Unit {0} × SocketsRecord) → binds hosts socket at s.sockets ≡ Ok b → b.1 ≡ after.sockets → s.shared.files ≡ after.shared.files → s.task.table ≡ after.task.table → s.task.epolls ≡ after.task.epolls → R s (Ok (a, after))
  bound a (number.Udp k) at s after b q is files table epolls =
      acted a s after any_time (act.bind_udp k at) tt (left_alone (binds_udp hosts k at s.sockets) b s.sockets q ∙ is) files table epolls
  bound a (number.Tcp k) at s after b q is files table epolls =
      acted a s after any_time (act.bind_tcp k at) tt (left_alone (binds_tcp k at s.sockets) b s.sockets q ∙ is) files table epolls

  pub bind_leads : (fd at size : ℕ) (s : Scene) → R s (bind hosts fd at size s)
  bind_leads fd at size s =
      ask s (open_socket fd (local_of s)) _
      (λ socket. ask s (bind_asked socket.number at size s.task.memory s.sockets) _
      (λ to. ask_so s (binds hosts socket.number to s.sockets) _ (λ b q. bound _ socket.number to s _ b q refl refl refl refl)))

  pub listen_leads : (fd backlog : ℕ) (s : Scene) → R s (listen fd backlog s)
  listen_leads fd backlog s =
      ask s (open_socket fd (local_of s)) _
      (λ socket. ask s (tcp_number socket.number) _
      (λ k. ask_so s (listens_tcp k (cast_signed w32 backlog) s.sockets) _
      (λ b q. acted _ s _ any_time (act.listen_tcp k (cast_signed w32 backlog)) tt (left_alone (listens_tcp k (cast_signed w32 backlog) s.sockets) b s.sockets q) refl refl refl)))

  pub accept_leads : (a : AcceptPlan) (s : Scene) → map.get s.task.table a.new.fd ≡ None → R s (accepts a s)
  accept_leads a s free =
      ask_so s (accepts_tcp a.listener s.sockets) _
      (λ b q.
      answers (SceneMoved s) a.new.fd (accepted_by a.new b.0 b.1 s)
      (opens_tcp a.new.fd false b.0.socket (act.accept_tcp a.listener) s (accepted_by a.new b.0 b.1 s) free (accepts_there a.listener s.sockets b q) (left_alone (accepts_tcp a.listener s.sockets) b s.sockets q) refl))

  connecting_tcp : (moment : Time) (nonblocking : Bool) (k at size : ℕ) (s : Scene) → R s (connect_tcp hosts moment nonblocking k at size s)
  connecting_tcp moment nonblocking k at size s =
      ask s (address at size s.task.memory) _
      (λ to. ask_so s (connects_taking hosts moment k to s.sockets s.shared.outlet) _
      (λ b q. acted _ s _ moment (act.connect_tcp k to) tt (left_wanted (connects_taking hosts moment k to s.sockets s.shared.outlet) b s.sockets s.shared.outlet q) refl refl refl))

  connecting_again : (moment : Time) (k : ℕ) (s : Scene) → R s (connect_again moment k s)
  connecting_again moment k s =
      ask_so s (connect_answers moment k s.sockets s.shared.outlet) _
      (λ b q. acted _ s _ moment (act.connect_again k) tt (left_wanted (connect_answers moment k s.sockets s.shared.outlet) b s.sockets s.shared.outlet q) refl refl refl)

  connecting_udp : (k at size : ℕ) (s : Scene) → R s (connect_udp hosts k at size s)
  connecting_udp k at size s =
      ask s (address at size s.task.memory) _
      (λ to. ask_so s (connects_udp hosts k to s.sockets) _
      (λ b q. acted _ s _ any_time (act.connect_udp k to) tt (left_alone (connects_udp hosts k to s.sockets) b s.sockets q) refl refl refl))

  connecting : (moment : Time) (nonblocking : Bool) (socket : SocketNumber) (at size : ℕ) (s : Scene) → R s (connect_call hosts moment nonblocking socket at size s)
  connecting moment nonblocking (number.Udp k) at size s = connecting_udp k at size s
  connecting moment nonblocking (number.Tcp k) at size s =
      by_test (R s) (is_some s.task.kept) _ _
      (λ e. connecting_again moment k s)
      (λ e. connecting_tcp moment nonblocking k at size s)

  pub connect_leads : (moment : Time) (c : ConnectPlan) (s : Scene) → R s (connects hosts moment c s)
  connect_leads moment c s = connecting moment c.socket.nonblocking c.socket.number c.at c.size s

  pub getsockname_leads : (fd at size_at : ℕ) (s : Scene) → R s (getsockname fd at size_at s)
  getsockname_leads fd at size_at s =
      ask s (open_socket fd (local_of s)) _
      (λ socket. ask s (name_of socket.number s.sockets) _
      (λ name. ask s (result_address at size_at s.task.memory) _ (λ place. keeps _ s _ refl refl refl refl)))

  pub getpeername_leads : (fd at size_at : ℕ) (s : Scene) → R s (getpeername fd at size_at s)
  getpeername_leads fd at size_at s =
      ask s (open_socket fd (local_of s)) _
      (λ socket. ask s (peer_of socket.number s.sockets) _
      (λ peer. ask s (result_address at size_at s.task.memory) _ (λ place. keeps _ s _ refl refl refl refl)))

  sending_udp : (k : ℕ) (message : Message) (s : Scene) → R s (send_udp hosts k message s)
  sending_udp k message s =
      tries (SceneMoved s) (udp_fits k message.n _ s.sockets) _
      (ask s (or_refuse (span (counted message.n) message.at s.task.memory) _) _
      (λ bytes. ask s (given_address message.to_at message.size s.task.memory) _
      (λ to. ask_so s (sends_udp hosts k bytes to s.sockets) _
      (λ b q. acted _ s _ any_time (act.send_udp k bytes to) tt (left_alone (sends_udp hosts k bytes to s.sockets) b s.sockets q) refl refl refl))))

  sending_tcp : (moment : Time) (d : StreamSend) (s : Scene) → R s (send_tcp hosts moment d s)
  sending_tcp moment d s =
      ask s (or_refuse (span (counted d.n) d.at s.task.memory) _) _
      (λ bytes. ask_so s (sends_taking hosts moment d.place bytes d.to d.quiet s.sockets s.shared.outlet) _
      (λ b q. acted _ s _ moment (act.send_tcp d.place bytes d.to d.quiet) tt (left_wanted (sends_taking hosts moment d.place bytes d.to d.quiet s.sockets s.shared.outlet) b s.sockets s.shared.outlet q) refl refl refl))

  pub send_leads : (moment : Time) (m : SendPlan) (s : Scene) → R s (sends_by hosts moment m s)
  send_leads moment (sending.Datagram d) s = sending_udp d.place d.message s
  send_leads moment (sending.Stream d) s = sending_tcp moment d s

  receiving_udp : (k at n : ℕ) (place : Option AddressPlace) (s : Scene) → R s (recv_udp k at n place s)
  receiving_udp k at n place s =
      ask_so s (receives_udp k (counted n) s.sockets) _
      (λ b q. acted _ s _ any_time (act.recv_udp k (counted n)) tt (left_alone (receives_udp k (counted n) s.sockets) b s.sockets q) refl refl refl)

  receiving_tcp : (moment : Time) (k at n : ℕ) (place : Option AddressPlace) (s : Scene) → R s (recv_tcp moment k at n place s)
  receiving_tcp moment k at n place s =
      ask_so s (receives_taking moment k (counted n) s.sockets s.shared.outlet) _
      (λ b q. acted _ s _ moment (act.recv_tcp k (counted n)) tt (left_wanted (receives_taking moment k (counted n) s.sockets s.shared.outlet) b s.sockets s.shared.outlet q) refl refl refl)

  receiving : (moment : Time) (socket : SocketNumber) (at n : ℕ) (place : Option AddressPlace) (s : Scene) → R s (recv_by moment socket at n place s)
  receiving moment (number.Udp k) at n place s = receiving_udp k at n place s
  receiving moment (number.Tcp k) at n place s = receiving_tcp moment k at n place s

  pub recv_leads : (moment : Time) (r : RecvPlan) (s : Scene) → R s (receives moment r s)
  recv_leads moment r s = receiving moment r.number r.at r.n r.from s

  telling_error : (moment : Time) (socket : SocketNumber) (at size_at : ℕ) (s : Scene) → R s (told_error moment socket at size_at s)
  telling_error moment (number.Udp k) at size_at s = keeps _ s _ refl refl refl refl
  telling_error moment (number.Tcp k) at size_at s =
      ask_so s (takes_error moment k s.sockets s.shared.outlet) _
      (λ b q. acted _ s _ moment (act.take_error k) tt (left_wanted (takes_error moment k s.sockets s.shared.outlet) b s.sockets s.shared.outlet q) refl refl refl)

  telling : (moment : Time) (asked : Asked) (at size_at : ℕ) (s : Scene) → R s (told_option moment asked at size_at s)
  telling moment asked at size_at s =
      by_test (R s) asked.error _ _ (λ e. telling_error moment asked.number at size_at s) (λ e. keeps _ s _ refl refl refl refl)

  pub getsockopt_leads : (moment : Time) (fd level option at size_at : ℕ) (s : Scene) → R s (getsockopt moment fd level option at size_at s)
  getsockopt_leads moment fd level option at size_at s =
      ask s (getsockopt_asked fd level option at size_at (local_of s)) _ (λ asked. telling moment asked at size_at s)

  shutting : (moment : Time) (how : Shut) (socket : SocketNumber) (s : Scene) → R s (shuts moment how socket s)
  shutting moment how (number.Udp k) s = refused (SceneMoved s) _
  shutting moment how (number.Tcp k) s =
      ask_so s (shuts_tcp moment k how s.sockets s.shared.outlet) _
      (λ b q. acted _ s _ moment (act.shut_tcp k how) tt (left_wanted (shuts_tcp moment k how s.sockets s.shared.outlet) b s.sockets s.shared.outlet q) refl refl refl)

  pub shutdown_leads : (moment : Time) (fd how : ℕ) (s : Scene) → R s (shutdown moment fd how s)
  shutdown_leads moment fd how s =
      ask s (open_socket fd (local_of s)) _
      (λ socket. ask s (shut_of how) _ (λ direction. shutting moment direction socket.number s))
