-- an act of a socket is an act of all, and what is asked of one is asked of all
use Rattle.std.proofs.Common.{◌≡◌, ℕ, ◌<◌, ◌≤◌, List, ◌++◌, length, map, get_or, set, Option, Some, None, slice_get, Result, Err, refl, sym, ap, subst, ◌∙◌}
use Rattle.std.proofs.lemmas.List.{map-append}
use Rattle.sim_base.specs.declared.errno.Errno.TheVariants.{Ebadf}
use Rattle.sim_base.specs.Refusals.{◌>>=◌, or_refuse}
use Rattle.sock_tcp.specs.declared.connection.carried.Carried.{Carried}
use Rattle.sock_tcp.specs.connection.Carried.{carried_of, with_gone}
use Rattle.sock_tcp.specs.connection.Tcb.{Tcb}
use Rattle.host_wants.specs.declared.error.Refusal.{Refusal}
use Rattle.host_wants.specs.declared.error.Refusal.TheVariants as refusal
use Rattle.host_sockets.specs.declared.sockets.Sockets.{Sockets}
use Rattle.host_sockets.specs.declared.tcp_sock.TcpSock.{TcpSock}
use Rattle.host_wants.specs.Wanted.{Wanted}
use Rattle.host_sockets.specs.TcpSocket.{TcpSocket}
use Rattle.host_sockets.specs.Sockets.{SocketsRecord, tcp_at, with_tcp, changes_at, changes_in}
use Rattle.host_sockets.specs.declared.glance.Glance.{Glance}
use Rattle.host_sockets.specs.Rises.{tcp_glance, moved_at}
use Rattle.host_sockets.specs.TcpActs.{Acted, acts_in, acts_at}
use Rattle.host_sockets.specs.StandsFor.{SocketStands, AllStand, Stand, Leaves}
use Rattle.host_sockets.specs.inside.StandsFor.{Brings}
use Rattle.host_sockets.proofs.Endings.{ActEnds}
use Rattle.host_sockets.proofs.Places.{socket_at, no_socket_at, stands_at, stands_set}

-- the socket that was read at a place
pub stands_there : (c : Sockets) (t : SocketsRecord) (k : ℕ) (old : TcpSock) (s : TcpSocket) → Stand c t → old ≡ get_or c.tcp.items k old → slice_get t.tcp k ≡ Some s → SocketStands old s
stands_there c t k old s h is e = subst (λ (x : TcpSock). SocketStands x s) (sym is) (stands_at c.tcp.items t.tcp k s old h.tcp e)

-- what stands for a record does so by its fields alone
pub stand_same : (c c' : Sockets) (t : SocketsRecord) → c'.own ≡ c.own → c'.udp.slots.items ≡ c.udp.slots.items → c'.tcp.items ≡ c.tcp.items → c'.udp_risen.items ≡ c.udp_risen.items → c'.tcp_risen.items ≡ c.tcp_risen.items → c'.gone.items ≡ c.gone.items → Stand c t → Stand c' t
stand_same c c' t own udp tcp udp_risen tcp_risen gone h = record {
  own = own ∙ h.own;
  udp = udp ∙ h.udp;
  tcp = subst (λ (xs : List TcpSock). AllStand xs t.tcp) (sym tcp) h.tcp;
  udp_risen = udp_risen ∙ h.udp_risen;
  tcp_risen = tcp_risen ∙ h.tcp_risen;
  gone = gone ∙ h.gone;
}

-- with another socket at a place, which stands for another there
pub stand_with : (c c' : Sockets) (t : SocketsRecord) (k : ℕ) (new : TcpSock) (before : Glance) (old s : TcpSocket) (kept : List Carried) (gone : List Tcb) → Stand c t → SocketStands new s → before ≡ tcp_glance old → ActEnds c c' k before new kept → kept ≡ map carried_of gone → Stand c' (record (with_tcp k old s t) { gone = gone })
stand_with c c' t k new before old s kept gone h stands seen ends left = record {
  own = ends.own ∙ h.own;
  udp = ends.udp ∙ h.udp;
  tcp = subst (λ (xs : List TcpSock). AllStand xs (set t.tcp k s)) (sym ends.tcp) (stands_set c.tcp.items t.tcp k new s h.tcp stands);
  udp_risen = ends.udp_risen ∙ h.udp_risen;
  tcp_risen = ends.tcp_risen s stands ∙ (ap (λ (g : Glance). moved_at k g (tcp_glance s) c.tcp_risen.items) seen ∙ ap (moved_at k (tcp_glance old) (tcp_glance s)) h.tcp_risen);
  gone = ends.gone ∙ left;
}

-- what is kept of the records that an act lets go stands behind the others
kept_behind : (kept before : List Carried) (gone was : List Tcb) → kept ≡ with_gone gone before → before ≡ map carried_of was → kept ≡ map carried_of (was ++ gone)
kept_behind kept before gone was e h = e ∙ (ap (λ xs. xs ++ map carried_of gone) h ∙ sym (map-append carried_of was gone))

pub leaves_acted : (c c' : Sockets) (t : SocketsRecord) (w w' : Wanted) (k : ℕ) (old new : TcpSock) (before : Glance) (kept : List Carried) (act : TcpSocket → Wanted → Acted) → Stand c t → k < length c.tcp.items → old ≡ get_or c.tcp.items k old → ((s : TcpSocket) → SocketStands old s → Brings new w' c.gone.items kept (act s w)) → ((s : TcpSocket) → slice_get t.tcp k ≡ Some s → before ≡ tcp_glance s) → ActEnds c c' k before new kept → Leaves c' w' (acts_at k act t w)
leaves_acted c c' t w w' k old new before kept act h b is acts seen ends =
    let found = socket_at c.tcp.items t.tcp k h.tcp b in
    let brings = acts found.0 (stands_there c t k old found.0 h is found.1) in
    subst (λ (o : Option TcpSocket). Leaves c' w' (acts_in k act o t w)) (sym found.1)
    (record {
      sockets = stand_with c c' t k new before found.0 (act found.0 w).socket kept _ h brings.socket (seen found.0 found.1) ends (kept_behind kept c.gone.items (act found.0 w).gone t.gone brings.gone h.gone);
      wanted = brings.wanted;
    })

pub leaves_none : (c : Sockets) (t : SocketsRecord) (w : Wanted) (k : ℕ) (act : TcpSocket → Wanted → Acted) → Stand c t → length c.tcp.items ≤ k → Leaves c w (acts_at k act t w)
leaves_none c t w k act h b =
    subst (λ (o : Option TcpSocket). Leaves c w (acts_in k act o t w)) (sym (no_socket_at c.tcp.items t.tcp k h.tcp b))
    (record { sockets = h; wanted = refl })

-- a change that wants nothing
pub stand_changed : (c c' : Sockets) (t : SocketsRecord) (k : ℕ) (old new : TcpSock) (before : Glance) (f : TcpSocket → TcpSocket) → Stand c t → k < length c.tcp.items → old ≡ get_or c.tcp.items k old → ((s : TcpSocket) → SocketStands old s → SocketStands new (f s)) → ((s : TcpSocket) → slice_get t.tcp k ≡ Some s → before ≡ tcp_glance s) → ActEnds c c' k before new c.gone.items → Stand c' (changes_at k f t)
stand_changed c c' t k old new before f h b is changes seen ends =
    let found = socket_at c.tcp.items t.tcp k h.tcp b in
    subst (λ (o : Option TcpSocket). Stand c' (changes_in k f o t)) (sym found.1)
    (stand_with c c' t k new before found.0 (f found.0) c.gone.items _ h (changes found.0 (stands_there c t k old found.0 h is found.1)) (seen found.0 found.1) ends h.gone)

pub stand_unchanged : (c : Sockets) (t : SocketsRecord) (k : ℕ) (f : TcpSocket → TcpSocket) → Stand c t → length c.tcp.items ≤ k → Stand c (changes_at k f t)
stand_unchanged c t k f h b =
    subst (λ (o : Option TcpSocket). Stand c (changes_in k f o t)) (sym (no_socket_at c.tcp.items t.tcp k h.tcp b)) h

-- what is asked of the socket at a place
pub asked_at : {A : Type 0} (c : Sockets) (t : SocketsRecord) (k : ℕ) (sock : TcpSock) (f : TcpSocket → Result A Refusal) (result : Result A Refusal) → Stand c t → k < length c.tcp.items → sock ≡ get_or c.tcp.items k sock → ((s : TcpSocket) → SocketStands sock s → result ≡ f s) → result ≡ (tcp_at k t >>= f)
asked_at c t k sock f result h b is asks =
    let found = socket_at c.tcp.items t.tcp k h.tcp b in
    asks found.0 (stands_there c t k sock found.0 h is found.1)
    ∙ ap (λ (o : Option TcpSocket). or_refuse o (refusal.Errno Ebadf) >>= f) (sym found.1)

pub asked_none : {A : Type 0} (c : Sockets) (t : SocketsRecord) (k : ℕ) (f : TcpSocket → Result A Refusal) → Stand c t → length c.tcp.items ≤ k → Err (refusal.Errno Ebadf) ≡ (tcp_at k t >>= f)
asked_none c t k f h b = ap (λ (o : Option TcpSocket). or_refuse o (refusal.Errno Ebadf) >>= f) (sym (no_socket_at c.tcp.items t.tcp k h.tcp b))

-- the same of an answer that isn't refused
pub told_at : {A : Type 0} (c : Sockets) (t : SocketsRecord) (k : ℕ) (sock : TcpSock) (f : Option TcpSocket → A) (result : A) → Stand c t → k < length c.tcp.items → sock ≡ get_or c.tcp.items k sock → ((s : TcpSocket) → SocketStands sock s → result ≡ f (Some s)) → result ≡ f (slice_get t.tcp k)
told_at c t k sock f result h b is tells =
    let found = socket_at c.tcp.items t.tcp k h.tcp b in
    tells found.0 (stands_there c t k sock found.0 h is found.1) ∙ ap f (sym found.1)

pub told_none : {A : Type 0} (c : Sockets) (t : SocketsRecord) (k : ℕ) (f : Option TcpSocket → A) → Stand c t → length c.tcp.items ≤ k → f None ≡ f (slice_get t.tcp k)
told_none c t k f h b = ap f (sym (no_socket_at c.tcp.items t.tcp k h.tcp b))

-- the socket that a loop looks at
pub socket_there : (c : Sockets) (t : SocketsRecord) (k : ℕ) (sock : TcpSock) → Stand c t → k < length c.tcp.items → sock ≡ get_or c.tcp.items k sock → (s : TcpSocket) × ((slice_get t.tcp k ≡ Some s) × SocketStands sock s)
socket_there c t k sock h b is =
    let found = socket_at c.tcp.items t.tcp k h.tcp b in
    (found.0, (found.1, stands_there c t k sock found.0 h is found.1))
