-- an act on the socket at a place, from its beginning to its end
use Rattle.std.proofs.Common.{◌≡◌, ℕ, ◌<◌, List, length, get_or, set, Option, Some, slice_get, Result, Ok, Err, IfOk, OnOk}
use Rattle.sock_tcp.specs.declared.connection.carried.Carried.{Carried}
use Rattle.host_wants.specs.Wanted.{Wanted}
use Rattle.host_sockets.specs.declared.glance.Glance.{Glance}
use Rattle.host_sockets.specs.declared.sockets.Sockets.{Sockets}
use Rattle.host_sockets.specs.declared.tcp_sock.TcpSock.{TcpSock}
use Rattle.host_sockets.specs.TcpSocket.{TcpSocket}
use Rattle.host_sockets.specs.Sockets.{SocketsRecord}
use Rattle.host_sockets.specs.Rises.{tcp_glance, moved_at}
use Rattle.host_sockets.specs.TcpActs.{Acted, acts_at}
use Rattle.host_sockets.specs.StandsFor.{SocketStands, Stand, Leaves}
use Rattle.host_sockets.specs.inside.StandsFor.{Brings}
use Rattle.host_sockets.proofs.Endings.{act_ends}
use Rattle.host_sockets.proofs.SocketActs.{leaves_acted, told_at}
use Rattle.host_sockets.proofs.Turning.{within_turned}

-- where it was done, all sockets are left as its row says
pub acted : {A E : Type 0} (c b c' : Sockets) (w w' : Wanted) (k : ℕ) (old new : TcpSock) (before : Glance) (kept : List Carried) (act : TcpSocket → Wanted → Acted) (answer : Result A E)
    → k < length c.tcp.items → b.tcp ≡ c.tcp → ((t : SocketsRecord) → Stand c t → Stand b t) → ((t : SocketsRecord) (s : TcpSocket) → Stand c t → slice_get t.tcp k ≡ Some s → before ≡ tcp_glance s) → old ≡ get_or b.tcp.items k old
    → c'.own ≡ b.own → c'.udp ≡ b.udp → c'.tcp.items ≡ set b.tcp.items k new → c'.udp_risen ≡ b.udp_risen → c'.gone.items ≡ kept
    → ((x : TcpSock) (s : TcpSocket) → slice_get (set b.tcp.items k new) k ≡ Some x → SocketStands x s → c'.tcp_risen.items ≡ moved_at k before (tcp_glance s) b.tcp_risen.items)
    → OnOk answer ((s : TcpSocket) → SocketStands old s → Brings new w' b.gone.items kept (act s w))
    → OnOk answer ((t : SocketsRecord) → Stand c t → Leaves c' w' (acts_at k act t w))
acted c b c' w w' k old new before kept act (Err e) within same stands seen is own udp tcp udp_risen gone moves acts = tt
acted c b c' w w' k old new before kept act (Ok a) within same stands seen is own udp tcp udp_risen gone moves acts = λ t h.
    let there = within_turned c b k same within in
    leaves_acted b c' t w w' k old new before kept act (stands t h) there is acts (λ s e. seen t s h e)
    (act_ends b c' k before new kept there own udp tcp udp_risen gone moves)

-- and it answers what is told of the socket
pub acted_told : {A E : Type 0} (c b : Sockets) (k : ℕ) (old : TcpSock) (f : Option TcpSocket → A) (answer : Result A E)
    → k < length c.tcp.items → b.tcp ≡ c.tcp → ((t : SocketsRecord) → Stand c t → Stand b t) → old ≡ get_or b.tcp.items k old
    → IfOk answer (λ a. (s : TcpSocket) → SocketStands old s → a ≡ f (Some s))
    → IfOk answer (λ a. (t : SocketsRecord) → Stand c t → a ≡ f (slice_get t.tcp k))
acted_told c b k old f (Err e) within same stands is tells = tt
acted_told c b k old f (Ok a) within same stands is tells = λ t h. told_at b t k old f a (stands t h) (within_turned c b k same within) is tells
