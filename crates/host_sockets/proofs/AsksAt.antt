-- what is asked of a socket, and takes memory, is asked of all; and the sockets that a loop goes over
use Rattle.std.proofs.Common.{◌≡◌, ℕ, ◌<◌, ◌≤◌, List, length, get_or, Option, Some, slice_get, Result, Err, sym, ap, subst, ◌∙◌, arith}
use Rattle.sim_base.specs.declared.errno.Errno.TheVariants.{Ebadf}
use Rattle.sim_base.specs.Refusals.{◌>>=◌, or_refuse}
use Rattle.host_wants.specs.declared.error.CallError.{CallError}
use Rattle.host_wants.specs.declared.error.CallError.TheVariants as error
use Rattle.host_wants.specs.declared.error.Refusal.{Refusal}
use Rattle.host_wants.specs.declared.error.Refusal.TheVariants as refusal
use Rattle.host_sockets.specs.declared.sockets.Sockets.{Sockets}
use Rattle.host_sockets.specs.declared.tcp_sock.TcpSock.{TcpSock}
use Rattle.host_sockets.specs.TcpSocket.{TcpSocket}
use Rattle.host_sockets.specs.Sockets.{SocketsRecord, tcp_at}
use Rattle.host_sockets.specs.StandsFor.{SocketStands, Stand}
use Rattle.host_sockets.specs.inside.StandsFor.{Asks}
use Rattle.host_sockets.proofs.Places.{same_length}
use Rattle.host_sockets.proofs.SocketActs.{socket_there, asked_none}

pub asks_at : {A : Type 0} (c : Sockets) (t : SocketsRecord) (k : ℕ) (sock : TcpSock) (f : TcpSocket → Result A Refusal) (result : Result A CallError) → Stand c t → k < length c.tcp.items → sock ≡ get_or c.tcp.items k sock → ((s : TcpSocket) → SocketStands sock s → Asks (f s) result) → Asks (tcp_at k t >>= f) result
asks_at c t k sock f result h b is asks =
    let there = socket_there c t k sock h b is in
    subst (λ (o : Option TcpSocket). Asks (or_refuse o (refusal.Errno Ebadf) >>= f) result) (sym there.1.0) (asks there.0 there.1.1)

pub asks_none : {A : Type 0} (c : Sockets) (t : SocketsRecord) (k : ℕ) (f : TcpSocket → Result A Refusal) → Stand c t → length c.tcp.items ≤ k → Asks {A = A} (tcp_at k t >>= f) (Err (error.Refused (refusal.Errno Ebadf)))
asks_none c t k f h b = sym (asked_none c t k f h b)

pub socket_among : (c : Sockets) (t : SocketsRecord) (socks : List TcpSock) (k : ℕ) (sock : TcpSock) → Stand c t → socks ≡ c.tcp.items → k < length socks → sock ≡ get_or socks k sock → (s : TcpSocket) × ((slice_get t.tcp k ≡ Some s) × SocketStands sock s)
socket_among c t socks k sock h same b is =
    let long = ap length same in
    socket_there c t k sock h (omega arith) (is ∙ ap (λ (xs : List TcpSock). get_or xs k sock) same)

pub none_among : (c : Sockets) (t : SocketsRecord) (socks : List TcpSock) (k : ℕ) → Stand c t → socks ≡ c.tcp.items → length socks ≤ k → length t.tcp ≤ k
none_among c t socks k h same b =
    let long = ap length same in
    let all = same_length c.tcp.items t.tcp h.tcp in
    omega arith
