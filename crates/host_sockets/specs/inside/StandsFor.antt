-- What stands for what within the sockets.
use Rattle.std.specs.Prelude.{◌≡◌, List, Result, Ok, Err}
use Rattle.sock_tcp.specs.declared.connection.carried.Carried.{Carried}
use Rattle.sock_tcp.specs.connection.Carried.{with_gone}
use Rattle.host_wants.specs.declared.error.CallError.{CallError}
use Rattle.host_wants.specs.declared.error.CallError.TheVariants as error
use Rattle.host_wants.specs.declared.error.Refusal.{Refusal}
use Rattle.host_sockets.specs.declared.tcp_sock.TcpSock.{TcpSock}
use Rattle.host_sockets.specs.SocketsStand.{SocketStands}
use Rattle.host_wants.specs.Wanted.{Wanted}
use Rattle.host_sockets.specs.TcpActs.{Acted}

-- an act on a socket leaves this. What was kept of records that are gone is followed by those that it lets go
pub record Brings (c : TcpSock) (w : Wanted) (before left : List Carried) (a : Acted) : Type 0 where
  pub socket : SocketStands c a.socket
  pub wanted : w ≡ a.wanted
  pub gone : left ≡ with_gone a.gone before

-- what is asked, changes nothing and takes memory
abbrev pub Asks : {A : Type 0} → Result A Refusal → Result A CallError → Type 0
Asks row (Ok a) = row ≡ Ok a
Asks row (Err (error.Refused refusal)) = row ≡ Err refusal
Asks row (Err error.NoMemory) = Unit {0}
