-- which socket is looked for
use Rattle.std.specs.Prelude.{◌≡◌, ℕ, Bool, true, List, slice_get, Option, Some, None, nat_lt, if◌then◌else◌}
use Rattle.host_sockets.specs.declared.slots.Sought.{Sought}
use Rattle.host_sockets.specs.declared.slots.Sought.TheVariants.{Free, Record, Keeper, Listener}
use Rattle.host_sockets.specs.declared.tcp_sock.TcpSock.{TcpSock}
use Rattle.host_sockets.specs.SocketsStand.{SocketStands}
use Rattle.host_sockets.specs.TcpSocket.{TcpSocket, is_free, has_record, keeps_record, listens_to}

abbrev pub is_sought : Sought → TcpSocket → Bool
is_sought Free s = is_free s
is_sought (Record own other) s = has_record own other s
is_sought (Keeper own other) s = keeps_record own other s
is_sought (Listener to) s = listens_to to s

-- the earlier one of a place that was found, if there is one, and another
abbrev pub earlier : Option ℕ → ℕ → ℕ
earlier None place = place
earlier (Some best) place = if nat_lt place best then place else best

-- whether the socket at a place is looked for
abbrev pub IsSoughtAt : Sought → List TcpSock → ℕ → Type 0
IsSoughtAt sought socks place = (c : TcpSock) (s : TcpSocket) → slice_get socks place ≡ Some c → SocketStands c s → is_sought sought s ≡ true
