-- after the turn of a socket
use Rattle.std.proofs.Common.{◌≡◌, ℕ, ◌<◌, List, [], ◌∷◌, ◌++◌, length, set, Bool, true, false, if◌then◌else◌, sym, subst}
use Rattle.host_sockets.specs.declared.sockets.Sockets.{Sockets}
use Rattle.host_sockets.specs.declared.tcp_sock.TcpSock.{TcpSock}
use Rattle.host_sockets.specs.inside.Indexing.{Indexes}
use Rattle.host_sockets.proofs.Indexed.{indexed_set, indexed_push}

pub within_turned : (c c' : Sockets) (k : ℕ) → c'.tcp ≡ c.tcp → k < length c.tcp.items → k < length c'.tcp.items
within_turned c c' k same b = subst (λ v. k < length v.items) (sym same) b

pub turned_set : (c : Sockets) (k : ℕ) (new : TcpSock) → c.index.last ≡ k → Indexes c.index (set c.tcp.items k new)
turned_set c k new acts = indexed_set c.index k c.tcp.items new acts c.indexed

pub turned_push : (c : Sockets) (items : List TcpSock) (new : TcpSock) (b : Bool) → c.index.last ≡ length c.tcp.items → items ≡ (if b then c.tcp.items ++ new ∷ [] else c.tcp.items) → Indexes c.index items
turned_push c items new true acts is = subst (λ (xs : List TcpSock). Indexes c.index xs) (sym is) (indexed_push c.index c.tcp.items new acts c.indexed)
turned_push c items new false acts is = subst (λ (xs : List TcpSock). Indexes c.index xs) (sym is) c.indexed
