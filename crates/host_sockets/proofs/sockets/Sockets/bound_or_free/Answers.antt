use Rattle.std.proofs.Common.{◌≡◌, Option, Some, None, Ok, Err, sym, ap, ◌∙◌, arith}
use Rattle.sim_base.specs.declared.address.Addr.{Addr}
use Rattle.sim_base.specs.declared.errno.Errno.TheVariants.{Eaddrnotavail}
use Rattle.sim_base.specs.Addresses.{any, at_free_port}
use Rattle.sim_base.specs.Refusals.{or_refuse}
use Rattle.sock_udp.specs.Socket.{or_else}
use Rattle.host_wants.specs.declared.error.CallError.TheVariants as error
use Rattle.host_wants.specs.declared.error.Refusal.TheVariants as refusal
use Rattle.host_sockets.specs.Binding.{end_to_use}
use Rattle.host_sockets.specs.Sockets.{SocketsRecord, tcp_ends}
use Rattle.host_sockets.specs.TcpSocket.{TcpSocket}
use Rattle.host_sockets.proofs.AsksAt.{asks_at, asks_none}
use Rattle.host_sockets.proofs.sockets.Sockets.bound_or_free.Goals as goal

-- a socket that is bound so, and a port that was found so
used : (t : SocketsRecord) (s : TcpSocket) (bound found : Option Addr) → bound ≡ s.bound → found ≡ at_free_port (tcp_ends t) any → end_to_use t s ≡ or_refuse (or_else bound found) (refusal.Errno Eaddrnotavail)
used t s bound found is same =
    ap (λ (o : Option Addr). or_refuse (or_else o (at_free_port (tcp_ends t) any)) (refusal.Errno Eaddrnotavail)) (sym is)
    ∙ ap (λ (o : Option Addr). or_refuse (or_else bound o) (refusal.Errno Eaddrnotavail)) (sym same)

pub returns-then-k-len : goal.returns-then-k-len
returns-then-k-len c = λ t h. asks_none c.args.self.now t c.args.k (end_to_use t) h (omega (arith, c.args.self.now.tcp.ok.0))

pub returns-in-Some : goal.returns-in-Some
returns-in-Some c = λ t h.
    asks_at c.args.self.now t c.args.k c.index.result.now (end_to_use t) (Ok c.in-Some.at) h (omega (arith, c.args.self.now.tcp.ok.0)) c.index.ensures
    (λ s stands. ap (λ (o : Option Addr). or_refuse (or_else o (at_free_port (tcp_ends t) any)) (refusal.Errno Eaddrnotavail)) (sym stands.bound ∙ c.in-Some.is))

pub returns-in-Some-2 : goal.returns-in-Some-2
returns-in-Some-2 c = λ t h.
    let free = sym c.in-Some-2.is ∙ c.in_ok-at.ensures t h in
    asks_at c.args.self.now t c.args.k c.index.result.now (end_to_use t) (Ok c.in-Some-2.at) h (omega (arith, c.args.self.now.tcp.ok.0)) c.index.ensures
    (λ s stands. used t s None (Some c.in-Some-2.at) (sym c.in_default.is ∙ stands.bound) free)

pub returns-in-None : goal.returns-in-None
returns-in-None c = λ t h.
    let free = sym c.in-None.is ∙ c.in_ok-at.ensures t h in
    asks_at c.args.self.now t c.args.k c.index.result.now (end_to_use t) (Err (error.Refused (refusal.Errno Eaddrnotavail))) h (omega (arith, c.args.self.now.tcp.ok.0)) c.index.ensures
    (λ s stands. used t s None None (sym c.in_default.is ∙ stands.bound) free)
