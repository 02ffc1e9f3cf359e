-- steps lead from one exchange to another, within which what has 127.0.0.1 at one end stays inside
use Rattle.std.specs.Prelude.{◌≡◌, Bool, List}
use Rattle.sim_base.specs.declared.address.Ip.{Ip}
use Rattle.sim_base.specs.declared.address.Addr.{Addr}
use Rattle.tcp_streams.specs.Exchange.{Exchange, AreSteps, last_exchange}
use Rattle.socket_streams.specs.Inside.{StaysInside}

pub record Leads (scope : Addr → Addr → Bool) (own : Ip) (m n : Exchange) : Type 0 where
  pub exchanges : List Exchange
  pub steps : AreSteps scope m exchanges
  pub last : last_exchange m exchanges ≡ n
  pub inside : StaysInside own m → StaysInside own n
