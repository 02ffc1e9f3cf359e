-- what acts leave as it was
use Rattle.std.specs.Prelude.{◌≡◌, ℕ, List, [], ◌++◌, Bool, true}
use Rattle.sim_base.specs.declared.address.Addr.{Addr}
use Rattle.sock_tcp.specs.connection.Tcb.{Tcb}

-- its ends and its first number stay, what was written grows, and once writing has ended no more
pub record Grows (r : Tcb) (own other : Addr) (start : ℕ) (bytes : List ℕ) (wanted : Bool) : Type 0 where
  pub local : own ≡ r.control.local
  pub peer : other ≡ r.control.peer
  pub iss : start ≡ r.iss
  pub more : List ℕ
  pub written : bytes ≡ r.written ++ more
  pub ended : r.control.fin_wanted ≡ true → (wanted ≡ true) × (more ≡ [])

abbrev pub GrowsTo : Tcb → Tcb → Type 0
GrowsTo before r =
    Grows before r.control.local r.control.peer r.iss r.written r.control.fin_wanted
