-- the ports that sockets get by themselves, as numbers that are counted from the first one
use Rattle.std.specs.Prelude.{ℕ, ◌-◌, Option, Some, None, nat_lt, if◌then◌else◌}
use Rattle.sim_base.specs.declared.address.Addr.{Addr}
use Rattle.sim_base.specs.Addresses.{first_given_port}
use Rattle.number_sets.specs.Bags.{one}

-- the number of a given port; a lower one isn't given
abbrev pub given : ℕ → Option ℕ
given port = if nat_lt port first_given_port then None else Some (port - first_given_port)

abbrev pub given_end : Option Addr → Option ℕ
given_end None = None
given_end (Some at) = given at.port

-- once at a number, if there is one
abbrev pub once : Option ℕ → ℕ → ℕ
once None n = 0
once (Some number) n = one number n

-- whether an end has the given port with a number: 1 where it has
abbrev pub had : ℕ → Addr → ℕ
had n at = once (given at.port) n
