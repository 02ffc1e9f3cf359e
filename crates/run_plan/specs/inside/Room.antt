-- How far the walk over addresses may still go, and what a step of it finds.
use Rattle.std.specs.Prelude.{◌≡◌, ℕ, ◌+◌, nat_le, count_by, List, Option, Some, None}
use Rattle.sim_base.specs.declared.address.Ip.{Ip}
use Rattle.run_plan.specs.Addresses.{IsLeastOpen}

-- how many of the given addresses are this one or later ones
abbrev pub count_from : List Ip → ℕ → ℕ
count_from given bits = count_by (λ (ip : Ip). nat_le bits ip.bits) given

-- the address of a host, and where the next open one is looked for
abbrev pub NextAddress : List Ip → ℕ → ℕ → Option Ip → Ip → Type 0
NextAddress given from next None address = IsLeastOpen given from address.bits × (next ≡ address.bits + 1)
NextAddress given from next (Some ip) address = (address ≡ ip) × (next ≡ from)
