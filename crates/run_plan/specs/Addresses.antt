-- The addresses of hosts: those that are given, and for the others, in their order, the next open ones.
use Rattle.std.specs.Prelude.{◌≡◌, ℕ, ◌+◌, ◌%◌, ◌≤◌, ◌==◌, ◌&&◌, Bool, true, not, List, [], ◌∷◌, Option, Some, None, flat_map}
use Rattle.std.specs.Option.{option_to_list}
use Rattle.sim_base.specs.Addresses.{has_host}
use Rattle.sim_base.specs.declared.address.Ip.{Ip}

-- 11.0.0.1
abbrev pub first_address : ℕ
first_address = 0x0b000001

-- the addresses that are given
abbrev pub given_addresses : List (Option Ip) → List Ip
given_addresses hosts = flat_map option_to_list hosts

-- an address for a host that has none: its last byte is neither 0 nor 255, and no host was given it
abbrev pub is_open : List Ip → ℕ → Bool
is_open given bits = not (bits % 256 == 0) && (not (bits % 256 == 255) && not (has_host given (record { bits = bits })))

-- the least open address from this one on
pub record IsLeastOpen (given : List Ip) (from bits : ℕ) : Type 0 where
  pub within : from ≤ bits
  pub is_free : is_open given bits ≡ true
  pub least : (other : ℕ) → from ≤ other → is_open given other ≡ true → bits ≤ other

-- the addresses of hosts in their order, where the next open one is looked for from an address on
abbrev pub AreAddressesFrom : List Ip → ℕ → List (Option Ip) → List Ip → Type 0
AreAddressesFrom given from [] [] = Unit {0}
AreAddressesFrom given from (Some ip ∷ hosts) (address ∷ addresses) = (address ≡ ip) × AreAddressesFrom given from hosts addresses
AreAddressesFrom given from (None ∷ hosts) (address ∷ addresses) = IsLeastOpen given from address.bits × AreAddressesFrom given (address.bits + 1) hosts addresses
AreAddressesFrom given from _ _ = ⊥

-- the addresses of hosts, of which some are given
abbrev pub AreAddresses : List (Option Ip) → List Ip → Type 0
AreAddresses hosts addresses = AreAddressesFrom (given_addresses hosts) first_address hosts addresses
