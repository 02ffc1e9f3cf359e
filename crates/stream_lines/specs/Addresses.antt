-- The addresses of the hosts of a plan.
use Rattle.std.specs.Prelude.{◌≡◌, ℕ, true, List, Some, slice_get}
use Rattle.sim_base.specs.Addresses.{is_same_ip}
use Rattle.shd_config.specs.Values.{may_be_host}
use Rattle.run_plan.specs.declared.host_row.HostRow.{HostRow}

-- no two hosts have one address
abbrev pub HaveOwnAddresses : List HostRow → Type 0
HaveOwnAddresses hosts =
    (i j : ℕ) (a b : HostRow) → slice_get hosts i ≡ Some a → slice_get hosts j ≡ Some b → is_same_ip a.address b.address ≡ true → i ≡ j

-- each has an address that a configuration may give to a host: in neither 0.0.0.0/8 nor 127.0.0.0/8, and below 224.0.0.0
abbrev pub HaveHostAddresses : List HostRow → Type 0
HaveHostAddresses hosts = (i : ℕ) (host : HostRow) → slice_get hosts i ≡ Some host → may_be_host host.address ≡ true
