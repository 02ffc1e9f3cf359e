-- Hosts have addresses: from each number on there is a least open one.
use Rattle.std.proofs.Common.{◌≡◌, ℕ, zero, suc, ◌+◌, ◌*◌, ◌≤◌, Bool, true, false, List, [], ◌∷◌, map, Option, Some, None, refl, sym, ap, ◌∙◌, arith, inl, inr}
use Rattle.std.proofs.lemmas.Bool.{cases_lt}
use Rattle.sim_base.specs.declared.address.Ip.{Ip}
use Rattle.shd_config.specs.declared.config.HostConfig.{HostConfig}
use Rattle.run_plan.specs.Addresses.{is_open, first_address, given_addresses, IsLeastOpen, AreAddressesFrom}
use Rattle.run_plan.specs.HostRows.{HaveAddresses}
use Rattle.run_plan.specs.inside.Room.{count_from}
use Rattle.run_plan.proofs.AddressLemmas.{passed_over, step_has_room}

abbrev HasLeastOpen : List Ip → ℕ → Type 0
HasLeastOpen given from = (bits : ℕ) × IsLeastOpen given from bits

least_here : (given : List Ip) (n : ℕ) → is_open given n ≡ true → HasLeastOpen given n
least_here given n e = (n, record { within = omega arith; is_free = e; least = λ other within free. within })

later_than : (given : List Ip) (n other : ℕ) → is_open given n ≡ false → is_open given other ≡ true → n ≤ other → n + 1 ≤ other
later_than given n other closed free within = elim (cases_lt n other) [
  | inl lt ↦ omega (arith, lt)
  | inr le ↦ (let same : n ≡ other = omega (arith, le, within) in let both : false ≡ true = sym closed ∙ (ap (is_open given) same ∙ free) in absurd cc)
]

least_later : (given : List Ip) (n : ℕ) → is_open given n ≡ false → HasLeastOpen given (n + 1) → HasLeastOpen given n
least_later given n closed later = (
  later.0,
  record {
    within = omega (arith, later.1.within);
    is_free = later.1.is_free;
    least = λ other within free. later.1.least other (later_than given n other closed free within) free;
  },
)

least_with : (given : List Ip) (n : ℕ) (b : Bool) → is_open given n ≡ b → (is_open given n ≡ false → HasLeastOpen given (n + 1)) → HasLeastOpen given n
least_with given n true e later = least_here given n e
least_with given n false e later = least_later given n e (later e)

-- the walk from a number on, with room for so many steps
least_within : (given : List Ip) (room n : ℕ) → 3 * count_from given n + passed_over n ≤ room → HasLeastOpen given n
least_within given zero n h = least_with given n (is_open given n) refl (λ closed. absurd (omega (arith, step_has_room given n closed, h)))
least_within given (suc room) n h =
    least_with given n (is_open given n) refl (λ closed. least_within given room (n + 1) (omega (arith, step_has_room given n closed, h)))

-- from each number on there is a least open one
pub some_least : (given : List Ip) (from : ℕ) → (bits : ℕ) × IsLeastOpen given from bits
some_least given from = least_within given (3 * count_from given from + passed_over from) from (omega arith)

pub some_from : (given : List Ip) (from : ℕ) (hosts : List (Option Ip)) → (addresses : List Ip) × AreAddressesFrom given from hosts addresses
some_from given from [] = ([], tt)
some_from given from (Some ip ∷ hosts) = let more = some_from given from hosts in (ip ∷ more.0, (refl, more.1))
some_from given from (None ∷ hosts) =
    let least = some_least given from in
    let more = some_from given (least.0 + 1) hosts in
    (record { bits = least.0 } ∷ more.0, (least.1, more.1))

-- all hosts have addresses, however many are given
pub some_addresses : (hosts : List HostConfig) → (addresses : List Ip) × HaveAddresses hosts addresses
some_addresses hosts = let given = map (λ (h : HostConfig). h.ip_addr) hosts in some_from (given_addresses given) first_address given
