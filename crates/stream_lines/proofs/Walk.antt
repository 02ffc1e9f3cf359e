-- The walk over open addresses ends far below 127.0.0.0: each address that it passes over is closed, and few are.
use Rattle.std.proofs.Common.{◌≡◌, ℕ, zero, suc, ◌+◌, ◌-◌, ◌*◌, ◌<◌, ◌≤◌, true, false, not, List, [], ◌∷◌, length, Option, Some, None, IfSome, refl, sym, subst, arith, le-leb}
use Rattle.std.specs.List.{AllByRecursion}
use Rattle.std.proofs.lemmas.Bool.{lt-leb, and_from, and_left, not_from_false, false_from_ne_true}
use Rattle.sim_base.specs.declared.address.Ip.{Ip}
use Rattle.sim_base.specs.Limits.{most_hosts}
use Rattle.shd_config.specs.Values.{is_within, may_be_host}
use Rattle.run_plan.specs.Addresses.{first_address, is_open, given_addresses, IsLeastOpen, AreAddressesFrom, AreAddresses}
use Rattle.run_plan.specs.inside.Room.{count_from}
use Rattle.run_plan.proofs.AddressLemmas.{count_less, passed_over, passed_small, step_has_room, few_given, few_from}

-- 127.0.0.0
abbrev first_loopback : ℕ
first_loopback = 0x7f000000

-- an address that a configuration may give to a host
abbrev pub IsForHost : Ip → Type 0
IsForHost ip = may_be_host ip ≡ true

-- the addresses that are given are such
abbrev pub MayBeGiven : List (Option Ip) → Type 0
MayBeGiven hosts = AllByRecursion (λ (host : Option Ip). IfSome host IsForHost) hosts

-- one from 11.0.0.1 on and below 127.0.0.0
is_for_host : (bits : ℕ) → first_address ≤ bits → bits < first_loopback → IsForHost (record { bits = bits })
is_for_host bits low high =
    and_from (is_within 0x01000000 0xdfffffff bits) (not (is_within 0x7f000000 0x7fffffff bits))
    (and_from _ _ (le-leb 0x01000000 bits (omega (arith, low))) (le-leb bits 0xdfffffff (omega (arith, high))))
    (not_from_false (is_within 0x7f000000 0x7fffffff bits) (and_left _ _ (lt-leb 0x7f000000 bits high)))

module _ (given : List Ip) where
  -- how far the walk has come, and what it may still pass over
  abbrev reach : ℕ → ℕ
  reach n = n + 3 * count_from given n + passed_over n

  passes : (n from bits : ℕ) → from + n ≡ bits → ((k : ℕ) → from ≤ k → k < bits → is_open given k ≡ false) → reach bits ≤ reach from
  passes zero from bits e closed = let same : from ≡ bits = omega (arith, e) in subst (λ (b : ℕ). reach b ≤ reach from) same (omega arith)
  passes (suc n) from bits e closed =
      let next = passes n (from + 1) bits (omega (arith, e)) (λ k above below. closed k (omega (arith, above)) below) in
      let step = step_has_room given from (closed from (omega arith) (omega (arith, e))) in
      omega (arith, next, step)

  -- the least open address is near
  least_near : (from bits : ℕ) → IsLeastOpen given from bits → bits + 3 * count_from given bits ≤ from + 3 * count_from given from + 2
  least_near from bits least =
      let within = least.within in
      let closed : (k : ℕ) → from ≤ k → k < bits → is_open given k ≡ false =
      λ k above below. false_from_ne_true (is_open given k) (λ e. let more = least.least k above e in omega (arith, more, below)) in
      let far = passes (bits - from) from bits (omega (arith, within)) closed in
      omega (arith, far, passed_small from)

  each_for_host : (from : ℕ) (hosts : List (Option Ip)) (addresses : List Ip) → MayBeGiven hosts → first_address ≤ from
      → from + 3 * count_from given from + 3 * length hosts ≤ first_loopback → AreAddressesFrom given from hosts addresses → AllByRecursion IsForHost addresses
  each_for_host from [] [] may low room are = tt
  each_for_host from [] (a ∷ addresses) may low room are = absurd are
  each_for_host from (Some ip ∷ hosts) [] may low room are = absurd are
  each_for_host from (Some ip ∷ hosts) (a ∷ addresses) may low room are =
      (subst IsForHost (sym are.0) may.0, each_for_host from hosts addresses may.1 low (omega (arith, room)) are.1)
  each_for_host from (None ∷ hosts) [] may low room are = absurd are
  each_for_host from (None ∷ hosts) (a ∷ addresses) may low room are =
      let near = least_near from a.bits are.0 in
      let within = are.0.within in (
        is_for_host a.bits (omega (arith, low, within)) (omega (arith, near, room)),
        each_for_host (a.bits + 1) hosts addresses may.1 (omega (arith, low, within)) (omega (arith, near, room, count_less given a.bits)) are.1,
      )

-- the addresses of hosts, of which some are given
pub all_for_hosts : (hosts : List (Option Ip)) (addresses : List Ip) → length hosts ≤ most_hosts → MayBeGiven hosts → AreAddresses hosts addresses → AllByRecursion IsForHost addresses
all_for_hosts hosts addresses few may are =
    let given = given_addresses hosts in
    each_for_host given first_address hosts addresses may (omega arith)
    (omega (arith, few, few_from given first_address, few_given hosts given refl)) are
