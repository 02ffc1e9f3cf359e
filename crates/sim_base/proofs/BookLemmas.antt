-- the host at an address, from the last host to the first
use Rattle.std.proofs.Common.{◌≡◌, ℕ, zero, suc, ◌+◌, ◌<◌, Bool, true, false, cond, List, [], ◌∷◌, Option, Some, refl, sym, ap, ◌∙◌, arith, drop, length, get_or}
use Rattle.std.specs.Prelude.{is_some, ◌||◌}
use Rattle.std.specs.List.{position_from, list_any}
use Rattle.sim_base.specs.declared.address.Ip.{Ip}
use Rattle.sim_base.specs.Addresses.{is_same_ip, has_host, host_at}

found_first : (b tail : Bool) (from : ℕ) (later : Option ℕ) → is_some later ≡ tail → is_some (cond b (Some from) later) ≡ (b || tail)
found_first true tail from later rest = refl
found_first false tail from later rest = rest

found : (p : Ip → Bool) (from : ℕ) (hosts : List Ip) → is_some (position_from p from hosts) ≡ list_any p hosts
found p from [] = refl
found p from (ip ∷ ips) = found_first (p ip) (list_any p ips) from _ (found p (from + 1) ips)

-- an address is that of a host where a host is at it
pub host_at_has_host : (hosts : List Ip) (ip : Ip) → is_some (host_at hosts ip) ≡ has_host hosts ip
unfolding host_at
host_at_has_host hosts ip = found (is_same_ip ip) 0 hosts

-- the hosts from a place on, with one more in front
pub position_from_drop : (p : Ip → Bool) (hosts : List Ip) (i from : ℕ) (d : Ip) → i < length hosts
    → position_from p from (drop i hosts) ≡ cond (p (get_or hosts i d)) (Some from) (position_from p (from + 1) (drop (i + 1) hosts))
position_from_drop p [] i from d below = absurd (omega arith)
position_from_drop p (ip ∷ ips) zero from d below = refl
position_from_drop p (ip ∷ ips) (suc i) from d below =
    let more : suc i + 1 ≡ suc (i + 1) = omega arith in
    position_from_drop p ips i from d (omega (arith, below))
    ∙ ap (λ k. cond (p (get_or ips i d)) (Some from) (position_from p (from + 1) (drop k (ip ∷ ips)))) (sym more)

-- a map that has the number of the host at each address tells the same of a list of its own
pub host_at_from_0 : (hosts : List Ip) (i : ℕ) (ip : Ip) → i ≡ 0 → position_from (is_same_ip ip) i (drop i hosts) ≡ host_at hosts ip
unfolding host_at
host_at_from_0 hosts i ip none = ap (λ k. position_from (is_same_ip ip) k (drop k hosts)) none
