-- whether a socket would meet another one, by the ends and the addresses that there are
use Rattle.std.proofs.Common.{◌≡◌, ◌≢◌, ℕ, zero, suc, List, [], ◌∷◌, get_or, Bool, true, false, ◌||◌, ◌==◌, if◌then◌else◌, Option, Some, None, is_some, option_map, Result, Ok, Err, refl, sym, ap, ◌∙◌, arith, inl, inr}
use Rattle.std.specs.List.{list_any}
use Rattle.std.proofs.lemmas.Bool.{and_parts, and_from, or_cases, eqb-true, eq-eqb, ne_eqb}
use Rattle.std.proofs.lemmas.Bool.Decides.{nat_tests}
use Rattle.std.proofs.lemmas.List.Folds.{list_any-append}
use Rattle.sim_base.specs.declared.address.Addr.{Addr}
use Rattle.sim_base.specs.declared.address.Ip.{Ip}
use Rattle.sim_base.specs.declared.errno.Errno.{Errno}
use Rattle.sim_base.specs.declared.errno.Errno.TheVariants.{Eaddrinuse, Eaddrnotavail}
use Rattle.sim_base.specs.Addresses.{any, is_same_ip, meets, is_taken, has_port, at_port, least_free_port}
use Rattle.sim_base.specs.AddressLaws.{first_free_port_IsLeastFree, has_port_meets}
use Rattle.sim_base.specs.Refusals.{◌>>=◌, ◌>>◌, refuse_if, or_refuse}
use Rattle.sock_udp.specs.Socket.{end_left}
use Rattle.sock_udp.specs.declared.ends.UdpEnds.{UdpEnds}
use Rattle.udp_table.specs.Table.{local_in, end_in, bound_ends}
use Rattle.udp_table.specs.inside.Indexing.{at_place, meets_there, Finds, Notes}

end_at : ℕ → ℕ → Addr
end_at bits port = record { ip = record { bits = bits }; port = port }

-- two tests agree where each follows from the other
same_test : (a b : Bool) → (a ≡ true → b ≡ true) → (b ≡ true → a ≡ true) → a ≡ b
same_test true b to from = sym (to refl)
same_test false true to from = from refl
same_test false false to from = refl

or_one : (a b : Bool) → a ≡ true → (a || b) ≡ true
or_one true b e = refl
or_one false b e = cc

or_two : (a b : Bool) → b ≡ true → (a || b) ≡ true
or_two true b e = refl
or_two false b e = e

-- an end that is met has the port
met_port : (at other : Addr) → meets at other ≡ true → other ≡ at_port other.ip at.port
unfolding end_at
met_port at other e =
    let parts = and_parts (at.port == other.port) _ e in
    ap (λ (port : ℕ). end_at other.ip.bits port) (sym (eqb-true at.port other.port parts.0))

-- what a place has is among the ends
end_among : (at : Addr) (places : List (Option UdpEnds)) (k : ℕ) (other : Addr) → local_in (get_or places k None) ≡ Some other → meets at other ≡ true → is_taken (bound_ends places) at ≡ true
end_among at [] k other e met = cc
end_among at (p ∷ places) zero other e met =
    list_any-append (meets at) (end_in (local_in p)) (bound_ends places)
    ∙ or_one _ (is_taken (bound_ends places) at) (ap (λ (o : Option Addr). is_taken (end_in o) at) e ∙ or_one (meets at other) false met)
end_among at (p ∷ places) (suc k) other e met =
    list_any-append (meets at) (end_in (local_in p)) (bound_ends places) ∙ or_two (is_taken (end_in (local_in p)) at) _ (end_among at places k other e met)

-- and an end that is met is that of a place
record MetAt (at : Addr) (places : List (Option UdpEnds)) : Type 0 where
  place : ℕ
  other : Addr
  has : local_in (get_or places place None) ≡ Some other
  met : meets at other ≡ true

met_end : (at : Addr) (local : Option Addr) → is_taken (end_in local) at ≡ true → (other : Addr) × ((local ≡ Some other) × (meets at other ≡ true))
met_end at None e = cc
met_end at (Some other) e = elim (or_cases (meets at other) false e) as (λ _. (o : Addr) × ((Some other ≡ Some o) × (meets at o ≡ true))) [
  | inl met ↦ (other, (refl, met))
  | inr none ↦ absurd (let no : false ≡ true = none in cc)
]

met_place : (at : Addr) (places : List (Option UdpEnds)) → is_taken (bound_ends places) at ≡ true → MetAt at places
met_place at [] e = cc
met_place at (p ∷ places) e =
    elim (or_cases (is_taken (end_in (local_in p)) at) (is_taken (bound_ends places) at) (sym (list_any-append (meets at) (end_in (local_in p)) (bound_ends places)) ∙ e)) as (λ _. MetAt at (p ∷ places)) [
      | inl here ↦ let found = met_end at (local_in p) here in record { place = 0; other = found.0; has = found.1.0; met = found.1.1 }
      | inr behind ↦ let found = met_place at places behind in record { place = suc found.place; other = found.other; has = found.has; met = found.met }
    ]

some_there : (o : Option ℕ) → is_some o ≡ true → (k : ℕ) × (o ≡ Some k)
some_there None e = cc
some_there (Some k) e = (k, refl)

-- one of the addresses at which there is such an end
one_there : (found : Addr → Option ℕ) (at : Addr) (ips : List Ip) → list_any (meets_there found at) ips ≡ true → (other : Addr) × ((k : ℕ) × ((found other ≡ Some k) × (meets at other ≡ true)))
one_there found at [] e = cc
one_there found at (ip ∷ ips) e = elim (or_cases (meets_there found at ip) (list_any (meets_there found at) ips) e) as (λ _. (other : Addr) × ((k : ℕ) × ((found other ≡ Some k) × (meets at other ≡ true)))) [
  | inl here ↦
      let parts = and_parts (meets at (at_port ip at.port)) (is_some (found (at_port ip at.port))) here in
      let there = some_there (found (at_port ip at.port)) parts.1 in
      (at_port ip at.port, (there.0, (there.1, parts.0)))
  | inr behind ↦ one_there found at ips behind
]

there_one : (found : Addr → Option ℕ) (at other : Addr) (ips : List Ip) → list_any (is_same_ip other.ip) ips ≡ true → meets_there found at other.ip ≡ true → list_any (meets_there found at) ips ≡ true
there_one found at other [] e met = cc
there_one found at other (ip ∷ ips) e met = elim (or_cases (is_same_ip other.ip ip) (list_any (is_same_ip other.ip) ips) e) as (λ _. list_any (meets_there found at) (ip ∷ ips) ≡ true) [
  | inl same ↦ or_one (meets_there found at ip) _ (ap (λ (bits : ℕ). meets_there found at (ip_at bits)) (sym (eqb-true other.ip.bits ip.bits same)) ∙ met)
  | inr behind ↦ or_two (meets_there found at ip) _ (there_one found at other ips behind met)
]
  where
    ip_at : ℕ → Ip
    ip_at bits = record { bits = bits }

pub met_among : (found : Addr → Option ℕ) (ips : List Ip) (places : List (Option UdpEnds)) (at : Addr) → Finds found (λ k. local_in (at_place places k)) → Notes ips (λ k. local_in (at_place places k))
    → list_any (meets_there found at) ips ≡ is_taken (bound_ends places) at
met_among found ips places at finds notes =
    same_test (list_any (meets_there found at) ips) (is_taken (bound_ends places) at)
    (λ e. let there = one_there found at ips e in end_among at places there.1.0 there.0 (finds.only there.1.0 there.0 there.1.1.0) there.1.1.1)
    (λ e.
    let there = met_place at places e in
    let same = met_port at there.other there.met in
    there_one found at there.other ips (notes there.place there.other there.has)
    (and_from _ _ (ap (meets at) (sym same) ∙ there.met) (ap (λ (end : Addr). is_some (found end)) (sym same) ∙ ap is_some (finds.each there.place there.other there.has))))

-- by a look at each place
pub met_in : (at : Addr) (places : List (Option UdpEnds)) → list_any (λ (place : Option UdpEnds). is_taken (end_in (local_in place)) at) places ≡ is_taken (bound_ends places) at
met_in at [] = refl
met_in at (p ∷ places) =
    ap (λ (b : Bool). is_taken (end_in (local_in p)) at || b) (met_in at places) ∙ sym (list_any-append (meets at) (end_in (local_in p)) (bound_ends places))

-- who is at 0.0.0.0 meets each end with the port
pub any_meets : (port : ℕ) (bound : List Addr) → is_taken bound (at_port any port) ≡ has_port bound port
any_meets port [] = refl
any_meets port (other ∷ bound) =
    ap (λ (b : Bool). b || is_taken bound (at_port any port)) (met port other) ∙ ap (λ (b : Bool). (other.port == port) || b) (any_meets port bound)
  where
    met : (port : ℕ) (other : Addr) → meets (at_port any port) other ≡ (other.port == port)
    met port other = grind (arith, nat_tests)

-- what is left of an address
abbrev by_found : Option Addr → (Addr → Bool) → Result Addr Errno
by_found found taken = do
  end ← or_refuse found Eaddrnotavail
  refuse_if (taken end) Eaddrinuse
  Ok end

abbrev pub by_taken : Addr → Bool → Result Addr Errno
by_taken at taken = by_found (Some at) (λ _. taken)

asked : (others : List Addr) (at : Addr) (b : Bool) (free : Option ℕ) → (at.port == 0) ≡ b → free ≡ least_free_port others
    → end_left others at ≡ by_found (if b then option_map (at_port at.ip) free else Some at) (is_taken others)
asked others at b free is same =
    ap (λ (c : Bool). by_found (if c then option_map (at_port at.ip) (least_free_port others) else Some at) (is_taken others)) is
    ∙ ap (λ (o : Option ℕ). by_found (if b then option_map (at_port at.ip) o else Some at) (is_taken others)) (sym same)

pub free_left : (others : List Addr) (at : Addr) (port : ℕ) → at.port ≡ 0 → Some port ≡ least_free_port others → Ok (at_port at.ip port) ≡ end_left others at
free_left others at port none free =
    sym (asked others at true (Some port) (eq-eqb at.port 0 none) free
    ∙ ap (by_taken (at_port at.ip port)) (has_port_meets at.ip port others (first_free_port_IsLeastFree others 10000 55536 port (sym free)).free))

pub none_left : (others : List Addr) (at : Addr) → at.port ≡ 0 → None ≡ least_free_port others → Err Eaddrnotavail ≡ end_left others at
none_left others at none free = sym (asked others at true None (eq-eqb at.port 0 none) free)

pub named_left : (others : List Addr) (at : Addr) (taken : Bool) → at.port ≢ 0 → taken ≡ is_taken others at → by_taken at taken ≡ end_left others at
named_left others at taken named is =
    sym (asked others at false (least_free_port others) (ne_eqb at.port 0 named) refl ∙ ap (by_taken at) (sym is))
