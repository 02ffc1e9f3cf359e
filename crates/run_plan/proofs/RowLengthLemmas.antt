-- Each host has a row.
use Rattle.std.proofs.Common.{◌≡◌, ◌∙◌, ℕ, suc, ◌+◌, ◌++◌, List, [], ◌∷◌, length, map, Option, Some, None, Result, Ok, Err, IfOk, refl, sym, ap, subst, arith}
use Rattle.std.specs.Option.{option_to_list}
use Rattle.std.specs.List.Sorted.{IsPermutation}
use Rattle.sim_base.specs.Refusals.{◌>>=◌}
use Rattle.sim_base.specs.declared.address.Ip.{Ip}
use Rattle.gml_graph.specs.declared.graph.Graph.{Graph}
use Rattle.gml_graph.specs.declared.graph.Node.{Node}
use Rattle.shd_config.specs.declared.config.HostConfig.{HostConfig}
use Rattle.run_plan.specs.Addresses.{AreAddressesFrom, first_address}
use Rattle.run_plan.specs.HostRows.{rows_of, host_rows}
use Rattle.run_plan.specs.Programs.{programs_of}
use Rattle.run_plan.specs.Rates.{rates_of, rates_behind}
use Rattle.run_plan.specs.declared.fault.Fault.{Fault}
use Rattle.run_plan.specs.declared.host_row.HostRow.{HostRow}
use Rattle.run_plan.specs.declared.rates.Rates.{Rates}

-- ---- as many rates as hosts

one_more : (first : Result Rates Fault) (rest : Result (List Rates) Fault) (n : ℕ) → IfOk rest (λ all. length all ≡ n)
    → IfOk (first >>= λ rates. rest >>= λ more. Ok (rates ∷ more)) (λ all. length all ≡ suc n)
one_more (Ok rates) (Ok more) n h = ap suc h
one_more (Ok rates) (Err fault) n h = tt
one_more (Err fault) rest n h = tt

rates_count : (file : List ℕ) (nodes : List Node) (earlier : List Ip) (hosts : List HostConfig) → IfOk (rates_behind file nodes earlier hosts) (λ all. length all ≡ length hosts)
rates_count file nodes earlier [] = refl
rates_count file nodes earlier (h ∷ hs) =
    one_more (rates_of file nodes earlier h) (rates_behind file nodes (earlier ++ option_to_list h.ip_addr) hs) (length hs) (rates_count file nodes (earlier ++ option_to_list h.ip_addr) hs)

-- ---- as many addresses

addresses_count : (given : List Ip) (from : ℕ) (hosts : List (Option Ip)) (addresses : List Ip) → AreAddressesFrom given from hosts addresses → length addresses ≡ length hosts
addresses_count given from [] [] h = refl
addresses_count given from [] (a ∷ addresses) h = absurd h
addresses_count given from (Some ip ∷ hosts) [] h = absurd h
addresses_count given from (None ∷ hosts) [] h = absurd h
addresses_count given from (Some ip ∷ hosts) (a ∷ addresses) h = ap suc (addresses_count given from hosts addresses h.1)
addresses_count given from (None ∷ hosts) (a ∷ addresses) h = ap suc (addresses_count given (a.bits + 1) hosts addresses h.1)

-- ---- the hosts of the rows

length_given : (hosts : List HostConfig) → length (map (λ (h : HostConfig). h.ip_addr) hosts) ≡ length hosts
length_given [] = refl
length_given (h ∷ hs) = ap suc (length_given hs)

hosts_of_rows : (programs : List (List ℕ)) (hosts : List HostConfig) (rates : List Rates) (addresses : List Ip) → length rates ≡ length hosts → length addresses ≡ length hosts
    → map (λ (r : HostRow). r.config) (rows_of programs hosts rates addresses) ≡ hosts
hosts_of_rows programs [] rates addresses h k = refl
hosts_of_rows programs (x ∷ hs) [] addresses h k = absurd (omega (arith, h))
hosts_of_rows programs (x ∷ hs) (r ∷ rs) [] h k = absurd (omega (arith, k))
hosts_of_rows programs (x ∷ hs) (r ∷ rs) (a ∷ addresses) h k = ap (λ (more : List HostConfig). x ∷ more) (hosts_of_rows programs hs rs addresses (omega (arith, h)) (omega (arith, k)))

-- rows are those of the hosts, in some order
pub rows_moved : (name : List ℕ) (graph : Graph) (hosts : List HostConfig) (rows : List HostRow) → (host_rows name graph hosts).answers (Ok rows) → IsPermutation hosts (map (λ (r : HostRow). r.config) rows)
unfolding host_rows
rows_moved name graph hosts rows (ordered, order, (rates, r, (addresses, a, e))) =
    let same : rows_of (programs_of hosts) ordered rates addresses ≡ rows = cc in
    let many : length rates ≡ length ordered = subst (λ (read : Result (List Rates) Fault). IfOk read (λ all. length all ≡ length ordered)) r (rates_count name graph.nodes [] ordered) in
    let more : length addresses ≡ length ordered = addresses_count _ first_address (map (λ (h : HostConfig). h.ip_addr) ordered) addresses a ∙ length_given ordered in
    subst (IsPermutation hosts)
    (sym (ap (map (λ (row : HostRow). row.config)) (sym same) ∙ hosts_of_rows (programs_of hosts) ordered rates addresses many more)) order.same
