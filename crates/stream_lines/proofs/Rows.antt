-- The rows of a plan have different addresses, which hosts may have.
use Rattle.std.proofs.Common.{◌≡◌, ℕ, zero, suc, List, [], ◌∷◌, length, map, option_map, All, Some, slice_get, Ok, ap, subst, ◌∙◌, arith}
use Rattle.std.specs.List.{AllByRecursion}
use Rattle.std.proofs.lemmas.List.{length-map}
use Rattle.std.proofs.lemmas.List.Elements.{All-head, All-tail}
use Rattle.std.proofs.lemmas.List.Sorted.{All-permutation, length_permutation}
use Rattle.sim_base.specs.declared.address.Ip.{Ip}
use Rattle.gml_graph.specs.declared.graph.Graph.{Graph}
use Rattle.shd_config.specs.declared.config.Config.{Config}
use Rattle.shd_config.specs.declared.config.HostConfig.{HostConfig}
use Rattle.run_plan.specs.HostRows.{rows_of, host_rows}
use Rattle.run_plan.specs.Programs.{programs_of}
use Rattle.run_plan.specs.declared.host_row.HostRow.{HostRow}
use Rattle.run_plan.specs.declared.rates.Rates.{Rates}
use Rattle.stream_lines.specs.Addresses.{HaveOwnAddresses, HaveHostAddresses}
use Rattle.stream_lines.proofs.Apart.{AreApart, all_apart, at_place, one_place}
use Rattle.stream_lines.proofs.Given.{MayHaveAddress, HasHosts}
use Rattle.stream_lines.proofs.Planned.{AreRows}
use Rattle.stream_lines.proofs.Walk.{IsForHost, MayBeGiven, all_for_hosts}

-- a row has the address of its place
address_at : (programs : List (List ℕ)) (hosts : List HostConfig) (rates : List Rates) (addresses : List Ip) (i : ℕ) (row : HostRow) → slice_get (rows_of programs hosts rates addresses) i ≡ Some row
    → slice_get addresses i ≡ Some row.address
address_at programs [] rates addresses i row at = absurd (cc)
address_at programs (h ∷ hosts) [] addresses i row at = absurd (cc)
address_at programs (h ∷ hosts) (r ∷ rates) [] i row at = absurd (cc)
address_at programs (h ∷ hosts) (r ∷ rates) (a ∷ addresses) zero row at = ap (option_map (λ (x : HostRow). x.address)) at
address_at programs (h ∷ hosts) (r ∷ rates) (a ∷ addresses) (suc i) row at = address_at programs hosts rates addresses i row at

may_be_given : (hosts : List HostConfig) → All MayHaveAddress hosts → MayBeGiven (map (λ (h : HostConfig). h.ip_addr) hosts)
may_be_given [] h = tt
may_be_given (x ∷ hosts) h = (All-head MayHaveAddress x hosts h, may_be_given hosts (All-tail MayHaveAddress x hosts h))

-- the addresses of rows, in their order
pub record HasAddresses (rows : List HostRow) : Type 0 where
  pub addresses : List Ip
  pub at : (i : ℕ) (row : HostRow) → slice_get rows i ≡ Some row → slice_get addresses i ≡ Some row.address
  pub own : AreApart addresses
  pub may : AllByRecursion IsForHost addresses

rows_have : (name : List ℕ) (graph : Graph) (c : Config) (rows : List HostRow) → HasHosts c → (host_rows name graph c.hosts).answers (Ok rows) → HasAddresses rows
unfolding host_rows
rows_have name graph c rows has (ordered, order, (rates, r, (addresses, a, e))) =
    let same : rows_of (programs_of c.hosts) ordered rates addresses ≡ rows = cc in
    let given = map (λ (h : HostConfig). h.ip_addr) ordered in
    let count : length given ≡ length c.hosts = length-map ordered (λ (h : HostConfig). h.ip_addr) ∙ length_permutation c.hosts ordered order.same in
    record {
      addresses = addresses;
      at = subst (λ (rs : List HostRow). (i : ℕ) (row : HostRow) → slice_get rs i ≡ Some row → slice_get addresses i ≡ Some row.address) same
          (address_at (programs_of c.hosts) ordered rates addresses);
      own = all_apart name graph.nodes ordered rates addresses r a;
      may = all_for_hosts given addresses (let few = has.few in omega (arith, few, count)) (may_be_given ordered (All-permutation MayHaveAddress c.hosts ordered order.same has.each)) a;
    }

pub addressed : (rows : List HostRow) → AreRows rows → HasAddresses rows
addressed rows are = rows_have are.name are.graph are.configuration rows are.hosts are.are

pub own_addresses : (rows : List HostRow) → HasAddresses rows → HaveOwnAddresses rows
own_addresses rows has i j a b here there e = one_place has.addresses i j a.address b.address has.own (has.at i a here) (has.at j b there) e

pub host_addresses : (rows : List HostRow) → HasAddresses rows → HaveHostAddresses rows
host_addresses rows has i row here = at_place IsForHost has.addresses i row.address has.may (has.at i row here)
