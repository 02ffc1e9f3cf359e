-- The rows of a run are those of its net's hosts.
use Rattle.std.proofs.Common.{◌≡◌, ℕ, zero, suc, ◌+◌, true, false, List, [], ◌∷◌, map, Some, slice_get, refl, sym, ap, subst, ◌∙◌, arith, eqb-true}
use Rattle.std.proofs.lemmas.Bool.{false≢true, false_from_ne_true}
use Rattle.sim_base.specs.Addresses.{loopback, is_same_ip}
use Rattle.sim_base.specs.declared.address.Ip.{Ip}
use Rattle.host_rows.specs.declared.row.Row.{Row}
use Rattle.shd_config.specs.Values.{may_be_host}
use Rattle.run_plan.specs.declared.host_row.HostRow.{HostRow}
use Rattle.run_plan.specs.declared.plan.Settings.{Settings}
use Rattle.run_plan.specs.declared.planned.Run.{Run}
use Rattle.run_streams.specs.Run.{AreHosts}
use Rattle.plan_rows.specs.Rows.{row_of, rows_from, rows_of, net_of}
use Rattle.stream_lines.specs.Addresses.{HaveOwnAddresses, HaveHostAddresses}
use Rattle.stream_lines.proofs.Walk.{IsForHost}

-- the row of a host of a plan, by its number
record IsRowOf (hosts : List HostRow) (i number : ℕ) (row : Row) : Type 0 where
  host : HostRow
  there : slice_get hosts i ≡ Some host
  number_is : row.host.index ≡ number
  address_is : row.address ≡ host.address

row_at : (s : Settings) (n : ℕ) (hosts : List HostRow) (i : ℕ) (row : Row) → slice_get (rows_from s n hosts) i ≡ Some row → IsRowOf hosts i (n + i) row
row_at s n [] i row at = absurd (cc)
row_at s n (h ∷ hosts) zero row at =
    let same : row_of s n h ≡ row = cc in
    record {
      host = h;
      there = refl;
      number_is = ap (λ (r : Row). r.host.index) (sym same) ∙ (let e : n ≡ n + zero = omega arith in e);
      address_is = ap (λ (r : Row). r.address) (sym same);
    }
row_at s n (h ∷ hosts) (suc i) row at =
    let rest = row_at s (n + 1) hosts i row at in
    record {
      host = rest.host;
      there = rest.there;
      number_is = rest.number_is ∙ (let e : n + 1 + i ≡ n + suc i = omega arith in e);
      address_is = rest.address_is;
    }

book_is : (s : Settings) (n : ℕ) (hosts : List HostRow) → map (λ (h : HostRow). h.address) hosts ≡ map (λ (row : Row). row.address) (rows_from s n hosts)
book_is s n [] = refl
book_is s n (h ∷ hosts) = ap (λ (addresses : List Ip). h.address ∷ addresses) (book_is s (n + 1) hosts)

outside : (ip : Ip) → IsForHost ip → is_same_ip ip loopback ≡ false
outside ip may =
    false_from_ne_true (is_same_ip ip loopback)
    (λ e. false≢true (ap (λ (n : ℕ). may_be_host (record { bits = n })) (sym (eqb-true ip.bits loopback.bits e)) ∙ may))

-- the rows are those of hosts, where the plan's hosts have such addresses
pub run_hosts : (run : Run) → HaveOwnAddresses run.plan.rows → HaveHostAddresses run.plan.rows → AreHosts (net_of run) (rows_of run)
run_hosts run own may =
    let found = row_at run.plan.settings 0 run.plan.rows in
    record {
      outside = λ i row at. (let f = found i row at in subst (λ (ip : Ip). is_same_ip ip loopback ≡ false) (sym f.address_is) (outside f.host.address (may i f.host f.there)));
      placed = λ i row at. (let f = found i row at in f.number_is ∙ (let e : 0 + i ≡ i = omega arith in e));
      apart = λ i j a b here there e.
          (let f = found i a here in
          let g = found j b there in
          own i j f.host g.host f.there g.there
          (subst (λ (ip : Ip). is_same_ip ip g.host.address ≡ true) f.address_is (subst (λ (ip : Ip). is_same_ip a.address ip ≡ true) g.address_is e)));
      listed = book_is run.plan.settings 0 run.plan.rows;
    }
