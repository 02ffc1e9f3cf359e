-- The steps of the rows of hosts.
use Rattle.std.proofs.Common.{◌≡◌, List, ℕ, refl, sym, ap, inl, inr}
use Rattle.std.specs.Prelude.{Ok, Err}
use Rattle.sim_base.specs.declared.address.Ip.{Ip}
use Rattle.gml_graph.specs.declared.graph.Graph.{Graph}
use Rattle.shd_config.specs.declared.config.HostConfig.{HostConfig}
use Rattle.run_plan.specs.HostRows.{AreInOrder, HaveAddresses, rows_of, host_rows}
use Rattle.run_plan.specs.Reading.{Reading, gives, some_that, Stops, CountsSource, ◌>>=◌}
use Rattle.run_plan.specs.Programs.{programs_of}
use Rattle.run_plan.specs.Rates.{all_rates}
use Rattle.run_plan.specs.declared.fault.ReadStop.{ReadStop}
use Rattle.run_plan.specs.declared.fault.ReadStop.TheVariants.{Refused, ReadFailed, NoMemory}
use Rattle.run_plan.specs.declared.host_row.HostRow.{HostRow}
use Rattle.run_plan.specs.declared.rates.Rates.{Rates}
use Rattle.run_plan.proofs.StepLemmas.{stops_first, stops_next}

abbrev pub with_rates : List HostConfig → List HostConfig → List Rates → Reading (List HostRow)
with_rates hosts ordered rates = some_that (HaveAddresses ordered) >>= (λ addresses. gives (Ok (rows_of (programs_of hosts) ordered rates addresses)))

abbrev pub with_order : List ℕ → Graph → List HostConfig → List HostConfig → Reading (List HostRow)
with_order name graph hosts ordered = gives (all_rates name graph.nodes ordered) >>= with_rates hosts ordered

module _ (name : List ℕ) (graph : Graph) (hosts : List HostConfig) where
  module _ (ordered : List HostConfig) (order : AreInOrder hosts ordered) where
    pub rates_stop_rows : (stop : ReadStop) → Stops (gives (all_rates name graph.nodes ordered)) stop → Stops (host_rows name graph hosts) stop
    unfolding host_rows
    rates_stop_rows stop h =
        stops_next (some_that (AreInOrder hosts)) (with_order name graph hosts) ordered stop order (stops_first (gives (all_rates name graph.nodes ordered)) (with_rates hosts ordered) stop h)

    pub rows_done : (rates : List Rates) (addresses : List Ip) (rows : List HostRow) → all_rates name graph.nodes ordered ≡ Ok rates → HaveAddresses ordered addresses
        → rows ≡ rows_of (programs_of hosts) ordered rates addresses → (host_rows name graph hosts).answers (Ok rows)
    unfolding host_rows
    rows_done rates addresses rows h k e = (ordered, order, (rates, h, (addresses, k, ap Ok (sym e))))

-- no file is read
never_fails : (name : List ℕ) (graph : Graph) (hosts : List HostConfig) (file : List ℕ) → (host_rows name graph hosts).reaches file → ⊥
unfolding host_rows
never_fails name graph hosts file (inl h) = h
never_fails name graph hosts file (inr (ordered, order, inl h)) = h
never_fails name graph hosts file (inr (ordered, order, inr (rates, r, inl h))) = h
never_fails name graph hosts file (inr (ordered, order, inr (rates, r, inr (addresses, a, h)))) = h

pub rows_counted : (A : Type 0) (name : List ℕ) (graph : Graph) (hosts : List HostConfig) (stop : ReadStop) (faults : ℕ) → Stops (host_rows name graph hosts) stop
    → CountsSource {A = A} (Err stop) faults faults
rows_counted A name graph hosts (Refused fault) faults h = refl
rows_counted A name graph hosts (ReadFailed file) faults h = absurd (never_fails name graph hosts file h)
rows_counted A name graph hosts NoMemory faults h = refl
