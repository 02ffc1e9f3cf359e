-- A host at the beginning may be run.
use Rattle.std.proofs.Common.{◌≡◌, ℕ, ◌<◌, ◌≤◌, [], length, All, sym, subst, arith, IsPermutation}
use Rattle.std.proofs.lemmas.List.Sorted.{All-permutation, IsPermutation-sym}
use Rattle.sim_base.specs.declared.event.Event.{Event}
use Rattle.host_state.specs.declared.host.Host.{Host}
use Rattle.host_link.specs.declared.line.Line.{Line}
use Rattle.host_link.specs.Net.{Net}
use Rattle.host_rows.specs.declared.row.Row.{Row}
use Rattle.host_state.specs.Fits.{FitsNet, IsEventOf, OpensFit}
use Rattle.host_link.specs.Home.{home}
use Rattle.host_state.specs.HostRecord.{HostRecord}
use Rattle.host_link.specs.Handing.{with_events}
use Rattle.host_state.specs.HostStands.{Begins}
use Rattle.host_state.specs.Opening.{opening}
use Rattle.host_state.specs.Running.{Owns, MayRun}
use Rattle.host_state.proofs.Openings.{opens_fit}
use Rattle.host_state.proofs.Queues.{begun}
use Rattle.world_order.specs.Model.{Fired}
use Rattle.world_order.proofs.Firings.{numbered_apart, numbered_below}
use Rattle.world_order.proofs.Members.{All_from_Each}

module _ (net : Net) (row : Row) (fits : FitsNet net row) where
  abbrev f : Fired HostRecord Line
  f = opening row

  opens : OpensFit net row.host.index f
  opens = opens_fit net row fits

  moved : IsPermutation (with_events f.made []) f.made
  moved = begun f.made [] (numbered_apart row.host.index 0 f.made opens.numbered)

  holds : (P : Event → Type 0) → All P f.made → All P (with_events f.made [])
  holds P all = All-permutation P f.made (with_events f.made []) (IsPermutation-sym (with_events f.made []) f.made moved) all

  begins_own : Owns net f.host.link (with_events f.made [])
  begins_own =
      let number : f.host.link.number ≡ row.host.index = opens.host.number in
      record {
        within = subst (λ (i : ℕ). i < length net.known.book) (sym number) opens.host.within;
        limited = opens.host.limited;
        up = opens.host.up;
        down = opens.host.down;
        events = holds (IsEventOf net) opens.events;
        home = holds (λ (e : Event). home net e ≡ f.host.link.number) (subst (λ (i : ℕ). All (λ (e : Event). home net e ≡ i) f.made) (sym number) opens.own);
        clock = holds (λ (e : Event). f.host.link.time.nanos ≤ e.key.due.nanos)
            (All_from_Each (λ (e : Event). f.host.link.time.nanos ≤ e.key.due.nanos) f.made (λ e there. (let zero = opens.clock in omega arith)));
        below = holds (λ (e : Event). e.key.source.index ≡ f.host.link.number → e.key.number < f.host.link.next)
            (All_from_Each (λ (e : Event). e.key.source.index ≡ f.host.link.number → e.key.number < f.host.link.next) f.made
            (λ e there source. (let counted = opens.counted in let below = numbered_below row.host.index 0 f.made opens.numbered e there in omega arith)));
      }

  pub begins_runs : (c : Host) → Begins row c → MayRun net c
  begins_runs c begins = (f.host, begins.host, subst (Owns net f.host.link) (sym begins.queue) begins_own)
