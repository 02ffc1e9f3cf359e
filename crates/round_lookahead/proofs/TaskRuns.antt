-- A task's host that is run up to the end.
use Rattle.std.proofs.Common.{◌≡◌, ℕ, ◌<◌, ◌≤◌, List, [], ◌++◌, All, map, length, refl, sym, ap, subst, ◌∙◌, IsPermutation, Vec}
use Rattle.std.specs.declared.alloc.Global.{Global}
use Rattle.std.proofs.lemmas.List.Sorted.{All-permutation, IsPermutation-sym}
use Rattle.sim_base.specs.Units.{latest_time}
use Rattle.sim_base.specs.declared.event.Event.{Event}
use Rattle.sim_base.specs.declared.event.Parcel.{Parcel}
use Rattle.sim_base.specs.declared.time.Time.{Time}
use Rattle.file_calls.specs.declared.task.Output.{Output}
use Rattle.host_state.specs.declared.host.Host.{Host}
use Rattle.host_link.specs.declared.line.Logged.{Logged}
use Rattle.host_link.specs.Net.{Net}
use Rattle.host_link.specs.declared.outbox.Outbox.{Outbox}
use Rattle.host_state.specs.Fits.{model, IsEventOf}
use Rattle.host_link.specs.Home.{home}
use Rattle.host_state.specs.HostRecord.{HostRecord}
use Rattle.host_state.specs.HostStands.{IsSameBody, Stands}
use Rattle.host_link.specs.Link.{LinkState}
use Rattle.host_link.specs.Outbox as out
use Rattle.host_link.specs.Parcels.{parcel_event}
use Rattle.host_state.specs.Running.{Owns, MayRun, RunsUntil, kept_line}
use Rattle.world_order.specs.WholeTurns.{RunsTo}
use Rattle.world_order.proofs.Members.{Each_from_All, All_from_Each}
use Rattle.round_lookahead.specs.declared.workers.host_task.HostTask.{HostTask}
use Rattle.round_lookahead.specs.declared.workers.worked.Done.{Done}
use Rattle.round_parts.specs.Arrivals.{Boxed, arrivals}
use Rattle.round_lookahead.specs.Tasks.{IsTask, waiting}
use Rattle.round_lookahead.specs.Works.{IsRunOf}
use Rattle.round_lookahead.proofs.Packets.{IsOwn, packets_events, parcels_within}

pub owns_permutation : (net : Net) (link : LinkState) (q r : List Event) → IsPermutation q r → Owns net link q → Owns net link r
owns_permutation net link q r p owns = record {
  within = owns.within;
  limited = owns.limited;
  up = owns.up;
  down = owns.down;
  events = All-permutation (IsEventOf net) q r p owns.events;
  home = All-permutation (λ (e : Event). home net e ≡ link.number) q r p owns.home;
  clock = All-permutation (λ (e : Event). link.time.nanos ≤ e.key.due.nanos) q r p owns.clock;
  below = All-permutation (λ (e : Event). e.key.source.index ≡ link.number → e.key.number < link.next) q r p owns.below;
}

-- a host that stands for two records has one link
owns_of : (net : Net) (c : Host) (g h : HostRecord) (q : List Event) → Stands c g → Stands c h → Owns net g.link q → Owns net h.link q
owns_of net c g h q s t owns = subst (λ (l : LinkState). Owns net l q) (sym s.body.link ∙ t.body.link) owns

-- the host holds all that waited, and is the same otherwise
module _ (t : HostTask) (start joined again : Host) (parcels : Vec Boxed Global) (start_is : start ≡ t.host.value) (parcels_are : parcels ≡ t.parcels) (again_is : again ≡ joined) where
  pub all_joined : IsPermutation joined.queue (start.queue ++ arrivals parcels.items) → IsPermutation again.queue (waiting t)
  all_joined moved =
      subst (λ (h : Host). IsPermutation h.queue (waiting t)) (sym again_is)
      (subst (λ (h : Host). IsPermutation joined.queue (h.queue ++ arrivals t.parcels.items)) start_is
      (subst (λ (v : Vec Boxed Global). IsPermutation joined.queue (start.queue ++ arrivals v.items)) parcels_are moved))

  pub stands_joined : IsSameBody start joined → (h : HostRecord) → Stands t.host.value h → Stands again h
  stands_joined body h is = subst (λ (x : Host). Stands x h) (sym again_is) (body h (subst (λ (x : Host). Stands x h) (sym start_is) is))

module _ (net : Net) (t : HostTask) (joined : Host) (moved : IsPermutation joined.queue (waiting t)) where
  owned : (number : ℕ) (h : HostRecord) → IsTask net number t h → Owns net h.link joined.queue
  owned number h is = owns_permutation net h.link (waiting t) joined.queue (IsPermutation-sym joined.queue (waiting t) moved) is.owns

  -- its host, with its parcels, may be run
  pub may_run : (number : ℕ) (h : HostRecord) → IsTask net number t h → Stands joined h → MayRun net joined
  may_run number h is stands = (h, stands, owned number h is)

  module _ (early : net.stop.nanos ≤ latest_time) (end : Time) (h : HostRecord) (number : ℕ) (is : IsTask net number t h) (new : Host) (before after : Outbox)
      (ran : RunsUntil net end h joined new before after) where
    runs : RunsTo (model net) number end.nanos h joined.queue ran.ran
    runs = subst (λ (n : ℕ). RunsTo (model net) n end.nanos h joined.queue ran.ran) is.numbered ran.runs

    own : IsOwn net number h joined.queue
    own =
        let o = owned number h is in
        record {
          good = record { number = is.numbered; within = subst (λ (n : ℕ). n < length net.known.book) is.numbered o.within; limited = o.limited; up = o.up; down = o.down; made = is.stands.made; lines = is.stands.lines };
          events = Each_from_All (IsEventOf net) joined.queue o.events;
          home = λ x i. Each_from_All (λ (e : Event). home net e ≡ h.link.number) joined.queue o.home x i ∙ is.numbered;
          clock = Each_from_All (λ (e : Event). h.link.time.nanos ≤ e.key.due.nanos) joined.queue o.clock;
        }

    events : All (IsEventOf net) ran.ran.packets
    events = All_from_Each (IsEventOf net) ran.ran.packets (packets_events net early number end.nanos h joined.queue ran.ran own runs)

    pub made : (ps : List Parcel) → before.parcels.items ≡ [] → ps ≡ after.parcels.items → ps ≡ out.parcels_of net number ran.ran.packets
    made ps none is_after = is_after ∙ ran.parcels ∙ ap (λ (l : List Parcel). l ++ out.parcels_of net h.link.number ran.ran.packets) none ∙ ap (λ (n : ℕ). out.parcels_of net n ran.ran.packets) is.numbered

    -- its parcels go to hosts of the net
    pub to_within : out.IsEmpty before → All (λ (p : Parcel). p.to.index < length net.known.book) after.parcels.items
    to_within empty = subst (All (λ (p : Parcel). p.to.index < length net.known.book)) (sym (made after.parcels.items empty.parcels refl)) (parcels_within net number ran.ran.packets events)

    pub run_of : out.IsEmpty before → MayRun net new → (d : Done) → d.id.index ≡ number → d.host.value ≡ new → d.lines.items ≡ after.lines.items → d.outputs.items ≡ after.outputs.items
        → IsRunOf net end.nanos number t h ran.ran d
    run_of empty may d id host_is lines_are outputs_are = record {
      id = id;
      start = joined.queue;
      joined = moved;
      runs = runs;
      stands = subst (λ (c : Host). Stands c ran.ran.host) (sym host_is) ran.host;
      queue = subst (λ (c : Host). IsPermutation c.queue ran.ran.queue) (sym host_is) ran.queue;
      over = subst (λ (c : Host). All (λ (e : Event). end.nanos ≤ e.key.due.nanos) c.queue) (sym host_is) ran.over;
      owns = subst (λ (c : Host). Owns net ran.ran.host.link c.queue) (sym host_is) (owns_of net new may.0 ran.ran.host new.queue may.1 ran.host may.2);
      lines = lines_are ∙ ran.lines ∙ ap (λ (l : List Logged). l ++ map kept_line ran.ran.lines) empty.lines;
      written = ran.written ∙ ap (λ (l : List Output). h.written ++ l) (sym (outputs_are ∙ ran.outputs ∙ ap (λ (l : List Output). l ++ ran.wrote) empty.outputs));
      events = events;
      packets = subst (λ (n : ℕ). map parcel_event (out.parcels_of net n ran.ran.packets) ≡ ran.ran.packets) is.numbered ran.packets;
    }
