-- The laws of rounds, for the hosts of a net.
use Rattle.std.proofs.Common.{◌≡◌, ◌≤◌, ℕ, List, ◌++◌, Some, map, refl, sym, ap, subst, ◌∙◌}
use Rattle.std.proofs.lemmas.List.Sorted.{IsPermutation-trans, All-permutation}
use Rattle.sim_base.specs.declared.event.Event.{Event}
use Rattle.host_link.specs.declared.line.Line.{Line}
use Rattle.host_state.specs.declared.host.Host.{Host}
use Rattle.host_link.specs.Net.{Net}
use Rattle.host_state.specs.Fits.{model}
use Rattle.host_state.specs.HostRecord.{HostRecord}
use Rattle.host_state.specs.HostStands.{Stands}
use Rattle.world_order.specs.Premises.{Simulation}
use Rattle.world_order.specs.Round as order
use Rattle.world_order.specs.Schedule.{after_all, fired_in, made_in}
use Rattle.world_order.specs.Settled.{AreLaid, Leaves, AreDueFrom}
use Rattle.world_order.specs.Window.{window_end}
use Rattle.world_order.specs.World as world
use Rattle.world_order.specs.World.{World, IsResult, fired_by}
use Rattle.world_order.specs.declared.round_window.Window.{Window}
use Rattle.world_order.specs.declared.step.Step.{Step}
use Rattle.world_order.proofs.RoundLaws.{front_law, packets_law, close_law}
use Rattle.round_schedule.specs.Leaving.{LeavesWorld}
use Rattle.round_schedule.specs.Opening.{MayOpenOn}
use Rattle.round_schedule.specs.Reaching.{State, Going, round_on}
use Rattle.round_schedule.specs.Standing.{EachStands, HostsStand, RoundStands, lines_of, written_at}
use Rattle.round_schedule.specs.declared.member.Member.{Member}
use Rattle.round_schedule.specs.declared.round.Round.{Round}
use Rattle.round_schedule.proofs.Sound.{sim_of, settled_of}

module _ (net : Net) (window : Window) (w : World HostRecord Line) (workers : ℕ) (steps : List Step) (opened : MayOpenOn net window w) where
  abbrev start_at : ℕ → State
  start_at end = order.Going (order.opened (model net) end workers w)

  abbrev sim : Simulation HostRecord Line
  sim = sim_of net window w opened

  end_is : window_end sim.lookahead net.stop.nanos window.from.nanos ≡ window.end.nanos
  end_is = sym opened.window.end

  -- each host has fired a front
  abbrev Front : State → World HostRecord Line → ℕ → Type 0
  Front s after end = (result : IsResult (model net) end after w) → after_all (model net) steps (start_at end) ≡ Some s
      → (rest : List Event) × ((host : ℕ) → order.events_at (model net) host (fired_by (model net) end after w result)
      ≡ order.events_at (model net) host (fired_in (model net) steps (start_at end)) ++ order.events_at (model net) host rest)

  pub front : (s : State) (after : World HostRecord Line) → Front s after window.end.nanos
  front s after = subst (Front s after) end_is
      (λ result leads. front_law sim net.stop.nanos window.from.nanos workers w (settled_of net window w opened) opened.due steps s leads after result)

  -- each packet stands once
  abbrev Laid : Going → ℕ → Type 0
  Laid r end = after_all (model net) steps (start_at end) ≡ Some (order.Going r) → AreLaid end r (made_in (model net) steps (start_at end))

  pub laid : (r : Going) → Laid r window.end.nanos
  laid r = subst (Laid r) end_is (λ leads. packets_law sim net.stop.nanos window.from.nanos workers w (settled_of net window w opened) opened.due steps r leads)

  -- the end
  abbrev Left : World HostRecord Line → World HostRecord Line → ℕ → Type 0
  Left after v end = IsResult (model net) end after w → after_all (model net) steps (start_at end) ≡ Some (order.Closed v) → Leaves end w after v

  pub left : (after v : World HostRecord Line) → Left after v window.end.nanos
  left after v = subst (Left after v) end_is
      (λ result leads. close_law sim net.stop.nanos window.from.nanos workers w (settled_of net window w opened) opened.due steps v leads after result)

pub leaves_world : (net : Net) (w after v : World HostRecord Line) (c : Round) → Leaves c.window.end.nanos w after v → RoundStands net w c (order.Closed v) → LeavesWorld net w c after
leaves_world net w after v c leaves stands = record {
  hosts = record {
    hosts = subst (λ (hs : List HostRecord). EachStands (λ i (d : Host) (h : HostRecord). Stands d h) (map (λ (m : Member). m.host) c.members.items) hs) leaves.hosts stands.hosts.hosts;
    events = IsPermutation-trans _ v.events after.events stands.hosts.events leaves.events;
    home = stands.hosts.home;
  };
  log = ap (λ (l : List (world.Logged Line)). w.log ++ l) stands.lines ∙ leaves.log;
  outputs = subst (λ (hs : List HostRecord). EachStands (λ i (m : Member) (h : HostRecord). h.written ≡ written_at w i ++ m.outputs.items) c.members.items hs) leaves.hosts stands.outputs;
  over = All-permutation (λ (e : Event). c.window.end.nanos ≤ e.key.due.nanos) v.events after.events leaves.events leaves.over;
}
