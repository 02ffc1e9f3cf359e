-- What holds in each state that a round reaches.
use Rattle.std.proofs.Common.{◌≡◌, ℕ, ◌-◌, ◌^◌, ◌<◌, ◌≤◌, List, [], ◌∷◌, ◌++◌, All, length, map, flat_map, Option, Some, slice_get, refl, sym, ap, subst, ◌∙◌, arith, IsPermutation}
use Rattle.std.proofs.lemmas.List.Sorted.{All-permutation, IsPermutation-sym}
use Rattle.sim_base.specs.declared.event.Event.{Event}
use Rattle.host_state.specs.declared.host.Host.{Host}
use Rattle.host_link.specs.declared.line.Line.{Line}
use Rattle.host_link.specs.Net.{Net}
use Rattle.host_state.specs.Fits.{model, IsEventOf, IsHostOf}
use Rattle.host_link.specs.Home.{home}
use Rattle.host_state.specs.HostRecord.{HostRecord}
use Rattle.host_state.specs.HostStands.{Stands}
use Rattle.host_state.specs.Running.{Owns}
use Rattle.host_link.specs.Link.{LinkState}
use Rattle.host_state.proofs.Simulations.{simulation, home_within}
use Rattle.net_iface.specs.Lane.{AllFit}
use Rattle.world_order.specs.EventOrder.{AreApart}
use Rattle.world_order.specs.Premises.{Simulation}
use Rattle.world_order.specs.Round as order
use Rattle.world_order.specs.Schedule.{after_all, fired_in, made_in}
use Rattle.world_order.specs.Settled.{IsSettled, number_of}
use Rattle.world_order.specs.World.{World}
use Rattle.world_order.specs.declared.round_window.Window.{Window}
use Rattle.world_order.specs.declared.step.Step.{Step}
use Rattle.world_order.proofs.Apart.{AreApart_permutation, apart_left}
use Rattle.world_order.proofs.Fires.{in_part, get-map}
use Rattle.world_order.proofs.Members.{IsIn, IsIn_left, Each, Each_from_All, All_from_Each}
use Rattle.world_order.proofs.Openings.{opened_good, opened_alike}
use Rattle.world_order.proofs.Parts.{part, others}
use Rattle.world_order.proofs.RoundStates.{round_scene, queues_of, IsGood}
use Rattle.world_order.proofs.Runs.{Runs, rests, turns}
use Rattle.world_order.proofs.Scenes.{Scene, IsAlike, IsSound, IsWithin, sound_turned}
use Rattle.world_order.proofs.Schedules.{Reached, reached, sound_alike}
use Rattle.world_order.proofs.Worlds.{scene_of, sound_of, within_window}
use Rattle.round_schedule.specs.Opening.{MayOpenOn}
use Rattle.round_schedule.specs.Reaching.{State, Going, IsReached}
use Rattle.round_schedule.specs.Standing.{MemberStands}
use Rattle.round_schedule.specs.declared.member.Member.{Member}

-- what holds of a scene holds after turns
runs_sound : {H L : Type 0} (sim : Simulation H L) (start end : ℕ) (within : IsWithin sim.lookahead start end) (r : Scene H L) (es : List Event) (s : Scene H L)
    → Runs sim.model end r es s → IsSound sim start end s → IsSound sim start end r
runs_sound sim start end within r es s (rests s' alike) sound = sound_alike sim start end s r alike sound
runs_sound sim start end within r es s (turns s' e more may rest) sound =
    runs_sound sim start end within r more _ rest (sound_turned sim start end within e s sound may)

-- hosts of a world between rounds are those of a simulation
module _ (net : Net) (window : Window) (w : World HostRecord Line) (opened : MayOpenOn net window w) where
  abbrev pub sim_of : Simulation HostRecord Line
  sim_of = simulation net opened.window.lookahead opened.window.routes opened.window.short opened.window.stop

  pub settled_of : IsSettled sim_of w
  settled_of = record {
    count = opened.between.count;
    apart = opened.between.apart;
    below = opened.between.below;
    events = opened.between.events;
    hosts = opened.between.hosts;
    limited = λ i h at. (opened.between.hosts i h at).limited;
    clock = opened.between.clock;
  }

  pub within_of : IsWithin sim_of.lookahead window.from.nanos window.end.nanos
  within_of = subst (IsWithin sim_of.lookahead window.from.nanos) (sym opened.window.end) (within_window sim_of.lookahead net.stop.nanos window.from.nanos)

  abbrev from : ℕ
  from = window.from.nanos

  abbrev end : ℕ
  end = window.end.nanos

  homes : Each (λ (e : Event). home net e < length w.hosts) w.events
  homes e h = let b = home_within net e (Each_from_All (IsEventOf net) w.events opened.between.events e h) in let c = opened.between.count in omega arith

  module _ (workers : ℕ) where
    abbrev start : Going
    start = order.opened (model net) end workers w

    sound_start : IsSound sim_of from end (round_scene w.log start)
    sound_start =
        sound_alike sim_of from end (scene_of w) (round_scene w.log start) (opened_alike (model net) end workers w settled_of.apart homes) (sound_of sim_of from end w settled_of opened.due)

    found : (steps : List Step) (s : State) → after_all (model net) steps (order.Going start) ≡ Some s
        → Reached (model net) end w.log start (fired_in (model net) steps (order.Going start)) (made_in (model net) steps (order.Going start)) s
    found steps s leads = reached sim_of from end within_of w.log steps start s leads (opened_good (model net) end workers w settled_of.apart) sound_start

-- a round that was reached is sound
pub record SoundRound (net : Net) (window : Window) (w : World HostRecord Line) (r : Going) : Type 0 where
  pub opened : MayOpenOn net window w
  pub good : IsGood (model net) window.end.nanos r
  pub sound : IsSound (sim_of net window w opened) window.from.nanos window.end.nanos (round_scene w.log r)

pub reached_sound : (net : Net) (window : Window) (w : World HostRecord Line) (r : Going) → IsReached net window w (order.Going r) → SoundRound net window w r
reached_sound net window w r reached =
    let f = found net window w reached.opened reached.workers reached.steps (order.Going r) reached.leads in
    let sim = sim_of net window w reached.opened in
    record {
      opened = reached.opened;
      good = subst (IsGood (model net) window.end.nanos) f.ends f.good;
      sound = subst (λ (u : Going). IsSound sim window.from.nanos window.end.nanos (round_scene w.log u)) f.ends
          (runs_sound sim window.from.nanos window.end.nanos (within_of net window w reached.opened) (round_scene w.log f.last) _ _ f.run
          (sound_start net window w reached.opened reached.workers));
    }

-- ---- each host

good_same : (net : Net) (i : ℕ) (h g : HostRecord) → h.link ≡ g.link → IsHostOf net i h → IsHostOf net i g
good_same net i h g same good = record {
  number = subst (λ (l : LinkState). l.number ≡ i) same good.number;
  within = good.within;
  limited = subst (λ (l : LinkState). l.next ≤ 2 ^ 64 - 1) same good.limited;
  up = subst (λ (l : LinkState). AllFit l.up.waiting) same good.up;
  down = subst (λ (l : LinkState). AllFit l.down.waiting) same good.down;
  made = subst (λ (l : LinkState). l.made ≡ []) same good.made;
  lines = subst (λ (l : LinkState). l.lines ≡ []) same good.lines;
}

-- what holds of a host of the code and of the events that it holds
pub record SoundHost (net : Net) (i : ℕ) (c : Host) : Type 0 where
  pub apart : AreApart c.queue
  pub events : All (IsEventOf net) c.queue
  pub home : All (λ (e : Event). home net e ≡ i) c.queue
  pub good : (h : HostRecord) → Stands c h → IsHostOf net i h
  pub clock : (h : HostRecord) → Stands c h → All (λ (e : Event). h.link.time.nanos ≤ e.key.due.nanos) c.queue
  pub below : (h : HostRecord) → Stands c h → All (λ (e : Event). e.key.source.index ≡ i → e.key.number < h.link.next) c.queue

-- the events that it holds are its own
pub sound_owns : (net : Net) (i : ℕ) (c : Host) → SoundHost net i c → (h : HostRecord) → Stands c h → Owns net h.link c.queue
sound_owns net i c sound h s =
    let good = sound.good h s in
    record {
      within = subst (λ (n : ℕ). n < length net.known.book) (sym good.number) good.within;
      limited = good.limited;
      up = good.up;
      down = good.down;
      events = sound.events;
      home = subst (λ (n : ℕ). All (λ (e : Event). home net e ≡ n) c.queue) (sym good.number) sound.home;
      clock = sound.clock h s;
      below = subst (λ (n : ℕ). All (λ (e : Event). e.key.source.index ≡ n → e.key.number < h.link.next) c.queue) (sym good.number) (sound.below h s);
    }

module _ (net : Net) (window : Window) (w : World HostRecord Line) (r : Going) (sound : SoundRound net window w r) (i : ℕ) (x : order.Member HostRecord) (at : slice_get r.members i ≡ Some x) where
  abbrev queue_of : order.Member HostRecord → List Event
  queue_of y = y.queue

  host_at : slice_get (map (λ (y : order.Member HostRecord). y.host) r.members) i ≡ Some x.host
  host_at = get-map (λ (y : order.Member HostRecord). y.host) r.members i x at

  there : (e : Event) → IsIn e x.queue → IsIn e (order.events_of r)
  there e h = IsIn_left e (queues_of r) (order.packets_of r) (in_part queue_of r.members i x e at h)

  -- an event that the host itself made has a number that it gave
  numbered : (e : Event) → IsIn e (order.events_of r) → e.key.source.index ≡ i → e.key.number < x.host.link.next
  numbered e h source =
      subst (λ (o : Option HostRecord). e.key.number < number_of (model net) o)
      (ap (slice_get (map (λ (y : order.Member HostRecord). y.host) r.members)) source ∙ host_at) (sound.sound.below e h)

  pub apart_here : AreApart x.queue
  apart_here =
      apart_left x.queue (others queue_of r.members i)
      (AreApart_permutation (queues_of r) (x.queue ++ others queue_of r.members i) (part queue_of r.members i x at)
      (apart_left (queues_of r) (order.packets_of r) sound.good.apart))

  -- the host that stands for a member of a round that was reached
  pub sound_host_is : (c : Host) → Stands c x.host → IsPermutation c.queue x.queue → SoundHost net i c
  sound_host_is c stands moved =
      let back = IsPermutation-sym c.queue x.queue moved in
      let link : (h : HostRecord) → Stands c h → x.host.link ≡ h.link = λ h s. sym stands.body.link ∙ s.body.link in
      record {
        apart = AreApart_permutation x.queue c.queue back apart_here;
        events = All-permutation (IsEventOf net) x.queue c.queue back (All_from_Each (IsEventOf net) x.queue (λ e h. sound.sound.events e (there e h)));
        home = All-permutation (λ (e : Event). home net e ≡ i) x.queue c.queue back (All_from_Each (λ (e : Event). home net e ≡ i) x.queue (sound.good.members i x at).home);
        good = λ h s. good_same net i x.host h (link h s) (sound.sound.hosts i x.host host_at);
        clock = λ h s. All-permutation (λ (e : Event). h.link.time.nanos ≤ e.key.due.nanos) x.queue c.queue back
            (All_from_Each (λ (e : Event). h.link.time.nanos ≤ e.key.due.nanos) x.queue
            (λ e is. subst (λ (l : LinkState). l.time.nanos ≤ e.key.due.nanos) (link h s)
            (sound.sound.own_clock e x.host (there e is) (ap (slice_get (map (λ (y : order.Member HostRecord). y.host) r.members)) ((sound.good.members i x at).home e is) ∙ host_at))));
        below = λ h s. All-permutation (λ (e : Event). e.key.source.index ≡ i → e.key.number < h.link.next) x.queue c.queue back
            (All_from_Each (λ (e : Event). e.key.source.index ≡ i → e.key.number < h.link.next) x.queue
            (λ e is source. subst (λ (l : LinkState). e.key.number < l.next) (link h s) (numbered e (there e is) source)));
      }
