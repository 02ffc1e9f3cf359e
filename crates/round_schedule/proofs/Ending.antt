-- What closed rounds leave, and where rounds one after another lead.
use Rattle.std.proofs.Common.{◌≡◌, ◌≤◌, ℕ, List, Some, refl, sym, subst}
use Rattle.std.proofs.lemmas.List.Sorted.{IsPermutation-sym}
use Rattle.sim_base.specs.declared.event.Event.{Event}
use Rattle.host_state.specs.Fits.{model}
use Rattle.host_state.specs.HostRecord.{HostRecord}
use Rattle.host_state.specs.World.{World, IsResult}
use Rattle.host_link.specs.declared.line.Line.{Line}
use Rattle.host_link.specs.Net.{Net}
use Rattle.world_order.specs.Premises.{Simulation}
use Rattle.world_order.specs.Round.{Going, Closed, opened}
use Rattle.world_order.specs.Rounds.{after_round, IsSameWorld}
use Rattle.world_order.specs.Schedule.{after_all}
use Rattle.world_order.specs.Settled.{IsSettled, Leaves}
use Rattle.world_order.specs.Window.{window_end}
use Rattle.world_order.specs.World as order
use Rattle.world_order.specs.declared.round_window.Window.{Window}
use Rattle.world_order.specs.declared.step.Step.{Step}
use Rattle.world_order.proofs.Members.{Each_from_All}
use Rattle.world_order.proofs.Orders.{closed_model, closed_same, closed_settled, result_same, run_goes_on, same_refl, same_sym, same_trans, settled_same, window_upto}
use Rattle.world_order.proofs.Results.{at_most_one, settled_result}
use Rattle.world_order.proofs.Turns.{next-none}
use Rattle.round_schedule.specs.Opening.{IsBetween, MayOpenOn}
use Rattle.round_schedule.specs.Reaching.{round_on}
use Rattle.round_schedule.specs.Rounds.{AreRounds, are_over, go_on}
use Rattle.round_schedule.proofs.Sound.{sim_of, settled_of}

module _ (net : Net) (window : Window) (w : World) (may : MayOpenOn net window w) where
  abbrev sim : Simulation HostRecord Line
  sim = sim_of net window w may

  abbrev stop : ℕ
  stop = net.stop.nanos

  abbrev least : ℕ
  least = window.from.nanos

  -- the end, as the laws of rounds tell it
  abbrev end : ℕ
  end = window_end sim.lookahead stop least

  settled : IsSettled sim w
  settled = settled_of net window w may

  to_end : (workers : ℕ) (steps : List Step) (v : World) → after_all (model net) steps (round_on net window workers w) ≡ Some (Closed v)
      → after_all (model net) steps (Going (opened (model net) end workers w)) ≡ Some (Closed v)
  to_end workers steps v leads = subst (λ (n : ℕ). after_all (model net) steps (Going (opened (model net) n workers w)) ≡ Some (Closed v)) may.window.end leads

  settled_is_between : (v : World) → IsSettled sim v → IsBetween net v
  settled_is_between v s = record { count = s.count; hosts = s.hosts; apart = s.apart; below = s.below; events = s.events; clock = s.clock }

  -- a world between rounds is left
  pub closed_between : (workers : ℕ) (steps : List Step) (v : World) → after_all (model net) steps (round_on net window workers w) ≡ Some (Closed v) → IsBetween net (after_round w v)
  closed_between workers steps v leads = settled_is_between (after_round w v) (closed_settled sim stop least workers w v steps settled may.due (to_end workers steps v leads))

  pub closed_alike : (workers others : ℕ) (v u : World) (steps more : List Step) → after_all (model net) steps (round_on net window workers w) ≡ Some (Closed v)
      → after_all (model net) more (round_on net window others w) ≡ Some (Closed u) → IsSameWorld v u
  closed_alike workers others v u steps more left right =
      closed_same sim stop least workers others w v u steps more settled may.due (to_end workers steps v left) (to_end others more u right)

  left_same : (model closed : World) → Leaves end w model closed → IsSameWorld model (after_round w closed)
  left_same model closed leaves = record { hosts = sym leaves.hosts; events = IsPermutation-sym closed.events model.events leaves.events; log = sym leaves.log }

  -- a result of what is left is one of the world before, but for the order of events
  pub closed_goes_on : (workers : ℕ) (steps : List Step) (v r : World) → after_all (model net) steps (round_on net window workers w) ≡ Some (Closed v) → IsResult net r (after_round w v)
      → (t : World) × IsResult net t w × IsSameWorld r t
  closed_goes_on workers steps v r leads result =
      let c = closed_model sim stop least workers w v steps settled may.due (to_end workers steps v leads) in
      let same : IsSameWorld c.0 (after_round w v) = left_same c.0 v c.2 in
      let left : IsSettled sim (after_round w v) = settled_same sim c.0 (after_round w v) same (settled_result sim end c.0 w settled c.1) in
      let moved = result_same sim stop r (after_round w v) c.0 left (same_sym c.0 (after_round w v) same) result in
      (moved.0, run_goes_on (model net) end stop c.0 w moved.0 (window_upto sim.lookahead stop least) c.1 moved.1, moved.2)

-- rounds make up the run
rounds_run : (net : Net) (last w : World) → IsBetween net w → AreRounds net last w → (r : World) × IsResult net r w × IsSameWorld last r
rounds_run net last w between (are_over w' late same) = (
  w,
  order.is_over w (next-none (model net) net.stop.nanos w (Each_from_All (λ (e : Event). net.stop.nanos ≤ e.key.due.nanos) w.events late)) refl,
  subst (λ (x : World). IsSameWorld x w) same (same_refl w),
)
rounds_run net last w between (go_on w' closed window workers steps is_window due leads more) =
    let may : MayOpenOn net window w = record { window = is_window; between = between; due = due } in
    let later = rounds_run net last (after_round w closed) (closed_between net window w may workers steps closed leads) more in
    let moved = closed_goes_on net window w may workers steps closed later.0 leads later.1 in
    (moved.0, moved.1, same_trans last later.0 moved.0 later.2 moved.2)

pub rounds_result : (net : Net) (w last result : World) → IsBetween net w → AreRounds net last w → IsResult net result w → IsSameWorld last result
rounds_result net w last result between rounds is =
    let r = rounds_run net last w between rounds in
    subst (IsSameWorld last) (at_most_one (model net) net.stop.nanos r.0 result w r.1 is) r.2
