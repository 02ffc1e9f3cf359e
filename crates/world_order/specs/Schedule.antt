-- A list of steps, each allowed in its turn, and the events that fire and the packets that are made on the way.
use Rattle.std.specs.Prelude.{◌==◌, not, List, [], ◌∷◌, ◌++◌, filter, Option, Some, None, option_and_then, option_map, option_to_list}
use Rattle.sim_base.specs.declared.event.Event.{Event}
use Rattle.world_order.specs.Model.{Model}
use Rattle.world_order.specs.Round.{State, Going}
use Rattle.world_order.specs.Steps.{Ready, ready, after}
use Rattle.world_order.specs.declared.step.Step.{Step}
use Rattle.world_order.specs.declared.step.Step.TheVariants.{Fire}

module _ {H L : Type 0} where
  -- where a list of steps leads, if each is allowed in its turn
  unfoldable pub after_all : Model H L → List Step → State H L → Option (State H L)
  after_all m [] s = Some s
  after_all m (step ∷ steps) s = option_and_then (after_all m steps) (after m step s)

  -- of the state that is reached
  abbrev pub on_way : (State H L → List Event) → Option (State H L) → List Event
  on_way f None = []
  on_way f (Some s) = f s

  -- the firing that a step is
  abbrev pub firing : Step → State H L → Option (Ready H)
  firing (Fire w) (Going r) = ready w r
  firing _ _ = None

  -- the event that a step fires
  abbrev pub fired : Step → State H L → List Event
  fired step s = option_to_list (option_map (λ (t : Ready H). t.event) (firing step s))

  -- the packets for other hosts that it makes
  abbrev pub packets_made : Model H L → Ready H → List Event
  packets_made m t = filter (λ e. not (m.home e == t.number)) (m.fire t.number t.member.host t.event).made

  abbrev pub made_by : Model H L → Option (Ready H) → List Event
  made_by m None = []
  made_by m (Some t) = packets_made m t

  abbrev pub made : Model H L → Step → State H L → List Event
  made m step s = made_by m (firing step s)

  -- the same of a list of steps
  unfoldable pub fired_in : Model H L → List Step → State H L → List Event
  fired_in m [] s = []
  fired_in m (step ∷ steps) s = fired step s ++ on_way (fired_in m steps) (after m step s)

  unfoldable pub made_in : Model H L → List Step → State H L → List Event
  made_in m [] s = []
  made_in m (step ∷ steps) s = made m step s ++ on_way (made_in m steps) (after m step s)
