use Rattle.std.proofs.Common.{◌≡◌, [], ◌∷◌, sym, subst}
use Rattle.host_link.specs.Net.{Net}
use Rattle.host_state.specs.Fits.{model}
use Rattle.world_order.specs.Steps.{after_step}
use Rattle.world_order.specs.declared.step.Step.{Step}
use Rattle.round_schedule.specs.Reaching.{May, Does, Goes}
use Rattle.round_schedule.specs.declared.round.Round.{Round}
use Rattle.round_schedule.proofs.Going.{may_step, step_goes, on_ok}
use Rattle.round_schedule.proofs.round.Round.apply.Goals as goal

-- a step of this kind, by the step that it is
as_kind : (net : Net) (step kind : Step) (c : Round) → step ≡ kind → May net (after_step (model net) step) c → May net (after_step (model net) kind) c
as_kind net step kind c is may = subst (λ (s : Step). May net (after_step (model net) s) c) is may

goes_as : (net : Net) (step kind : Step) (c d : Round) → step ≡ kind → Does net (after_step (model net) kind) c d → Goes net (step ∷ []) c d
goes_as net step kind c d is does = step_goes net step c d (subst (λ (s : Step). Does net (after_step (model net) s) c d) (sym is) does)

pub take_host-requires : goal.take_host-requires
take_host-requires c = (c.args.net.now, as_kind c.args.net.now c.args.step _ c.args.self.now c.in-Take.is (may_step c.args.net.now c.args.step c.args.self.now c.requires))

pub returns-in-Take-clause-goes : goal.returns-in-Take-clause-goes
returns-in-Take-clause-goes c = goes_as c.args.net.now c.args.step _ c.args.self.now c.take_host.new.self c.in-Take.is (c.take_host.ensures c.args.net.now)

pub returns-in-Take-clause-window : goal.returns-in-Take-clause-window
returns-in-Take-clause-window c = (c.take_host.ensures c.args.net.now).window

pub fire_host-requires : goal.fire_host-requires
fire_host-requires c = as_kind c.args.net.now c.args.step _ c.args.self.now c.in-Fire.is (may_step c.args.net.now c.args.step c.args.self.now c.requires)

pub returns-in-Fire-clause-goes : goal.returns-in-Fire-clause-goes
returns-in-Fire-clause-goes c = on_ok c.fire_host.result _ _ (λ d. goes_as c.args.net.now c.args.step _ c.args.self.now c.fire_host.new.self c.in-Fire.is (d)) c.fire_host.ensures

pub put_packet-requires : goal.put_packet-requires
put_packet-requires c = (c.args.net.now, as_kind c.args.net.now c.args.step _ c.args.self.now c.in-Put.is (may_step c.args.net.now c.args.step c.args.self.now c.requires))

pub returns-in-Put-clause-goes : goal.returns-in-Put-clause-goes
returns-in-Put-clause-goes c = on_ok c.put_packet.result _ _ (λ d. goes_as c.args.net.now c.args.step _ c.args.self.now c.put_packet.new.self c.in-Put.is (d c.args.net.now)) c.put_packet.ensures

pub returns-in-Put-clause-window : goal.returns-in-Put-clause-window
returns-in-Put-clause-window c = on_ok c.put_packet.result _ _ (λ d. (d c.args.net.now).window) c.put_packet.ensures

pub give_back-requires : goal.give_back-requires
give_back-requires c = (c.args.net.now, as_kind c.args.net.now c.args.step _ c.args.self.now c.in-Back.is (may_step c.args.net.now c.args.step c.args.self.now c.requires))

pub returns-in-Back-clause-goes : goal.returns-in-Back-clause-goes
returns-in-Back-clause-goes c = goes_as c.args.net.now c.args.step _ c.args.self.now c.give_back.new.self c.in-Back.is (c.give_back.ensures c.args.net.now)

pub returns-in-Back-clause-window : goal.returns-in-Back-clause-window
returns-in-Back-clause-window c = (c.give_back.ensures c.args.net.now).window

pub close-requires : goal.close-requires
close-requires c = (c.args.net.now, as_kind c.args.net.now c.args.step _ c.args.self.now c.in-Close.is (may_step c.args.net.now c.args.step c.args.self.now c.requires))

pub returns-in-Close-clause-goes : goal.returns-in-Close-clause-goes
returns-in-Close-clause-goes c = on_ok c.close.result _ _ (λ d. goes_as c.args.net.now c.args.step _ c.args.self.now c.close.new.self c.in-Close.is (d c.args.net.now)) c.close.ensures

pub returns-in-Close-clause-window : goal.returns-in-Close-clause-window
returns-in-Close-clause-window c = on_ok c.close.result _ _ (λ d. (d c.args.net.now).window) c.close.ensures
