use Rattle.std.proofs.Common.{◌≡◌, length, refl, ◌∙◌, Vec, Global}
use Rattle.std.proofs.lemmas.List.{length-map}
use Rattle.std.proofs.lemmas.Result.{IfOk-weaker}
use Rattle.sim_base.specs.declared.host.HostId.{HostId}
use Rattle.round_lookahead.specs.inside.Shares.{tasks_in}
use Rattle.round_lookahead.proofs.PlaceSteps.{due_is, in_place_is}
use Rattle.round_lookahead.proofs.world.settling_in_place.round_in_shares.Goals as goal

pub returns-clause-round : goal.returns-clause-round
returns-clause-round g c =
    IfOk-weaker c.settle_in_place.result _ _
    (λ ran so. in_place_is c.args.net.now c.args.end.nanos (tasks_in c.args.shares.items) _ c.in_ok-back.field-0.alone _ c.in_ok-back.ensures.run c.requires.tasks c.requires.few c.settle_in_place.new.tasks ran _ so
    refl (length c.args.shares.items) (length-map c.in_ok-back.field-0.took.items (λ (v : Vec HostId Global). v.items) ∙ c.in_ok-back.ensures.took))
    c.settle_in_place.ensures

pub returns-clause-due : goal.returns-clause-due
returns-clause-due g c =
    IfOk-weaker c.settle_in_place.result _ _
    (λ ran so. due_is c.args.net.now c.args.end.nanos (tasks_in c.args.shares.items) _ c.in_ok-back.field-0.alone _ c.in_ok-back.ensures.run c.requires.tasks c.requires.few c.settle_in_place.new.tasks ran _ so refl)
    c.settle_in_place.ensures
