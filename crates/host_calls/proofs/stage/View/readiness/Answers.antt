use Rattle.std.proofs.Common.{sym, ◌∙◌}
use Rattle.host_calls.specs.inside.Stage.{scene_in}
use Rattle.host_calls.proofs.Objects.{other_ready}
use Rattle.host_calls.proofs.stage.View.readiness.Goals as goal

pub returns-in_default : goal.returns-in_default
returns-in_default c = λ t h.
    let v = c.args.self.now in
    c.object_ready.ensures t h ∙ sym (other_ready v.time c.args.object (scene_in v t) c.in_default.not-Epoll)
