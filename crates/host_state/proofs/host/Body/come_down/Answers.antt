use Rattle.std.proofs.lemmas.Result.{on_ok_weaker}
use Rattle.host_state.proofs.Acts.{came_down}
use Rattle.host_state.proofs.host.Body.come_down.Goals as goal

pub returns : goal.returns
returns c =
    on_ok_weaker c.make_if.result
    (came_down c.args.net.now c.args.self.now c.hand_over_all.new.self c.in_ok-released.released _ c.drop_all.new.self c.make_if.new.self
    c.in_ok-released.ensures c.in_ok-drop_all.ensures c.in_ok-hand_over_all.ensures)
    c.make_if.ensures
