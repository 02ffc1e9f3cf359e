use Rattle.std.proofs.Common.{refl, Some, None}
use Rattle.std.proofs.lemmas.Result.{on_ok_weaker}
use Rattle.host_state.proofs.Firings.{gone, not_gone}
use Rattle.host_state.proofs.host.Body.go.Goals as goal

pub returns-in-None : goal.returns-in-None
returns-in-None c = not_gone c.args.net.now c.args.process c.args.self.now c.in-None.ensures

pub returns-in-Some-kept : goal.returns-in-Some-kept
returns-in-Some-kept c =
    on_ok_weaker c.call_again.result
    (gone c.args.net.now c.args.process c.args.self.now c.call_again.new.self _ (Some c.in-Some-kept.why) c.in-Some.ensures c.in-Some-kept.ensures c.in-Some.running refl)
    c.call_again.ensures

pub returns-in-None-kept : goal.returns-in-None-kept
returns-in-None-kept c =
    on_ok_weaker c.run.result
    (gone c.args.net.now c.args.process c.args.self.now c.run.new.self _ None c.in-Some.ensures c.in-None-kept.ensures c.in-Some.running refl)
    c.run.ensures
