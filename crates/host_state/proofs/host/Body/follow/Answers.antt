use Rattle.std.proofs.Common.{sym, subst}
use Rattle.std.proofs.lemmas.Result.{on_ok_weaker}
use Rattle.host_state.specs.declared.slice.Next.{Next}
use Rattle.host_state.specs.Step.{step_with}
use Rattle.host_state.specs.Slice.{follows, slice}
use Rattle.host_state.specs.StandsFor.{Does}
use Rattle.host_state.specs.HostRecord.{HostRecord}
use Rattle.host_state.proofs.Slices.{followed_on, followed_blocked, followed_ended}
use Rattle.host_state.proofs.host.Body.follow.Goals as goal

pub returns-in-GoesOn : goal.returns-in-GoesOn
returns-in-GoesOn c =
    on_ok_weaker c.run.result
    (λ (d : Does (slice c.args.net.now c.args.process 99 c.args.cpu) c.args.self.now c.run.new.self).
    subst (λ (x : Next). Does (λ (h : HostRecord). follows c.args.net.now c.args.process (step_with x c.args.cpu, h)) c.args.self.now c.run.new.self) (sym c.in-GoesOn.is)
    (followed_on c.args.net.now c.args.process c.args.cpu c.args.self.now c.run.new.self d))
    c.run.ensures

pub returns-in-Blocks : goal.returns-in-Blocks
returns-in-Blocks c =
    subst (λ (x : Next). Does (λ (h : HostRecord). follows c.args.net.now c.args.process (step_with x c.args.cpu, h)) c.args.self.now c.rest.new.self) (sym c.in-Blocks.is)
    (followed_blocked c.args.net.now c.args.process c.args.cpu c.args.self.now c.rest.new.self c.rest.ensures)

pub returns-in-Ends : goal.returns-in-Ends
returns-in-Ends c =
    subst (λ (x : Next). Does (λ (h : HostRecord). follows c.args.net.now c.args.process (step_with x c.args.cpu, h)) c.args.self.now c.end.new.self) (sym c.in-Ends.is)
    (followed_ended c.args.net.now c.args.process c.in-Ends.state c.args.self.now c.end.new.self c.end.ensures)
