use Rattle.std.proofs.Common.{◌≡◌, ◌∙◌, ap}
use Rattle.sim_base.specs.declared.time.Time.{Time}
use Rattle.sim_base.specs.declared.event.What.TheVariants as what
use Rattle.host_link.specs.Link.{makes, later}
use Rattle.host_state.proofs.Slices.{gone_later}
use Rattle.host_state.proofs.host.Body.go_later.Goals as goal

pub returns : goal.returns
returns c =
    let due : c.later-due.result ≡ later c.args.self.now.link.time c.args.nanos = c.later-due.ensures ∙ ap (λ (t : Time). later t c.args.nanos) c.now.ensures.time in
    gone_later c.args.nanos c.args.process c.args.cpu c.args.self.now c.set_process.new.self c.make.new.self
    (c.in_ok-make.ensures ∙ ap (λ (t : Time). makes t (what.Go c.args.process) c.args.self.now.link) due) c.set_process.ensures
