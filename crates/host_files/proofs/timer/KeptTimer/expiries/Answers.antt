-- The sum that stands still at the most, of what each call ensures.
use Rattle.std.proofs.Common.{ℕ, ◌+◌, min, ap, ◌∙◌}
use Rattle.host_fds.specs.Rises.{most}
use Rattle.host_files.proofs.timer.KeptTimer.expiries.Goals as goal

pub returns : goal.returns
returns c = c.saturating_add.ensures ∙ ap (λ (n : ℕ). min (c.args.self.now.earlier + n) most) c.expired.ensures
