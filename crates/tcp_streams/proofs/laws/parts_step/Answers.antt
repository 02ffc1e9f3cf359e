use Rattle.tcp_streams.proofs.Frames.{part_steps, joined, others_step, comes_outside, narrow_steps}
use Rattle.tcp_streams.proofs.laws.parts_step.Goals as goal

pub returns-clause-part : goal.returns-clause-part
returns-clause-part c = part_steps

pub returns-clause-joined : goal.returns-clause-joined
returns-clause-joined c = joined

pub returns-clause-narrowed : goal.returns-clause-narrowed
returns-clause-narrowed c = narrow_steps

pub returns-clause-others : goal.returns-clause-others
returns-clause-others c = others_step

pub returns-clause-outside : goal.returns-clause-outside
returns-clause-outside c = comes_outside
