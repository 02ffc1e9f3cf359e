use Rattle.std.proofs.Common.{flat_map}
use Rattle.run_files.specs.Written.{with_silent}
use Rattle.run_files.proofs.Writings.{one_silent}
use Rattle.run_files.proofs.written.Written.push_silent.Goals as goal

pub returns : goal.returns
returns c = let w = c.args.self.now in one_silent (flat_map with_silent w.hosts.items) w.silent c.in-Some.silent c.in-Some.ensures.1
