use Rattle.host_link.specs.Logs.{lines_of}
use Rattle.capture_laws.proofs.Again.{eth0_again}
use Rattle.capture_laws.proofs.Worlds.{in_range}
use Rattle.capture_laws.proofs.runs_are_read_again.Goals as goal

pub returns : goal.returns
returns c = λ net rows result i h size late is there large fits fit.
    eth0_again size i h.row.address (lines_of result.log) large fits fit (in_range net rows result late is)
