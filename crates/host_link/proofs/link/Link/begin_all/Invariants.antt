use Rattle.std.proofs.Common.{◌≡◌, drop}
use Rattle.host_link.specs.Beginning.{begins_all}
use Rattle.host_link.proofs.link.Link.begin_all.Given as goal

-- what is left gives the whole
abbrev pub invariant-loop-process : goal.invariant-loop-process
invariant-loop-process l = begins_all l.process (drop l.process l.rows) l.self ≡ begins_all 0 l.rows l.fn.self
