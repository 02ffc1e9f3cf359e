use Rattle.std.proofs.Common.{length}
use Rattle.host_fds.proofs.Reports.{Reporting}
use Rattle.host_fds.proofs.epoll.report.Given as goal

abbrev pub invariant-loop-place : goal.invariant-loop-place
invariant-loop-place l = Reporting (length l.initial.into) l.seen l.initial.entries l.initial.into l.place l.found l.entries l.into
