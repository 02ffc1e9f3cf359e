use Rattle.std.proofs.Common.{sym}
use Rattle.host_calls.proofs.Objects.{other_epolls}
use Rattle.host_calls.proofs.closing.end_epoll.Goals as goal

pub returns-in_default : goal.returns-in_default
returns-in_default c = sym (other_epolls c.args.object c.args.epolls.now c.in_default.not-Epoll)
