use Rattle.std.proofs.Common.{rules}
use Rattle.host_fds.specs.Epoll.{is_behind}
use Rattle.host_fds.proofs.Orders.{position_unwrap_or}
use Rattle.host_fds.proofs.epoll.place_of.Goals as goal

pub returns-clause-place : goal.returns-clause-place
returns-clause-place c = grind (rules, position_unwrap_or (is_behind c.args.fd) c.args.entries.now)
