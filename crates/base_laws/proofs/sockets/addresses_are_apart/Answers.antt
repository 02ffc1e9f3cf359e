use Rattle.sock_udp.specs.SocketLaws.{address_to_bind_is_taken, address_to_use_is_taken}
use Rattle.base_laws.proofs.sockets.addresses_are_apart.Goals as goal

pub returns-clause-bound : goal.returns-clause-bound
returns-clause-bound c = address_to_bind_is_taken

pub returns-clause-used : goal.returns-clause-used
returns-clause-used c = address_to_use_is_taken
