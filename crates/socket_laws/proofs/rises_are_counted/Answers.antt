use Rattle.socket_laws.proofs.RisesMoved.{tcp_rises_are_counted, udp_rises_are_counted}
use Rattle.socket_laws.proofs.rises_are_counted.Goals as goal

pub returns-clause-tcp : goal.returns-clause-tcp
returns-clause-tcp c = λ hosts own draws acts k. tcp_rises_are_counted hosts own draws acts k

pub returns-clause-udp : goal.returns-clause-udp
returns-clause-udp c = λ hosts own draws acts k. udp_rises_are_counted hosts own draws acts k
