-- the sockets of a host's parts, and what is wanted
use Rattle.host_wants.specs.Wanted.{Wanted}
use Rattle.host_sockets.specs.Sockets.{SocketsRecord}
use Rattle.host_calls.specs.Parts.{PartsRecord}

abbrev pub sockets_in : PartsRecord → SocketsRecord × Wanted
sockets_in h = (h.sockets, h.shared.outlet)
