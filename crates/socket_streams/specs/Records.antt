-- the exchange of a host's sockets: all records that they have and ever let go, and the packets that are wanted
use Rattle.std.specs.Prelude.{List, ◌++◌, filter_map, Option, Some, None}
use Rattle.sim_base.specs.declared.packet.Packet.{Packet}
use Rattle.sock_tcp.specs.connection.Tcb.{Tcb}
use Rattle.host_wants.specs.declared.outlet.Want.{Want}
use Rattle.host_wants.specs.declared.outlet.Want.TheVariants.{Send, Alarm}
use Rattle.host_wants.specs.Wanted.{Wanted}
use Rattle.host_sockets.specs.Sockets.{SocketsRecord}
use Rattle.host_sockets.specs.Records.{records_of}
use Rattle.tcp_streams.specs.Exchange.{Exchange}

-- a packet that is wanted is on its way
abbrev pub packet_in : Want → Option Packet
packet_in (Send packet) = Some packet
packet_in (Alarm target serial due) = None

abbrev pub packets_of : Wanted → List Packet
packets_of w = filter_map packet_in w.wants

abbrev pub exchange_with : List Tcb → List Packet → Exchange
exchange_with records flying = record { records = records; flying = flying }

-- beside the records of others, and packets that are on their way already
abbrev pub exchange_of : List Tcb → List Packet → SocketsRecord × Wanted → Exchange
exchange_of others flying (t, w) = exchange_with (records_of t ++ others) (flying ++ packets_of w)
