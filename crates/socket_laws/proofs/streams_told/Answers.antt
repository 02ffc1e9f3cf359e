use Rattle.host_sockets.specs.Records.{records_of}
use Rattle.host_sockets.specs.Streams.{streams_of}
use Rattle.socket_laws.proofs.Telling.{told_by, rises_by}
use Rattle.socket_laws.proofs.streams_told.Goals as goal

pub returns : goal.returns
unfolding streams_of
returns c = record {
  told = λ own peer t. told_by own peer (records_of t);
  order = λ t. rises_by (records_of t);
}
