use Rattle.call_laws.proofs.KeptErrors.{connect_takes, send_takes, receive_takes}
use Rattle.call_laws.proofs.kept_errors.Goals as goal

pub returns : goal.returns
returns c = record { connect = connect_takes; send = send_takes; receive = receive_takes }
