use Rattle.tcp_laws.proofs.Histories.{sound_of}
use Rattle.tcp_laws.proofs.received_counted.Goals as goal

pub returns : goal.returns
returns c = λ start acts b. (sound_of start acts b).heard
