use Rattle.tcp_laws.proofs.Histories.{sound_of}
use Rattle.tcp_laws.proofs.end_behind_all.Goals as goal

pub returns : goal.returns
returns c = λ start acts b e. (sound_of start acts b).heard.seen e
