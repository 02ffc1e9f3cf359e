use Rattle.tcp_laws.proofs.Histories.{act_of_history}
use Rattle.tcp_laws.proofs.text_within_windows.Goals as goal

pub returns : goal.returns
returns c = λ start acts act b. (act_of_history start acts act b).fits
