use Rattle.round_schedule.proofs.Ending.{closed_alike}
use Rattle.round_schedule.proofs.round_laws.same_end.Goals as goal

pub returns : goal.returns
returns c = λ net window w v u workers others steps more may left right. closed_alike net window w may workers others v u steps more left right
