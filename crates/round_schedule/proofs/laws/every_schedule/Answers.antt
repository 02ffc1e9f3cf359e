use Rattle.round_schedule.proofs.ScheduleLaws.{front, laid, left, leaves_world}
use Rattle.round_schedule.proofs.laws.every_schedule.Goals as goal

pub returns-clause-front : goal.returns-clause-front
returns-clause-front c = λ net window w after workers steps s result opened leads. front net window w workers steps opened s after result leads

pub returns-clause-packets : goal.returns-clause-packets
returns-clause-packets c = λ net window w workers steps r opened leads. laid net window w workers steps opened r leads

pub returns-clause-closed : goal.returns-clause-closed
returns-clause-closed c = λ net w after v workers steps d opened result leads stands.
    leaves_world net w after v d (left net d.window w workers steps opened after v result leads) stands
