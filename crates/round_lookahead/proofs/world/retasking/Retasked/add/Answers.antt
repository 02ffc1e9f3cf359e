use Rattle.round_lookahead.proofs.world.retasking.Retasked.add.Goals as goal

pub returns-clause-task : goal.returns-clause-task
returns-clause-task c = record { task = c.new.result; id = c.new.ensures.id; host = c.new.ensures.host; parcels_are = c.new.ensures.parcels; joins = c.in_ok-push.ensures.items }
