use Rattle.rv32_machine.proofs.StoreSteps.{stored_leaves}
use Rattle.rv32_machine.proofs.execution.stored.Goals as goal

pub returns-in-Ok-clause-code : goal.returns-in-Ok-clause-code
returns-in-Ok-clause-code c = stored_leaves c.args.kind c.args.mem.now c.store.new.mem _ _ c.stores_leave_code.ensures c.in-Ok.ensures.ok
