-- Each call has its row.
use Rattle.std.proofs.Common.{sym, subst}
use Rattle.call_parts.specs.declared.call.Call.{Call}
use Rattle.host_calls.specs.Calls.{row}
use Rattle.host_calls.specs.inside.Stage.{Acts}
use Rattle.host_calls.proofs.stage.Stage.row.Goals as goal

pub returns-in-Network : goal.returns-in-Network
returns-in-Network c =
    let s = c.args.self.now in
    subst (λ (w : Call). Acts (row s.known.now s.time s.process w c.args.args) s c.network_row.new.self c.network_row.result) (sym c.in-Network.is) c.network_row.ensures

pub returns-in-Waiting : goal.returns-in-Waiting
returns-in-Waiting c =
    let s = c.args.self.now in
    subst (λ (w : Call). Acts (row s.known.now s.time s.process w c.args.args) s c.waiting_row.new.self c.waiting_row.result) (sym c.in-Waiting.is) c.waiting_row.ensures

pub returns-in-Close : goal.returns-in-Close
returns-in-Close c =
    let s = c.args.self.now in
    subst (λ (w : Call). Acts (row s.known.now s.time s.process w c.args.args) s c.close.new.self c.close.result) (sym c.in-Close.is) c.close.ensures
