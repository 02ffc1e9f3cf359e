use Rattle.std.proofs.lemmas.Result.{on_ok_weaker}
use Rattle.host_link.proofs.Handed.{all_handed_on}
use Rattle.host_link.proofs.handing.hand_made_on.Goals as goal

pub returns : goal.returns
returns c =
    on_ok_weaker c.add_outputs.result
    (all_handed_on c.args.net.now c.args.host c.args.key c.args.made c.args.queue.now c.hand_all_on.new.queue c.args.out.now c.hand_all_on.new.out c.add_lines.new.self c.add_outputs.new.self
    c.in_ok-hand_all_on.ensures c.in_ok-add_lines.ensures)
    c.add_outputs.ensures
