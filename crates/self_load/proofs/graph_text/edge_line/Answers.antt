use Rattle.std.proofs.Common.{◌+◌, ◌%◌, ◌++◌, codes, decimal, append_assoc}
use Rattle.self_load.specs.GraphText.{loss_word}
use Rattle.self_load.proofs.graph_text.edge_line.Goals as goal

pub returns : goal.returns
returns c =
    let split = append_assoc (decimal (1 + c.args.host % 7)) (codes " ms") (codes "\" packet_loss " ++ (loss_word c.args.host ++ codes " ]\n")) in
    cc (split, c.loss-loss.ensures, c.in_ok-format.ensures.ok)
