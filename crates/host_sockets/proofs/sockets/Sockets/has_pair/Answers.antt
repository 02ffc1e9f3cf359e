use Rattle.std.proofs.Common.{is_some, ap, ◌∙◌}
use Rattle.host_sockets.specs.TcpSocket.{has_record, keeps_record}
use Rattle.host_sockets.proofs.AnyPlace.{some_any, then_any, else_any}
use Rattle.host_sockets.proofs.sockets.Sockets.has_pair.Goals as goal

pub returns-then-is_some : goal.returns-then-is_some
returns-then-is_some c = λ t h.
    then_any (has_record c.args.own c.args.other) (keeps_record c.args.own c.args.other) t.tcp c.is_some.result c.if-is_some.true
    (c.is_some.ensures ∙ (ap is_some (c.place_of.ensures.place t h) ∙ some_any (has_record c.args.own c.args.other) t.tcp))

pub returns-else-is_some : goal.returns-else-is_some
returns-else-is_some c = λ t h.
    else_any (has_record c.args.own c.args.other) (keeps_record c.args.own c.args.other) t.tcp c.is_some.result c.is_some-else-is_some.result c.if-is_some.false
    (c.is_some.ensures ∙ (ap is_some (c.place_of.ensures.place t h) ∙ some_any (has_record c.args.own c.args.other) t.tcp))
    (c.is_some-else-is_some.ensures ∙ (ap is_some (c.place_of-else-is_some.ensures.place t h) ∙ some_any (keeps_record c.args.own c.args.other) t.tcp))
