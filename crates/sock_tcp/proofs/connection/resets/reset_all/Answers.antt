use Rattle.std.proofs.Common.{sym, append-nil, arith, refl, ◌∙◌}
use Rattle.sock_tcp.proofs.Connections.ResetSteps.{resets_more, resets_all}
use Rattle.sock_tcp.proofs.connection.resets.reset_all.Goals as goal

pub loop-conn-init : goal.loop-conn-init
loop-conn-init c = (λ records h. sym (append-nil c.args.draft.now.segments.items), refl)

pub loop-conn-preserved : goal.loop-conn-preserved
loop-conn-preserved c = (
  λ records h. resets_more c.args.conns.now records c.loop-conn.conn-index c.conn-item.result c.args.draft.now.segments.items c.loop-conn.draft.segments.items c.reset.new.draft.segments.items h (omega arith) c.conn-item.is (c.loop-conn.invariant.0 records h) c.in_ok-reset.ensures.segments,
  c.in_ok-reset.ensures.started ∙ c.loop-conn.invariant.1,
)

pub returns-clause-segments : goal.returns-clause-segments
returns-clause-segments c = λ records h.
    resets_all c.args.conns.now records c.loop-conn.conn-index c.args.draft.now.segments.items c.loop-conn.draft.segments.items h (omega arith) (c.loop-conn.invariant.0 records h)
