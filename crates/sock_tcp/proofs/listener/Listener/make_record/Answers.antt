use Rattle.std.proofs.Common.{◌≡◌, ℕ, ◌%◌, ◌^◌, List, refl, ap, subst}
use Rattle.host_draws.specs.Draws.{draw}
use Rattle.sock_tcp.specs.connection.Process.{answered}
use Rattle.sock_tcp.specs.connection.StandsFor.{Gives}
use Rattle.sock_tcp.proofs.Listeners.ListenActs.{tells_made}
use Rattle.sock_tcp.proofs.listener.Listener.make_record.Goals as goal

pub returns-clause-hears : goal.returns-clause-hears
returns-clause-hears c = λ l h b.
    let p = c.args.segment.now in
    let made = c.in_ok-made.made in
    let word : c.word.result ≡ (draw c.args.draws.now).0 = ap (λ (x : ℕ × List ℕ). x.0) c.word.ensures in
    let gives = subst (λ (w : ℕ). Gives made.conn made.effects (answered p.to p.from (w % 2 ^ 32) c.args.header.seq)) word c.in_ok-made.ensures in
    tells_made p c.args.header (draw c.args.draws.now).0 c.args.self.now _ l made.conn made.effects h b gives refl refl c.in_ok-push.ensures.items refl

pub returns-clause-draws : goal.returns-clause-draws
returns-clause-draws c = ap (λ (x : ℕ × List ℕ). x.1) c.word.ensures
