use Rattle.std.proofs.Common.{◌≤◌, length, is_ok, refl, sym, ap, subst, arith}
use Rattle.host_sockets.proofs.Placing.{put_behind}
use Rattle.host_sockets.proofs.Turning.{turned_push}
use Rattle.host_sockets.proofs.sockets.Sockets.push_tcp.Goals as goal

pub returns : goal.returns
returns c = λ t s h stands.
    put_behind c.turn_to.new.self _ t c.args.place c.args.sock s (c.turn_to.ensures.stands t h) stands (subst (λ v. length v.items ≤ c.args.place) (sym c.turn_to.ensures.tcp) c.requires) refl refl c.in_ok-push.ensures.items refl c.in_ok-put_none.ensures refl

pub invariant_of-self : goal.invariant_of-self
invariant_of-self c =
    let same = ap (λ v. length v.items) c.turn_to.ensures.tcp in
    record { indexed = turned_push c.turn_to.new.self c.push.new.self.items c.args.sock (is_ok c.push.result) (omega (arith, same, c.turn_to.ensures.acts, c.len-behind.ensures, c.args.self.now.tcp.ok.0)) c.push.ensures.items }

pub invariant_of-self-2 : goal.invariant_of-self-2
invariant_of-self-2 c =
    let same = ap (λ v. length v.items) c.turn_to.ensures.tcp in
    record { indexed = turned_push c.turn_to.new.self c.push.new.self.items c.args.sock (is_ok c.push.result) (omega (arith, same, c.turn_to.ensures.acts, c.len-behind.ensures, c.args.self.now.tcp.ok.0)) c.push.ensures.items }
