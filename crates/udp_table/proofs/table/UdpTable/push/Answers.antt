use Rattle.std.proofs.Common.{List, Option, Some, sym, subst, arith}
use Rattle.sock_udp.specs.declared.ends.UdpEnds.{UdpEnds}
use Rattle.udp_table.specs.inside.Indexing.{Indexes}
use Rattle.udp_table.proofs.Places.{changes_push}
use Rattle.udp_table.proofs.table.UdpTable.push.Goals as goal

pub invariant_of-self : goal.invariant_of-self
invariant_of-self c = λ i e. subst (λ (places : List (Option UdpEnds)). Indexes i places) (sym c.in_err-push.ensures.items) (c.self.invariant i e)

pub invariant_of-self-2 : goal.invariant_of-self-2
invariant_of-self-2 c =
    c.follow.ensures c.self.inside.places.items c.push.new.self.items
    (changes_push c.self.inside.places.items c.push.new.self.items c.len-place.result (Some c.args.ends) (omega (arith, c.self.inside.places.ok.0)) c.in_ok-push.ensures.items)
    c.self.invariant
