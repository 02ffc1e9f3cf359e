use Rattle.std.proofs.Common.{◌≡◌}
use Rattle.std.specs.Vec.Iter.{into_iter_items}
use Rattle.host_link.specs.Wants.{does_all, does_wants}
use Rattle.host_link.proofs.link.Link.do_wants.Given as goal

-- what is left gives the whole
abbrev pub invariant-loop-want : goal.invariant-loop-want
invariant-loop-want l = does_all l.net l.own (into_iter_items l.want-iterator) (l.self, l.outlet) ≡ does_wants l.net l.own (l.fn.self, l.fn.outlet)
