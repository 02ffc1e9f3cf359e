use Rattle.std.proofs.Common.{◌≡◌, ◌++◌}
use Rattle.std.specs.Prelude.{map}
use Rattle.std.specs.Vec.Iter.{into_iter_items}
use Rattle.host_wants.specs.declared.outlet.Want.TheVariants.{Send}
use Rattle.host_wants.proofs.outlet.Outlet.send_all.Given as goal

-- what is wanted, and then what is left of the packets, are what was wanted before and all packets; nothing else changes
abbrev pub invariant-loop-packet : goal.invariant-loop-packet
invariant-loop-packet l = record {
  wants : l.self-inside.wants.items ++ map Send (into_iter_items l.packet-iterator) ≡ l.fn.self.wants ++ map Send l.fn.packets.items;
  draws : l.self-inside.draws ≡ l.fn.self.draws;
  serial : l.self-inside.serial ≡ l.fn.self.serial;
}
