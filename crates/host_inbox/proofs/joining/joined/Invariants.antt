use Rattle.std.proofs.Common.{◌≡◌, vec_len}
use Rattle.host_inbox.specs.inside.Slots.{IsJoining}
use Rattle.host_inbox.proofs.joining.joined.Given as goal

abbrev pub invariant-loop-carrier : goal.invariant-loop-carrier
invariant-loop-carrier g l = record {
  table : l.seat.table_id ≡ l.places.table_id;
  joins : IsJoining l.places.table_id l.fn.carriers.items l.carriers.items l.seat.me;
}

abbrev pub decreases-loop-carrier : goal.decreases-loop-carrier
decreases-loop-carrier g l = vec_len l.carriers
