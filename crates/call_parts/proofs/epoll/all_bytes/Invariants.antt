use Rattle.std.proofs.Common.{◌≡◌, take, flat_map}
use Rattle.call_parts.specs.Epoll.{event_bytes}
use Rattle.call_parts.proofs.epoll.all_bytes.Given as goal

abbrev pub invariant-loop-place : goal.invariant-loop-place
invariant-loop-place l = l.bytes.items ≡ flat_map event_bytes (take l.place l.entries)
