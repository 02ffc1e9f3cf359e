use Rattle.std.proofs.Common.{◌≡◌, ◌+◌, length, drop}
use Rattle.guest_process.specs.Start.{texts_bytes}
use Rattle.guest_process.proofs.start.room_behind.Given as goal

-- what is left of the room is that behind the texts so far
abbrev pub invariant-loop-text : goal.invariant-loop-text
invariant-loop-text l = l.room + length (texts_bytes (drop l.text-index l.texts)) ≡ l.left + length (texts_bytes l.texts)
