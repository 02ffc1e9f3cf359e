use Rattle.std.proofs.Common.{◌≡◌, ◌+◌, ◌++◌, length, drop}
use Rattle.guest_process.specs.Start.{texts_bytes, pointers}
use Rattle.guest_process.proofs.start.add_pointers.Given as goal

abbrev pub invariant-loop-text : goal.invariant-loop-text
invariant-loop-text l = record {
  words : l.words.items ++ pointers l.next (drop l.text-index l.texts) ≡ l.fn.words.items ++ pointers l.at l.texts;
  place : l.next + length (texts_bytes (drop l.text-index l.texts)) ≡ l.at + length (texts_bytes l.texts);
}
