use Rattle.std.proofs.Common.{◌≡◌, ◌++◌, drop}
use Rattle.guest_process.specs.Start.{texts_bytes}
use Rattle.guest_process.proofs.start.add_texts.Given as goal

abbrev pub invariant-loop-text : goal.invariant-loop-text
invariant-loop-text l = l.bytes.items ++ texts_bytes (drop l.text-index l.texts) ≡ l.fn.bytes.items ++ texts_bytes l.texts
