use Rattle.std.proofs.Common.{◌≡◌, take}
use Rattle.guest_process.specs.Start.{word_bytes}
use Rattle.guest_process.proofs.start.bytes_of_words.Given as goal

abbrev pub invariant-loop-word : goal.invariant-loop-word
invariant-loop-word l = l.bytes.items ≡ word_bytes (take l.word-index l.words)
