use Rattle.std.proofs.Common.{◌≡◌, ◌-◌, ◌*◌, vec_len}
use Rattle.file_calls.specs.Guest.{words, words_in, bytes_before}
use Rattle.file_calls.proofs.guest.random.Given as goal

abbrev pub invariant-loop-word : goal.invariant-loop-word
invariant-loop-word l = record {
  long : vec_len l.bytes ≡ 8 * l._word;
  told : words (words_in l.fn.count) l.initial.outlet ≡ bytes_before l.bytes.items (words (words_in l.fn.count - l._word) l.outlet);
}
