-- Words that are drawn, one after another.
use Rattle.std.proofs.Common.{◌≡◌, ℕ, suc, ◌+◌, ◌-◌, ◌<◌, ◌≤◌, List, [], ◌++◌, refl, sym, ap, append_assoc, arith}
use Rattle.std.proofs.lemmas.List.{append-nil}
use Rattle.std.specs.Int.{w64, to_le_bytes}
use Rattle.host_wants.specs.Wanted.{Wanted, draws_word}
use Rattle.file_calls.specs.Guest.{words, bytes_before}

left : (word count : ℕ) → word < count → count - word ≡ suc (count - (word + 1))
left word count h = omega arith

twice : (before between : List ℕ) (told : List ℕ × Wanted) → bytes_before before (bytes_before between told) ≡ bytes_before (before ++ between) told
twice before between (behind, w) = ap (λ (bytes : List ℕ). (bytes, w)) (sym (append_assoc before between behind))

nothing : (told : List ℕ × Wanted) → bytes_before [] told ≡ told
nothing (behind, w) = refl

whole : (count : ℕ) → count - 0 ≡ count
whole count = omega arith

over : (word count : ℕ) → count ≤ word → count - word ≡ 0
over word count h = omega arith

pub words_first : (count : ℕ) (w : Wanted) → bytes_before [] (words (count - 0) w) ≡ words count w
words_first count w = rw (whole count) (nothing (words count w))

pub words_step : (word count : ℕ) (bytes : List ℕ) (w : Wanted) → word < count
    → bytes_before bytes (words (count - word) w)
    ≡ bytes_before (bytes ++ to_le_bytes w64 (draws_word w).0) (words (count - (word + 1)) (draws_word w).1)
words_step word count bytes w h = rw (left word count h) (twice bytes (to_le_bytes w64 (draws_word w).0) (words (count - (word + 1)) (draws_word w).1))

pub words_last : (word count : ℕ) (bytes : List ℕ) (w : Wanted) → count ≤ word → bytes_before bytes (words (count - word) w) ≡ (bytes, w)
words_last word count bytes w h = rw (over word count h) (ap (λ (all : List ℕ). (all, w)) (append-nil bytes))

pub ruleset word_steps = (words_first, words_step, words_last)
