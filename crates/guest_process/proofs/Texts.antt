-- How many bytes and words a stack holds at first.
use Rattle.std.proofs.Common.{◌≡◌, ℕ, ◌+◌, ◌*◌, ◌≤◌, List, [], ◌∷◌, ◌++◌, length, refl, ap, ◌∙◌, sym, length-append, append_assoc, arith}
use Rattle.std.proofs.Common.{◌-◌, replicate, slice_set, None}
use Rattle.sim_base.specs.Limits.{most_text_bytes}
use Rattle.elf_load.specs.ProgramImage.{ProgramImage}
use Rattle.guest_mem.specs.Memory.{Memory, low_bytes}
use Rattle.guest_mem.specs.Opening.{opening}
use Rattle.guest_process.specs.Start.{texts_bytes, pointers, rounded_down, texts_at, auxiliary_vector, words_at, fixed_words, start_words, stack_pointer, word_bytes, filled, start_memory, IsStarted}

pub texts_bytes_append : (xs ys : List (List ℕ)) → texts_bytes (xs ++ ys) ≡ texts_bytes xs ++ texts_bytes ys
texts_bytes_append [] ys = refl
texts_bytes_append (x ∷ xs) ys =
    ap (λ (bs : List ℕ). (x ++ 0 ∷ []) ++ bs) (texts_bytes_append xs ys) ∙ sym (append_assoc (x ++ 0 ∷ []) (texts_bytes xs) (texts_bytes ys))

pub texts_count : (xs : List (List ℕ)) → length xs ≤ length (texts_bytes xs)
texts_count [] = omega arith
texts_count (x ∷ xs) = omega (arith, texts_count xs, length-append (x ++ 0 ∷ []) (texts_bytes xs), length-append x (0 ∷ []))

pub pointers_count : (at : ℕ) (xs : List (List ℕ)) → length (pointers at xs) ≡ length xs
pointers_count at [] = refl
pointers_count at (x ∷ xs) = omega (arith, pointers_count (at + (length x + 1)) xs)

pub words_count : (at : ℕ) (arguments environment : List (List ℕ)) → length (words_at at arguments environment) ≡ length arguments + length environment + fixed_words
words_count at arguments environment =
    omega (
      arith,
      length-append (pointers at arguments) (0 ∷ (pointers (at + length (texts_bytes arguments)) environment ++ (0 ∷ auxiliary_vector))),
      length-append (pointers (at + length (texts_bytes arguments)) environment) (0 ∷ auxiliary_vector),
      pointers_count at arguments,
      pointers_count (at + length (texts_bytes arguments)) environment,
    )

pub bytes_count : (words : List ℕ) → length (word_bytes words) ≡ 4 * length words
bytes_count [] = refl
bytes_count (w ∷ ws) = omega (arith, bytes_count ws, length-append (low_bytes 4 w) (word_bytes ws))

-- few texts make few words
pub words_few : (at : ℕ) (arguments environment : List (List ℕ)) → length (texts_bytes (arguments ++ environment)) ≤ most_text_bytes
    → length (words_at at arguments environment) ≤ most_text_bytes + fixed_words
words_few at arguments environment few =
    omega (
      arith,
      words_count at arguments environment,
      texts_count arguments,
      texts_count environment,
      ap length (texts_bytes_append arguments environment),
      length-append (texts_bytes arguments) (texts_bytes environment),
    )

-- a process at its start, made step by step
pub made_started : (image : ProgramImage) (arguments environment : List (List ℕ)) (texts words : List ℕ) (entry at sp : ℕ) (m0 m1 m2 : Memory)
    → texts ≡ texts_bytes (arguments ++ environment) → entry ≡ image.entry → at ≡ rounded_down (0xC0000000 - length texts)
    → words ≡ words_at at arguments environment → sp ≡ rounded_down (at - 4 * length words)
    → m0 ≡ opening image → m1 ≡ filled m0 at texts → m2 ≡ filled m1 sp (word_bytes words)
    → IsStarted image arguments environment (record { pc = entry; x = slice_set (replicate 32 0) 2 sp; reservation = None }) m2
unfolding start_memory
made_started image arguments environment texts words entry at sp m0 m1 m2 texts_is entry_is at_is words_is sp_is m0_is m1_is m2_is =
    let all : List (List ℕ) = arguments ++ environment in
    let at_now : at ≡ texts_at all = at_is ∙ ap (λ (t : List ℕ). rounded_down (0xC0000000 - length t)) texts_is in
    let words_now : words ≡ start_words arguments environment = words_is ∙ ap (λ (n : ℕ). words_at n arguments environment) at_now in
    let sp_now : sp ≡ stack_pointer arguments environment =
    sp_is ∙ (ap (λ (n : ℕ). rounded_down (n - 4 * length words)) at_now ∙ ap (λ (ws : List ℕ). rounded_down (texts_at all - 4 * length ws)) words_now) in
    let m1_now : m1 ≡ filled (opening image) (texts_at all) (texts_bytes all) =
    m1_is ∙ (ap (λ (m : Memory). filled m at texts) m0_is ∙ (ap (λ (n : ℕ). filled (opening image) n texts) at_now
    ∙ ap (λ (t : List ℕ). filled (opening image) (texts_at all) t) texts_is)) in
    record {
      cpu = ap (λ (n : ℕ). record { pc = n; x = slice_set (replicate 32 0) 2 sp; reservation = None }) entry_is
          ∙ ap (λ (n : ℕ). record { pc = image.entry; x = slice_set (replicate 32 0) 2 n; reservation = None }) sp_now;
      memory = m2_is ∙ (ap (λ (m : Memory). filled m sp (word_bytes words)) m1_now
          ∙ (ap (λ (n : ℕ). filled (filled (opening image) (texts_at all) (texts_bytes all)) n (word_bytes words)) sp_now
          ∙ ap (λ (ws : List ℕ). filled (filled (opening image) (texts_at all) (texts_bytes all)) (stack_pointer arguments environment) (word_bytes ws)) words_now));
    }
