use Rattle.std.proofs.Common.{◌≡◌, ℕ, ◌+◌, ◌-◌, ◌*◌, ◌≤◌, List, length, ap, sym, ◌∙◌, subst, arith, rules}
use Rattle.sim_base.specs.Limits.{most_text_bytes}
use Rattle.guest_mem.specs.Memory.{Memory}
use Rattle.guest_mem.specs.Opening.{stack_base}
use Rattle.guest_process.specs.Start.{rounded_down, fixed_words, word_bytes, filled}
use Rattle.guest_process.specs.Stack.{IsWritable}
use Rattle.guest_process.proofs.Stacks.{IsWritable_opening}
use Rattle.guest_process.proofs.Texts.{words_few, bytes_count, made_started}
use Rattle.guest_process.proofs.start.start_guest.Goals as goal

pub overflow_cast-len-2 : goal.overflow_cast-len-2
overflow_cast-len-2 c =
    let texts : length c.in_ok-texts.texts.items ≤ most_text_bytes = subst (λ (t : List ℕ). length t ≤ most_text_bytes) (sym c.in_ok-texts.ensures) c.requires in
    let words : length c.in_ok-words.words.items ≤ most_text_bytes + fixed_words =
    subst (λ (ws : List ℕ). length ws ≤ most_text_bytes + fixed_words) (sym c.in_ok-words.ensures) (words_few c.round_down-texts_at.result c.args.arguments.now c.args.environment.now c.requires) in
    let len2 : c.len-2.result ≡ length c.in_ok-words.words.items = search rules in
    omega (arith, words, len2)

pub overflow_mul-len : goal.overflow_mul-len
overflow_mul-len c =
    let texts : length c.in_ok-texts.texts.items ≤ most_text_bytes = subst (λ (t : List ℕ). length t ≤ most_text_bytes) (sym c.in_ok-texts.ensures) c.requires in
    let words : length c.in_ok-words.words.items ≤ most_text_bytes + fixed_words =
    subst (λ (ws : List ℕ). length ws ≤ most_text_bytes + fixed_words) (sym c.in_ok-words.ensures) (words_few c.round_down-texts_at.result c.args.arguments.now c.args.environment.now c.requires) in
    let len2 : c.len-2.result ≡ length c.in_ok-words.words.items = search rules in
    omega (arith, words, len2)

pub overflow_sub-texts_at : goal.overflow_sub-texts_at
overflow_sub-texts_at c =
    let texts : length c.in_ok-texts.texts.items ≤ most_text_bytes = subst (λ (t : List ℕ). length t ≤ most_text_bytes) (sym c.in_ok-texts.ensures) c.requires in
    let words : length c.in_ok-words.words.items ≤ most_text_bytes + fixed_words =
    subst (λ (ws : List ℕ). length ws ≤ most_text_bytes + fixed_words) (sym c.in_ok-words.ensures) (words_few c.round_down-texts_at.result c.args.arguments.now c.args.environment.now c.requires) in
    let len : c.len.result ≡ length c.in_ok-texts.texts.items = search rules in
    let len2 : c.len-2.result ≡ length c.in_ok-words.words.items = search rules in
    omega (arith, texts, words, len, len2, c.round_down-texts_at.ensures)

pub fill-requires-clause-stack : goal.fill-requires-clause-stack
fill-requires-clause-stack c = subst (λ (m : Memory). IsWritable m stack_base 0xC0000000) (sym c.in_ok-memory.ensures) (IsWritable_opening _)

pub fill-requires-2-clause-above : goal.fill-requires-2-clause-above
fill-requires-2-clause-above c =
    let texts : length c.in_ok-texts.texts.items ≤ most_text_bytes = subst (λ (t : List ℕ). length t ≤ most_text_bytes) (sym c.in_ok-texts.ensures) c.requires in
    let words : length c.in_ok-words.words.items ≤ most_text_bytes + fixed_words =
    subst (λ (ws : List ℕ). length ws ≤ most_text_bytes + fixed_words) (sym c.in_ok-words.ensures) (words_few c.round_down-texts_at.result c.args.arguments.now c.args.environment.now c.requires) in
    let len : c.len.result ≡ length c.in_ok-texts.texts.items = search rules in
    let len2 : c.len-2.result ≡ length c.in_ok-words.words.items = search rules in
    omega (arith, texts, words, len, len2, c.round_down-texts_at.ensures, c.round_down-stack_pointer.ensures)

pub fill-requires-2-clause-below : goal.fill-requires-2-clause-below
fill-requires-2-clause-below c =
    let texts : length c.in_ok-texts.texts.items ≤ most_text_bytes = subst (λ (t : List ℕ). length t ≤ most_text_bytes) (sym c.in_ok-texts.ensures) c.requires in
    let words : length c.in_ok-words.words.items ≤ most_text_bytes + fixed_words =
    subst (λ (ws : List ℕ). length ws ≤ most_text_bytes + fixed_words) (sym c.in_ok-words.ensures) (words_few c.round_down-texts_at.result c.args.arguments.now c.args.environment.now c.requires) in
    let len : c.len.result ≡ length c.in_ok-texts.texts.items = search rules in
    let len2 : c.len-2.result ≡ length c.in_ok-words.words.items = search rules in
    let bytes : length c.in_ok-bytes.bytes.items ≡ 4 * length c.in_ok-words.words.items =
    ap length c.in_ok-bytes.ensures ∙ (bytes_count _ ∙ ap (λ (ws : List ℕ). 4 * length ws) (search rules)) in
    let same : length c.deref-3.result.now ≡ length c.in_ok-bytes.bytes.items = search rules in
    omega (arith, texts, words, len, len2, bytes, same, c.round_down-texts_at.ensures, c.round_down-stack_pointer.ensures)

pub returns : goal.returns
returns c =
    let at : ℕ = c.round_down-texts_at.result in
    let sp : ℕ = c.round_down-stack_pointer.result in
    let texts : List ℕ = c.in_ok-texts.texts.items in
    let words : List ℕ = c.in_ok-words.words.items in
    let len : c.len.result ≡ length texts = search rules in
    let len2 : c.len-2.result ≡ length words = search rules in
    let at_is : at ≡ rounded_down (0xC0000000 - length texts) = c.round_down-texts_at.ensures ∙ ap (λ (n : ℕ). rounded_down (0xC0000000 - n)) len in
    let sp_is : sp ≡ rounded_down (at - 4 * length words) = c.round_down-stack_pointer.ensures ∙ ap (λ (n : ℕ). rounded_down (at - 4 * n)) len2 in
    let m1_is : c.fill.new.memory ≡ filled c.in_ok-memory.memory at texts =
    c.fill.ensures.filled ∙ ap (λ (b : List ℕ). filled c.in_ok-memory.memory at b) c.deref-2.ensures.value in
    let bytes_is : c.deref-3.result.now ≡ word_bytes words = c.deref-3.ensures.value ∙ (c.in_ok-bytes.ensures ∙ ap word_bytes c.deref.ensures.value) in
    let m2_is : c.fill-2.new.memory ≡ filled c.fill.new.memory sp (word_bytes words) =
    c.fill-2.ensures.filled ∙ ap (λ (b : List ℕ). filled c.fill.new.memory sp b) bytes_is in
    made_started c.args.image.now c.args.arguments.now c.args.environment.now texts words c.entry.result at sp c.in_ok-memory.memory c.fill.new.memory c.fill-2.new.memory
    c.in_ok-texts.ensures c.entry.ensures at_is c.in_ok-words.ensures sp_is c.in_ok-memory.ensures m1_is m2_is
