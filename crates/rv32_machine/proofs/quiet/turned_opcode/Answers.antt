use Rattle.std.proofs.Common.{◌≡◌, ℕ, ◌+◌, ◌*◌, ◌/◌, ◌%◌, ◌^◌, ◌<◌, bit_or, ap, ◌∙◌, arith}
use Rattle.std.proofs.lemmas.Nat.{or_comm, or_shifted}
use Rattle.rv32_machine.proofs.quiet.turned_opcode.Goals as goal

-- the lower two bits of a small number, turned to the upper end of a word
turned : (n : ℕ) → n < 2 ^ 7 → bit_or (n / 4) (n * 2 ^ 30 % 2 ^ 32) ≡ n / 4 + n % 4 * 2 ^ 30
turned n low =
    let shifted : n * 2 ^ 30 % 2 ^ 32 ≡ n % 4 * 2 ^ 30 = omega arith in
    let swapped : n % 4 * 2 ^ 30 + n / 4 ≡ n / 4 + n % 4 * 2 ^ 30 = omega arith in
    ap (bit_or (n / 4)) shifted ∙ or_comm (n / 4) (n % 4 * 2 ^ 30) ∙ or_shifted (n % 4) 30 (n / 4) (omega arith) ∙ swapped

pub returns : goal.returns
returns c =
    c.rotate_right.ensures ∙ turned ((c.opcode.result + 125) % 128) (omega arith)
    ∙ ap (λ (o : ℕ). (o + 125) % 128 / 4 + (o + 125) % 128 % 4 * 2 ^ 30) c.opcode.ensures.value
