-- What the instructions compute of two words. A word is a number below 2 ^ 32, and sums wrap there.
-- RISC-V unprivileged manual, 2.4 Integer Computational Instructions, 2.5.2 Conditional Branches, and
-- the chapters on the extensions M and A.
use Rattle.std.specs.Prelude.{ℕ, ◌+◌, ◌-◌, ◌*◌, ◌/◌, ◌%◌, ◌^◌, ◌==◌, nat_lt, nat_le, Bool, not, if◌then◌else◌, ℤ, pos, ◌*ℤ◌, int_lt, int_div, int_rem, bit_and, bit_or, bit_xor}
use Rattle.std.specs.Int.{w32, w64, cast_signed, cast_unsigned, int_shr}
use Rattle.rv32_machine.specs.declared.instruction.Operation.{Operation}
use Rattle.rv32_machine.specs.declared.instruction.Operation.TheVariants.{Add, Sub, Sll, Slt, Sltu, Xor, Srl, Sra, Or, And, Mul, Mulh, Mulhsu, Mulhu, Div, Divu, Rem, Remu}
use Rattle.rv32_machine.specs.declared.instruction.Amo.{Amo}
use Rattle.rv32_machine.specs.declared.instruction.Amo.TheVariants.{AmoSwap, AmoAdd, AmoXor, AmoAnd, AmoOr, AmoMin, AmoMax, AmoMinu, AmoMaxu}
use Rattle.rv32_machine.specs.declared.instruction.Branch.{Branch}
use Rattle.rv32_machine.specs.declared.instruction.Branch.TheVariants.{Beq, Bne, Blt, Bge, Bltu, Bgeu}

-- the number that a word is in two's complement, and the word of a number
abbrev pub signed : ℕ → ℤ
signed word = cast_signed w32 word

abbrev pub word_of : ℤ → ℕ
word_of number = cast_unsigned w32 number

-- what a sum leaves in a word
abbrev pub sum : ℕ → ℕ → ℕ
sum a b = (a + b) % 2 ^ 32

-- the upper word of the 64 bits of a product
abbrev pub upper_word : ℤ → ℕ
upper_word product = cast_unsigned w64 product / 2 ^ 32

-- what the operation puts into rd: a is rs1, b is the I-immediate or rs2
abbrev pub value : Operation → ℕ → ℕ → ℕ
-- 2.4.1 and 2.4.2: a shift takes the lower five bits of b
value Add a b = sum a b
value Sub a b = sum a (2 ^ 32 - b)
value Sll a b = a * 2 ^ (b % 32) % 2 ^ 32
value Slt a b = if int_lt (signed a) (signed b) then 1 else 0
value Sltu a b = if nat_lt a b then 1 else 0
value Xor a b = bit_xor a b
value Srl a b = a / 2 ^ (b % 32)
value Sra a b = word_of (int_shr (signed a) (b % 32))
value Or a b = bit_or a b
value And a b = bit_and a b
-- the extension M, Multiplication Operations
value Mul a b = a * b % 2 ^ 32
value Mulh a b = upper_word (signed a *ℤ signed b)
value Mulhsu a b = upper_word (signed a *ℤ pos b)
value Mulhu a b = upper_word (pos a *ℤ pos b)
-- Division Operations: rounded towards zero; by zero all ones, and the dividend as remainder.
-- The word of 2 ^ 31 is that of -2 ^ 31, so that -2 ^ 31 by -1 gives -2 ^ 31.
value Div a b = if b == 0 then 2 ^ 32 - 1 else word_of (int_div (signed a) (signed b))
value Divu a b = if b == 0 then 2 ^ 32 - 1 else a / b
value Rem a b = if b == 0 then a else word_of (int_rem (signed a) (signed b))
value Remu a b = if b == 0 then a else a % b

-- whether the branch is taken: a is rs1, b is rs2
abbrev pub is_taken : Branch → ℕ → ℕ → Bool
is_taken Beq a b = a == b
is_taken Bne a b = not (a == b)
is_taken Blt a b = int_lt (signed a) (signed b)
is_taken Bge a b = not (int_lt (signed a) (signed b))
is_taken Bltu a b = nat_lt a b
is_taken Bgeu a b = nat_le b a

-- the word that an atomic memory operation leaves: a is the word that stood there, b is rs2
abbrev pub modified : Amo → ℕ → ℕ → ℕ
modified AmoSwap a b = b
modified AmoAdd a b = sum a b
modified AmoXor a b = bit_xor a b
modified AmoAnd a b = bit_and a b
modified AmoOr a b = bit_or a b
modified AmoMin a b = if int_lt (signed a) (signed b) then a else b
modified AmoMax a b = if int_lt (signed a) (signed b) then b else a
modified AmoMinu a b = if nat_lt a b then a else b
modified AmoMaxu a b = if nat_lt a b then b else a
