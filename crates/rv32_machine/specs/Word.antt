-- Words of 32 bits as numbers: their fields, and the immediates that are built from them.
-- RISC-V unprivileged manual, 2.2 Base Instruction Formats and 2.3 Immediate Encoding Variants.
use Rattle.std.specs.Prelude.{ℕ, ◌+◌, ◌-◌, ◌*◌, ◌/◌, ◌%◌, ◌^◌, ◌==◌, Bool, nat_lt, if◌then◌else◌}

-- inst[high:low]
abbrev pub bits : ℕ → ℕ → ℕ → ℕ
bits word high low = word / 2 ^ low % 2 ^ (high + 1 - low)

-- ---- 2.2: the fields of the formats R, I, S and U

abbrev pub opcode : ℕ → ℕ
opcode word = bits word 6 0

abbrev pub rd : ℕ → ℕ
rd word = bits word 11 7

abbrev pub funct3 : ℕ → ℕ
funct3 word = bits word 14 12

abbrev pub rs1 : ℕ → ℕ
rs1 word = bits word 19 15

abbrev pub rs2 : ℕ → ℕ
rs2 word = bits word 24 20

abbrev pub funct7 : ℕ → ℕ
funct7 word = bits word 31 25

-- in the chapter on the extension A
abbrev pub funct5 : ℕ → ℕ
funct5 word = bits word 31 27

-- the bytes of a word
abbrev pub word_size : ℕ
word_size = 4

-- whether the address is that of a word
abbrev pub is_aligned : ℕ → Bool
is_aligned address = address % word_size == 0

-- ---- 2.3: the immediates, each as the word that it stands for

-- a number of so many bits as a word: the copies of its highest bit fill the rest
abbrev pub sign_extended : ℕ → ℕ → ℕ
sign_extended count number =
    if nat_lt number (2 ^ (count - 1)) then number else number + (2 ^ 32 - 2 ^ count)

abbrev pub i_immediate : ℕ → ℕ
i_immediate word = sign_extended 12 (bits word 31 20)

abbrev pub s_immediate : ℕ → ℕ
s_immediate word = sign_extended 12 (bits word 31 25 * 2 ^ 5 + bits word 11 7)

-- a multiple of 2
abbrev pub b_immediate : ℕ → ℕ
b_immediate word =
    sign_extended 13
    (bits word 31 31 * 2 ^ 12 + bits word 7 7 * 2 ^ 11 + bits word 30 25 * 2 ^ 5 + bits word 11 8 * 2)

-- the lower twelve bits are zero
abbrev pub u_immediate : ℕ → ℕ
u_immediate word = bits word 31 12 * 2 ^ 12

-- a multiple of 2
abbrev pub j_immediate : ℕ → ℕ
j_immediate word =
    sign_extended 21
    (bits word 31 31 * 2 ^ 20 + bits word 19 12 * 2 ^ 12 + bits word 20 20 * 2 ^ 11 + bits word 30 21 * 2)
