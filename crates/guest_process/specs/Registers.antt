-- The registers that a start and a call use, by the names of the calling convention
-- (RISC-V ELF psABI, "Register Convention").
use Rattle.std.specs.Prelude.{ℕ}

-- the stack pointer
abbrev pub sp : ℕ
sp = 2

-- the first six arguments; the answer goes to the first of them
abbrev pub a0 : ℕ
a0 = 10

abbrev pub a1 : ℕ
a1 = 11

abbrev pub a2 : ℕ
a2 = 12

abbrev pub a3 : ℕ
a3 = 13

abbrev pub a4 : ℕ
a4 = 14

abbrev pub a5 : ℕ
a5 = 15

-- the number of a system call
abbrev pub a7 : ℕ
a7 = 17
