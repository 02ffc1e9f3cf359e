-- Stores leave pages of code.
use Rattle.std.proofs.Common.{◌≡◌, ◌%◌, ◌^◌, ℕ, List, Some}
use Rattle.guest_mem.specs.Memory.{Memory, IsCode, store}
use Rattle.rv32_machine.specs.Table.{stored}
use Rattle.rv32_machine.specs.Word.{word_size}
use Rattle.rv32_machine.specs.declared.instruction.Store.{Store}
use Rattle.rv32_machine.specs.declared.instruction.Store.TheVariants.{Sb, Sh, Sw}

-- what a law of memory says of each store
abbrev pub LeavesCode : Memory → Memory → Type 0
LeavesCode old new = (number : ℕ) (bytes : List ℕ) → IsCode old.cells number bytes → IsCode new.cells number bytes

pub stored_leaves : (kind : Store) (old new : Memory) (a n : ℕ)
    → ((old new : Memory) (k a n number : ℕ) (bytes : List ℕ) → store k old a n ≡ Some new → IsCode old.cells number bytes → IsCode new.cells number bytes)
    → stored kind old a n ≡ Some new → LeavesCode old new
stored_leaves Sb old new a n law is number bytes = law old new 1 a (n % 2 ^ 8) number bytes is
stored_leaves Sh old new a n law is number bytes = law old new 2 a (n % 2 ^ 16) number bytes is
stored_leaves Sw old new a n law is number bytes = law old new word_size a n number bytes is
