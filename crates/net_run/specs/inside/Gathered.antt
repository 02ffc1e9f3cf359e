-- Where the last piece for a file is kept in mind.
use Rattle.std.specs.Prelude.{◌≡◌, ℕ, suc, ◌+◌, ◌*◌, ◌%◌, ◌^◌, false, true, List, fold, drop, Some, slice_get}
use Rattle.run_outside.specs.declared.sink.SinkTarget.TheVariants as target
use Rattle.run_files.specs.Files.{Put}
use Rattle.net_run.specs.Targets.{is_target, is_touched}

-- the slot of a file by its name
abbrev pub slot_of : List ℕ → ℕ
slot_of name = fold (λ hash byte. (hash * 31 % 2 ^ 32 + byte) % 2 ^ 32) 0 name % 16384

-- where the slot of a file has the place of a piece for it, no piece behind that is for the file
abbrev pub AreLast : List Put → List ℕ → Type 0
AreLast puts slots = (name : List ℕ) (place : ℕ) (put : Put) → slice_get slots (slot_of name) ≡ Some place → slice_get puts place ≡ Some put
    → is_target put.0 (target.File name) ≡ true → is_touched (target.File name) (drop (suc place) puts) ≡ false
