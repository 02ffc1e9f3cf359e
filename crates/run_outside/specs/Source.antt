-- what a source's calls give
use Rattle.std.specs.Prelude.{◌≡◌, ℕ, ◌-◌, ◌<◌, ◌≤◌, List, Option, IfSome, Result, Ok, Err, length, take, drop}
use Rattle.run_outside.specs.declared.source.ReadError.{ReadError}
use Rattle.run_outside.specs.declared.source.ReadError.TheVariants.{Failed, NoMemory}
use Rattle.run_outside.specs.Faults.{Rose}
use Rattle.run_outside.specs.Files.{Held}

-- the first n bytes of the buffer are those from the place on, and there is such a byte where some
-- are left and the buffer has room
pub record IsPiece (bytes : List ℕ) (place n : ℕ) (buffer : List ℕ) : Type 0 where
  pub same : take n buffer ≡ take n (drop place bytes)
  pub there : n ≤ length bytes - place
  pub some : n ≡ 0 → 0 < length buffer → length bytes ≤ place

-- the first bytes of the buffer are those of the file, where these are told
pub record HasRead (held : Option Held) (name : List ℕ) (count : ℕ) (buffer : List ℕ) : Type 0 where
  pub told : IfSome held (λ files. IfSome (files name) (λ bytes. (count ≤ length bytes) × (take count buffer ≡ take count bytes)))

-- the file has no byte from the place on, where its bytes are told
pub record EndsBy (place : ℕ) (held : Option Held) (name : List ℕ) : Type 0 where
  pub told : IfSome held (λ files. IfSome (files name) (λ bytes. length bytes ≤ place))

-- the count of faults rises where the answer is that the outside failed, and stays at every other
abbrev pub CountsReads : {T : Type 0} → Result T ReadError → ℕ → ℕ → Type 0
CountsReads (Ok x) before now = now ≡ before
CountsReads (Err Failed) before now = Rose before now
CountsReads (Err NoMemory) before now = now ≡ before
