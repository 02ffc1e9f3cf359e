-- How the program ends, by its status.
use Rattle.std.specs.Prelude.{◌≡◌, ℕ, ◌≤◌, ◌⊎◌, List, Option, IfSome}
use Rattle.run_outside.specs.Faults.{Rose}
use Rattle.run_outside.specs.Files.{Held}
use Rattle.run_outside.specs.Sink.{Content}
use Rattle.run_outside.specs.Tally.{EndsByError, StopsAtError}
use Rattle.run_outside.specs.declared.tally.Tally.{Tally}
use Rattle.shadow_top.specs.Contract.{Shows, TellsReadFailed, ShowsPart, TellsPart}
use Rattle.shadow_top.specs.Input.{Input, input}

-- the fact holds of the input, where source and sink tell what they hold
abbrev pub Told : List (List ℕ) → Option Held → Option Content → (Input → Content → Type 0) → Type 0
Told words held old P = IfSome held (λ h. IfSome old (λ c. P (input words h c) c))

-- the source's count of faults, and what the sink counted of its calls, before and after
pub data Outcome (words : List (List ℕ)) (held : Option Held) (old new : Option Content) (reads reads' : ℕ) (writes writes' : Tally) (status : ℕ) : Type 0 where
  showed : status ≤ 2 → reads' ≡ reads → writes'.faults ≡ writes.faults → writes'.errors ≡ writes.errors → Told words held old (λ i c. Shows i c new status)
      → Outcome words held old new reads reads' writes writes' status
  failed_reading : status ≡ 3 → Rose reads reads' → writes'.faults ≡ writes.faults → writes'.errors ≡ writes.errors → Told words held old (λ i c. TellsReadFailed i c new)
      → Outcome words held old new reads reads' writes writes' status
  failed_writing : status ≡ 4 → Rose writes.faults writes'.faults → EndsByError writes.errors writes' → Told words held old (λ i c. ShowsPart i c new ⊎ (Rose reads reads' × TellsPart i c new))
      → Outcome words held old new reads reads' writes writes' status
  wanted_memory : status ≡ 5 → writes'.faults ≡ writes.faults → StopsAtError writes.errors writes' → Told words held old (λ i c. ShowsPart i c new ⊎ (Rose reads reads' × TellsPart i c new))
      → Outcome words held old new reads reads' writes writes' status
