use Rattle.elf_load.proofs.Written.{same_entry, same_headers, same_behind, sound}
use Rattle.elf_load.proofs.laws.reads_back.Goals as goal

pub returns-clause-entry : goal.returns-clause-entry
returns-clause-entry c = same_entry

pub returns-clause-headers : goal.returns-clause-headers
returns-clause-headers c = same_headers

pub returns-clause-behind : goal.returns-clause-behind
returns-clause-behind c = same_behind

pub returns-clause-sound : goal.returns-clause-sound
returns-clause-sound c = sound
