-- two writes and two reads, with the bytes spelled out
use Rattle.std.specs.Prelude.{◌≡◌, false, List, [], ◌∷◌, refl}
use Rattle.host_fds.specs.declared.pipe.End.TheVariants.{Writing}
use Rattle.host_fds.specs.Pipe.{PipeState, new_pipe}
use Rattle.host_fds.specs.Rises.{no_rises}
use Rattle.pipe_laws.specs.Acts.{PipeAct, Writes, Reads, LetsGo, pipe_after_all, taken, given}

-- a pipe in which "ab" stands
abbrev pub ab : PipeState
ab = record new_pipe { bytes = 97 ∷ 98 ∷ [] }

-- "cd" is written, three bytes are read, "e" is written, and nine bytes are asked for
abbrev pub acts : List PipeAct
acts = Writes (99 ∷ 100 ∷ []) ∷ Reads 3 ∷ Writes (101 ∷ []) ∷ Reads 9 ∷ []

bytes_taken : taken acts ab ≡ 99 ∷ 100 ∷ 101 ∷ []
bytes_taken = refl

bytes_given : given acts ab ≡ 97 ∷ 98 ∷ 99 ∷ 100 ∷ 101 ∷ []
bytes_given = refl

nothing_left : (pipe_after_all acts ab).bytes ≡ []
nothing_left = refl

-- the writing end is let go between two writes, and a byte stays
abbrev pub acts_with_an_end : List PipeAct
acts_with_an_end = Reads 1 ∷ Writes (99 ∷ 100 ∷ []) ∷ LetsGo Writing ∷ Writes (101 ∷ []) ∷ Reads 2 ∷ []

first_write_alone_taken : taken acts_with_an_end ab ≡ 99 ∷ 100 ∷ []
first_write_alone_taken = refl

given_in_order : given acts_with_an_end ab ≡ 97 ∷ 98 ∷ 99 ∷ []
given_in_order = refl

one_left : (pipe_after_all acts_with_an_end ab).bytes ≡ 100 ∷ []
one_left = refl

no_writer : (pipe_after_all acts_with_an_end ab).has_writer ≡ false
no_writer = refl

-- the reading end had bytes at first and its rises are those since: bytes that were put in, and the writing end that was let go; a write
-- that was not taken is none
rises_counted : (pipe_after_all acts_with_an_end new_pipe).read_rises ≡ record no_rises { input = 1; hangup = 1 }
rises_counted = refl
