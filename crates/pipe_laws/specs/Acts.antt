-- writes to a pipe, reads of it and ends that are let go, one after another
use Rattle.std.specs.Prelude.{ℕ, List, [], ◌∷◌, ◌++◌, take}
use Rattle.host_fds.specs.declared.pipe.End.{End}
use Rattle.host_fds.specs.Pipe.{PipeState, count_taken, written, read, shut}

-- bytes are written, so many bytes are read, or an end is let go
pub data PipeAct : Type 0 where
  Writes : List ℕ → PipeAct
  Reads : ℕ → PipeAct
  LetsGo : End → PipeAct

abbrev pub pipe_after : PipeAct → PipeState → PipeState
pipe_after (Writes bytes) pipe = written pipe bytes
pipe_after (Reads n) pipe = read pipe n
pipe_after (LetsGo end) pipe = shut pipe end

-- the bytes that a write takes, of those that were offered
abbrev pub taken_by : PipeAct → PipeState → List ℕ
taken_by (Writes bytes) pipe = take (count_taken pipe bytes) bytes
taken_by (Reads n) pipe = []
taken_by (LetsGo end) pipe = []

-- the bytes that a read gives: the first that stand in the pipe
abbrev pub given_by : PipeAct → PipeState → List ℕ
given_by (Writes bytes) pipe = []
given_by (Reads n) pipe = take n pipe.bytes
given_by (LetsGo end) pipe = []

abbrev pub pipe_after_all : List PipeAct → PipeState → PipeState
pipe_after_all [] pipe = pipe
pipe_after_all (act ∷ acts) pipe = pipe_after_all acts (pipe_after act pipe)

-- the bytes that the writes took, one behind the other
abbrev pub taken : List PipeAct → PipeState → List ℕ
taken [] pipe = []
taken (act ∷ acts) pipe = taken_by act pipe ++ taken acts (pipe_after act pipe)

-- the bytes that the reads gave, one behind the other
abbrev pub given : List PipeAct → PipeState → List ℕ
given [] pipe = []
given (act ∷ acts) pipe = given_by act pipe ++ given acts (pipe_after act pipe)
