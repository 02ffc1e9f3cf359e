-- A pipe, as pipe(7) has it: bytes in the order in which they were written, and whether each end is still held.
use Rattle.std.specs.Prelude.{ℕ, ◌+◌, ◌-◌, Bool, true, false, not, min, List, [], ◌++◌, length, take, drop, if◌then◌else◌, nat_lt, refl}
use Rattle.sim_base.specs.Poll.{pollin, pollout, pollerr, pollhup}
use Rattle.host_fds.specs.declared.pipe.End.{End}
use Rattle.host_fds.specs.declared.pipe.End.TheVariants.{Reading, Writing}
use Rattle.host_fds.specs.declared.rises.Rises.{Rises}
use Rattle.host_fds.specs.Rises.{no_rises, moved}

-- what was written and not read yet, whether a reader and a writer are left, and how often each end became ready
pub record PipeState : Type 0 where
  pub bytes : List ℕ
  pub has_reader : Bool
  pub has_writer : Bool
  pub read_rises : Rises
  pub write_rises : Rises

-- the most bytes that a pipe holds (this project's own profile: that of Linux's default)
abbrev pub capacity : ℕ
capacity = 65536

abbrev pub new_pipe : PipeState
new_pipe = record { bytes = []; has_reader = true; has_writer = true; read_rises = no_rises; write_rises = no_rises }

-- how many bytes there is room for
abbrev pub room : PipeState → ℕ
room p = capacity - length p.bytes

-- a bit of poll(2), where it holds
abbrev pub bit_of : ℕ → Bool → ℕ
bit_of bit holds = if holds then bit else 0

-- an end's readiness: of the reading end, that there are bytes, and that no writer is left;
-- of the writing end, that there is room for one byte, and that no reader is left
abbrev pub ready : PipeState → End → ℕ
ready p Reading = bit_of pollin (nat_lt 0 (length p.bytes)) + bit_of pollhup (not p.has_writer)
ready p Writing = bit_of pollout (nat_lt (length p.bytes) capacity) + bit_of pollerr (not p.has_reader)

abbrev pub rises : PipeState → End → Rises
rises p Reading = p.read_rises
rises p Writing = p.write_rises

-- the pipe where an act ends before which the ends were ready so
abbrev pub moves : ℕ → ℕ → Bool → PipeState → PipeState
moves reading writing put_in p = record p {
  read_rises = moved reading (ready p Reading) put_in p.read_rises;
  write_rises = moved writing (ready p Writing) false p.write_rises;
}

-- what an act leaves of a pipe: every act ends so
abbrev pub acted : PipeState → Bool → PipeState → PipeState
acted before put_in p = moves (ready before Reading) (ready before Writing) put_in p

-- how many of some bytes are taken: what there is room for, and none once writing has ended
abbrev pub count_taken : PipeState → List ℕ → ℕ
count_taken p offered = if p.has_writer then min (length offered) (room p) else 0

abbrev pub holding : List ℕ → PipeState → PipeState
holding bytes p = record p { bytes = bytes }

-- the pipe after some bytes were offered to it
abbrev pub written : PipeState → List ℕ → PipeState
written p offered = acted p (nat_lt 0 (count_taken p offered)) (holding (p.bytes ++ take (count_taken p offered) offered) p)

-- the pipe after n bytes were asked of it
abbrev pub read : PipeState → ℕ → PipeState
read p n = acted p false (holding (drop n p.bytes) p)

-- the pipe after an end was let go
abbrev pub let_go : PipeState → End → PipeState
let_go p Reading = record p { has_reader = false }
let_go p Writing = record p { has_writer = false }

abbrev pub shut : PipeState → End → PipeState
shut p end = acted p false (let_go p end)
