-- How often a bit of poll(2) came to hold for an end of a pipe, over acts one after another.
use Rattle.std.specs.Prelude.{ℕ, ◌||◌, ◌==◌, ◌&&◌, Bool, false, List, [], ◌∷◌, count_by, min, nat_lt}
use Rattle.sim_base.specs.Poll.{pollin}
use Rattle.host_fds.specs.declared.pipe.End.{End}
use Rattle.host_fds.specs.declared.pipe.End.TheVariants.{Reading, Writing}
use Rattle.host_fds.specs.Pipe.{PipeState, count_taken, ready}
use Rattle.host_fds.specs.Rises.{rose, most}
use Rattle.pipe_laws.specs.Acts.{PipeAct, Writes, Reads, LetsGo, pipe_after}

-- an act puts something in where it is a write of which bytes are taken
abbrev pub puts_in : PipeAct → PipeState → Bool
puts_in (Writes bytes) pipe = nat_lt 0 (count_taken pipe bytes)
puts_in (Reads n) pipe = false
puts_in (LetsGo end) pipe = false

abbrev pub fills : ℕ → End → PipeAct → PipeState → Bool
fills bit Reading act pipe = bit == pollin && puts_in act pipe
fills bit Writing act pipe = false

-- whether the bit rose in an act, and in each of some acts
abbrev pub rises_in : ℕ → End → PipeAct → PipeState → Bool
rises_in bit end act pipe = fills bit end act pipe || rose bit (ready pipe end) (ready (pipe_after act pipe) end)

abbrev pub rises_in_each : ℕ → End → List PipeAct → PipeState → List Bool
rises_in_each bit end [] pipe = []
rises_in_each bit end (act ∷ acts) pipe = rises_in bit end act pipe ∷ rises_in_each bit end acts (pipe_after act pipe)

-- in how many of them; a count stands still at the most that it counts to
abbrev pub rise_count : ℕ → End → List PipeAct → PipeState → ℕ
rise_count bit end acts pipe = min (count_by (λ b. b) (rises_in_each bit end acts pipe)) most
