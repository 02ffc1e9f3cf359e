-- waits of an epoll for the reading end of a pipe, spelled out
use Rattle.std.specs.Prelude.{◌≡◌, ℕ, ◌+◌, List, [], ◌∷◌, length, None, refl}
use Rattle.sim_base.specs.Poll.{pollin}
use Rattle.host_fds.specs.declared.epoll.Seen.{Seen}
use Rattle.host_fds.specs.declared.epoll.Watch.{Watch}
use Rattle.host_fds.specs.declared.pipe.End.TheVariants.{Reading}
use Rattle.host_fds.specs.Pipe.{PipeState, new_pipe, ready}
use Rattle.host_fds.specs.Epoll.{once, edge, told, reported}
use Rattle.pipe_laws.specs.Acts.{Writes, Reads, pipe_after}

abbrev seen : PipeState → List Seen
seen p = record { fd = 3; bits = ready p Reading; rises = p.read_rises } ∷ []

abbrev watch : ℕ → List Watch
watch events = record { fd = 3; events = events; «data» = 7; reported = None } ∷ []

-- a pipe with three bytes, one more byte, and all that are read
abbrev three : PipeState
three = pipe_after (Writes (1 ∷ 2 ∷ 3 ∷ [])) new_pipe

abbrev four : PipeState
four = pipe_after (Writes (4 ∷ [])) three

abbrev emptied : PipeState
emptied = pipe_after (Reads 4) four

-- by edges: told, not told again, told of the byte that was put in, and not of what is gone
abbrev by_edge : ℕ
by_edge = pollin + edge

edge_first : length (told 8 (seen three) (watch by_edge)) ≡ 1
unfolding told
edge_first = refl

edge_again : told 8 (seen three) (reported 8 (seen three) (watch by_edge)) ≡ []
unfolding told reported
edge_again = refl

edge_more : length (told 8 (seen four) (reported 8 (seen three) (watch by_edge))) ≡ 1
unfolding told reported
edge_more = refl

edge_gone : told 8 (seen emptied) (reported 8 (seen four) (reported 8 (seen three) (watch by_edge))) ≡ []
unfolding told reported
edge_gone = refl

-- by level: told as long as there are bytes
level_again : length (told 8 (seen three) (reported 8 (seen three) (watch pollin))) ≡ 1
unfolding told reported
level_again = refl

-- once: not told again, also where more was put in
once_again : told 8 (seen four) (reported 8 (seen three) (watch (pollin + once))) ≡ []
unfolding told reported
once_again = refl
