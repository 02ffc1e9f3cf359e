-- Rises that are kept are those that are counted.
use Rattle.std.proofs.Common.{◌≡◌, ℕ, ◌+◌, ◌≤◌, min, Bool, true, false, List, [], ◌∷◌, count_by, if◌then◌else◌, refl, ◌∙◌, arith}
use Rattle.std.proofs.lemmas.List.Sums.{sum_by_from}
use Rattle.sim_base.specs.Poll.{pollin, pollout, pollerr, pollhup}
use Rattle.host_fds.specs.declared.pipe.End.TheVariants.{Reading, Writing}
use Rattle.host_fds.specs.Pipe.{PipeState, new_pipe}
use Rattle.host_fds.specs.Rises.{counted, most}
use Rattle.pipe_laws.specs.Acts.{PipeAct, Writes, Reads, LetsGo, pipe_after, pipe_after_all}
use Rattle.pipe_laws.specs.Rises.{rises_in_each, rise_count}

-- counts one after another
abbrev pub run : List Bool → ℕ → ℕ
run [] n = n
run (b ∷ bs) n = run bs (counted b n)

run_is : (bs : List Bool) (n : ℕ) → n ≤ most → run bs n ≡ min (n + count_by (λ b. b) bs) most
run_is [] n h = let none : count_by (λ (b : Bool). b) [] ≡ 0 = refl in omega (arith, none)
run_is (true ∷ bs) n h =
    let one : count_by (λ b. b) (true ∷ bs) ≡ 1 + count_by (λ b. b) bs = sum_by_from (λ b. if b then 1 else 0) 1 bs in
    run_is bs (min (n + 1) most) (omega arith) ∙ omega arith
run_is (false ∷ bs) n h =
    let none : count_by (λ b. b) (false ∷ bs) ≡ 0 + count_by (λ b. b) bs = sum_by_from (λ b. if b then 1 else 0) 0 bs in
    run_is bs n h ∙ omega arith

pub counted_from_none : (bs : List Bool) → run bs 0 ≡ min (count_by (λ b. b) bs) most
counted_from_none bs = run_is bs 0 (omega arith) ∙ omega arith

-- each kind of act moves each bit of each end by its own rises
read_input : (acts : List PipeAct) (p : PipeState) → (pipe_after_all acts p).read_rises.input ≡ run (rises_in_each pollin Reading acts p) p.read_rises.input
read_input [] p = refl
read_input (Writes bytes ∷ acts) p = read_input acts (pipe_after (Writes bytes) p)
read_input (Reads n ∷ acts) p = read_input acts (pipe_after (Reads n) p)
read_input (LetsGo Reading ∷ acts) p = read_input acts (pipe_after (LetsGo Reading) p)
read_input (LetsGo Writing ∷ acts) p = read_input acts (pipe_after (LetsGo Writing) p)

read_hangup : (acts : List PipeAct) (p : PipeState) → (pipe_after_all acts p).read_rises.hangup ≡ run (rises_in_each pollhup Reading acts p) p.read_rises.hangup
read_hangup [] p = refl
read_hangup (Writes bytes ∷ acts) p = read_hangup acts (pipe_after (Writes bytes) p)
read_hangup (Reads n ∷ acts) p = read_hangup acts (pipe_after (Reads n) p)
read_hangup (LetsGo Reading ∷ acts) p = read_hangup acts (pipe_after (LetsGo Reading) p)
read_hangup (LetsGo Writing ∷ acts) p = read_hangup acts (pipe_after (LetsGo Writing) p)

write_output : (acts : List PipeAct) (p : PipeState) → (pipe_after_all acts p).write_rises.output ≡ run (rises_in_each pollout Writing acts p) p.write_rises.output
write_output [] p = refl
write_output (Writes bytes ∷ acts) p = write_output acts (pipe_after (Writes bytes) p)
write_output (Reads n ∷ acts) p = write_output acts (pipe_after (Reads n) p)
write_output (LetsGo Reading ∷ acts) p = write_output acts (pipe_after (LetsGo Reading) p)
write_output (LetsGo Writing ∷ acts) p = write_output acts (pipe_after (LetsGo Writing) p)

write_error : (acts : List PipeAct) (p : PipeState) → (pipe_after_all acts p).write_rises.error ≡ run (rises_in_each pollerr Writing acts p) p.write_rises.error
write_error [] p = refl
write_error (Writes bytes ∷ acts) p = write_error acts (pipe_after (Writes bytes) p)
write_error (Reads n ∷ acts) p = write_error acts (pipe_after (Reads n) p)
write_error (LetsGo Reading ∷ acts) p = write_error acts (pipe_after (LetsGo Reading) p)
write_error (LetsGo Writing ∷ acts) p = write_error acts (pipe_after (LetsGo Writing) p)

pub input_counted : (acts : List PipeAct) → (pipe_after_all acts new_pipe).read_rises.input ≡ rise_count pollin Reading acts new_pipe
input_counted acts = read_input acts new_pipe ∙ counted_from_none (rises_in_each pollin Reading acts new_pipe)

pub hangup_counted : (acts : List PipeAct) → (pipe_after_all acts new_pipe).read_rises.hangup ≡ rise_count pollhup Reading acts new_pipe
hangup_counted acts = read_hangup acts new_pipe ∙ counted_from_none (rises_in_each pollhup Reading acts new_pipe)

pub output_counted : (acts : List PipeAct) → (pipe_after_all acts new_pipe).write_rises.output ≡ rise_count pollout Writing acts new_pipe
output_counted acts = write_output acts new_pipe ∙ counted_from_none (rises_in_each pollout Writing acts new_pipe)

pub error_counted : (acts : List PipeAct) → (pipe_after_all acts new_pipe).write_rises.error ≡ rise_count pollerr Writing acts new_pipe
error_counted acts = write_error acts new_pipe ∙ counted_from_none (rises_in_each pollerr Writing acts new_pipe)
