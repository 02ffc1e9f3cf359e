-- a pipe's life counts its rises
use Rattle.std.proofs.Common.{◌≡◌, ℕ, Bool, true, false, ◌||◌, List, [], ◌∷◌, Some, None, if◌then◌else◌, refl, sym, subst, ◌∙◌}
use Rattle.sim_base.specs.Poll.{pollin, pollout, pollerr, pollhup, pollrdhup}
use Rattle.host_fds.specs.declared.pipe.End.{End}
use Rattle.host_fds.specs.declared.pipe.End.TheVariants.{Reading, Writing}
use Rattle.host_fds.specs.declared.rises.Rises.{Rises}
use Rattle.host_fds.specs.Pipe.{PipeState, new_pipe, shut, rises}
use Rattle.host_fds.specs.Rises.{counted}
use Rattle.host_files.specs.Slots.{at}
use Rattle.pipe_laws.specs.Acts.{PipeAct, Writes, Reads, LetsGo, pipe_after, pipe_after_all}
use Rattle.pipe_laws.specs.Rises.{rises_in, rise_count}
use Rattle.file_laws.specs.Counted.{AreCounts, PipeIsCounted}
use Rattle.file_laws.specs.Kinds.{pipes}
use Rattle.file_laws.specs.Lives.{SlotAct, Life, slots_of, life_of, left_by}
use Rattle.file_laws.proofs.Bits.{end_counted}
use Rattle.file_laws.proofs.Lives.{lives, none_left}

-- what acts leave of a pipe that is still there: one that an end was let go of is, where it still has one
left_kept : (b : Bool) (acts : List PipeAct) (p q : PipeState) → (left_by pipes acts (Some p) ≡ Some q → q ≡ pipe_after_all acts p) → left_by pipes acts (if b then Some p else None) ≡ Some q → q ≡ pipe_after_all acts p
left_kept true acts p q more e = more e
left_kept false acts p q more e =
    let none : None ≡ Some q = sym (none_left pipes acts) ∙ e in absurd (cc)

left_after : (acts : List PipeAct) (p q : PipeState) → left_by pipes acts (Some p) ≡ Some q → q ≡ pipe_after_all acts p
left_after [] p q e = cc
left_after (Writes bytes ∷ acts) p q e = left_after acts (pipe_after (Writes bytes) p) q e
left_after (Reads n ∷ acts) p q e = left_after acts (pipe_after (Reads n) p) q e
left_after (LetsGo end ∷ acts) p q e =
    let r = shut p end in left_kept (r.has_reader || r.has_writer) acts r q (λ k. left_after acts r q k) e

-- each kind of act moves each bit of each end by its own rises
abbrev Moves : ℕ → End → (Rises → ℕ) → Type 0
Moves bit end field =
    (act : PipeAct) (p : PipeState) → field (rises (pipe_after act p) end) ≡ counted (rises_in bit end act p) (field (rises p end))

in_reading : Moves pollin Reading (λ r. r.input)
in_reading (Writes bytes) p = refl
in_reading (Reads n) p = refl
in_reading (LetsGo Reading) p = refl
in_reading (LetsGo Writing) p = refl

out_reading : Moves pollout Reading (λ r. r.output)
out_reading (Writes bytes) p = refl
out_reading (Reads n) p = refl
out_reading (LetsGo Reading) p = refl
out_reading (LetsGo Writing) p = refl

err_reading : Moves pollerr Reading (λ r. r.error)
err_reading (Writes bytes) p = refl
err_reading (Reads n) p = refl
err_reading (LetsGo Reading) p = refl
err_reading (LetsGo Writing) p = refl

hup_reading : Moves pollhup Reading (λ r. r.hangup)
hup_reading (Writes bytes) p = refl
hup_reading (Reads n) p = refl
hup_reading (LetsGo Reading) p = refl
hup_reading (LetsGo Writing) p = refl

end_reading : Moves pollrdhup Reading (λ r. r.peer_end)
end_reading (Writes bytes) p = refl
end_reading (Reads n) p = refl
end_reading (LetsGo Reading) p = refl
end_reading (LetsGo Writing) p = refl

in_writing : Moves pollin Writing (λ r. r.input)
in_writing (Writes bytes) p = refl
in_writing (Reads n) p = refl
in_writing (LetsGo Reading) p = refl
in_writing (LetsGo Writing) p = refl

out_writing : Moves pollout Writing (λ r. r.output)
out_writing (Writes bytes) p = refl
out_writing (Reads n) p = refl
out_writing (LetsGo Reading) p = refl
out_writing (LetsGo Writing) p = refl

err_writing : Moves pollerr Writing (λ r. r.error)
err_writing (Writes bytes) p = refl
err_writing (Reads n) p = refl
err_writing (LetsGo Reading) p = refl
err_writing (LetsGo Writing) p = refl

hup_writing : Moves pollhup Writing (λ r. r.hangup)
hup_writing (Writes bytes) p = refl
hup_writing (Reads n) p = refl
hup_writing (LetsGo Reading) p = refl
hup_writing (LetsGo Writing) p = refl

end_writing : Moves pollrdhup Writing (λ r. r.peer_end)
end_writing (Writes bytes) p = refl
end_writing (Reads n) p = refl
end_writing (LetsGo Reading) p = refl
end_writing (LetsGo Writing) p = refl

reading_counts : (acts : List PipeAct) → AreCounts (pipe_after_all acts new_pipe).read_rises (λ bit. rise_count bit Reading acts new_pipe)
reading_counts acts = record {
  input = end_counted pollin Reading (λ r. r.input) in_reading refl acts;
  output = end_counted pollout Reading (λ r. r.output) out_reading refl acts;
  error = end_counted pollerr Reading (λ r. r.error) err_reading refl acts;
  hangup = end_counted pollhup Reading (λ r. r.hangup) hup_reading refl acts;
  peer_end = end_counted pollrdhup Reading (λ r. r.peer_end) end_reading refl acts;
}

writing_counts : (acts : List PipeAct) → AreCounts (pipe_after_all acts new_pipe).write_rises (λ bit. rise_count bit Writing acts new_pipe)
writing_counts acts = record {
  input = end_counted pollin Writing (λ r. r.input) in_writing refl acts;
  output = end_counted pollout Writing (λ r. r.output) out_writing refl acts;
  error = end_counted pollerr Writing (λ r. r.error) err_writing refl acts;
  hangup = end_counted pollhup Writing (λ r. r.hangup) hup_writing refl acts;
  peer_end = end_counted pollrdhup Writing (λ r. r.peer_end) end_writing refl acts;
}

pub pipe_counted : (history : List (SlotAct (Unit {0}) PipeAct)) (k : ℕ) (p : PipeState) → at k (slots_of pipes history) ≡ Some p → (life : Life (Unit {0}) PipeAct) × ((life_of pipes k history ≡ Some life) × PipeIsCounted life p)
pipe_counted history k p there =
    let l = lives pipes history k p there in
    let same : p ≡ pipe_after_all l.lived.acts new_pipe = left_after l.lived.acts new_pipe p l.left in (
      l.lived,
      (
        l.is,
        record {
          state = same;
          reading = subst (λ (q : PipeState). AreCounts q.read_rises (λ bit. rise_count bit Reading l.lived.acts new_pipe)) (sym same) (reading_counts l.lived.acts);
          writing = subst (λ (q : PipeState). AreCounts q.write_rises (λ bit. rise_count bit Writing l.lived.acts new_pipe)) (sym same) (writing_counts l.lived.acts);
        },
      ),
    )
