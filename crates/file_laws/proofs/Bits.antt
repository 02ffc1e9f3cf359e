-- bits that an end of a pipe, or an eventfd, never has
use Rattle.std.proofs.Common.{◌≡◌, ℕ, List, [], ◌∷◌, refl, ◌∙◌, ap, Bool}
use Rattle.host_fds.specs.declared.eventfd.Eventfd.{Eventfd}
use Rattle.host_fds.specs.declared.pipe.End.{End}
use Rattle.host_fds.specs.declared.rises.Rises.{Rises}
use Rattle.host_fds.specs.Eventfd.{new_eventfd}
use Rattle.host_fds.specs.Pipe.{PipeState, new_pipe, rises}
use Rattle.host_fds.specs.Rises.{counted}
use Rattle.pipe_laws.specs.Acts.{PipeAct, pipe_after, pipe_after_all}
use Rattle.pipe_laws.specs.Eventfds as eventfd
use Rattle.pipe_laws.specs.Eventfds.{EventfdAct, eventfd_after, eventfd_after_all}
use Rattle.pipe_laws.specs.Rises.{rises_in, rises_in_each, rise_count}
use Rattle.pipe_laws.proofs.Counting.{run, counted_from_none}

-- a count of an end that each act moves by its bit
module _ (bit : ℕ) (end : End) (field : Rises → ℕ) (moves : (act : PipeAct) (p : PipeState) → field (rises (pipe_after act p) end) ≡ counted (rises_in bit end act p) (field (rises p end))) where
  all_move : (acts : List PipeAct) (p : PipeState) → field (rises (pipe_after_all acts p) end) ≡ run (rises_in_each bit end acts p) (field (rises p end))
  all_move [] p = refl
  all_move (act ∷ acts) p =
      all_move acts (pipe_after act p) ∙ ap (λ (n : ℕ). run (rises_in_each bit end acts (pipe_after act p)) n) (moves act p)

  pub end_counted : field (rises new_pipe end) ≡ 0 → (acts : List PipeAct) → field (rises (pipe_after_all acts new_pipe) end) ≡ rise_count bit end acts new_pipe
  end_counted none acts =
      all_move acts new_pipe ∙ (ap (λ (n : ℕ). run (rises_in_each bit end acts new_pipe) n) none ∙ counted_from_none (rises_in_each bit end acts new_pipe))

-- and of an eventfd
module _ (bit : ℕ) (field : Rises → ℕ) (moves : (act : EventfdAct) (e : Eventfd) → field (eventfd_after act e).rises ≡ counted (eventfd.rises_in bit act e) (field e.rises)) where
  eventfd_moves : (acts : List EventfdAct) (e : Eventfd) → field (eventfd_after_all acts e).rises ≡ run (eventfd.rises_in_each bit acts e) (field e.rises)
  eventfd_moves [] e = refl
  eventfd_moves (act ∷ acts) e =
      eventfd_moves acts (eventfd_after act e) ∙ ap (λ (n : ℕ). run (eventfd.rises_in_each bit acts (eventfd_after act e)) n) (moves act e)

  pub eventfd_counted : (acts : List EventfdAct) (count : ℕ) (semaphore : Bool) → field (new_eventfd count semaphore).rises ≡ 0 → field (eventfd_after_all acts (new_eventfd count semaphore)).rises ≡ eventfd.rise_count bit acts (new_eventfd count semaphore)
  eventfd_counted acts count semaphore none =
      let e = new_eventfd count semaphore in
      eventfd_moves acts e ∙ (ap (λ (n : ℕ). run (eventfd.rises_in_each bit acts e) n) none ∙ counted_from_none (eventfd.rises_in_each bit acts e))
