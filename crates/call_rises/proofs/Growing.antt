-- acts on pipes, timers and eventfds by which none of them ends
use Rattle.std.proofs.Common.{◌≡◌, ℕ, Bool, true, List, Option, Some, None, is_some, refl, sym, subst}
use Rattle.host_fds.specs.declared.eventfd.Eventfd.{Eventfd}
use Rattle.host_fds.specs.declared.pipe.End.{End}
use Rattle.host_fds.specs.declared.pipe.End.TheVariants.{Reading, Writing}
use Rattle.host_fds.specs.Pipe.{PipeState, new_pipe}
use Rattle.host_files.specs.declared.timer.KeptTimer.{KeptTimer}
use Rattle.host_files.specs.Files.{FilesState, with_pipe, pipe_read, pipe_written, after_read, after_write, new_timer, with_timer, timer_acts, with_eventfd, eventfd_acts}
use Rattle.host_files.specs.Slots.{at, after, acts}
use Rattle.file_laws.proofs.Places.{acts_here, set_other, made_keeps}
use Rattle.call_rises.specs.Names.{has_end}
use Rattle.call_rises.proofs.Views.{Grows, by_number}

acts_keep : {A : Type 0} (test : Option A → Bool) (act : A → Option A) → ((o : Option A) → test o ≡ true → test (after act o) ≡ true) → (j k : ℕ) (slots : List (Option A)) → test (at k slots) ≡ true → test (at k (acts act j slots)) ≡ true
acts_keep {A} test act keeps j k slots h =
    by_number j k (test (at k (acts act j slots)) ≡ true)
    (λ same.
    subst (λ (n : ℕ). test (at n (acts act j slots)) ≡ true) same
    (subst (λ (o : Option A). test o ≡ true) (sym (acts_here act j slots)) (keeps (at j slots) (subst (λ (n : ℕ). test (at n slots) ≡ true) (sym same) h))))
    (λ apart. subst (λ (o : Option A). test o ≡ true) (sym (set_other j k (after act (at j slots)) slots apart)) h)

some_stays : {A : Type 0} (act : A → Option A) → ((a : A) → is_some (act a) ≡ true) → (o : Option A) → is_some o ≡ true → is_some (after act o) ≡ true
some_stays act total None h = h
some_stays act total (Some a) h = total a

-- reads and writes of pipes
end_read : (count : ℕ) (end : End) (o : Option PipeState) → has_end end o ≡ true → has_end end (after (after_read count) o) ≡ true
end_read count end None h = h
end_read count Reading (Some p) h = h
end_read count Writing (Some p) h = h

end_written : (bytes : List ℕ) (end : End) (o : Option PipeState) → has_end end o ≡ true → has_end end (after (after_write bytes) o) ≡ true
end_written bytes end None h = h
end_written bytes Reading (Some p) h = h
end_written bytes Writing (Some p) h = h

pub grows_read : (count k : ℕ) (x : FilesState) → Grows x (pipe_read count k x)
grows_read count k x = record {
  ends = λ end j h. acts_keep (has_end end) (after_read count) (end_read count end) k j x.pipes h;
  eventfds = λ j h. h;
  timers = λ j h. h;
}

pub grows_written : (bytes : List ℕ) (k : ℕ) (x : FilesState) → Grows x (pipe_written bytes k x)
grows_written bytes k x = record {
  ends = λ end j h. acts_keep (has_end end) (after_write bytes) (end_written bytes end) k j x.pipes h;
  eventfds = λ j h. h;
  timers = λ j h. h;
}

-- acts on timers and eventfds
pub grows_timer : (act : KeptTimer → Option KeptTimer) → ((t : KeptTimer) → is_some (act t) ≡ true) → (k : ℕ) (x : FilesState) → Grows x (timer_acts act k x)
grows_timer act total k x = record {
  ends = λ end j h. h;
  eventfds = λ j h. h;
  timers = λ j h. acts_keep is_some act (some_stays act total) k j x.timers h;
}

pub grows_eventfd : (act : Eventfd → Option Eventfd) → ((e : Eventfd) → is_some (act e) ≡ true) → (k : ℕ) (x : FilesState) → Grows x (eventfd_acts act k x)
grows_eventfd act total k x = record {
  ends = λ end j h. h;
  eventfds = λ j h. acts_keep is_some act (some_stays act total) k j x.eventfds h;
  timers = λ j h. h;
}

-- new ones
pub grows_by_pipe : (x : FilesState) → Grows x (with_pipe x)
grows_by_pipe x = record {
  ends = λ end k h. made_keeps (has_end end) refl new_pipe x.pipes k h;
  eventfds = λ k h. h;
  timers = λ k h. h;
}

pub grows_by_timer : (clock : ℕ) (x : FilesState) → Grows x (with_timer clock x)
grows_by_timer clock x = record {
  ends = λ end k h. h;
  eventfds = λ k h. h;
  timers = λ k h. made_keeps is_some refl (new_timer clock) x.timers k h;
}

pub grows_by_eventfd : (e : Eventfd) (x : FilesState) → Grows x (with_eventfd e x)
grows_by_eventfd e x = record {
  ends = λ end k h. h;
  eventfds = λ k h. made_keeps is_some refl e x.eventfds k h;
  timers = λ k h. h;
}
