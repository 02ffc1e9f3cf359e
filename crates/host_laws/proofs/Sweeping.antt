-- What the end of a firing leaves: no process that is blocked in a call that would answer.
use Rattle.std.proofs.Common.{◌≡◌, ◌≢◌, ℕ, zero, suc, ◌+◌, ◌<◌, ◌≤◌, ◌&&◌, ⊎_elim, Bool, true, false, not, min, length, Option, Some, None, slice_get, refl, sym, ap, subst, ◌∙◌, arith}
use Rattle.std.specs.Prelude.{if◌then◌else◌}
use Rattle.std.proofs.lemmas.Bool.{cases_lt}
use Rattle.sim_base.specs.declared.time.Time.{Time}
use Rattle.file_calls.specs.declared.task.Why.{Why}
use Rattle.host_calls.specs.Calls.{answers}
use Rattle.host_calls.specs.Parts.{PartsRecord}
use Rattle.host_link.specs.Net.{Net}
use Rattle.guest_process.specs.declared.process.Process.{Process}
use Rattle.guest_process.specs.declared.process.Process.TheVariants as process
use Rattle.guest_process.specs.declared.process.Running.{Running}
use Rattle.host_state.specs.Fire.{running_in, kept_in, kept_by, wakes_if, would_answer, wakes_in, wakes, wakes_from, wakes_all}
use Rattle.host_state.specs.HostRecord.{HostRecord}
use Rattle.host_state.specs.Slice.{has_task, goes_later}
use Rattle.world_order.proofs.Homes.{get_set_same, get_set_other}
use Rattle.host_laws.proofs.Passing.{still, PassesTo, passes_quiet, passes_on, later_passes}

module _ (net : Net) where
  -- whether a process that would answer has no Go to come
  pub would : ℕ → Time → PartsRecord → Option Why → Bool
  would p now parts None = false
  would p now parts (Some why) = if has_task p parts then answers net.known now p why parts else false

  abbrev forgets : ℕ → Time → PartsRecord → Option Process → Bool
  forgets p now parts None = false
  forgets p now parts (Some process.NotStarted) = false
  forgets p now parts (Some (process.Running r)) = not r.goes && would p now parts (kept_in (slice_get parts.tasks p))
  forgets p now parts (Some (process.Ended s)) = false

  abbrev pub forgotten : ℕ → HostRecord → Bool
  forgotten p h = forgets p h.link.time h.parts (slice_get h.processes p)

  would_same : (p : ℕ) (h : HostRecord) (why : Option Why) → would p h.link.time h.parts why ≡ would_answer net p why h
  unfolding would would_answer
  would_same p h None = refl
  would_same p h (Some why) = refl

  -- a process that wakes leaves all but itself as it was
  record Leaves (p : ℕ) (h k : HostRecord) : Type 0 where
    parts : k.parts ≡ h.parts
    time : k.link.time ≡ h.link.time
    others : (q : ℕ) → q ≢ p → slice_get k.processes q ≡ slice_get h.processes q

  leaves_none : (p : ℕ) (h : HostRecord) → Leaves p h h
  leaves_none p h = record { parts = refl; time = refl; others = λ q apart. refl }

  leaves_later : (p : ℕ) (r : Running) (h : HostRecord) → Leaves p h (goes_later 1 p r.cpu h)
  unfolding goes_later
  leaves_later p r h = record {
    parts = refl;
    time = (later_passes 1 p r.cpu h).link.time;
    others = λ q apart. get_set_other h.processes p q _ apart;
  }

  if_leaves : (wake : Bool) (p : ℕ) (r : Running) (h : HostRecord) → Leaves p h (wakes_if wake p r h)
  if_leaves true p r h = leaves_later p r h
  if_leaves false p r h = leaves_none p h

  in_leaves : (p : ℕ) (found : Option Running) (h : HostRecord) → Leaves p h (wakes_in net p found h)
  in_leaves p None h = leaves_none p h
  in_leaves p (Some r) h = if_leaves (not r.goes && would_answer net p (kept_by p h) h) p r h

  waking_leaves : (p : ℕ) (h : HostRecord) → Leaves p h (wakes net p h)
  unfolding wakes
  waking_leaves p h = in_leaves p (running_in (slice_get h.processes p)) h

  other_kept : (p q : ℕ) (h : HostRecord) → q ≢ p → forgotten q (wakes net p h) ≡ forgotten q h
  other_kept p q h apart =
      let k = wakes net p h in
      let l = waking_leaves p h in
      ap (λ (t : Time). forgets q t k.parts (slice_get k.processes q)) l.time
      ∙ (ap (λ (parts : PartsRecord). forgets q h.link.time parts (slice_get k.processes q)) l.parts
      ∙ ap (forgets q h.link.time h.parts) (l.others q apart))

  -- the one that wakes isn't forgotten
  woken_if : (wake : Bool) (p : ℕ) (r : Running) (h : HostRecord) → (not r.goes && would_answer net p (kept_by p h) h) ≡ wake
      → slice_get h.processes p ≡ Some (process.Running r) → forgotten p (wakes_if wake p r h) ≡ false
  unfolding goes_later
  woken_if true p r h e there = ap (forgets p _ h.parts) (get_set_same h.processes p (process.Running r) _ there)
  woken_if false p r h e there =
      ap (forgets p h.link.time h.parts) there ∙ (ap (λ (b : Bool). not r.goes && b) (would_same p h (kept_by p h)) ∙ e)

  woken_in : (p : ℕ) (found : Option Process) (h : HostRecord) → slice_get h.processes p ≡ found → forgotten p (wakes_in net p (running_in found) h) ≡ false
  woken_in p None h there = ap (forgets p h.link.time h.parts) there
  woken_in p (Some process.NotStarted) h there = ap (forgets p h.link.time h.parts) there
  woken_in p (Some (process.Running r)) h there = woken_if (not r.goes && would_answer net p (kept_by p h) h) p r h refl there
  woken_in p (Some (process.Ended s)) h there = ap (forgets p h.link.time h.parts) there

  woken : (p : ℕ) (h : HostRecord) → forgotten p (wakes net p h) ≡ false
  unfolding wakes
  woken p h = woken_in p (slice_get h.processes p) h refl

  -- one after another
  kept_beyond : (q p n : ℕ) (h : HostRecord) → q < p → forgotten q h ≡ false → forgotten q (wakes_from net p n h) ≡ false
  unfolding wakes_from
  kept_beyond q p zero h before e = e
  kept_beyond q p (suc n) h before e =
      kept_beyond q (suc p) n (wakes net p h) (omega arith) (other_kept p q h (λ same. absurd (omega (arith, same, before))) ∙ e)

  pub swept : (q p n : ℕ) (h : HostRecord) → p ≤ q → q < p + n → forgotten q (wakes_from net p n h) ≡ false
  unfolding wakes_from
  swept q p zero h from to = absurd (omega arith)
  swept q p (suc n) h from to =
      ⊎_elim (λ b. swept q (suc p) n (wakes net p h) (omega (arith, b)) (omega arith))
      (λ b.
      let same : p ≡ q = omega (arith, b, from) in
      kept_beyond q (suc p) n (wakes net p h) (omega (arith, same)) (subst (λ (i : ℕ). forgotten i (wakes net p h) ≡ false) same (woken p h)))
      (cases_lt p q)

  -- what it leaves of the processes
  if_passes : (wake : Bool) (p : ℕ) (r : Running) (h : HostRecord) → PassesTo h (wakes_if wake p r h)
  if_passes true p r h = later_passes 1 p r.cpu h
  if_passes false p r h = passes_quiet h h (still h)

  in_passes : (p : ℕ) (found : Option Running) (h : HostRecord) → PassesTo h (wakes_in net p found h)
  in_passes p None h = passes_quiet h h (still h)
  in_passes p (Some r) h = if_passes (not r.goes && would_answer net p (kept_by p h) h) p r h

  waking_passes : (p : ℕ) (h : HostRecord) → PassesTo h (wakes net p h)
  unfolding wakes
  waking_passes p h = in_passes p (running_in (slice_get h.processes p)) h

  from_passes : (p n : ℕ) (h : HostRecord) → PassesTo h (wakes_from net p n h)
  unfolding wakes_from
  from_passes p zero h = passes_quiet h h (still h)
  from_passes p (suc n) h = passes_on h (wakes net p h) (wakes_from net (suc p) n (wakes net p h)) (waking_passes p h) (from_passes (suc p) n (wakes net p h))

  pub all_passes : (h : HostRecord) → PassesTo h (wakes_all net h)
  unfolding wakes_all
  all_passes h = from_passes 0 (min (length h.processes) 64) h

  pub all_swept : (p : ℕ) (h : HostRecord) → p < length h.processes → length h.processes ≤ 64 → forgotten p (wakes_all net h) ≡ false
  unfolding wakes_all
  all_swept p h within few = swept p 0 (min (length h.processes) 64) h (omega arith) (omega arith)

  -- a process that is blocked, and isn't forgotten
  would_not : (p : ℕ) (now : Time) (parts : PartsRecord) (why : Why) → has_task p parts ≡ true → would p now parts (Some why) ≡ false → answers net.known now p why parts ≡ false
  unfolding would
  would_not p now parts why there e =
      subst (λ (b : Bool). (if b then answers net.known now p why parts else false) ≡ false) there e

  pub not_forgotten : (p : ℕ) (r : Running) (why : Why) (h : HostRecord) → forgotten p h ≡ false → slice_get h.processes p ≡ Some (process.Running r) → r.goes ≡ false
      → kept_by p h ≡ Some why → has_task p h.parts ≡ true → answers net.known h.link.time p why h.parts ≡ false
  not_forgotten p r why h e there rests kept task =
      let one : forgets p h.link.time h.parts (Some (process.Running r)) ≡ false = sym (ap (forgets p h.link.time h.parts) there) ∙ e in
      let two : (not false && would p h.link.time h.parts (kept_by p h)) ≡ false =
      subst (λ (b : Bool). (not b && would p h.link.time h.parts (kept_by p h)) ≡ false) rests one in
      would_not p h.link.time h.parts why task (sym (ap (would p h.link.time h.parts) kept) ∙ two)
