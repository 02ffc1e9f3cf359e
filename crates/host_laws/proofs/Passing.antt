-- What acts leave of a host's processes.
use Rattle.std.proofs.Common.{◌≡◌, ℕ, zero, suc, ◌<◌, ◌⊎◌, inl, inr, ⊎_elim, Bool, true, false, List, [], ◌∷◌, ◌++◌, length, Some, nat_lt, slice_get, refl, sym, ap, subst, ◌∙◌, arith}
use Rattle.std.specs.Prelude.{slice_set}
use Rattle.std.proofs.lemmas.Bool.Decides.{nat_tests}
use Rattle.std.proofs.lemmas.List.{length-set}
use Rattle.sim_base.specs.Units.{max_u64}
use Rattle.sim_base.specs.declared.event.Event.{Event}
use Rattle.sim_base.specs.declared.event.What.TheVariants as what
use Rattle.sim_base.specs.declared.state.State.{State}
use Rattle.sim_base.specs.declared.time.Time.{Time}
use Rattle.rv32_machine.specs.declared.cpu.Cpu.{Cpu}
use Rattle.guest_process.specs.declared.process.Process.{Process}
use Rattle.guest_process.specs.declared.process.Process.TheVariants as process
use Rattle.guest_process.specs.declared.process.Running.{Running}
use Rattle.host_state.specs.HostRecord.{HostRecord}
use Rattle.host_link.specs.Link.{LinkState, numbers, makes, later, not_before_next}
use Rattle.host_state.specs.Slice.{rests, has_ended, goes_later}
use Rattle.world_order.proofs.Homes.{get_set_same}
use Rattle.host_laws.specs.Waiting.{HasGo}
use Rattle.host_laws.proofs.Links.{IsLater, stays, then_later, by_if, makes_later}

-- a Go among events stays one among more
pub go_before : (n p : ℕ) (events more : List Event) → HasGo n p events → HasGo n p (events ++ more)
go_before n p [] more h = absurd h
go_before n p (e ∷ events) more (inl h) = inl h
go_before n p (e ∷ events) more (inr h) = inr (go_before n p events more h)

pub go_behind : (n p : ℕ) (events more : List Event) → HasGo n p more → HasGo n p (events ++ more)
go_behind n p [] more h = h
go_behind n p (e ∷ events) more h = inr (go_behind n p events more h)

pub go_later : (p : ℕ) (l m : LinkState) → IsLater l m → HasGo l.number p l.made → HasGo m.number p m.made
go_later p l m later h =
    subst (λ (n : ℕ). HasGo n p m.made) (sym later.number)
    (subst (HasGo l.number p) (sym later.made) (go_before l.number p l.made later.more h))

-- nothing happens to the processes
pub record Quiet (ps : List Process) (l : LinkState) (qs : List Process) (m : LinkState) : Type 0 where
  pub processes : qs ≡ ps
  pub link : IsLater l m

abbrev pub IsQuiet : HostRecord → HostRecord → Type 0
IsQuiet h k = Quiet h.processes h.link k.processes k.link

pub still : (h : HostRecord) → IsQuiet h h
still h = record { processes = refl; link = stays h.link }

pub quiet_on : (h k j : HostRecord) → IsQuiet h k → IsQuiet k j → IsQuiet h j
quiet_on h k j first second = record {
  processes = second.processes ∙ first.processes;
  link = then_later h.link k.link j.link first.link second.link;
}

-- a process was to go on
abbrev pub WasGoing : List Process → ℕ → Type 0
WasGoing ps p = (r : Running) × ((slice_get ps p ≡ Some (process.Running r)) × (r.goes ≡ true))

-- as many processes; one that is to go on was to before, or a Go was made for it
pub record Passes (ps : List Process) (l : LinkState) (qs : List Process) (m : LinkState) : Type 0 where
  pub link : IsLater l m
  pub count : length qs ≡ length ps
  pub goes : (p : ℕ) (r : Running) → slice_get qs p ≡ Some (process.Running r) → r.goes ≡ true → m.next < max_u64 → WasGoing ps p ⊎ HasGo m.number p m.made

abbrev pub PassesTo : HostRecord → HostRecord → Type 0
PassesTo h k = Passes h.processes h.link k.processes k.link

pub passes_quiet : (h k : HostRecord) → IsQuiet h k → PassesTo h k
passes_quiet h k q = record {
  link = q.link;
  count = ap length q.processes;
  goes = λ p r at on left. inl (r, (subst (λ (ps : List Process). slice_get ps p ≡ Some (process.Running r)) q.processes at, on));
}

passed_on : (h k j : HostRecord) → PassesTo h k → PassesTo k j → (p : ℕ) → j.link.next < max_u64 → WasGoing k.processes p ⊎ HasGo j.link.number p j.link.made
    → WasGoing h.processes p ⊎ HasGo j.link.number p j.link.made
passed_on h k j first second p left (inl (r, (at, on))) =
    ⊎_elim (λ w. inl w) (λ g. inr (go_later p k.link j.link second.link g)) (first.goes p r at on (omega (arith, second.link.next, left)))
passed_on h k j first second p left (inr g) = inr g

pub passes_on : (h k j : HostRecord) → PassesTo h k → PassesTo k j → PassesTo h j
passes_on h k j first second = record {
  link = then_later h.link k.link j.link first.link second.link;
  count = second.count ∙ first.count;
  goes = λ p r at on left. passed_on h k j first second p left (second.goes p r at on left);
}

-- what stands at a place of a list one of whose places was set
set_cases : (ps : List Process) (i : ℕ) (v : Process) (p : ℕ) (x : Process) → slice_get (slice_set ps i v) p ≡ Some x → (slice_get ps p ≡ Some x) ⊎ ((p ≡ i) × (x ≡ v))
set_cases [] i v p x e = inl e
set_cases (y ∷ ps) zero v zero x e = inr (refl, cc)
set_cases (y ∷ ps) zero v (suc p) x e = inl e
set_cases (y ∷ ps) (suc i) v zero x e = inl e
set_cases (y ∷ ps) (suc i) v (suc p) x e =
    ⊎_elim (λ a. inl a) (λ b. inr (ap suc b.0, b.1)) (set_cases ps i v p x e)

abbrev going : Process → Bool
going (process.Running r) = r.goes
going process.NotStarted = false
going (process.Ended s) = false

-- a process is set that isn't to go on
set_idle : (h : HostRecord) (p : ℕ) (v : Process) → going v ≡ false → Passes h.processes h.link (slice_set h.processes p v) h.link
set_idle h p v idle = record {
  link = stays h.link;
  count = length-set h.processes p v;
  goes = λ q r at on left.
      ⊎_elim (λ a. inl (r, (a, on))) (λ b. let k : r.goes ≡ false = ap going b.1 ∙ idle in absurd (cc)) (set_cases h.processes p v q (process.Running r) at);
}

pub rests_pass : (p : ℕ) (cpu : Cpu) (h : HostRecord) → PassesTo h (rests p cpu h)
unfolding rests
rests_pass p cpu h = set_idle h p _ refl

pub ended_pass : (p : ℕ) (s : State) (h : HostRecord) → PassesTo h (has_ended p s h)
unfolding has_ended
ended_pass p s h = set_idle h p _ refl

-- a Go is made
numbered_go : (l : LinkState) (due : Time) (p : ℕ) → (numbers due (what.Go p) l).next < max_u64 → HasGo (numbers due (what.Go p) l).number p (numbers due (what.Go p) l).made
unfolding numbers
numbered_go l due p =
    by_if (λ (m : LinkState). m.next < max_u64 → HasGo m.number p m.made) (nat_lt l.next max_u64) _ _
    (λ e left. go_behind l.number p l.made _ (inl (refl, refl)))
    (λ e left. absurd (grind (arith, nat_tests)))

made_go : (l : LinkState) (due : Time) (p : ℕ) → (makes due (what.Go p) l).next < max_u64 → HasGo (makes due (what.Go p) l).number p (makes due (what.Go p) l).made
made_go l due p left = numbered_go l (not_before_next l.time due) p left

pub later_passes : (nanos p : ℕ) (cpu : Cpu) (h : HostRecord) → PassesTo h (goes_later nanos p cpu h)
unfolding goes_later
later_passes nanos p cpu h = record {
  link = makes_later h.link (later h.link.time nanos) (what.Go p);
  count = length-set h.processes p _;
  goes = λ q r at on left.
      ⊎_elim (λ a. inl (r, (a, on)))
      (λ b. inr (subst (λ (i : ℕ). HasGo (makes (later h.link.time nanos) (what.Go p) h.link).number i (makes (later h.link.time nanos) (what.Go p) h.link).made) (sym b.0) (made_go h.link (later h.link.time nanos) p left)))
      (set_cases h.processes p _ q (process.Running r) at);
}

-- if a process is to go on, a Go was made for it
abbrev pub IsFresh : ℕ → HostRecord → Type 0
IsFresh p h = (r : Running) → slice_get h.processes p ≡ Some (process.Running r) → r.goes ≡ true → h.link.next < max_u64 → HasGo h.link.number p h.link.made

pub rests_fresh : (p : ℕ) (cpu : Cpu) (h : HostRecord) (x : Process) → slice_get h.processes p ≡ Some x → IsFresh p (rests p cpu h)
unfolding rests
rests_fresh p cpu h x there =
    λ r at on left. let set : Some (process.Running (record { cpu = cpu; goes = false })) ≡ Some (process.Running r) = sym (get_set_same h.processes p x _ there) ∙ at in absurd (cc)

pub ended_fresh : (p : ℕ) (s : State) (h : HostRecord) (x : Process) → slice_get h.processes p ≡ Some x → IsFresh p (has_ended p s h)
unfolding has_ended
ended_fresh p s h x there =
    λ r at on left. let set : Some (process.Ended s) ≡ Some (process.Running r) = sym (get_set_same h.processes p x _ there) ∙ at in absurd (cc)

pub later_fresh : (nanos p : ℕ) (cpu : Cpu) (h : HostRecord) → IsFresh p (goes_later nanos p cpu h)
unfolding goes_later
later_fresh nanos p cpu h = λ r at on left. made_go h.link (later h.link.time nanos) p left
