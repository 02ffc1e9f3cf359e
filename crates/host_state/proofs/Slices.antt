-- What a body's slices do to the records for which it stands.
use Rattle.std.proofs.Common.{◌≡◌, ℕ, suc, Bool, true, false, List, length, Option, Some, None, nat_lt, slice_get, slice_set, zero, [], ◌∷◌, arith, rules, tests, refl, sym, ap, subst, ◌∙◌}
use Rattle.std.specs.Prelude.{if◌then◌else◌}
use Rattle.std.proofs.lemmas.Grind.{common_steps}
use Rattle.std.proofs.lemmas.Option.{slice_get_past}
use Rattle.sim_base.specs.declared.event.What.TheVariants as what
use Rattle.sim_base.specs.declared.signal.Signal.TheVariants.{SigXcpu}
use Rattle.rv32_machine.specs.declared.outcome.TurnEnd.TheVariants as ends
use Rattle.host_link.specs.Link.{LinkState, makes, later}
use Rattle.guest_process.specs.declared.process.Process.TheVariants as process
use Rattle.rv32_machine.specs.declared.cpu.Cpu.{Cpu}
use Rattle.rv32_machine.specs.declared.outcome.TurnEnd.{TurnEnd}
use Rattle.rv32_machine.specs.Table.{state}
use Rattle.rv32_machine.specs.Turn.{Turn, turn}
use Rattle.sim_base.specs.declared.time.Time.{Time}
use Rattle.sim_base.specs.declared.signal.Signal.{Signal}
use Rattle.sim_base.specs.declared.state.State.{State}
use Rattle.sim_base.specs.declared.state.State.TheVariants.{Signaled}
use Rattle.host_calls.specs.declared.all.Parts.{Parts}
use Rattle.host_calls.specs.declared.parts.Answer.{Answer}
use Rattle.file_calls.specs.declared.task.Task.{Task}
use Rattle.host_calls.specs.Calls.{call, PartsCalled}
use Rattle.host_calls.specs.Events.{ended}
use Rattle.host_calls.specs.Parts.{PartsRecord, PartsStand}
use Rattle.host_state.specs.declared.host.Body.{Body}
use Rattle.host_link.specs.Net.{Net}
use Rattle.host_sockets.specs.declared.sockets.Sockets.{Sockets}
use Rattle.host_sockets.specs.StandsFor.{Stand}
use Rattle.host_state.specs.Step.{Step}
use Rattle.host_state.specs.Step as step
use Rattle.host_state.specs.HostRecord.{HostRecord}
use Rattle.host_state.specs.Host.{with_link, with_parts, with_process, does_wanted}
use Rattle.host_state.specs.Slice.{number_in, arguments_in, step_of, has_called, calls, closes, is_killed, by_turn_end, turns, with_task, runs_to_call, rests, has_ended, after_step, slice, follows, calls_again, goes_later, pause}
use Rattle.host_state.specs.StandsFor.{BodyStands, StepStands, Does, DoesStep, LeadsTo}
use Rattle.guest_process.specs.Turns.{TurnStands, SlotTurns}
use Rattle.host_state.proofs.Seen.{seen, seen_all, stands_seen}

none_there : {A : Type 0} (xs : List A) (p : ℕ) → nat_lt p (length xs) ≡ false → slice_get xs p ≡ None
none_there xs p there = slice_get_past xs p (search (rules, tests))

set_same : {A : Type 0} (xs : List A) (p : ℕ) (x : A) → slice_get xs p ≡ Some x → slice_set xs p x ≡ xs
set_same {A = A} [] p x there = grind (arith, common_steps)
set_same {A = A} (y ∷ xs) zero x there = grind (arith, common_steps)
set_same {A = A} (y ∷ xs) (suc p) x there = let rest : slice_set xs p x ≡ xs = set_same xs p x there in ap (λ (ys : List A). y ∷ ys) rest

pub called : (net : Net) (p number : ℕ) (arguments : List ℕ) (cpu : Cpu) (c d : Body) (now : Time) (answer : Answer) (parts : Parts) (s : Step)
    → nat_lt p (length c.parts.tasks.items) ≡ true → now ≡ c.link.time
    → ((q : PartsRecord) → PartsStand c.parts q → PartsCalled (call net.known now p number arguments q) answer parts)
    → Does (does_wanted net) (record c { parts = parts }) d → s ≡ step_of answer cpu
    → DoesStep (calls net p number arguments cpu) s c d
unfolding calls
called net p number arguments cpu c d now answer parts s there now_is calls_now does step_is =
    let calls_so : (q : PartsRecord) → PartsStand c.parts q → PartsCalled (call net.known c.link.time p number arguments q) answer parts =
    subst (λ (t : Time). (q : PartsRecord) → PartsStand c.parts q → PartsCalled (call net.known t p number arguments q) answer parts) now_is calls_now in
    seen_all (λ (h : HostRecord). StepStands s d (calls net p number arguments cpu h)) c
    (λ t w stand.
    let h : HostRecord = seen c t w in
    let r = call net.known c.link.time p number arguments h.parts in
    let told = calls_so h.parts (stands_seen c t w stand).parts in
    subst (λ (b : Bool). StepStands s d (if b then has_called net cpu r h else (step.Blocks cpu, h))) (sym there)
    (record {
      step = step_is ∙ ap (λ (a : Answer). step_of a cpu) told.0;
      body = does (with_parts r.1 h) (record { row = refl; link = refl; processes = refl; parts = told.1 });
    }))

pub not_called : (net : Net) (p number : ℕ) (arguments : List ℕ) (cpu : Cpu) (c : Body) → nat_lt p (length c.parts.tasks.items) ≡ false
    → DoesStep (calls net p number arguments cpu) (step.Blocks cpu) c c
unfolding calls
not_called net p number arguments cpu c there =
    seen_all (λ (h : HostRecord). StepStands (step.Blocks cpu) c (calls net p number arguments cpu h)) c
    (λ t w stand.
    let h : HostRecord = seen c t w in
    subst (λ (b : Bool). StepStands (step.Blocks cpu) c (if b then has_called net cpu (call net.known c.link.time p number arguments h.parts) h else (step.Blocks cpu, h)))
    (sym there) (record { step = refl; body = stands_seen c t w stand }))

pub closed : (net : Net) (p : ℕ) (c d : Body) (now : Time) (parts : Parts) → nat_lt p (length c.parts.tasks.items) ≡ true → now ≡ c.link.time
    → ((q : PartsRecord) → PartsStand c.parts q → PartsStand parts (ended now p q))
    → Does (does_wanted net) (record c { parts = parts }) d → Does (closes net p) c d
unfolding closes
closed net p c d now parts there now_is ends_now does =
    let ends : (q : PartsRecord) → PartsStand c.parts q → PartsStand parts (ended c.link.time p q) =
    subst (λ (t : Time). (q : PartsRecord) → PartsStand c.parts q → PartsStand parts (ended t p q)) now_is ends_now in
    seen_all (λ (h : HostRecord). BodyStands d (closes net p h)) c
    (λ t w stand.
    let h : HostRecord = seen c t w in
    subst (λ (b : Bool). BodyStands d (if b then does_wanted net (with_parts (ended c.link.time p h.parts) h) else h)) (sym there)
    (does (with_parts (ended c.link.time p h.parts) h) (record { row = refl; link = refl; processes = refl; parts = ends h.parts (stands_seen c t w stand).parts })))

pub not_closed : (net : Net) (p : ℕ) (c : Body) → nat_lt p (length c.parts.tasks.items) ≡ false → Does (closes net p) c c
unfolding closes
not_closed net p c there =
    seen_all (λ (h : HostRecord). BodyStands c (closes net p h)) c
    (λ t w stand.
    let h : HostRecord = seen c t w in
    subst (λ (b : Bool). BodyStands c (if b then does_wanted net (with_parts (ended c.link.time p h.parts) h) else h)) (sym there) (stands_seen c t w stand))

pub killed : (net : Net) (p : ℕ) (signal : Signal) (c d : Body) → Does (closes net p) c d → DoesStep (is_killed net p signal) (step.Ends (Signaled signal)) c d
unfolding is_killed
killed net p signal c d does = λ h stand. record { step = refl; body = does h stand }

-- ---- after a step

pub same_step : (act : HostRecord → Step × HostRecord) (s u : Step) (c d : Body) → s ≡ u → DoesStep act s c d → DoesStep act u c d
same_step act s u c d e does = subst (λ (x : Step). DoesStep act x c d) e does

module _ (net : Net) (p : ℕ) where
  stepped_on : (n : ℕ) (next : Cpu) (d : Body) (t : Step × HostRecord) → step.GoesOn next ≡ t.0 → after_step (slice net p n) p t ≡ slice net p n next t.1
  stepped_on n next d t e = ap (λ (s : Step). after_step (slice net p n) p (s, t.1)) (sym e)

  stepped_blocked : (n : ℕ) (cpu : Cpu) (t : Step × HostRecord) → step.Blocks cpu ≡ t.0 → after_step (slice net p n) p t ≡ rests p cpu t.1
  stepped_blocked n cpu t e = ap (λ (s : Step). after_step (slice net p n) p (s, t.1)) (sym e)

  stepped_ended : (n : ℕ) (state : State) (t : Step × HostRecord) → step.Ends state ≡ t.0 → after_step (slice net p n) p t ≡ has_ended p state t.1
  stepped_ended n state t e = ap (λ (s : Step). after_step (slice net p n) p (s, t.1)) (sym e)

  slice_more : (k n : ℕ) (cpu : Cpu) (h : HostRecord) → k ≡ suc n → slice net p k cpu h ≡ after_step (slice net p n) p (runs_to_call net p cpu h)
  unfolding slice
  slice_more k n cpu h counted = ap (λ (i : ℕ). slice net p i cpu h) counted

  slice_none : (k : ℕ) (cpu : Cpu) (h : HostRecord) → k ≡ 0 → slice net p k cpu h ≡ goes_later pause p cpu h
  unfolding slice
  slice_none k cpu h counted = ap (λ (i : ℕ). slice net p i cpu h) counted

  pub goes_on : (k n : ℕ) (cpu next : Cpu) (c d : Body) (whole : HostRecord) → k ≡ suc n
      → LeadsTo (slice net p k cpu) c whole → DoesStep (runs_to_call net p cpu) (step.GoesOn next) c d → LeadsTo (slice net p n next) d whole
  goes_on k n cpu next c d whole counted lead does =
      let told = does lead.here lead.body in
      record {
        here = (runs_to_call net p cpu lead.here).1;
        body = told.body;
        same = sym (stepped_on n next d _ told.step) ∙ (sym (slice_more k n cpu lead.here counted) ∙ lead.same);
      }

  pub slice_blocks : (k n : ℕ) (cpu left : Cpu) (c d e : Body) (whole : HostRecord) → k ≡ suc n
      → LeadsTo (slice net p k cpu) c whole → DoesStep (runs_to_call net p cpu) (step.Blocks left) c d → Does (rests p left) d e → BodyStands e whole
  slice_blocks k n cpu left c d e whole counted lead does rest =
      let told = does lead.here lead.body in
      let same = sym (stepped_blocked n left _ told.step) ∙ (sym (slice_more k n cpu lead.here counted) ∙ lead.same) in
      subst (BodyStands e) same (rest _ told.body)

  pub slice_ends : (k n : ℕ) (cpu : Cpu) (state : State) (c d e : Body) (whole : HostRecord) → k ≡ suc n
      → LeadsTo (slice net p k cpu) c whole → DoesStep (runs_to_call net p cpu) (step.Ends state) c d → Does (has_ended p state) d e → BodyStands e whole
  slice_ends k n cpu state c d e whole counted lead does end =
      let told = does lead.here lead.body in
      let same = sym (stepped_ended n state _ told.step) ∙ (sym (slice_more k n cpu lead.here counted) ∙ lead.same) in
      subst (BodyStands e) same (end _ told.body)

  pub slice_pauses : (k : ℕ) (cpu : Cpu) (c d : Body) (whole : HostRecord) → k ≡ 0
      → LeadsTo (slice net p k cpu) c whole → Does (goes_later pause p cpu) c d → BodyStands d whole
  slice_pauses k cpu c d whole counted lead does = subst (BodyStands d) (sym (slice_none k cpu lead.here counted) ∙ lead.same) (does _ lead.body)

  -- after its first call
  pub followed_on : (next : Cpu) (c d : Body) → Does (slice net p 99 next) c d → Does (λ h. follows net p (step.GoesOn next, h)) c d
  unfolding follows
  followed_on next c d does = does

  pub followed_blocked : (cpu : Cpu) (c d : Body) → Does (rests p cpu) c d → Does (λ h. follows net p (step.Blocks cpu, h)) c d
  unfolding follows
  followed_blocked cpu c d does = does

  pub followed_ended : (state : State) (c d : Body) → Does (has_ended p state) c d → Does (λ h. follows net p (step.Ends state, h)) c d
  unfolding follows
  followed_ended state c d does = does

  -- a step, and what follows
  pub followed : (act : HostRecord → Step × HostRecord) (s : Step) (c d e : Body) → DoesStep act s c d → Does (λ h. follows net p (s, h)) d e
      → Does (λ h. follows net p (act h)) c e
  followed act s c d e first then_ = λ h stand.
      let told = first h stand in
      subst (λ (x : Step). BodyStands e (follows net p (x, (act h).1))) told.step (then_ (act h).1 told.body)

-- a kept call is called again
pub again : (net : Net) (p number : ℕ) (arguments : List ℕ) (cpu : Cpu) (s : Step) (c d e : Body) → DoesStep (calls net p number arguments cpu) s c d
    → Does (λ h. follows net p (s, h)) d e → Does (calls_again net p number arguments cpu) c e
again net p number arguments cpu s c d e first then_ = followed net p (calls net p number arguments cpu) s c d e first then_

-- ---- up to a call

module _ (net : Net) (p : ℕ) (cpu left : Cpu) (c m d : Body) (end : TurnEnd) (s : Step) (does : DoesStep (by_turn_end net p end left) s m d)
    (row : m.row ≡ c.row) (link : m.link ≡ c.link) (processes : m.processes.items ≡ c.processes.items)
    (shared : m.parts.shared ≡ c.parts.shared) (sockets : m.parts.sockets ≡ c.parts.sockets) where
  ran_task : (old new : Task) → slice_get c.parts.tasks.items p ≡ Some (Some old) → m.parts.tasks.items ≡ slice_set c.parts.tasks.items p (Some new)
      → TurnStands (turn net.budget (state cpu old.memory)) left old new end → DoesStep (runs_to_call net p cpu) s c d
  unfolding runs_to_call
  ran_task old new there tasks turned =
      seen_all (λ (h : HostRecord). StepStands s d (runs_to_call net p cpu h)) c
      (λ t w stand.
      let h : HostRecord = seen c t w in
      let u : Turn = turn net.budget (state cpu old.memory) in
      let after : Task → HostRecord = λ task. with_parts (with_task p (Some task) h.parts) h in
      let first : StepStands s d (by_turn_end net p end left (after new)) =
      does (after new) (record {
        row = row;
        link = link;
        processes = processes;
        parts = record { tasks = tasks; shared = shared; sockets = subst (λ (x : Sockets). Stand x t) (sym sockets) stand };
      }) in
      let second : StepStands s d (by_turn_end net p u.end left (after new)) =
      subst (λ (e : TurnEnd). StepStands s d (by_turn_end net p e left (after new))) turned.end first in
      let third : StepStands s d (by_turn_end net p u.end u.state.cpu (after new)) =
      subst (λ (x : Cpu). StepStands s d (by_turn_end net p u.end x (after new))) turned.cpu second in
      let fourth : StepStands s d (by_turn_end net p u.end u.state.cpu (after (record old { memory = u.state.memory }))) =
      subst (λ (x : Task). StepStands s d (by_turn_end net p u.end u.state.cpu (after x))) turned.task third in
      subst (λ (x : Option (Option Task)). StepStands s d (turns net p cpu x h)) (sym there) fourth)

  pub ran : (old new : Option Task) → slice_get c.parts.tasks.items p ≡ Some old → m.parts.tasks.items ≡ slice_set c.parts.tasks.items p new
      → SlotTurns net.budget cpu old left new (Some end) → DoesStep (runs_to_call net p cpu) s c d
  ran (Some old) (Some new) there tasks turned = ran_task old new there tasks turned
  ran (Some old) None there tasks turned = absurd turned
  ran None (Some new) there tasks turned = absurd turned
  ran None None there tasks turned = absurd turned

-- where no process is, nothing happens
module _ (net : Net) (p : ℕ) (cpu left : Cpu) (c m : Body)
    (row : m.row ≡ c.row) (link : m.link ≡ c.link) (processes : m.processes.items ≡ c.processes.items)
    (shared : m.parts.shared ≡ c.parts.shared) (sockets : m.parts.sockets ≡ c.parts.sockets) where
  not_ran_none : slice_get c.parts.tasks.items p ≡ Some None → m.parts.tasks.items ≡ c.parts.tasks.items → left ≡ cpu
      → DoesStep (runs_to_call net p cpu) (step.Blocks left) c m
  unfolding runs_to_call
  not_ran_none there tasks same =
      seen_all (λ (h : HostRecord). StepStands (step.Blocks left) m (runs_to_call net p cpu h)) c
      (λ t w stand.
      subst (λ (x : Option (Option Task)). StepStands (step.Blocks left) m (turns net p cpu x (seen c t w))) (sym there)
      (record {
        step = ap step.Blocks same;
        body = record {
          row = row;
          link = link;
          processes = processes;
          parts = record { tasks = tasks; shared = shared; sockets = subst (λ (x : Sockets). Stand x t) (sym sockets) stand };
        };
      }))

  pub not_ran : (old new : Option Task) → slice_get c.parts.tasks.items p ≡ Some old → m.parts.tasks.items ≡ slice_set c.parts.tasks.items p new
      → SlotTurns net.budget cpu old left new None → DoesStep (runs_to_call net p cpu) (step.Blocks left) c m
  not_ran None None there tasks turned = not_ran_none there (tasks ∙ set_same c.parts.tasks.items p None there) turned
  not_ran None (Some new) there tasks turned = absurd turned
  not_ran (Some old) None there tasks turned = absurd turned
  not_ran (Some old) (Some new) there tasks turned = absurd turned

pub none_ran : (net : Net) (p : ℕ) (cpu : Cpu) (c : Body) → nat_lt p (length c.parts.tasks.items) ≡ false → DoesStep (runs_to_call net p cpu) (step.Blocks cpu) c c
unfolding runs_to_call
none_ran net p cpu c there =
    seen_all (λ (h : HostRecord). StepStands (step.Blocks cpu) c (runs_to_call net p cpu h)) c
    (λ t w stand.
    subst (λ (x : Option (Option Task)). StepStands (step.Blocks cpu) c (turns net p cpu x (seen c t w))) (sym (none_there c.parts.tasks.items p there))
    (record { step = refl; body = stands_seen c t w stand }))

-- ---- a turn has ended

pub turned_call : (net : Net) (p : ℕ) (end : TurnEnd) (cpu : Cpu) (s : Step) (c d : Body) → end ≡ ends.Call
    → DoesStep (calls net p (number_in cpu) (arguments_in cpu) cpu) s c d → DoesStep (by_turn_end net p end cpu) s c d
unfolding by_turn_end
turned_call net p end cpu s c d e does = subst (λ (x : TurnEnd). DoesStep (by_turn_end net p x cpu) s c d) (sym e) does

pub turned_trap : (net : Net) (p : ℕ) (end : TurnEnd) (cpu : Cpu) (signal : Signal) (s : Step) (c d : Body) → end ≡ ends.Trap signal
    → DoesStep (is_killed net p signal) s c d → DoesStep (by_turn_end net p end cpu) s c d
unfolding by_turn_end
turned_trap net p end cpu signal s c d e does = subst (λ (x : TurnEnd). DoesStep (by_turn_end net p x cpu) s c d) (sym e) does

pub turned_spent : (net : Net) (p : ℕ) (end : TurnEnd) (cpu : Cpu) (s : Step) (c d : Body) → end ≡ ends.Spent
    → DoesStep (is_killed net p SigXcpu) s c d → DoesStep (by_turn_end net p end cpu) s c d
unfolding by_turn_end
turned_spent net p end cpu s c d e does = subst (λ (x : TurnEnd). DoesStep (by_turn_end net p x cpu) s c d) (sym e) does

-- after so many nanoseconds
pub gone_later : (nanos p : ℕ) (cpu : Cpu) (c d : Body) (link : LinkState) → link ≡ makes (later c.link.time nanos) (what.Go p) c.link
    → Does (with_process p (process.Running (record { cpu = cpu; goes = true }))) (record c { link = link }) d → Does (goes_later nanos p cpu) c d
unfolding goes_later
gone_later nanos p cpu c d link made does =
    seen_all (λ (h : HostRecord). BodyStands d (goes_later nanos p cpu h)) c
    (λ t w stand.
    does (with_link (makes (later c.link.time nanos) (what.Go p) c.link) (seen c t w))
    (record { row = refl; link = made; processes = refl; parts = (stands_seen c t w stand).parts }))

-- a process has ended
pub ended_so : (p : ℕ) (state : State) (c m d : Body) → Does (λ h. with_parts (with_task p None h.parts) h) c m → Does (with_process p (process.Ended state)) m d
    → Does (has_ended p state) c d
unfolding has_ended
ended_so p state c m d first second = λ h stand. second _ (first h stand)
