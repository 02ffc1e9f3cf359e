-- What a body's firings do to the records for which it stands.
use Rattle.std.proofs.Common.{◌≡◌, ℕ, ◌≤◌, suc, length, nat_lt, Bool, true, false, not, Option, Some, None, slice_get, refl, sym, ap, subst, ◌∙◌}
use Rattle.std.specs.Prelude.{if◌then◌else◌, ◌&&◌}
use Rattle.sim_base.specs.declared.event.Event.{Event}
use Rattle.sim_base.specs.declared.signal.Signal.{Signal}
use Rattle.host_link.specs.Link.{LinkState, comes_to}
use Rattle.sim_base.specs.declared.time.Time.{Time}
use Rattle.host_calls.specs.declared.all.Parts.{Parts}
use Rattle.file_calls.specs.declared.task.Why.{Why}
use Rattle.host_calls.specs.Calls.{answers}
use Rattle.host_calls.specs.Parts.{PartsRecord, PartsStand}
use Rattle.host_calls.specs.Starting.{task_starts}
use Rattle.host_state.specs.declared.host.Body.{Body}
use Rattle.host_link.specs.Net.{Net}
use Rattle.guest_process.specs.declared.process.Running.{Running}
use Rattle.guest_process.specs.declared.start.Started.{Started}
use Rattle.host_state.specs.HostRecord.{HostRecord}
use Rattle.host_state.specs.Host.{with_parts}
use Rattle.host_state.specs.Slice.{slice, follows, is_killed}
use Rattle.host_state.specs.Fire.{is_not_started, ready, begins, begins_so, starts, running_in, kept_in, runs_on, goes_if, goes, is_shut, shutdown_signal, shuts_if, shuts, would_answer, wakes_in, wakes_if, wakes, wakes_from, wakes_all, acts, at_time, has_acted}
use Rattle.host_state.specs.StandsFor.{BodyStands, Does, DoesFrom, LeadsTo}
use Rattle.host_state.proofs.Seen.{seen, seen_all, stands_seen}

-- ---- Start

pub begun : (net : Net) (p : ℕ) (s : Started) (c d : Body) (parts : Parts) → nat_lt p (length c.parts.tasks.items) ≡ true
    → ((q : PartsRecord) → PartsStand c.parts q → PartsStand parts (task_starts p s.memory q))
    → Does (slice net p 100 s.cpu) (record c { parts = parts }) d → Does (begins_so net p s) c d
begun net p s c d parts there starts_so does =
    seen_all (λ (h : HostRecord). BodyStands d (begins_so net p s h)) c
    (λ t w stand.
    let h : HostRecord = seen c t w in
    let first : HostRecord = with_parts (task_starts p s.memory h.parts) h in
    subst (λ (b : Bool). BodyStands d (if b then slice net p 100 s.cpu first else h)) (sym there)
    (does first (record { row = refl; link = refl; processes = refl; parts = starts_so h.parts (stands_seen c t w stand).parts })))

pub not_begun : (net : Net) (p : ℕ) (s : Started) (c : Body) → nat_lt p (length c.parts.tasks.items) ≡ false → Does (begins_so net p s) c c
not_begun net p s c there =
    seen_all (λ (h : HostRecord). BodyStands c (begins_so net p s h)) c
    (λ t w stand.
    let h : HostRecord = seen c t w in
    subst (λ (b : Bool). BodyStands c (if b then slice net p 100 s.cpu (with_parts (task_starts p s.memory h.parts) h) else h)) (sym there) (stands_seen c t w stand))

pub started_so : (net : Net) (p : ℕ) (c d : Body) (found : Option Started) → is_not_started (slice_get c.processes.items p) ≡ true → found ≡ ready net c.row p
    → Does (begins net p found) c d → Does (starts net p) c d
unfolding starts
started_so net p c d found waits is does =
    seen_all (λ (h : HostRecord). BodyStands d (starts net p h)) c
    (λ t w stand.
    let h : HostRecord = seen c t w in
    subst (λ (b : Bool). BodyStands d (if b then begins net p (ready net c.row p) h else h)) (sym waits)
    (subst (λ (x : Option Started). BodyStands d (begins net p x h)) is (does h (stands_seen c t w stand))))

pub not_started : (net : Net) (p : ℕ) (c : Body) → is_not_started (slice_get c.processes.items p) ≡ false → Does (starts net p) c c
unfolding starts
not_started net p c waits =
    seen_all (λ (h : HostRecord). BodyStands c (starts net p h)) c
    (λ t w stand.
    let h : HostRecord = seen c t w in
    subst (λ (b : Bool). BodyStands c (if b then begins net p (ready net c.row p) h else h)) (sym waits) (stands_seen c t w stand))

-- ---- Go

module _ (net : Net) (p : ℕ) (c : Body) where
  pub gone : (d : Body) (found : Option Running) (why : Option Why) → found ≡ running_in (slice_get c.processes.items p)
      → why ≡ kept_in (slice_get c.parts.tasks.items p) → (r : Running) → found ≡ Some r → Does (runs_on net p r why) c d → Does (goes net p) c d
  unfolding goes
  gone d found why is kept r some does =
      seen_all (λ (h : HostRecord). BodyStands d (goes net p h)) c
      (λ t w stand.
      let h : HostRecord = seen c t w in
      subst (λ (x : Option Running). BodyStands d (goes_if net p x h)) (sym some ∙ is)
      (subst (λ (x : Option Why). BodyStands d (runs_on net p r x h)) kept (does h (stands_seen c t w stand))))

  pub not_gone : None ≡ running_in (slice_get c.processes.items p) → Does (goes net p) c c
  unfolding goes
  not_gone is =
      seen_all (λ (h : HostRecord). BodyStands c (goes net p h)) c
      (λ t w stand. subst (λ (x : Option Running). BodyStands c (goes_if net p x (seen c t w))) is (stands_seen c t w stand))

  -- ---- Shutdown

  pub shut_so : (d : Body) (r : Running) (signal : Signal) → Some r ≡ running_in (slice_get c.processes.items p) → Some signal ≡ shutdown_signal c.row p
      → Does (λ h. follows net p (is_killed net p signal h)) c d → Does (shuts net p) c d
  unfolding shuts
  shut_so d r signal is shut does =
      seen_all (λ (h : HostRecord). BodyStands d (shuts net p h)) c
      (λ t w stand.
      let h : HostRecord = seen c t w in
      subst (λ (x : Option Running). BodyStands d (shuts_if net p x h)) is
      (subst (λ (x : Option Signal). BodyStands d (is_shut net p x h)) shut (does h (stands_seen c t w stand))))

  pub not_shut : (r : Running) → Some r ≡ running_in (slice_get c.processes.items p) → None ≡ shutdown_signal c.row p → Does (shuts net p) c c
  unfolding shuts
  not_shut r is shut =
      seen_all (λ (h : HostRecord). BodyStands c (shuts net p h)) c
      (λ t w stand.
      let h : HostRecord = seen c t w in
      subst (λ (x : Option Running). BodyStands c (shuts_if net p x h)) is
      (subst (λ (x : Option Signal). BodyStands c (is_shut net p x h)) shut (stands_seen c t w stand)))

  pub none_shut : None ≡ running_in (slice_get c.processes.items p) → Does (shuts net p) c c
  unfolding shuts
  none_shut is =
      seen_all (λ (h : HostRecord). BodyStands c (shuts net p h)) c
      (λ t w stand. subst (λ (x : Option Running). BodyStands c (shuts_if net p x (seen c t w))) is (stands_seen c t w stand))

  -- ---- the end of a firing

  pub wakes_so : (d : Body) (r : Running) (why : Option Why) (wake : Bool) → Some r ≡ running_in (slice_get c.processes.items p)
      → why ≡ kept_in (slice_get c.parts.tasks.items p)
      → ((h : HostRecord) → BodyStands c h → (not r.goes && would_answer net p why h) ≡ wake) → Does (wakes_if wake p r) c d → Does (wakes net p) c d
  unfolding wakes
  wakes_so d r why wake is kept told does =
      seen_all (λ (h : HostRecord). BodyStands d (wakes net p h)) c
      (λ t w stand.
      let h : HostRecord = seen c t w in
      subst (λ (x : Option Running). BodyStands d (wakes_in net p x h)) is
      (subst (λ (x : Option Why). BodyStands d (wakes_if (not r.goes && would_answer net p x h) p r h)) kept
      (subst (λ (b : Bool). BodyStands d (wakes_if b p r h)) (sym (told h (stands_seen c t w stand))) (does h (stands_seen c t w stand)))))

  pub none_wakes : None ≡ running_in (slice_get c.processes.items p) → Does (wakes net p) c c
  unfolding wakes
  none_wakes is =
      seen_all (λ (h : HostRecord). BodyStands c (wakes net p h)) c
      (λ t w stand. subst (λ (x : Option Running). BodyStands c (wakes_in net p x (seen c t w))) is (stands_seen c t w stand))

  pub would_so : (why : Why) (now : Time) (result : Bool) → nat_lt p (length c.parts.tasks.items) ≡ true → now ≡ c.link.time
      → ((q : PartsRecord) → PartsStand c.parts q → result ≡ answers net.known now p why q)
      → (h : HostRecord) → BodyStands c h → result ≡ would_answer net p (Some why) h
  unfolding would_answer
  would_so why now result there now_is told =
      seen_all (λ (h : HostRecord). result ≡ would_answer net p (Some why) h) c
      (λ t w stand.
      let h : HostRecord = seen c t w in
      subst (λ (b : Bool). result ≡ (if b then answers net.known c.link.time p why h.parts else false)) (sym there)
      (subst (λ (x : Time). result ≡ answers net.known x p why h.parts) now_is (told h.parts (stands_seen c t w stand).parts)))

  pub not_would : (why : Why) → nat_lt p (length c.parts.tasks.items) ≡ false → (h : HostRecord) → BodyStands c h → false ≡ would_answer net p (Some why) h
  unfolding would_answer
  not_would why there =
      seen_all (λ (h : HostRecord). false ≡ would_answer net p (Some why) h) c
      (λ t w stand.
      let h : HostRecord = seen c t w in
      subst (λ (b : Bool). false ≡ (if b then answers net.known c.link.time p why h.parts else false)) (sym there) refl)

-- one more process of the sweep
pub more_wakes : (net : Net) (p k n : ℕ) (c d : Body) (whole : HostRecord) → k ≡ suc n → LeadsTo (wakes_from net p k) c whole → Does (wakes net p) c d
    → LeadsTo (wakes_from net (suc p) n) d whole
unfolding wakes_from
more_wakes net p k n c d whole counted lead does = record {
  here = wakes net p lead.here;
  body = does lead.here lead.body;
  same = sym (ap (λ (i : ℕ). wakes_from net p i lead.here) counted) ∙ lead.same;
}

pub no_more_wakes : (net : Net) (p k : ℕ) (c : Body) (whole : HostRecord) → k ≡ 0 → LeadsTo (wakes_from net p k) c whole → BodyStands c whole
unfolding wakes_from
no_more_wakes net p k c whole counted lead =
    subst (BodyStands c) (sym (ap (λ (i : ℕ). wakes_from net p i lead.here) counted) ∙ lead.same) lead.body

-- an event acts at its time, and processes wake
pub acted : (net : Net) (e : Event) (c d f : Body) (link : LinkState) → (c.link.time.nanos ≤ e.key.due.nanos → link ≡ comes_to e.key.due c.link)
    → Does (acts net e.what) (record c { link = link }) d → Does (wakes_all net) d f → DoesFrom e.key.due (has_acted net e) c f
unfolding has_acted
acted net e c d f link comes does wake = λ h s early.
    let early_too : c.link.time.nanos ≤ e.key.due.nanos = subst (λ (l : LinkState). l.time.nanos ≤ e.key.due.nanos) (sym s.link) early in
    wake (acts net e.what (at_time e.key.due h))
    (does (at_time e.key.due h) (record { row = s.row; link = comes early_too ∙ ap (comes_to e.key.due) s.link; processes = s.processes; parts = s.parts }))
