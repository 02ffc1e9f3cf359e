-- What a firing leaves of a host's processes.
use Rattle.std.proofs.Common.{◌≡◌, ℕ, zero, suc, ◌<◌, ◌≤◌, ◌⊎◌, ⊎_elim, true, false, List, ◌∷◌, ◌++◌, length, Option, Some, None, slice_get, refl, sym, subst, ◌∙◌, arith}
use Rattle.std.specs.Prelude.{replicate}
use Rattle.std.proofs.lemmas.Bool.Decides.{nat_tests}
use Rattle.std.proofs.lemmas.Option.{slice_get_within}
use Rattle.sim_base.specs.Units.{max_u64}
use Rattle.sim_base.specs.declared.event.Event.{Event}
use Rattle.sim_base.specs.declared.event.What.{What}
use Rattle.sim_base.specs.declared.event.What.TheVariants as what
use Rattle.sim_base.specs.declared.time.Time.{Time}
use Rattle.file_calls.specs.declared.task.Task.{Task}
use Rattle.file_calls.specs.declared.task.Why.{Why}
use Rattle.host_calls.specs.Calls.{answers}
use Rattle.host_calls.specs.Parts.{PartsRecord}
use Rattle.host_link.specs.Net.{Net}
use Rattle.guest_process.specs.declared.process.Process.TheVariants as process
use Rattle.guest_process.specs.declared.process.Running.{Running}
use Rattle.host_rows.specs.declared.row.Row.{Row}
use Rattle.host_state.specs.Opening.{opening}
use Rattle.host_state.specs.Fire.{kept_in, acts, at_time, wakes_all, has_acted, fire}
use Rattle.host_state.specs.HostRecord.{HostRecord}
use Rattle.host_state.specs.Slice.{has_task}
use Rattle.host_laws.specs.Waiting.{IsBlocked, HasGo, HaveGoes}
use Rattle.host_laws.proofs.Passing.{go_before, go_behind, go_later, PassesTo, WasGoing, IsFresh}
use Rattle.host_laws.proofs.Acting.{acting, going_fresh}
use Rattle.host_laws.proofs.Sweeping.{forgotten, all_passes, all_swept, not_forgotten}

-- a process that has a kept call is in something
has_kept : (p : ℕ) (why : Why) (parts : PartsRecord) (found : Option (Option Task)) → slice_get parts.tasks p ≡ found → kept_in found ≡ Some why → has_task p parts ≡ true
has_kept p why parts None there kept = absurd (cc)
has_kept p why parts (Some task) there kept =
    let within = slice_get_within parts.tasks p task there in grind (arith, nat_tests)

module _ (net : Net) (e : Event) (host : HostRecord) where
  swept_after : (p : ℕ) (mid : HostRecord) (r : Running) → length mid.processes ≤ 64 → slice_get (wakes_all net mid).processes p ≡ Some (process.Running r) → forgotten net p (wakes_all net mid) ≡ false
  swept_after p mid r few there =
      let within = slice_get_within (wakes_all net mid).processes p _ there in
      all_swept net p mid (omega (arith, within, (all_passes net mid).count)) few

  pub none_forgotten : (p : ℕ) (why : Why) → length host.processes ≤ 64 → IsBlocked p why (has_acted net e host) → answers net.known e.key.due p why (has_acted net e host).parts ≡ false
  unfolding has_acted
  none_forgotten p why few blocked =
      let first : HostRecord = at_time e.key.due host in
      let mid : HostRecord = acts net e.what first in
      let end : HostRecord = wakes_all net mid in
      let acted = acting net e.what first in
      let waked = all_passes net mid in
      let swept = swept_after p mid _ (omega (arith, acted.count, few)) blocked.process in
      let task = has_kept p why end.parts (slice_get end.parts.tasks p) refl blocked.kept in
      subst (λ (t : Time). answers net.known t p why end.parts ≡ false) (waked.link.time ∙ acted.link.time)
      (not_forgotten net p _ why end swept blocked.process refl blocked.kept task)

-- a Go that stays among the events to come, or is made
module _ (first mid end : HostRecord) (w : What) (source : ℕ) (events : List Event) (p : ℕ) (acted : PassesTo first mid) (waked : PassesTo mid end) (fresh : w ≡ what.Go p → IsFresh p mid)
    (goes : (r : Running) → slice_get first.processes p ≡ Some (process.Running r) → r.goes ≡ true → first.link.next < max_u64
    → ((w ≡ what.Go p) × (source ≡ first.link.number)) ⊎ HasGo first.link.number p events) (left : end.link.next < max_u64) where
  made_last : HasGo mid.link.number p mid.link.made → HasGo end.link.number p (events ++ end.link.made)
  made_last g = go_behind end.link.number p events end.link.made (go_later p mid.link end.link waked.link g)

  from_mid : WasGoing mid.processes p → HasGo end.link.number p (events ++ end.link.made)
  from_mid (r, (at, on)) =
      let left_mid : mid.link.next < max_u64 = omega (arith, waked.link.next, left) in
      ⊎_elim
      (λ v.
      ⊎_elim (λ is. made_last (fresh is.0 r at on left_mid))
      (λ g. go_before end.link.number p events end.link.made (subst (λ (n : ℕ). HasGo n p events) (sym (waked.link.number ∙ acted.link.number)) g))
      (goes v.0 v.1.0 v.1.1 (omega (arith, acted.link.next, left_mid))))
      made_last (acted.goes p r at on left_mid)

  pub carried : WasGoing end.processes p → HasGo end.link.number p (events ++ end.link.made)
  carried (r, (at, on)) =
      ⊎_elim from_mid (λ g. go_behind end.link.number p events end.link.made g) (waked.goes p r at on left)

pub goes_after : (net : Net) (host : HostRecord) (e : Event) (events : List Event) → HaveGoes host (e ∷ events) → HaveGoes (fire net host e).host (events ++ (fire net host e).made)
unfolding has_acted
goes_after net host e events goes = λ p r at on left.
    let first : HostRecord = at_time e.key.due host in
    let mid : HostRecord = acts net e.what first in
    carried first mid (wakes_all net mid) e.what e.key.source.index events p (acting net e.what first) (all_passes net mid)
    (λ is. subst (λ (w : What). IsFresh p (acts net w first)) (sym is) (going_fresh net p first))
    (goes p) left (r, (at, on))

-- none has started yet
none_runs : (n p : ℕ) (r : Running) → slice_get (replicate n process.NotStarted) p ≡ Some (process.Running r) → ⊥
none_runs zero p r e = cc
none_runs (suc n) zero r e = cc
none_runs (suc n) (suc p) r e = none_runs n p r e

pub none_goes : (row : Row) (events : List Event) → HaveGoes (opening row).host events
none_goes row events =
    λ p r at on left. absurd (none_runs _ p r at)

pub number_after : (net : Net) (host : HostRecord) (e : Event) → (fire net host e).host.link.number ≡ host.link.number
unfolding has_acted
number_after net host e =
    let mid : HostRecord = acts net e.what (at_time e.key.due host) in
    (all_passes net mid).link.number ∙ (acting net e.what (at_time e.key.due host)).link.number
