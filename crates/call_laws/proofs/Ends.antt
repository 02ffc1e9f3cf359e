-- The end of a process leaves no descriptor.
use Rattle.std.proofs.Common.{◌≡◌, ℕ, zero, suc, ◌<◌, List, [], ◌∷◌, Option, Some, None, Result, Ok, Err, refl}
use Rattle.std.specs.Prelude.{IfSome, slice_set}
use Rattle.std.specs.FinMap as map
use Rattle.sim_base.specs.declared.state.State.{State}
use Rattle.sim_base.specs.declared.time.Time.{Time}
use Rattle.host_fds.specs.Descriptors.{limit}
use Rattle.host_files.specs.Slots.{at}
use Rattle.host_wants.specs.declared.error.Refusal.{Refusal}
use Rattle.host_wants.specs.declared.error.Refusal.TheVariants as refusal
use Rattle.host_calls.specs.declared.parts.Answer.TheVariants as answer
use Rattle.file_calls.specs.declared.known.Known.{Known}
use Rattle.host_calls.specs.declared.parts.Reaction.{Reaction}
use Rattle.host_calls.specs.declared.parts.Reaction.TheVariants.{Value, Waits}
use Rattle.file_calls.specs.declared.task.Task.{Task}
use Rattle.file_calls.specs.declared.task.Why.{Why}
use Rattle.host_sockets.specs.Sockets.{SocketsRecord}
use Rattle.call_parts.specs.Call.{call_of}
use Rattle.host_calls.specs.Calls.{scene_at, cleared, row_of, blocks_by, in_scene, answered, call_by, call_slot, call}
use Rattle.host_calls.specs.Events.{ended_by, ended_slot, ended}
use Rattle.host_calls.specs.Parts.{PartsRecord, Slot, Scene, slot_in}
use Rattle.file_calls.specs.Scene.{Local}
use Rattle.call_laws.proofs.DescriptorLaws.{all_closed_is_free}

set_none : (tasks : List (Option Task)) (process fd : ℕ) (task : Option Task) → IfSome task (λ t. map.get t.table fd ≡ None) → IfSome (at process (slice_set tasks process task)) (λ t. map.get t.table fd ≡ None)
set_none [] zero fd task h = tt
set_none [] (suc process) fd task h = tt
set_none (first ∷ tasks) zero fd task h = h
set_none (first ∷ tasks) (suc process) fd task h = set_none tasks process fd task h

ended_by_none : (now : Time) (fd : ℕ) (task : Option Task) (p : Slot) → p.task ≡ task → fd < limit → IfSome (ended_by now task p).task (λ t. map.get t.table fd ≡ None)
ended_by_none now fd None p e in_range = rw e tt
ended_by_none now fd (Some task) p e in_range = all_closed_is_free now (cleared (scene_at task p)) fd in_range

-- at every end
pub ended_none : (now : Time) (process fd : ℕ) (h : PartsRecord) → fd < limit → IfSome (at process (ended now process h).tasks) (λ t. map.get t.table fd ≡ None)
ended_none now process fd h in_range =
    set_none h.tasks process fd (ended_slot now (slot_in process h)).task (ended_by_none now fd (at process h.tasks) (slot_in process h) refl in_range)

-- and where a call of its own ends it
blocks_no_end : (process : ℕ) (why : Why) (kept : Option Why) (s : Local) (t : SocketsRecord) (state : State) → (in_scene t (blocks_by process why kept s)).0 ≡ answer.End state → ⊥
blocks_no_end process why None (task, shared) t state e = cc
blocks_no_end process why (Some first) (task, shared) t state e = cc

answered_none : (now : Time) (process number : ℕ) (args : List ℕ) (r : Result (Reaction × Scene) Refusal) (s : Scene) (state : State) (fd : ℕ)
    → (answered now process number args r s).0 ≡ answer.End state → fd < limit → map.get (answered now process number args r s).1.task.table fd ≡ None
answered_none now process number args (Ok (Value value, t)) s state fd e in_range = cc
answered_none now process number args (Ok (Waits, t)) s state fd e in_range = absurd (blocks_no_end process _ t.task.kept (t.task, t.shared) t.sockets state e)
answered_none now process number args (Err (refusal.Errno errno)) s state fd e in_range = cc
answered_none now process number args (Err (refusal.Kept errno)) s state fd e in_range = cc
answered_none now process number args (Err (refusal.Wait until)) s state fd e in_range = absurd (blocks_no_end process _ s.task.kept (s.task, s.shared) s.sockets state e)
answered_none now process number args (Err (refusal.End end)) s state fd e in_range = all_closed_is_free now (cleared s) fd in_range

call_by_none : (known : Known) (now : Time) (process number : ℕ) (args : List ℕ) (task : Option Task) (p : Slot) (state : State) (fd : ℕ)
    → (call_by known now process number args task p).0 ≡ answer.End state → fd < limit → IfSome (call_by known now process number args task p).1.task (λ t. map.get t.table fd ≡ None)
call_by_none known now process number args None p state fd e in_range = let no : ⊥ = cc in absurd no
call_by_none known now process number args (Some task) p state fd e in_range =
    answered_none now process number args (row_of known now process (call_of number) args (scene_at task p)) (scene_at task p) state fd e in_range

pub call_none : (known : Known) (now : Time) (process number : ℕ) (args : List ℕ) (h : PartsRecord) (state : State) (fd : ℕ)
    → (call known now process number args h).0 ≡ answer.End state → fd < limit → IfSome (at process (call known now process number args h).1.tasks) (λ t. map.get t.table fd ≡ None)
call_none known now process number args h state fd e in_range =
    set_none h.tasks process fd (call_slot known now process number args (slot_in process h)).1.task
    (call_by_none known now process number args (at process h.tasks) (slot_in process h) state fd e in_range)
