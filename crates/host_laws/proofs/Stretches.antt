-- A slice has few answered calls, and its stretches are within the budget.
use Rattle.std.proofs.Common.{◌≡◌, ℕ, zero, suc, ◌≤◌, ⊎_elim, List, [], ◌∷◌, Option, Some, None, slice_get, refl, sym, ap, subst, arith}
use Rattle.std.proofs.lemmas.List.Elements.{All-nil, All-cons}
use Rattle.rv32_machine.specs.declared.cpu.Cpu.{Cpu}
use Rattle.rv32_machine.specs.Table.{state}
use Rattle.rv32_machine.proofs.TurnLaws.{turn_is}
use Rattle.file_calls.specs.declared.task.Task.{Task}
use Rattle.host_link.specs.Net.{Net}
use Rattle.host_state.specs.Step.{Step}
use Rattle.host_state.specs.Step as step
use Rattle.host_state.specs.HostRecord.{HostRecord}
use Rattle.host_state.specs.Slice.{slice, calls, calls_again, follows, after_step, runs_to_call}
use Rattle.host_laws.specs.Stretches.{instructions, stretch, pauses, blocks, ends, answers, IsShortSlice}

within_budget : (net : Net) (cpu : Cpu) (found : Option (Option Task)) → instructions net cpu found ≤ net.budget
within_budget net cpu None = omega arith
within_budget net cpu (Some None) = omega arith
within_budget net cpu (Some (Some task)) =
    let t = turn_is net.budget (state cpu task.memory) in
    ⊎_elim (λ ended. ended.0) (λ spent. (let is = spent.0 in omega arith)) t.end

abbrev fits : Net → ℕ → Type 0
fits net n = n ≤ net.budget

short_by : (net : Net) (p most : ℕ) (cpu : Cpu) (host : HostRecord) (t : Step × HostRecord) → runs_to_call net p cpu host ≡ t
    → ((next : Cpu) (after : HostRecord) → IsShortSlice net p most (slice net p most next after) next after)
    → IsShortSlice net p (suc most) (after_step (slice net p most) p t) cpu host
short_by net p most cpu host (step.GoesOn next, after) is more =
    let s = more next after in
    record {
      answered = suc s.answered;
      stretches = stretch net p cpu host ∷ s.stretches;
      slice = answers cpu next host after s.answered s.stretches is s.slice;
      few = (let few = s.few in omega arith);
      within = All-cons (fits net) (stretch net p cpu host) s.stretches (within_budget net cpu (slice_get host.parts.tasks p)) s.within;
    }
short_by net p most cpu host (step.Blocks next, after) is more = record {
  answered = 0;
  stretches = stretch net p cpu host ∷ [];
  slice = blocks cpu next host after is refl;
  few = omega arith;
  within = All-cons (fits net) (stretch net p cpu host) [] (within_budget net cpu (slice_get host.parts.tasks p)) (All-nil _);
}
short_by net p most cpu host (step.Ends state, after) is more = record {
  answered = 0;
  stretches = stretch net p cpu host ∷ [];
  slice = ends cpu state host after is refl;
  few = omega arith;
  within = All-cons (fits net) (stretch net p cpu host) [] (within_budget net cpu (slice_get host.parts.tasks p)) (All-nil _);
}

short : (net : Net) (p most : ℕ) (cpu : Cpu) (host : HostRecord) → IsShortSlice net p most (slice net p most cpu host) cpu host
unfolding slice
short net p zero cpu host = record { answered = 0; stretches = []; slice = pauses cpu host refl; few = omega arith; within = All-nil _ }
short net p (suc most) cpu host = short_by net p most cpu host (runs_to_call net p cpu host) refl (λ next after. short net p most next after)

pub slice_short : (net : Net) (p : ℕ) (cpu : Cpu) (host : HostRecord) → IsShortSlice net p 100 (slice net p 100 cpu host) cpu host
slice_short net p cpu host = short net p 100 cpu host

pub kept_short : (net : Net) (p number : ℕ) (arguments : List ℕ) (cpu next : Cpu) (host after : HostRecord) → calls net p number arguments cpu host ≡ (step.GoesOn next, after)
    → IsShortSlice net p 99 (calls_again net p number arguments cpu host) next after
unfolding follows
kept_short net p number arguments cpu next host after is =
    subst (λ (last : HostRecord). IsShortSlice net p 99 last next after) (sym (ap (follows net p) is)) (short net p 99 next after)
