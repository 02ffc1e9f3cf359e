use Rattle.std.proofs.Common.{◌≡◌, ℕ, ◌∙◌, sym, refl, ap, subst, length, nat_lt, slice_get, Some, None, true, false, ◌<◌, rules, tests}
use Rattle.std.proofs.lemmas.Option.{slice_get_read}
use Rattle.std.proofs.lemmas.Result.{IfOk-weaker}
use Rattle.guest_process.specs.Turns.{SlotTurns}
use Rattle.host_link.specs.Net.{Net}
use Rattle.host_state.specs.declared.slice.Next.{Next}
use Rattle.host_state.specs.Slice.{by_turn_end}
use Rattle.host_state.specs.StandsFor.{DoesStep}
use Rattle.host_state.specs.Step.{step_with}
use Rattle.host_state.proofs.Slices.{ran, not_ran, none_ran}
use Rattle.host_state.proofs.host.Body.run_to_call.Goals as goal

pub returns-then-not-has_task : goal.returns-then-not-has_task
returns-then-not-has_task c =
    let there : nat_lt c.args.process (length c.args.self.now.parts.tasks.items) ≡ false = sym c.has_task.ensures.is ∙ c.if-not-has_task.true in
    none_ran c.args.net.now c.args.process c.args.cpu.now c.args.self.now there

pub returns-in-Some : goal.returns-in-Some
returns-in-Some c =
    let known : nat_lt c.args.process (length c.args.self.now.parts.tasks.items) ≡ true = sym c.has_task.ensures.is ∙ c.if-not-has_task.false in
    let within : c.args.process < length c.args.self.now.parts.tasks.items = search (rules, tests) in
    let there : slice_get c.args.self.now.parts.tasks.items c.args.process ≡ Some c.index_mut.result.now =
    slice_get_read c.args.self.now.parts.tasks.items _ c.args.process c.index_mut.result.now refl within c.index_mut.ensures.value in
    let budget : c.net.inside.budget ≡ c.args.net.now.budget = ap (λ (n : Net). n.budget) c.net.view_is in
    let P : ℕ → Type 0 = λ b. SlotTurns b c.args.cpu.now c.index_mut.result.now c.turn_slot-turned.new.cpu c.turn_slot-turned.new.slot (Some c.in-Some.end) in
    IfOk-weaker c.end_turn.result _ _
    (λ (n : Next) (d : DoesStep (by_turn_end c.args.net.now c.args.process c.in-Some.end c.turn_slot-turned.new.cpu) (step_with n c.end_turn.new.cpu) _ c.end_turn.new.self).
    ran c.args.net.now c.args.process c.args.cpu.now c.turn_slot-turned.new.cpu c.args.self.now _ c.end_turn.new.self c.in-Some.end (step_with n c.end_turn.new.cpu)
    d refl refl refl refl refl c.index_mut.result.now c.turn_slot-turned.new.slot there refl (subst P budget c.in-Some.ensures))
    c.end_turn.ensures

pub returns-in-None : goal.returns-in-None
returns-in-None c =
    let known : nat_lt c.args.process (length c.args.self.now.parts.tasks.items) ≡ true = sym c.has_task.ensures.is ∙ c.if-not-has_task.false in
    let within : c.args.process < length c.args.self.now.parts.tasks.items = search (rules, tests) in
    let there : slice_get c.args.self.now.parts.tasks.items c.args.process ≡ Some c.index_mut.result.now =
    slice_get_read c.args.self.now.parts.tasks.items _ c.args.process c.index_mut.result.now refl within c.index_mut.ensures.value in
    let budget : c.net.inside.budget ≡ c.args.net.now.budget = ap (λ (n : Net). n.budget) c.net.view_is in
    let P : ℕ → Type 0 = λ b. SlotTurns b c.args.cpu.now c.index_mut.result.now c.turn_slot-turned.new.cpu c.turn_slot-turned.new.slot None in
    not_ran c.args.net.now c.args.process c.args.cpu.now c.turn_slot-turned.new.cpu c.args.self.now _
    refl refl refl refl refl c.index_mut.result.now c.turn_slot-turned.new.slot there refl (subst P budget c.in-None.ensures)
