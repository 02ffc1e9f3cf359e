use Rattle.std.proofs.Common.{◌≡◌, ◌+◌, ◌-◌, ℕ, suc, ap, arith}
use Rattle.std.proofs.lemmas.Result.{on_ok_weaker}
use Rattle.host_state.specs.declared.slice.Next.{Next}
use Rattle.host_state.specs.Slice.{slice, goes_later, pause}
use Rattle.host_state.specs.StandsFor.{Does}
use Rattle.host_state.specs.Step.{step_with}
use Rattle.host_state.proofs.Slices.{goes_on, slice_blocks, slice_ends, slice_pauses, same_step}
use Rattle.host_state.proofs.host.Body.run.Goals as goal

pub loop-call-init : goal.loop-call-init
loop-call-init c = λ h s.
    let e : c.args.calls - 0 ≡ c.args.calls = omega arith in
    record { here = h; body = s; same = ap (λ (k : ℕ). slice c.args.net.now c.args.process k c.args.cpu h) e }

pub loop-call-preserved : goal.loop-call-preserved
loop-call-preserved c = λ h s.
    let counted : c.args.calls - c.loop-call._call ≡ suc (c.args.calls - (c.loop-call._call + 1)) = omega arith in
    goes_on c.args.net.now c.args.process _ _ c.loop-call.running c.run_to_call.new.cpu c.loop-call.self c.run_to_call.new.self _ counted (c.loop-call.invariant h s)
    (same_step _ _ _ _ _ (ap (λ (n : Next). step_with n c.run_to_call.new.cpu) c.in-GoesOn.is) c.in_ok-run_to_call.ensures)

pub returns-in-Blocks : goal.returns-in-Blocks
returns-in-Blocks c = λ h s.
    let counted : c.args.calls - c.loop-call._call ≡ suc (c.args.calls - (c.loop-call._call + 1)) = omega arith in
    slice_blocks c.args.net.now c.args.process _ _ c.loop-call.running c.run_to_call.new.cpu c.loop-call.self c.run_to_call.new.self _ _ counted (c.loop-call.invariant h s)
    (same_step _ _ _ _ _ (ap (λ (n : Next). step_with n c.run_to_call.new.cpu) c.in-Blocks.is) c.in_ok-run_to_call.ensures) c.rest.ensures

pub returns-in-Ends : goal.returns-in-Ends
returns-in-Ends c = λ h s.
    let counted : c.args.calls - c.loop-call._call ≡ suc (c.args.calls - (c.loop-call._call + 1)) = omega arith in
    slice_ends c.args.net.now c.args.process _ _ c.loop-call.running c.in-Ends.state c.loop-call.self c.run_to_call.new.self _ _ counted (c.loop-call.invariant h s)
    (same_step _ _ _ _ _ (ap (λ (n : Next). step_with n c.run_to_call.new.cpu) c.in-Ends.is) c.in_ok-run_to_call.ensures) c.end.ensures

pub returns : goal.returns
returns c =
    let counted : c.args.calls - c.loop-call._call ≡ 0 = omega arith in
    on_ok_weaker c.go_later.result
    (λ (d : Does (goes_later pause c.args.process c.loop-call.running) c.loop-call.self c.go_later.new.self) h s.
    slice_pauses c.args.net.now c.args.process _ c.loop-call.running c.loop-call.self c.go_later.new.self _ counted (c.loop-call.invariant h s) d)
    c.go_later.ensures
