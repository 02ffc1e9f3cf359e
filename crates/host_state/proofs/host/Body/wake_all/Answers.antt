use Rattle.std.proofs.Common.{◌≡◌, ◌+◌, ◌-◌, ℕ, suc, min, length, List, ap, ◌∙◌, subst, arith, rules}
use Rattle.guest_process.specs.declared.process.Process.{Process}
use Rattle.host_state.specs.Fire.{wakes_from, wakes_all}
use Rattle.host_state.specs.StandsFor.{LeadsTo}
use Rattle.host_state.proofs.Firings.{more_wakes, no_more_wakes}
use Rattle.host_state.proofs.host.Body.wake_all.Goals as goal

pub loop-process-init : goal.loop-process-init
unfolding wakes_all
loop-process-init c = λ h s.
    let e : c.min-count.result - 0 ≡ min (length h.processes) 64 =
    let same : c.min-count.result ≡ min (length c.args.self.now.processes.items) 64 = search rules in
    let zero_off : c.min-count.result - 0 ≡ c.min-count.result = omega arith in
    zero_off ∙ (same ∙ ap (λ (xs : List Process). min (length xs) 64) s.processes) in
    record { here = h; body = s; same = ap (λ (k : ℕ). wakes_from c.args.net.now 0 k h) e }

pub loop-process-preserved : goal.loop-process-preserved
loop-process-preserved c = λ h s.
    let counted : c.min-count.result - c.loop-process.process ≡ suc (c.min-count.result - (c.loop-process.process + 1)) = omega arith in
    let next : suc c.loop-process.process ≡ c.loop-process.process + 1 = omega arith in
    subst (λ (p : ℕ). LeadsTo (wakes_from c.args.net.now p (c.min-count.result - (c.loop-process.process + 1))) c.wake.new.self (wakes_all c.args.net.now h)) next
    (more_wakes c.args.net.now c.loop-process.process _ _ c.loop-process.self c.wake.new.self _ counted (c.loop-process.invariant h s) c.in_ok-wake.ensures)

pub returns : goal.returns
returns c = λ h s.
    let counted : c.min-count.result - c.loop-process.process ≡ 0 = omega arith in
    no_more_wakes c.args.net.now c.loop-process.process _ c.loop-process.self _ counted (c.loop-process.invariant h s)
