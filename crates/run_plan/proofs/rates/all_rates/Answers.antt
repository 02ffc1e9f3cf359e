use Rattle.std.proofs.Common.{◌≡◌, ◌∙◌, ◌+◌, List, ◌∷◌, drop, sym, ap, subst}
use Rattle.sim_base.specs.declared.address.Ip.{Ip}
use Rattle.run_plan.specs.Reading.{gives, Stops}
use Rattle.std.proofs.lemmas.List.{drop_more}
use Rattle.std.proofs.lemmas.Result.{err_from_is_err_and}
use Rattle.shd_config.specs.declared.config.HostConfig.{HostConfig}
use Rattle.run_plan.specs.Rates.{rates_of, all_rates}
use Rattle.run_plan.proofs.StepLemmas.{stops}
use Rattle.run_plan.proofs.RateLemmas.{rates_stop, rates_read, rates_end}
use Rattle.run_plan.proofs.rates.all_rates.Goals as goal

pub returns-in_err-rates : goal.returns-in_err-rates
returns-in_err-rates c =
    let at : drop c.loop-host.host-index c.args.hosts.now ≡ c.host-item.result ∷ drop (c.loop-host.host-index + 1) c.args.hosts.now =
    drop_more c.args.hosts.now c.loop-host.host-index c.host-item.result c.loop-host-test.true
    ∙ ap (λ (h : HostConfig). h ∷ drop (c.loop-host.host-index + 1) c.args.hosts.now) (sym c.host-item.is) in
    let p = err_from_is_err_and c.from_residual.result c.from_residual.ensures.1 in rw (p.1, p.2)
    (stops (rates_of c.args.file.now c.args.nodes.now c.loop-host.earlier.items c.host-item.result) (all_rates c.args.file.now c.args.nodes.now c.args.hosts.now) _
    (λ f e. rates_stop c.args.file.now c.args.nodes.now c.args.hosts.now c.loop-host.host-index c.loop-host.earlier.items c.loop-host.all.items c.loop-host.invariant c.host-item.result f at e)
    (subst (λ (earlier : List Ip). Stops (gives (rates_of c.args.file.now c.args.nodes.now earlier c.host-item.result)) c.in_err-rates.field-0.0) c.deref.ensures.value c.in_err-rates.ensures))

pub loop-host-preserved : goal.loop-host-preserved
loop-host-preserved c =
    let at : drop c.loop-host.host-index c.args.hosts.now ≡ c.host-item.result ∷ drop (c.loop-host.host-index + 1) c.args.hosts.now =
    drop_more c.args.hosts.now c.loop-host.host-index c.host-item.result c.loop-host-test.true
    ∙ ap (λ (h : HostConfig). h ∷ drop (c.loop-host.host-index + 1) c.args.hosts.now) (sym c.host-item.is) in
    rw (c.in_ok-push_given.ensures, c.in_ok-push.ensures.items)
    (rates_read c.args.file.now c.args.nodes.now c.args.hosts.now c.loop-host.host-index c.loop-host.earlier.items c.loop-host.all.items c.loop-host.invariant c.host-item.result c.in_ok-rates.rates at
    (rw c.deref.ensures.value at c.in_ok-rates.ensures))

pub returns : goal.returns
returns c = rates_end c.args.file.now c.args.nodes.now c.args.hosts.now c.loop-host.host-index c.loop-host.earlier.items c.loop-host.all.items c.loop-host.invariant c.loop-host-test.false
