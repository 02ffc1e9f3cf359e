use Rattle.std.proofs.Common.{◌≡◌, ◌∙◌, List, ℕ, ap, subst}
use Rattle.std.specs.Prelude.{Ok}
use Rattle.std.proofs.lemmas.Result.{err_from_is_err_and}
use Rattle.net_routes.specs.Least.{IsLookahead}
use Rattle.net_routes.specs.Routes.{HasRoutes}
use Rattle.shd_config.specs.declared.config.HostConfig.{HostConfig}
use Rattle.run_plan.specs.HostRows.{host_rows}
use Rattle.run_plan.specs.Plan.{nodes_of, routed, nanos_of}
use Rattle.run_plan.specs.Programs.{programs_of, images}
use Rattle.run_plan.specs.Reading.{Stops}
use Rattle.run_plan.specs.Routed.{TakeTime}
use Rattle.run_plan.specs.declared.host_row.HostRow.{HostRow}
use Rattle.run_plan.specs.declared.plan.Plan.{Plan}
use Rattle.run_plan.proofs.LimitLemmas.{plan_within}
use Rattle.run_plan.proofs.NameLemmas.{rows_apart}
use Rattle.run_plan.proofs.PlanLemmas.{rows_stop, routes_stop, images_stop, run_done}
use Rattle.run_plan.proofs.RowLemmas.{rows_counted}
use Rattle.run_plan.proofs.StepLemmas.{when_told, always_told}
use Rattle.run_plan.proofs.plan.read_run.Goals as goal

pub returns-in_err-programs-clause-told : goal.returns-in_err-programs-clause-told
returns-in_err-programs-clause-told g c =
    let p = err_from_is_err_and c.from_residual.result c.from_residual.ensures.1 in rw (p.1, p.2)
    (always_told (g.S.Source.held c.args.source.now) (λ held. tt))

pub returns-in_err-rows-clause-told : goal.returns-in_err-rows-clause-told
returns-in_err-rows-clause-told g c =
    let p = err_from_is_err_and c.from_residual-in_err-rows.result c.from_residual-in_err-rows.ensures.1 in
    let stopped : Stops (host_rows c.args.name.now c.args.graph.now c.args.config.hosts) c.in_err-rows.field-0.0 =
    subst (λ (hs : List HostConfig). Stops (host_rows c.args.name.now c.args.graph.now hs) c.in_err-rows.field-0.0) c.parts_of-settings.ensures.hosts c.in_err-rows.ensures in rw (p.1, p.2)
    (always_told (g.S.Source.held c.args.source.now) (λ held. rows_stop held c.args.name.now c.args.graph.now c.args.config c.in_err-rows.field-0.0 stopped))

pub returns-in_err-rows-clause-count : goal.returns-in_err-rows-clause-count
returns-in_err-rows-clause-count g c =
    let p = err_from_is_err_and c.from_residual-in_err-rows.result c.from_residual-in_err-rows.ensures.1 in rw (p.1, p.2)
    (rows_counted Plan c.args.name.now c.args.graph.now c.parts_of-settings.result.1 c.in_err-rows.field-0.0 _ c.in_err-rows.ensures)

pub returns-in_err-routed-clause-told : goal.returns-in_err-routed-clause-told
returns-in_err-routed-clause-told g c =
    let rows : (host_rows c.args.name.now c.args.graph.now c.args.config.hosts).answers (Ok c.in_ok-rows.rows) =
    subst (λ (hs : List HostConfig). (host_rows c.args.name.now c.args.graph.now hs).answers (Ok c.in_ok-rows.rows)) c.parts_of-settings.ensures.hosts c.in_ok-rows.ensures in
    let stopped : Stops (routed c.args.graph.now c.args.config.use_shortest_path (nodes_of c.in_ok-rows.rows)) c.in_err-routed.field-0.0 =
    subst (λ (rs : List HostRow). Stops (routed c.args.graph.now c.args.config.use_shortest_path (nodes_of rs)) c.in_err-routed.field-0.0) c.as_slice-2.ensures c.in_err-routed.ensures.told in
    let p = err_from_is_err_and c.from_residual-in_err-routed.result c.from_residual-in_err-routed.ensures.1 in rw (p.1, p.2)
    (always_told (g.S.Source.held c.args.source.now) (λ held. routes_stop held c.args.name.now c.args.graph.now c.args.config c.in_ok-rows.rows rows c.in_err-routed.field-0.0 stopped))

pub returns-in_err-images-clause-told : goal.returns-in_err-images-clause-told
returns-in_err-images-clause-told g c =
    let rows : (host_rows c.args.name.now c.args.graph.now c.args.config.hosts).answers (Ok c.in_ok-rows.rows) =
    subst (λ (hs : List HostConfig). (host_rows c.args.name.now c.args.graph.now hs).answers (Ok c.in_ok-rows.rows)) c.parts_of-settings.ensures.hosts c.in_ok-rows.ensures in
    let e : c.deref-2.result.now ≡ programs_of c.args.config.hosts = c.deref-2.ensures.value ∙ (c.in_ok-programs.ensures ∙ ap programs_of (c.as_slice.ensures ∙ c.parts_of-settings.ensures.hosts)) in
    let found : (routed c.args.graph.now c.args.config.use_shortest_path (nodes_of c.in_ok-rows.rows)).answers (Ok c.in_ok-routed.routed.routes) =
    subst (λ (rs : List HostRow). (routed c.args.graph.now c.args.config.use_shortest_path (nodes_of rs)).answers (Ok c.in_ok-routed.routed.routes)) c.as_slice-2.ensures c.in_ok-routed.ensures.told in
    let p = err_from_is_err_and c.from_residual-in_err-images.result c.from_residual-in_err-images.ensures.1 in rw (p.1, p.2)
    (when_told (g.S.Source.held c.args.source.now)
    (λ held h. images_stop held c.args.name.now c.args.graph.now c.args.config c.in_ok-rows.rows rows c.in_ok-routed.routed.routes found c.in_err-images.field-0.0
    (subst (λ (ps : List (List ℕ)). Stops (images held ps) c.in_err-images.field-0.0) e h))
    c.in_err-images.ensures.told)

pub returns-in_err-hosts_text-clause-told : goal.returns-in_err-hosts_text-clause-told
returns-in_err-hosts_text-clause-told g c =
    let p = err_from_is_err_and c.from_residual-in_err-hosts_text.result c.from_residual-in_err-hosts_text.ensures.1 in rw (p.1, p.2)
    (always_told (g.S.Source.held c.args.source.now) (λ held. tt))

pub returns-clause-told : goal.returns-clause-told
returns-clause-told g c =
    let rows : (host_rows c.args.name.now c.args.graph.now c.args.config.hosts).answers (Ok c.in_ok-rows.rows) =
    subst (λ (hs : List HostConfig). (host_rows c.args.name.now c.args.graph.now hs).answers (Ok c.in_ok-rows.rows)) c.parts_of-settings.ensures.hosts c.in_ok-rows.ensures in
    let e : c.deref-2.result.now ≡ programs_of c.args.config.hosts = c.deref-2.ensures.value ∙ (c.in_ok-programs.ensures ∙ ap programs_of (c.as_slice.ensures ∙ c.parts_of-settings.ensures.hosts)) in
    let found : (routed c.args.graph.now c.args.config.use_shortest_path (nodes_of c.in_ok-rows.rows)).answers (Ok c.in_ok-routed.routed.routes) =
    subst (λ (rs : List HostRow). (routed c.args.graph.now c.args.config.use_shortest_path (nodes_of rs)).answers (Ok c.in_ok-routed.routed.routes)) c.as_slice-2.ensures c.in_ok-routed.ensures.told in
    let least : IsLookahead (nodes_of c.in_ok-rows.rows) c.in_ok-routed.routed.routes (nanos_of c.in_ok-routed.routed.lookahead) =
    subst (λ (rs : List HostRow). IsLookahead (nodes_of rs) c.in_ok-routed.routed.routes (nanos_of c.in_ok-routed.routed.lookahead)) c.as_slice-2.ensures c.in_ok-routed.ensures.least in
    rw (c.parts_of-settings.ensures.settings, c.from.ensures, c.in_ok-hosts_text.ensures, c.as_slice-3.ensures)
    (when_told (g.S.Source.held c.args.source.now)
    (λ held h. run_done held c.args.name.now c.args.graph.now c.args.config c.in_ok-rows.rows rows c.in_ok-routed.routed.routes found c.in_ok-images.images.items c.in_ok-routed.routed.lookahead
    (subst (λ (ps : List (List ℕ)). (images held ps).answers (Ok c.in_ok-images.images.items)) e h) least)
    c.in_ok-images.ensures.told)

pub returns-clause-limits : goal.returns-clause-limits
returns-clause-limits g c =
    let rows : (host_rows c.args.name.now c.args.graph.now c.args.config.hosts).answers (Ok c.in_ok-rows.rows) =
    subst (λ (hs : List HostConfig). (host_rows c.args.name.now c.args.graph.now hs).answers (Ok c.in_ok-rows.rows)) c.parts_of-settings.ensures.hosts c.in_ok-rows.ensures in
    plan_within c.args.name.now c.args.graph.now c.args.config _ c.requires rows (ap (λ s. s.stop_time) c.parts_of-settings.ensures.settings)

pub returns-clause-routed : goal.returns-clause-routed
returns-clause-routed g c = record {
  routes = subst (λ (rs : List HostRow). HasRoutes (nodes_of rs) c.in_ok-routed.routed.routes) c.as_slice-2.ensures c.in_ok-routed.ensures.whole;
  later = subst (λ (rs : List HostRow). TakeTime (nodes_of rs) c.in_ok-routed.routed.routes) c.as_slice-2.ensures c.in_ok-routed.ensures.later;
  lookahead = subst (λ (rs : List HostRow). IsLookahead (nodes_of rs) c.in_ok-routed.routed.routes (nanos_of c.in_ok-routed.routed.lookahead)) c.as_slice-2.ensures c.in_ok-routed.ensures.least;
}

pub returns-clause-apart : goal.returns-clause-apart
returns-clause-apart g c far =
    let rows : (host_rows c.args.name.now c.args.graph.now c.args.config.hosts).answers (Ok c.in_ok-rows.rows) =
    subst (λ (hs : List HostConfig). (host_rows c.args.name.now c.args.graph.now hs).answers (Ok c.in_ok-rows.rows)) c.parts_of-settings.ensures.hosts c.in_ok-rows.ensures in
    rows_apart c.args.name.now c.args.graph.now c.args.config.hosts c.in_ok-rows.rows rows far
