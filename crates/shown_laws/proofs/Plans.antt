-- A plan that is to be run keeps to the limits of configurations, and its lookahead is the least latency of its routes.
use Rattle.std.proofs.Common.{◌≡◌, ℕ, true, false, List, Result, Ok, IfOk, refl, ap, subst, codes, ◌≤◌, arith}
use Rattle.run_outside.specs.Files.{Held}
use Rattle.gml_graph.specs.declared.graph.Graph.{Graph}
use Rattle.net_routes.specs.Least.{IsLookahead}
use Rattle.command_line.specs.Asked.{asked}
use Rattle.command_line.specs.declared.asked.Subject.{Subject}
use Rattle.command_line.specs.declared.asked.Subject.TheVariants.{File, SelfLoad, Capture}
use Rattle.shd_config.specs.Limits.{MayOverride, IsWithinLimits}
use Rattle.shd_config.specs.declared.config.Config.{Config}
use Rattle.shd_config.specs.declared.fault.ConfigFault.{ConfigFault}
use Rattle.shd_config.specs.declared.overrides.Overrides.{Overrides}
use Rattle.run_plan.specs.Configured.{configured}
use Rattle.run_plan.specs.InRange.{IsInRange}
use Rattle.run_plan.specs.Limits.{KeepsToLimits}
use Rattle.run_plan.specs.Plan.{nodes_of, nanos_of, run_of, plan_of}
use Rattle.run_plan.specs.Planned.{manner_of, file_planned, self_load_planned, planned_of, planned}
use Rattle.run_plan.specs.Ring.{ring_files}
use Rattle.run_plan.specs.SelfLoad.{self_load_config, self_load_graph}
use Rattle.run_plan.specs.declared.plan.Plan.{Plan}
use Rattle.run_plan.specs.declared.planned.Manner.{Manner}
use Rattle.run_plan.specs.declared.planned.Planned.TheVariants.{Runs}
use Rattle.run_plan.specs.declared.planned.Run.{Run}
use Rattle.run_plan.proofs.ConfiguredLemmas.{configured_is}
use Rattle.run_plan.proofs.InRangeLemmas.{asked_in_range}
use Rattle.run_plan.proofs.LimitLemmas.{plan_within, self_load_within}
use Rattle.run_plan.proofs.PlanLemmas.{made}
use Rattle.stream_lines.proofs.Planned.{plan_is, is_run, no_run, asked_is}
use Rattle.stream_lines.proofs.Within.{config_within}

-- a plan within the limits, with the lookahead of its routes
pub record IsBounded (plan : Plan) : Type 0 where
  pub limits : KeepsToLimits plan
  pub lookahead : IsLookahead (nodes_of plan.rows) plan.routes (nanos_of plan.lookahead)

-- ---- a plan

over_graph : (held : Held) (name : List ℕ) (graph : Graph) (c : Config) (plan : Plan) → IsWithinLimits c → (run_of held name graph c).answers (Ok plan) → IsBounded plan
unfolding run_of
over_graph held name graph c plan within (rows, h, (routes, k, (images, m, (lookahead, n, e)))) =
    let whole : Plan = made c rows routes images lookahead in
    let same : whole ≡ plan = ap (plan_is whole) e in
    subst IsBounded same (record { limits = plan_within name graph c whole within h refl; lookahead = n })

of_config : (held : Held) (name : List ℕ) (c : Config) (plan : Plan) → IsWithinLimits c → (plan_of held name c).answers (Ok plan) → IsBounded plan
unfolding plan_of
of_config held name c plan within (graph, g, h) = over_graph held name graph c plan within h

-- ---- a file

configured_within : (name text : List ℕ) (o : Overrides) (c : Config) → MayOverride o → (configured name text o).answers (Ok c) → IsWithinLimits c
configured_within name text o c may h =
    let is = configured_is name text o c h in subst (λ (read : Result Config ConfigFault). IfOk read IsWithinLimits) is.2 (config_within o may _ is.0)

of_file : (m : Manner) (held : Held) (name : List ℕ) (run : Run) → MayOverride m.overrides → (file_planned m held name).answers (Ok (Runs run)) → IsBounded run.plan
unfolding file_planned
of_file m held name run may (text, h, (c, k, s)) =
    is_run IsBounded m.shows_config c (plan_of held name c) m false run (λ plan p. of_config held name c plan (configured_within name text m.overrides c may k) p) s

-- ---- a self-load

of_self_load : (m : Manner) (hosts : ℕ) (run : Run) → IsInRange (SelfLoad hosts) → MayOverride m.overrides → (self_load_planned m hosts).answers (Ok (Runs run)) → IsBounded run.plan
unfolding self_load_planned
of_self_load m hosts run range may s =
    let c : Config = self_load_config m.overrides hosts in
    let low : 2 ≤ hosts = range.0 in
    let within : IsWithinLimits c = self_load_within m.overrides hosts (omega arith) range.1 may in
    is_run IsBounded m.shows_config c (run_of ring_files (codes "self-load") (self_load_graph hosts) c) m true run
    (λ plan p. over_graph ring_files (codes "self-load") (self_load_graph hosts) c plan within p) s

-- ---- what is asked

of_subject : (held : Held) (m : Manner) (subject : Subject) (run : Run) → IsInRange subject → MayOverride m.overrides → (planned_of held m subject).answers (Ok (Runs run)) → IsBounded run.plan
of_subject held m (File name) run range may h = of_file m held name run may h
of_subject held m (SelfLoad hosts) run range may h = of_self_load m hosts run range may h
of_subject held m (Capture name) run range may h = absurd (no_run m held name run h)

-- the plan of words that ask for a run
pub is_bounded : (words : List (List ℕ)) (held : Held) (run : Run) → (planned words held).answers (Ok (Runs run)) → IsBounded run.plan
unfolding planned
is_bounded words held run (a, e, h) =
    let range = asked_in_range words a (asked_is (asked words) a e) in of_subject held (manner_of a) a.subject run range.subject range.overrides h
