-- The hosts of a plan that is to be run are those of a configuration, and its stop is within the limits.
use Rattle.std.proofs.Common.{◌≡◌, ℕ, Bool, true, false, List, Result, Ok, Err, IfOk, ap, subst, codes, ◌≤◌, arith}
use Rattle.run_outside.specs.Files.{Held}
use Rattle.gml_graph.specs.declared.graph.Graph.{Graph}
use Rattle.command_line.specs.Asked.{asked}
use Rattle.command_line.specs.declared.asked.Asked.{Asked}
use Rattle.command_line.specs.declared.asked.Subject.{Subject}
use Rattle.command_line.specs.declared.asked.Subject.TheVariants.{File, SelfLoad, Capture}
use Rattle.command_line.specs.declared.fault.WordsFault.{WordsFault}
use Rattle.shd_config.specs.Limits.{MayOverride, MayStop, IsWithinLimits}
use Rattle.shd_config.specs.declared.config.Config.{Config}
use Rattle.shd_config.specs.declared.fault.ConfigFault.{ConfigFault}
use Rattle.shd_config.specs.declared.overrides.Overrides.{Overrides}
use Rattle.run_plan.specs.Configured.{configured}
use Rattle.run_plan.specs.HostRows.{host_rows}
use Rattle.run_plan.specs.InRange.{IsInRange}
use Rattle.run_plan.specs.Reading.{Reading}
use Rattle.run_plan.specs.Plan.{run_of, plan_of}
use Rattle.run_plan.specs.Planned.{or_words_fault, manner_of, runs, shown_or_run, file_planned, self_load_planned, capture_planned, planned_of, planned}
use Rattle.run_plan.specs.Ring.{ring_files}
use Rattle.run_plan.specs.SelfLoad.{self_load_config, self_load_graph}
use Rattle.run_plan.specs.declared.fault.Fault.{Fault}
use Rattle.run_plan.specs.declared.host_row.HostRow.{HostRow}
use Rattle.run_plan.specs.declared.plan.Plan.{Plan}
use Rattle.run_plan.specs.declared.planned.Manner.{Manner}
use Rattle.run_plan.specs.declared.planned.Planned.{Planned}
use Rattle.run_plan.specs.declared.planned.Planned.TheVariants.{Runs}
use Rattle.run_plan.specs.declared.planned.Run.{Run}
use Rattle.run_plan.proofs.ConfiguredLemmas.{configured_is}
use Rattle.run_plan.proofs.InRangeLemmas.{asked_in_range}
use Rattle.run_plan.proofs.LimitLemmas.{self_load_within}
use Rattle.stream_lines.proofs.Given.{HasHosts, config_has, self_load_has}
use Rattle.stream_lines.proofs.Within.{config_within}

-- these are the rows of hosts of a configuration
pub record AreRows (rows : List HostRow) : Type 0 where
  pub name : List ℕ
  pub graph : Graph
  pub configuration : Config
  pub are : (host_rows name graph configuration.hosts).answers (Ok rows)
  pub hosts : HasHosts configuration

-- of a plan: its rows are such, and its stop is one that a configuration may have
record IsOfConfig (plan : Plan) : Type 0 where
  rows : AreRows plan.rows
  stop : MayStop plan.settings.stop_time

-- what a configuration has
record IsConfig (c : Config) : Type 0 where
  hosts : HasHosts c
  stop : MayStop c.stop_time

-- ---- a plan

abbrev pub plan_is : Plan → Result Plan Fault → Plan
plan_is other (Ok plan) = plan
plan_is other (Err fault) = other

run_rows : (held : Held) (name : List ℕ) (graph : Graph) (c : Config) (plan : Plan) → IsConfig c → (run_of held name graph c).answers (Ok plan) → IsOfConfig plan
unfolding run_of
run_rows held name graph c plan has (rows, h, (routes, k, (images, m, (lookahead, n, e)))) =
    let same : rows ≡ plan.rows = ap (λ (r : Result Plan Fault). (plan_is plan r).rows) e in
    let stop : c.stop_time ≡ plan.settings.stop_time = ap (λ (r : Result Plan Fault). (plan_is plan r).settings.stop_time) e in
    record {
      rows = record { name = name; graph = graph; configuration = c; are = subst (λ (found : List HostRow). (host_rows name graph c.hosts).answers (Ok found)) same h; hosts = has.hosts };
      stop = subst MayStop stop has.stop;
    }

plan_rows : (held : Held) (name : List ℕ) (c : Config) (plan : Plan) → IsConfig c → (plan_of held name c).answers (Ok plan) → IsOfConfig plan
unfolding plan_of
plan_rows held name c plan has (graph, g, h) = run_rows held name graph c plan has h

-- ---- a plan that is to be run

abbrev plan_in : Plan → Planned → Plan
plan_in other (Runs run) = run.plan
plan_in other _ = other

abbrev planned_in : Planned → Result Planned Fault → Planned
planned_in other (Ok p) = p
planned_in other (Err fault) = other

-- it has what each plan of its configuration has
pub is_run : (P : Plan → Type 0) (shows : Bool) (c : Config) (reading : Reading Plan) (m : Manner) (is_self_load : Bool) (run : Run) → ((plan : Plan) → reading.answers (Ok plan) → P plan)
    → (shown_or_run shows c reading (runs m is_self_load)).answers (Ok (Runs run)) → P run.plan
is_run P true c reading m is_self_load run each e = cc
is_run P false c reading m is_self_load run each (plan, h, e) =
    let same : plan ≡ run.plan = ap (λ (r : Result Planned Fault). plan_in plan (planned_in (Runs run) r)) e in
    subst P same (each plan h)

-- ---- a file

configured_has : (name text : List ℕ) (o : Overrides) (c : Config) → MayOverride o → (configured name text o).answers (Ok c) → IsConfig c
configured_has name text o c may h =
    let is = configured_is name text o c h in
    record {
      hosts = subst (λ (read : Result Config ConfigFault). IfOk read HasHosts) is.2 (config_has o _ is.0);
      stop = (subst (λ (read : Result Config ConfigFault). IfOk read IsWithinLimits) is.2 (config_within o may _ is.0)).stop;
    }

file_rows : (m : Manner) (held : Held) (name : List ℕ) (run : Run) → MayOverride m.overrides → (file_planned m held name).answers (Ok (Runs run)) → IsOfConfig run.plan
unfolding file_planned
file_rows m held name run may (text, h, (c, k, s)) =
    is_run IsOfConfig m.shows_config c (plan_of held name c) m false run (λ plan p. plan_rows held name c plan (configured_has name text m.overrides c may k) p) s

-- ---- a self-load

self_load_rows : (m : Manner) (hosts : ℕ) (held : Held) (run : Run) → IsInRange (SelfLoad hosts) → MayOverride m.overrides → (self_load_planned m hosts).answers (Ok (Runs run)) → IsOfConfig run.plan
unfolding self_load_planned
self_load_rows m hosts held run range may s =
    let c : Config = self_load_config m.overrides hosts in
    let low : 2 ≤ hosts = range.0 in
    let within : IsWithinLimits c = self_load_within m.overrides hosts (omega arith) range.1 may in
    is_run IsOfConfig m.shows_config c (run_of ring_files (codes "self-load") (self_load_graph hosts) c) m true run
    (λ plan p. run_rows ring_files (codes "self-load") (self_load_graph hosts) c plan (record { hosts = self_load_has m.overrides hosts range.1; stop = within.stop }) p) s

-- ---- what is asked

pub no_run : (m : Manner) (held : Held) (name : List ℕ) (run : Run) → (capture_planned held name).answers (Ok (Runs run)) → ⊥
unfolding capture_planned
no_run m held name run (bytes, h, (capture, k, e)) = cc

subject_rows : (held : Held) (m : Manner) (subject : Subject) (run : Run) → IsInRange subject → MayOverride m.overrides → (planned_of held m subject).answers (Ok (Runs run)) → IsOfConfig run.plan
subject_rows held m (File name) run range may h = file_rows m held name run may h
subject_rows held m (SelfLoad hosts) run range may h = self_load_rows m hosts held run range may h
subject_rows held m (Capture name) run range may h = absurd (no_run m held name run h)

pub asked_is : (read : Result Asked WordsFault) (a : Asked) → or_words_fault read ≡ Ok a → read ≡ Ok a
asked_is (Ok b) a e = cc
asked_is (Err fault) a e = cc

of_config : (words : List (List ℕ)) (held : Held) (run : Run) → (planned words held).answers (Ok (Runs run)) → IsOfConfig run.plan
unfolding planned
of_config words held run (a, e, h) =
    let range = asked_in_range words a (asked_is (asked words) a e) in subject_rows held (manner_of a) a.subject run range.subject range.overrides h

pub planned_rows : (words : List (List ℕ)) (held : Held) (run : Run) → (planned words held).answers (Ok (Runs run)) → AreRows run.plan.rows
planned_rows words held run is = (of_config words held run is).rows

pub planned_stop : (words : List (List ℕ)) (held : Held) (run : Run) → (planned words held).answers (Ok (Runs run)) → MayStop run.plan.settings.stop_time
planned_stop words held run is = (of_config words held run is).stop
