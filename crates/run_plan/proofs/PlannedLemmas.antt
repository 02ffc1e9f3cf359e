-- The steps of what is asked by the words of a call.
use Rattle.std.proofs.Common.{◌≡◌, List, ℕ, Bool, true, false, refl, sym, subst}
use Rattle.std.specs.Prelude.{Ok, codes}
use Rattle.run_outside.specs.Files.{Held}
use Rattle.gml_graph.specs.declared.graph.Graph.{Graph}
use Rattle.shd_config.specs.declared.config.Config.{Config}
use Rattle.run_plan.specs.Captured.{captured}
use Rattle.run_plan.specs.Configured.{configured}
use Rattle.run_plan.specs.File.{read}
use Rattle.run_plan.specs.Reading.{Reading, gives, Stops, ◌>>=◌}
use Rattle.run_plan.specs.Plan.{plan_of, run_of}
use Rattle.run_plan.specs.Planned.{runs, shown_or_run, file_planned, self_load_planned, capture_planned}
use Rattle.run_plan.specs.Ring.{ring, one_file, ring_files}
use Rattle.run_plan.specs.SelfLoad.{self_load_config, self_load_graph}
use Rattle.run_plan.specs.declared.fault.ReadStop.{ReadStop}
use Rattle.run_plan.specs.declared.plan.Plan.{Plan}
use Rattle.run_plan.specs.declared.planned.Manner.{Manner}
use Rattle.run_plan.specs.declared.planned.Planned.{Planned}
use Rattle.run_plan.specs.declared.planned.Planned.TheVariants.{Lists}
use Rattle.run_plan.proofs.StepLemmas.{stops_first, stops_next}

-- ---- shown or run

module _ (config : Config) (plan : Reading Plan) (run : Plan → Planned) where
  is_run : (b : Bool) (p : Plan) → b ≡ false → plan.answers (Ok p) → (shown_or_run b config plan run).answers (Ok (run p))
  is_run b p e h = subst (λ (t : Bool). (shown_or_run t config plan run).answers (Ok (run p))) (sym e) (p, h, refl)

  run_stops : (b : Bool) (stop : ReadStop) → b ≡ false → Stops plan stop → Stops (shown_or_run b config plan run) stop
  run_stops b stop e h = subst (λ (t : Bool). Stops (shown_or_run t config plan run) stop) (sym e) (stops_first plan (λ p. gives (Ok (run p))) stop h)

-- ---- a file

module _ (m : Manner) (held : Held) (name : List ℕ) where
  abbrev pub with_config : Config → Reading Planned
  with_config config = shown_or_run m.shows_config config (plan_of held name config) (runs m false)

  abbrev pub with_text : List ℕ → Reading Planned
  with_text text = configured name text m.overrides >>= with_config

  pub text_stops : (stop : ReadStop) → Stops (read held name) stop → Stops (file_planned m held name) stop
  unfolding file_planned
  text_stops stop h = stops_first (read held name) with_text stop h

  module _ (text : List ℕ) (h : (read held name).answers (Ok text)) where
    pub config_stops : (stop : ReadStop) → Stops (configured name text m.overrides) stop → Stops (file_planned m held name) stop
    unfolding file_planned
    config_stops stop k = stops_next (read held name) with_text text stop h (stops_first (configured name text m.overrides) with_config stop k)

    module _ (config : Config) (k : (configured name text m.overrides).answers (Ok config)) where
      pub plan_stops : (stop : ReadStop) → m.shows_config ≡ false → Stops (plan_of held name config) stop → Stops (file_planned m held name) stop
      unfolding file_planned
      plan_stops stop e n =
          stops_next (read held name) with_text text stop h
          (stops_next (configured name text m.overrides) with_config config stop k (run_stops config (plan_of held name config) (runs m false) m.shows_config stop e n))

      pub file_run : (p : Plan) → m.shows_config ≡ false → (plan_of held name config).answers (Ok p) → (file_planned m held name).answers (Ok (runs m false p))
      unfolding file_planned
      file_run p e n = (text, h, (config, k, is_run config (plan_of held name config) (runs m false) m.shows_config p e n))

-- ---- a capture

abbrev with_bytes : List ℕ → List ℕ → Reading Planned
with_bytes name bytes = gives (captured name bytes) >>= (λ capture. gives (Ok (Lists capture)))

pub capture_stops : (held : Held) (name : List ℕ) (stop : ReadStop) → Stops (read held name) stop → Stops (capture_planned held name) stop
unfolding capture_planned
capture_stops held name stop h = stops_first (read held name) (with_bytes name) stop h

-- ---- a self-load

abbrev self_run : Manner → ℕ → Reading Plan
self_run m hosts = run_of ring_files (codes "self-load") (self_load_graph hosts) (self_load_config m.overrides hosts)

module _ (m : Manner) (hosts : ℕ) where
  pub self_load_stops : (stop : ReadStop) (bytes : List ℕ) (graph : Graph) (config : Config) → m.shows_config ≡ false → bytes ≡ ring → graph ≡ self_load_graph hosts → config ≡ self_load_config m.overrides hosts
      → Stops (run_of (one_file (codes "ring") bytes) (codes "self-load") graph config) stop → Stops (self_load_planned m hosts) stop
  unfolding self_load_planned
  self_load_stops stop bytes graph config e b g c h =
      run_stops (self_load_config m.overrides hosts) (self_run m hosts) (runs m true) m.shows_config stop e
      (subst (λ (bs : List ℕ). Stops (run_of (one_file (codes "ring") bs) (codes "self-load") (self_load_graph hosts) (self_load_config m.overrides hosts)) stop) b
      (subst (λ (gr : Graph). Stops (run_of (one_file (codes "ring") bytes) (codes "self-load") gr (self_load_config m.overrides hosts)) stop) g
      (subst (λ (co : Config). Stops (run_of (one_file (codes "ring") bytes) (codes "self-load") graph co) stop) c h)))

  pub self_load_run : (p : Plan) (bytes : List ℕ) (graph : Graph) (config : Config) → m.shows_config ≡ false → bytes ≡ ring → graph ≡ self_load_graph hosts → config ≡ self_load_config m.overrides hosts
      → (run_of (one_file (codes "ring") bytes) (codes "self-load") graph config).answers (Ok p) → (self_load_planned m hosts).answers (Ok (runs m true p))
  unfolding self_load_planned
  self_load_run p bytes graph config e b g c h =
      is_run (self_load_config m.overrides hosts) (self_run m hosts) (runs m true) m.shows_config p e
      (subst (λ (bs : List ℕ). (run_of (one_file (codes "ring") bs) (codes "self-load") (self_load_graph hosts) (self_load_config m.overrides hosts)).answers (Ok p)) b
      (subst (λ (gr : Graph). (run_of (one_file (codes "ring") bytes) (codes "self-load") gr (self_load_config m.overrides hosts)).answers (Ok p)) g
      (subst (λ (co : Config). (run_of (one_file (codes "ring") bytes) (codes "self-load") graph co).answers (Ok p)) c h)))
