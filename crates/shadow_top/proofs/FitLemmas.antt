-- The numbers of the packets that a run logs fit their types.
use Rattle.std.proofs.Common.{List, [], ◌∷◌, ◌++◌, subst}
use Rattle.run_files.specs.LinesFit.{AllFit}
use Rattle.host_link.specs.Logs.{lines_of}
use Rattle.host_state.specs.World.{World}
use Rattle.host_link.specs.declared.line.Line.{Line}
use Rattle.pcap_text.specs.declared.capture.Capture.{Capture}
use Rattle.run_plan.specs.declared.fault.Fault.{Fault}
use Rattle.run_plan.specs.declared.planned.Run.{Run}
use Rattle.shd_config.specs.declared.config.Config.{Config}
use Rattle.shadow_top.specs.Contract.{LogFits}
use Rattle.shadow_top.specs.Input.{Input, IsFirstFault, IsToShow, IsToRun, IsToList}
use Rattle.shadow_top.specs.Shown.{IsRunTo}
use Rattle.shadow_top.proofs.OneShown.{OnePlan, OneResult, one_run, one_world, not_to_run, show_or_run, list_or_run}

pub fit_append : (xs ys : List Line) → AllFit xs → AllFit ys → AllFit (xs ++ ys)
fit_append [] ys h k = k
fit_append (x ∷ xs) ys h k = (h.0, fit_append xs ys h.1 k)

-- ---- of an input that is not run there are none

module _ (plans : OnePlan) (i : Input) where
  pub refused_fit : (fault : Fault) → IsFirstFault i fault → LogFits i
  refused_fit fault first = λ run w asked result. absurd (not_to_run plans i fault run first asked)

  pub config_fit : (config : Config) → IsToShow i config → LogFits i
  config_fit config shows = λ run w asked result. absurd (show_or_run plans i config run shows asked)

  pub list_fit : (capture : Capture) → IsToList i capture → LogFits i
  list_fit capture lists = λ run w asked result. absurd (list_or_run plans i capture run lists asked)

-- an input has one run, and that one result
pub run_fit : OnePlan → OneResult → (i : Input) (run : Run) (w : World) → IsToRun i run → IsRunTo run w → AllFit (lines_of w.log) → LogFits i
run_fit plans results i run w asked result fit = λ other v also ends.
    (let same = one_run plans i run other asked.asked also.asked in
    subst (λ (x : World). AllFit (lines_of x.log)) (one_world results other w v (subst (λ (r : Run). IsRunTo r w) same result) ends) fit)
