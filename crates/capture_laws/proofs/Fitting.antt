-- what the run of an input of bytes logs fits
use Rattle.run_files.specs.LinesFit.{AllFit}
use Rattle.host_link.specs.Logs.{lines_of}
use Rattle.host_state.specs.World.{World, opening_world}
use Rattle.run_plan.specs.declared.planned.Run.{Run}
use Rattle.run_streams.specs.Run.{IsReached}
use Rattle.run_fits.specs.Given.{AllWhole}
use Rattle.run_fits.proofs.Worlds.{log_whole, whole_fit}
use Rattle.shadow_top.specs.Input.{Input, IsToRun}
use Rattle.plan_rows.specs.Rows.{rows_of, net_of}
use Rattle.capture_laws.specs.Given.{HasBytes}
use Rattle.capture_laws.proofs.Given.{net_given, rows_given}

module _ (i : Input) (run : Run) (w : World) (bytes : HasBytes i) (is : IsToRun i run) (reached : IsReached (net_of run) (opening_world (rows_of run)) w) where
  pub input_whole : AllWhole (lines_of w.log)
  input_whole = log_whole (net_of run) (rows_of run) w (net_given i run bytes is) (rows_given i run bytes is) reached

  pub input_fit : AllFit (lines_of w.log)
  input_fit = whole_fit (lines_of w.log) input_whole
