use Rattle.std.proofs.Common.{refl}
use Rattle.net_run.proofs.ToldLemmas.{opening_names, status_told}
use Rattle.net_run.proofs.UnderwayLemmas.{underway_opening, underway_part, underway_round, underway_end}
use Rattle.net_run.specs.Pieces.{with_pieces}
use Rattle.net_run.specs.Rest.{all_rest, summary_in}
use Rattle.net_run.specs.World.{opening_world}
use Rattle.std.specs.Prelude.{option_map}
use Rattle.run_files.specs.Grown.{all_grown, with_bytes}
use Rattle.host_state.specs.Gains.{names_in}
use Rattle.net_run.proofs.laws.runs_grow.Goals as goal

pub returns-clause-begins : goal.returns-clause-begins
returns-clause-begins c = λ rows begun own. underway_opening (names_in (opening_world rows)) rows begun (opening_names rows) own

pub returns-clause-goes_on : goal.returns-clause-goes_on
returns-clause-goes_on c = λ names begun now w v outputs lines underway gains.
    underway_round names begun now w underway v outputs lines gains (option_map (with_pieces (with_bytes (all_grown names outputs lines))) now) refl

pub returns-clause-front : goal.returns-clause-front
returns-clause-front c = λ names begun now w later load underway extends. underway_part names begun now w underway load later extends

pub returns-clause-ends : goal.returns-clause-ends
returns-clause-ends c = λ names begun now w states load underway told.
    underway_end names begun now w underway states told.count told.each load (option_map (with_pieces (all_rest names states (summary_in load w))) now) refl

pub returns-clause-status : goal.returns-clause-status
returns-clause-status c = λ w states told. status_told w states told.count told.each
