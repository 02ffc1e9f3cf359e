use Rattle.std.proofs.lemmas.Result.{IfOk-weaker}
use Rattle.command_line.specs.Command.{shadow_command}
use Rattle.command_line.proofs.Found.{one_more}
use Rattle.command_line.proofs.command.command.Goals as goal

pub returns : goal.returns
unfolding shadow_command
returns c =
    let one = one_more _ _ _ _ _ c.in_ok-one.ensures c.option-seed.ensures.local c.new.ensures.app c.option-seed.ensures.rule in
    let two = one_more _ _ _ _ _ c.in_ok-two.ensures c.short_option-parallelism.ensures.local one c.short_option-parallelism.ensures.rule in
    let three = one_more _ _ _ _ _ c.in_ok-three.ensures c.short_option-data_directory.ensures.local two c.short_option-data_directory.ensures.rule in
    let four = one_more _ _ _ _ _ c.in_ok-four.ensures c.option-stop_time.ensures.local three c.option-stop_time.ensures.rule in
    let five = one_more _ _ _ _ _ c.in_ok-five.ensures c.option-budget.ensures.local four c.option-budget.ensures.rule in
    let six = one_more _ _ _ _ _ c.in_ok-six.ensures c.option-self_load.ensures.local five c.option-self_load.ensures.rule in
    let seven = one_more _ _ _ _ _ c.in_ok-seven.ensures c.flag-streams.ensures.local six c.flag-streams.ensures.rule in
    let eight = one_more _ _ _ _ _ c.in_ok-eight.ensures c.option-read_capture.ensures.local seven c.option-read_capture.ensures.rule in
    let nine = one_more _ _ _ _ _ c.in_ok-nine.ensures c.flag-show_config.ensures.local eight c.flag-show_config.ensures.rule in
    IfOk-weaker c.arg-10.result _ _ (λ last adds. one_more _ last _ _ _ adds c.config_word-config_word.ensures.local nine c.config_word-config_word.ensures.rule) c.arg-10.ensures
