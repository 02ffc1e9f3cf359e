use Rattle.pipe_laws.proofs.Counting.{input_counted, hangup_counted, output_counted, error_counted}
use Rattle.pipe_laws.proofs.laws.rises_are_counted.Goals as goal

pub returns : goal.returns
returns c = record { input = input_counted; hangup = hangup_counted; output = output_counted; error = error_counted }
