use Rattle.pipe_laws.proofs.Eventfds.{input_counted, output_counted}
use Rattle.pipe_laws.proofs.laws.eventfd_rises_are_counted.Goals as goal

pub returns : goal.returns
returns c = record { input = input_counted; output = output_counted }
