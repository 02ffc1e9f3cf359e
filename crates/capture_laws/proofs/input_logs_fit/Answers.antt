use Rattle.stream_lines.proofs.Runs.{reached}
use Rattle.capture_laws.proofs.Fitting.{input_whole, input_fit}
use Rattle.capture_laws.proofs.input_logs_fit.Goals as goal

pub returns-clause-whole : goal.returns-clause-whole
returns-clause-whole c = input_whole

pub returns-clause-fit : goal.returns-clause-fit
returns-clause-fit c = input_fit

pub returns-clause-result : goal.returns-clause-result
returns-clause-result c = λ i run w bytes is result. input_fit i run w bytes is (reached run w result)
