-- What a refusal and a read that failed leave as it stood.
use Rattle.std.proofs.Common.{◌≡◌, ℕ, ◌≤◌, inl, inr, List, Option, Some, None, option_map, Result, Ok, Err, IfSome, refl, sym, ap, subst, ◌∙◌, arith}
use Rattle.run_outside.specs.Sink.{Content, add}
use Rattle.run_outside.specs.declared.sink.SinkTarget.TheVariants as target
use Rattle.run_outside.specs.declared.sink.WriteError.{WriteError}
use Rattle.run_outside.specs.declared.sink.WriteError.TheVariants as write
use Rattle.run_outside.specs.declared.tally.Tally.{Tally}
use Rattle.run_plan.specs.Line.{line_of}
use Rattle.run_plan.specs.declared.fault.ReadStop.{ReadStop}
use Rattle.run_plan.specs.declared.fault.ReadStop.TheVariants as read
use Rattle.run_plan.specs.declared.planned.Planned.{Planned}
use Rattle.run_plan.specs.declared.planned.Planned.TheVariants as plan
use Rattle.run_answers.specs.Answers.{of_reading, ended}
use Rattle.run_answers.specs.Puts.{TellsLine, Tells}
use Rattle.run_answers.specs.ReadFailed.{read_failed_line}
use Rattle.run_answers.specs.declared.answer.Answer.{Answer}
use Rattle.run_answers.specs.declared.answer.Answer.TheVariants.{Status, Exists}
use Rattle.run_answers.specs.declared.answer.Stop.{Stop}
use Rattle.run_answers.specs.declared.answer.Stop.TheVariants.{Refused, ReadFailed, WriteFailed, NoMemory}
use Rattle.shadow_top.specs.Contract.{AddsLine}
use Rattle.shadow_top.specs.inside.Steps.{Keeps, CarriesOut}

kept_by : (c : Content) (new : Option Content) (p : Planned) (r : Result Answer WriteError) → CarriesOut p c new r → Keeps c new (ended r)
kept_by c new (plan.Shows config) (Ok answer) told = subst (λ (a : Answer). Keeps c new (ended (Ok a))) (sym told.1) tt
kept_by c new (plan.Lists capture) (Ok answer) (lines, are, new_is, answer_is) = subst (λ (a : Answer). Keeps c new (ended (Ok a))) (sym answer_is) tt
kept_by c new (plan.Runs run) (Ok (Status status)) told = tt
kept_by c new (plan.Runs run) (Ok (Exists directory)) told = told.2
kept_by c new p (Err write.Failed) told = tt
kept_by c new p (Err write.NoMemory) told = tt

pub kept_carried : (old new : Option Content) (p : Planned) (r : Result Answer WriteError) → IfSome old (λ c. CarriesOut p c new r) → IfSome old (λ c. Keeps c new (ended r))
kept_carried None new p r told = tt
kept_carried (Some c) new p r told = kept_by c new p r told

pub kept_stopped : (old : Option Content) (stop : ReadStop) → IfSome old (λ c. Keeps c old (Err (of_reading stop)))
kept_stopped None stop = tt
kept_stopped (Some c) (read.Refused fault) = refl
kept_stopped (Some c) (read.ReadFailed file) = refl
kept_stopped (Some c) read.NoMemory = tt

pub ran_untouched : (old new : Option Content) (status : ℕ) → status ≤ 1 → IfSome old (λ c. 2 ≤ status → status ≤ 3 → AddsLine c new)
ran_untouched None new status small = tt
ran_untouched (Some c) new status small = λ low high. absurd (omega arith)

line_added : (line : List ℕ) (meant : ℕ) (c : Content) (mid new : Option Content) (m w' : Tally) (status : ℕ) → mid ≡ Some c → TellsLine line meant mid new m w' status
    → 2 ≤ status → status ≤ 3 → AddsLine c new
line_added line meant c mid new m w' status is (inl all) low high =
    record { line = line; new_is = all.1 ∙ ap (option_map (add target.Err line)) is }
line_added line meant c mid new m w' status is (inr (inl failed)) low high = let four : status ≡ 4 = failed.0 in absurd (omega arith)
line_added line meant c mid new m w' status is (inr (inr wanted)) low high = let five : status ≡ 5 = wanted.0 in absurd (omega arith)

told_untouched : (c : Content) (mid new : Option Content) (m w' : Tally) (status : ℕ) (stop : Stop) → Keeps c mid (Err stop) → Tells stop mid new m w' status
    → 2 ≤ status → status ≤ 3 → AddsLine c new
told_untouched c mid new m w' status (Refused fault) kept told low high = line_added (line_of fault) 2 c mid new m w' status kept told low high
told_untouched c mid new m w' status (ReadFailed file) kept told low high = line_added (read_failed_line file) 3 c mid new m w' status kept told low high
told_untouched c mid new m w' status WriteFailed kept told low high = let four : status ≡ 4 = told.0 in absurd (omega arith)
told_untouched c mid new m w' status NoMemory kept told low high = let five : status ≡ 5 = told.0 in absurd (omega arith)

pub stopped_untouched : (old mid new : Option Content) (m w' : Tally) (status : ℕ) (stop : Stop) → IfSome old (λ c. Keeps c mid (Err stop)) → Tells stop mid new m w' status
    → IfSome old (λ c. 2 ≤ status → status ≤ 3 → AddsLine c new)
stopped_untouched None mid new m w' status stop kept told = tt
stopped_untouched (Some c) mid new m w' status stop kept told = λ low high. told_untouched c mid new m w' status stop kept told low high
