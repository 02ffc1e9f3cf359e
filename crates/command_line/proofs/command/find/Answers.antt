use Rattle.std.proofs.Common.{◌≡◌, ◌∙◌, true, ap}
use Rattle.clap.specs.Faults.{is_simple_and_free}
use Rattle.clap.specs.Simple.{App, app_of, is_simple}
use Rattle.clap.specs.Matches.{found_of}
use Rattle.clap.specs.Walk.{rows_of}
use Rattle.command_line.proofs.Found.{command_is_free, command_is_simple, taken, refused}
use Rattle.command_line.proofs.command.find.Goals as goal

pub returns-in-Ok : goal.returns-in-Ok
returns-in-Ok c =
    let app = app_of c.in_ok-command.command in
    let is = c.in_ok-command.ensures in
    let free : is_simple_and_free app ≡ true = ap (λ (a : App). is_simple_and_free a) is ∙ command_is_free in
    let simple : is_simple app ≡ true = ap (λ (a : App). is_simple a) is ∙ command_is_simple in
    taken app _ (rows_of (found_of c.in-Ok.matches)) is (c.in-Ok.ensures.kinds free) (c.in-Ok.ensures.matches simple).0

pub returns : goal.returns
returns c =
    let app = app_of c.in_ok-command.command in
    let is = c.in_ok-command.ensures in
    let free : is_simple_and_free app ≡ true = ap (λ (a : App). is_simple_and_free a) is ∙ command_is_free in
    refused app _ c.in-Err.error is (c.in-Err.ensures.kinds free) (λ memory. c.in_default.not-OutOfMemory (c.kind.ensures ∙ memory))
