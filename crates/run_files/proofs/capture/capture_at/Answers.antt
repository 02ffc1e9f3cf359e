use Rattle.std.proofs.Common.{◌≡◌, ◌≤◌, length, false, nat_lt, is_some, ap, sym, ◌∙◌, arith}
use Rattle.std.proofs.lemmas.Bool.Decides.{nat_tests}
use Rattle.run_files.proofs.Capturing.{line_put, line_beyond, line_unheld}
use Rattle.run_files.proofs.capture.capture_at.Goals as goal

pub returns-in_default : goal.returns-in_default
returns-in_default c = λ before is.
    (let place = c.args.line.now.host.index in
    let test : nat_lt place (length c.args.hosts.now) ≡ false = sym c.get.ensures.lookup.0 ∙ ap is_some c.in_default.is in
    let past : length c.args.hosts.now ≤ place = grind (arith, nat_tests) in
    line_beyond c.args.hosts.now before c.args.line.now c.args.captured.now.items is past)

pub returns-in_default-get_mut : goal.returns-in_default-get_mut
returns-in_default-get_mut c = λ before is.
    (let place = c.args.line.now.host.index in
    let test : nat_lt place (length c.args.captured.now.items) ≡ false = sym c.get_mut.ensures.item.0 ∙ ap is_some c.in_default-get_mut.is in
    let past : length c.args.captured.now.items ≤ place = grind (arith, nat_tests) in
    line_unheld c.args.hosts.now before c.args.line.now c.args.captured.now.items is past)

pub returns-in_ok-capture_line : goal.returns-in_ok-capture_line
returns-in_ok-capture_line c = λ before is.
    line_put c.args.hosts.now before c.args.line.now c.args.captured.now.items c.in-Some.host.now c.in-Some-get_mut.captured.now c.capture_line.new.captured is
    c.in-Some.ensures.lookup.3.0 c.in-Some.ensures.lookup.1 c.in-Some-get_mut.ensures.item.3.0 c.in-Some-get_mut.ensures.item.1 c.in_ok-capture_line.ensures
