use Rattle.std.proofs.Common.{◌≡◌, ◌∙◌, Bool, false, List, ℕ, Option, Some, None, sym, ap, rules, codes}
use Rattle.std.specs.Option.{option_map_or}
use Rattle.std.specs.Str.{bytes_eq}
use Rattle.clap.specs.Matches.{found_of}
use Rattle.clap.specs.Walk.{first_of, rows_of}
use Rattle.clap.proofs.WalkLemmas.{first_value-rows}
use Rattle.command_line.proofs.command.is_given.Goals as goal

abbrev tells_true : Option (List ℕ) → Bool
tells_true told = option_map_or (λ text. bytes_eq text (codes "true")) told false

pub returns-in-Some : goal.returns-in-Some
returns-in-Some c =
    let first : first_of c.args.name.now (rows_of (found_of c.args.matches.now)) ≡ Some c.in-Some.text.now =
    sym (first_value-rows (found_of c.args.matches.now) c.args.name.now) ∙ sym c.in-Some.ensures in
    let eq_is : c.eq.result ≡ bytes_eq c.in-Some.text.now (codes "true") = search rules in
    eq_is ∙ ap tells_true (sym first)

pub returns-in-None : goal.returns-in-None
returns-in-None c =
    let first : first_of c.args.name.now (rows_of (found_of c.args.matches.now)) ≡ None =
    sym (first_value-rows (found_of c.args.matches.now) c.args.name.now) ∙ sym c.in-None.ensures in
    ap tells_true (sym first)
