use Rattle.std.proofs.Common.{◌∙◌, ap, List, ℕ}
use Rattle.clap.specs.Matches.{first_value, found_of}
use Rattle.clap.proofs.WalkLemmas.{first_value-rows}
use Rattle.command_line.specs.Command.{name_text}
use Rattle.command_line.proofs.command.value.Goals as goal

pub returns : goal.returns
returns c =
    let found = found_of c.args.matches.now in
    c.get_str.ensures ∙ (ap (λ (id : List ℕ). first_value found id) c.text.ensures ∙ first_value-rows found (name_text c.args.name))
