use Rattle.std.proofs.Common.{ℕ, ◌∙◌, ap, sym, List, Option, option_map, Bor}
use Rattle.run_files.specs.Files.{last_part}
use Rattle.run_files.proofs.Paths.{program_split}
use Rattle.run_files.proofs.piece.program.Goals as goal

pub returns-in-Some : goal.returns-in-Some
returns-in-Some c = let split = program_split c.args.path.now _ c.rsplit_once.ensures.cases in
    sym (ap (λ (r : Option (Bor (List ℕ) × Bor (List ℕ))). last_part c.args.path.now (option_map (λ x. (x.0.now, x.1.now)) r)) c.in-Some.is) ∙ split

pub returns-in-None : goal.returns-in-None
returns-in-None c = let split = program_split c.args.path.now _ c.rsplit_once.ensures.cases in
    sym (ap (λ (r : Option (Bor (List ℕ) × Bor (List ℕ))). last_part c.args.path.now (option_map (λ x. (x.0.now, x.1.now)) r)) c.in-None.is) ∙ split
