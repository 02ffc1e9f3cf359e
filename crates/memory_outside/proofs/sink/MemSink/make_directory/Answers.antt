use Rattle.std.proofs.Common.{◌≡◌, Bool, true, false, cond, ◌||◌, List, ℕ, Some, refl, ap, ◌∙◌, string_bytes}
use Rattle.std.specs.BTreeSet.{contains_text}
use Rattle.std.specs.Str.{bytes_eq}
use Rattle.std.proofs.lemmas.Map.Text.{btree_set_updates_text}
use Rattle.run_outside.specs.Files.{no_files}
use Rattle.memory_outside.specs.Files.{files_of}
use Rattle.memory_outside.proofs.FilesLemmas.{files_of_empty}
use Rattle.memory_outside.proofs.sink.MemSink.make_directory.Goals as goal

cond-or : (b x : Bool) → cond b true x ≡ (b || x)
cond-or true x = refl
cond-or false x = refl

pub returns-clause-made : goal.returns-clause-made
returns-clause-made c =
    let old = c.args.self.now in
    let there : (d : List ℕ) → contains_text c.insert.new.self d ≡ (bytes_eq c.args.dir.now d || contains_text old.directories d) =
    λ d. btree_set_updates_text (string_bytes c.in_ok-name.name) old.directories c.insert.new.self true c.in_ok-insert.ensures.updates d
    ∙ cond-or (bytes_eq (string_bytes c.in_ok-name.name) d) (contains_text old.directories d)
    ∙ ap (λ name. bytes_eq name d || contains_text old.directories d) c.in_ok-name.ensures.ok in
    let files : files_of c.new.result ≡ no_files = files_of_empty c.new.result c.new.ensures.empty in
    λ i. Some (record { there = λ d. there d i; out = old.out.items; err = old.err.items; files = files i })
