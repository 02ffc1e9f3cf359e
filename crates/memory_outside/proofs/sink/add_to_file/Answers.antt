use Rattle.std.proofs.Common.{◌≡◌, ◌++◌, [], Some, List, ℕ, Option, Vec, Global, string_bytes, unwrap_or, option_map, ap, sym, ◌∙◌, rules}
use Rattle.std.proofs.lemmas.Result.{err_from_is_err_and}
use Rattle.run_outside.specs.Files.{add_to_file}
use Rattle.memory_outside.specs.Files.{files_of}
use Rattle.memory_outside.proofs.FilesLemmas.{files_of_same, files_of_add_to_file}
use Rattle.memory_outside.proofs.sink.add_to_file.Goals as goal

-- the bytes of a file, with a piece more
abbrev longer : List ℕ → Option (Vec ℕ Global) → List ℕ
longer piece held = unwrap_or (option_map (λ (v : Vec ℕ Global). v.items) held) [] ++ piece

pub returns-in_err-extend_from_slice-in-Some-clause-err : goal.returns-in_err-extend_from_slice-in-Some-clause-err
returns-in_err-extend_from_slice-in-Some-clause-err c =
    let grown = c.extend_from_slice.new.self in
    let p = err_from_is_err_and c.from_residual.result c.from_residual.ensures.1 in
    rw p.1 (files_of_same c.as_str.result.now c.args.files.now (c.get_mut.follows.lender grown) grown
    ((c.get_mut.follows.holds grown).3 (search rules))
    (sym (ap (option_map (λ (v : Vec ℕ Global). v.items)) c.in-Some.ensures.value) ∙ ap Some (sym c.in_err-extend_from_slice-in-Some.ensures.items)))

pub returns-in_ok-extend_from_slice-in-Some-clause-ok : goal.returns-in_ok-extend_from_slice-in-Some-clause-ok
returns-in_ok-extend_from_slice-in-Some-clause-ok c =
    let grown = c.extend_from_slice.new.self in
    files_of_add_to_file c.as_str.result.now c.args.files.now (c.get_mut.follows.lender grown) grown
    ((c.get_mut.follows.holds grown).3 (search rules)) c.args.piece.now
    (c.in_ok-extend_from_slice-in-Some.ensures.items ∙ ap (longer c.args.piece.now) c.in-Some.ensures.value)
    ∙ ap (λ name. add_to_file name c.args.piece.now (files_of c.args.files.now)) c.as_str.ensures

pub returns-in_ok-insert-in-None-clause-ok : goal.returns-in_ok-insert-in-None-clause-ok
returns-in_ok-insert-in-None-clause-ok c =
    let key = string_bytes c.in_ok-key-in-None.key in
    let named : key ≡ c.args.name.now = c.in_ok-key-in-None.ensures.ok ∙ c.as_str-in-None.ensures in
    let before = c.get_mut.follows.lender-at-none in
    let same : before ≡ c.args.files.now = c.get_mut.follows.holds-at-none in
    files_of_add_to_file key before c.insert.new.self c.in_ok-bytes-in-None.bytes
    c.in_ok-insert-in-None.ensures.updates c.args.piece.now
    (c.in_ok-bytes-in-None.ensures.items ∙ ap (longer c.args.piece.now) c.in-None.ensures.value
    ∙ ap (λ name. unwrap_or (files_of c.args.files.now name) [] ++ c.args.piece.now) (c.as_str.ensures ∙ sym named)
    ∙ ap (λ m. unwrap_or (files_of m key) [] ++ c.args.piece.now) (sym same))
    ∙ ap (λ m. add_to_file key c.args.piece.now (files_of m)) same
    ∙ ap (λ name. add_to_file name c.args.piece.now (files_of c.args.files.now)) named
