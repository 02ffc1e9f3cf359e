-- What processes wrote, in two parts; and with what is put at the end, the files of a run.
use Rattle.std.proofs.Common.{◌≡◌, ℕ, suc, ◌+◌, ◌<◌, ◌≤◌, ◌^◌, ◌==◌, ◌&&◌, Bool, true, false, List, [], ◌∷◌, ◌++◌, length, refl, sym, ap, subst, ◌∙◌, arith, append_assoc, append-nil}
use Rattle.std.specs.Prelude.{if◌then◌else◌, ◌||◌}
use Rattle.std.specs.List.{AllByRecursion}
use Rattle.std.proofs.lemmas.Grind.{flat_map-append}
use Rattle.run_outside.specs.declared.sink.SinkTarget.{SinkTarget}
use Rattle.run_outside.specs.declared.sink.SinkTarget.TheVariants as target
use Rattle.file_calls.specs.declared.task.Output.{Output}
use Rattle.out_text.specs.Files.{file_name}
use Rattle.out_text.specs.Laws.{lacks}
use Rattle.out_text.specs.declared.files.FileKind.{FileKind}
use Rattle.out_text.specs.declared.files.FileKind.TheVariants as kind
use Rattle.run_files.specs.Grown.{process_grown}
use Rattle.run_files.specs.Listed.{by_process}
use Rattle.run_files.specs.Files.{Put, written_to}
use Rattle.file_calls.specs.Guest.{first_id}
use Rattle.net_run.specs.Targets.{is_target, is_touched}
use Rattle.net_run.specs.Shown.{files_named}
use Rattle.run_files.specs.declared.listed.ProcessListing.{ProcessListing}
use Rattle.net_run.proofs.FileLemmas.{IsNamed, IsFileOf, target_of_file, same_target, touched_named, other_file}
use Rattle.net_run.proofs.NameLemmas.{same_file}
use Rattle.net_run.proofs.SplitLemmas.{touched_append, Splits, splits_append}

abbrev pub HasNoSlash : ProcessListing → Type 0
HasNoSlash process = lacks 47 process.program ≡ true

-- ---- one process

pub empty : (b : Bool) (l : List ℕ) → (if b then [] else []) ++ l ≡ l
empty true l = refl
empty false l = refl

-- the third file holds what the rest puts there
whole_bytes : (i j k : Bool) (x y z : List ℕ) → (if i then x else []) ++ ((if j then y else []) ++ ((if k then z else []) ++ []))
    ≡ ((if i then x else []) ++ ((if j then y else []) ++ [])) ++ ((if i then [] else []) ++ ((if j then [] else []) ++ ((if k then z else []) ++ [])))
whole_bytes i j k x y z =
    let a = if i then x else [] in
    let b = if j then y else [] in
    let c = (if k then z else []) ++ [] in
    let front : (a ++ (b ++ [])) ++ c ≡ a ++ (b ++ c) = append_assoc a (b ++ []) c ∙ ap (λ (l : List ℕ). a ++ (l ++ c)) (append-nil b) in
    sym (ap (λ (l : List ℕ). (a ++ (b ++ [])) ++ l) (empty i ((if j then [] else []) ++ c) ∙ empty j c) ∙ front)

two_of_three : (i j k : Bool) → (i || (j || false)) ≡ true → (i || (j || (k || false))) ≡ true
two_of_three true j k e = refl
two_of_three false true k e = refl
two_of_three false false k e = absurd (cc)

-- what follows in each of two files
pub more_bytes : (i j : Bool) (a b x y : List ℕ) → (i ≡ true → j ≡ true → ⊥) → (if i then a ++ x else []) ++ ((if j then b ++ y else []) ++ [])
    ≡ ((if i then a else []) ++ ((if j then b else []) ++ [])) ++ ((if i then x else []) ++ ((if j then y else []) ++ []))
more_bytes true true a b x y not_both = absurd (not_both refl refl)
more_bytes true false a b x y not_both = append-nil (a ++ x) ∙ ap (λ (l : List ℕ). l ++ x) (sym (append-nil a)) ∙ ap (λ (l : List ℕ). (a ++ []) ++ l) (sym (append-nil x))
more_bytes false true a b x y not_both = append-nil (b ++ y) ∙ ap (λ (l : List ℕ). l ++ y) (sym (append-nil b)) ∙ ap (λ (l : List ℕ). (b ++ []) ++ l) (sym (append-nil y))
more_bytes false false a b x y not_both = refl

module _ (at : SinkTarget) (host program : List ℕ) (pid : ℕ) where
  abbrev at_kind : FileKind → Bool
  at_kind k = is_target (target.File (file_name host program pid k)) at

  abbrev pub two_files : List ℕ → List ℕ → List Put
  two_files x y = (target.File (file_name host program pid kind.Stdout), x) ∷ (target.File (file_name host program pid kind.Stderr), y) ∷ []

  pub whole_of_process : (x y z : List ℕ) → Splits at (two_files x y) (files_named host program pid [] [] z) (files_named host program pid x y z)
  whole_of_process x y z = record {
    bytes = whole_bytes (at_kind kind.Stdout) (at_kind kind.Stderr) (at_kind kind.Exit) x y z;
    first = λ e. two_of_three (at_kind kind.Stdout) (at_kind kind.Stderr) (at_kind kind.Exit) e;
    second = refl;
  }

  pub touched_two : (x y : List ℕ) → is_touched at (two_files x y) ≡ true → IsNamed host program pid at
  touched_two x y e = touched_named at host program pid [] [] [] (two_of_three (at_kind kind.Stdout) (at_kind kind.Stderr) (at_kind kind.Exit) e)

  module _ (plain : lacks 47 program ≡ true) (small : pid < 2 ^ 64) where
    not_both_is : at_kind kind.Stdout ≡ true → at_kind kind.Stderr ≡ true → ⊥
    not_both_is i j =
        let name : file_name host program pid kind.Stdout ≡ file_name host program pid kind.Stderr = same_target _ _ at (target_of_file _ at i) (target_of_file _ at j) in
        let same : kind.Stdout ≡ kind.Stderr = (same_file host host program program pid pid kind.Stdout kind.Stderr plain plain small small name).3 in
        cc

    pub more_of_process : (a b x y : List ℕ) → Splits at (two_files a b) (two_files x y) (two_files (a ++ x) (b ++ y))
    more_of_process a b x y = record { bytes = more_bytes (at_kind kind.Stdout) (at_kind kind.Stderr) a b x y not_both_is; first = λ e. e; second = refl }

-- what was written to a descriptor, in two parts
pub written_append : (p d : ℕ) (xs ys : List Output) → written_to p d (xs ++ ys) ≡ written_to p d xs ++ written_to p d ys
written_append p d xs ys = flat_map-append (λ (o : Output). if (o.process == p) && (o.descriptor == d) then o.bytes else []) xs ys

pub more_grown : (at : SinkTarget) (host : List ℕ) (xs ys : List Output) (p : ℕ) (process : ProcessListing) → HasNoSlash process → first_id + p < 2 ^ 64
    → Splits at (process_grown host xs p process) (process_grown host ys p process) (process_grown host (xs ++ ys) p process)
more_grown at host xs ys p process plain small =
    subst (λ (zs : List Put). Splits at (process_grown host xs p process) (process_grown host ys p process) zs)
    (ap (λ (z : List ℕ). two_files at host process.program (first_id + p) z (written_to p 2 xs ++ written_to p 2 ys)) (sym (written_append p 1 xs ys))
    ∙ ap (λ (z : List ℕ). two_files at host process.program (first_id + p) (written_to p 1 (xs ++ ys)) z) (sym (written_append p 2 xs ys)))
    (more_of_process at host process.program (first_id + p) plain small (written_to p 1 xs) (written_to p 2 xs) (written_to p 1 ys) (written_to p 2 ys))

-- ---- process by process

-- the file of one process
pub file_of_one : (host : List ℕ) (p : ℕ) (process : ProcessListing) (at : SinkTarget) → HasNoSlash process → IsNamed host process.program (first_id + p) at → IsFileOf host p (p + 1) at
file_of_one host p process at plain named = record { number = p; later = omega arith; below = omega arith; program = process.program; plain = plain; named = named }

module _ (at : SinkTarget) (host : List ℕ) (whole : ℕ → ProcessListing → List Put) (named : (p : ℕ) (process : ProcessListing) → is_touched at (whole p process) ≡ true → IsNamed host process.program (first_id + p) at) where
  pub touched_processes : (p : ℕ) (processes : List ProcessListing) → AllByRecursion HasNoSlash processes → is_touched at (by_process whole p processes) ≡ true → IsFileOf host p (p + length processes) at
  touched_processes p [] plain e = absurd (cc)
  touched_processes p (process ∷ processes) plain e =
      go (is_touched at (whole p process)) (is_touched at (by_process whole (p + 1) processes)) refl refl (sym (touched_append at (whole p process) (by_process whole (p + 1) processes)) ∙ e)
      (λ y. touched_processes (p + 1) processes plain.1 y) where
        go : (a b : Bool) → is_touched at (whole p process) ≡ a → is_touched at (by_process whole (p + 1) processes) ≡ b → (a || b) ≡ true
            → (is_touched at (by_process whole (p + 1) processes) ≡ true → IsFileOf host (p + 1) (p + 1 + length processes) at) → IsFileOf host p (p + suc (length processes)) at
        go true b x y t behind = record { number = p; later = omega arith; below = omega arith; program = process.program; plain = plain.0; named = named p process x }
        go false true x y t behind =
            let f = behind y in
            record { number = f.number; later = (let l = f.later in omega arith); below = (let b = f.below in omega arith); program = f.program; plain = f.plain; named = f.named }
        go false false x y t behind = absurd (cc)

  module _ (first second : ℕ → ProcessListing → List Put)
      (each : (p : ℕ) (process : ProcessListing) → HasNoSlash process → first_id + p < 2 ^ 64 → Splits at (first p process) (second p process) (whole p process)) where
    pub splits_processes : (p : ℕ) (processes : List ProcessListing) → AllByRecursion HasNoSlash processes → first_id + (p + length processes) ≤ 2 ^ 32
        → Splits at (by_process first p processes) (by_process second p processes) (by_process whole p processes)
    splits_processes p [] plain small = record { bytes = refl; first = λ e. e; second = refl }
    splits_processes p (process ∷ processes) plain small =
        splits_append at (first p process) (second p process) (whole p process) (by_process first (p + 1) processes) (by_process second (p + 1) processes) (by_process whole (p + 1) processes)
        (each p process plain.0 (omega arith)) (splits_processes (p + 1) processes plain.1 (omega arith)) apart where
          apart : is_touched at (whole p process) ≡ true → is_touched at (by_process whole (p + 1) processes) ≡ true → ⊥
          apart here later =
              let x = file_of_one host p process at plain.0 (named p process here) in
              let y = touched_processes (p + 1) processes plain.1 later in
              let other = other_file host host p (p + 1) (p + 1) (p + 1 + length processes) at x y (omega arith) (omega arith) in
              let below : p + 1 < p + 1 = other.2 in
              absurd (omega arith)
