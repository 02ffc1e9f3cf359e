-- The files of processes: each is of one host and one process.
use Rattle.std.proofs.Common.{◌≡◌, ℕ, ◌+◌, ◌<◌, ◌≤◌, ◌^◌, Bool, true, false, List, refl, sym, ap, ◌∙◌, arith}
use Rattle.std.specs.Prelude.{◌||◌}
use Rattle.std.proofs.lemmas.Slice.Eq.{bytes_eq-Decides}
use Rattle.run_outside.specs.declared.sink.SinkTarget.{SinkTarget}
use Rattle.run_outside.specs.declared.sink.SinkTarget.TheVariants as target
use Rattle.out_text.specs.Files.{file_name}
use Rattle.out_text.specs.declared.files.FileKind.{FileKind}
use Rattle.out_text.specs.declared.files.FileKind.TheVariants as kind
use Rattle.out_text.specs.Laws.{lacks}
use Rattle.net_run.specs.Targets.{is_target, is_touched}
use Rattle.file_calls.specs.Guest.{first_id}
use Rattle.net_run.specs.Shown.{files_named}
use Rattle.net_run.proofs.NameLemmas.{same_file}

-- ---- targets

pub target_of_file : (name : List ℕ) (at : SinkTarget) → is_target (target.File name) at ≡ true → at ≡ target.File name
target_of_file name target.Out e = absurd (cc)
target_of_file name target.Err e = absurd (cc)
target_of_file name (target.File other) e = ap target.File (sym ((bytes_eq-Decides name other).0 e))

-- one of these kinds of file of a process
pub record IsNamed (host program : List ℕ) (pid : ℕ) (at : SinkTarget) : Type 0 where
  pub kind : FileKind
  pub is : at ≡ target.File (file_name host program pid kind)

pub touched_named : (at : SinkTarget) (host program : List ℕ) (pid : ℕ) (x y z : List ℕ) → is_touched at (files_named host program pid x y z) ≡ true → IsNamed host program pid at
touched_named at host program pid x y z e =
    go (is_target (target.File (file_name host program pid kind.Stdout)) at) (is_target (target.File (file_name host program pid kind.Stderr)) at) (is_target (target.File (file_name host program pid kind.Exit)) at) refl refl refl e where
      go : (i j k : Bool) → is_target (target.File (file_name host program pid kind.Stdout)) at ≡ i → is_target (target.File (file_name host program pid kind.Stderr)) at ≡ j
          → is_target (target.File (file_name host program pid kind.Exit)) at ≡ k → (i || (j || (k || false))) ≡ true → IsNamed host program pid at
      go true j k a b c t = record { kind = kind.Stdout; is = target_of_file (file_name host program pid kind.Stdout) at a }
      go false true k a b c t = record { kind = kind.Stderr; is = target_of_file (file_name host program pid kind.Stderr) at b }
      go false false true a b c t = record { kind = kind.Exit; is = target_of_file (file_name host program pid kind.Exit) at c }
      go false false false a b c t = absurd (cc)

-- a file of a host's process, of those from one number on and below another
pub record IsFileOf (host : List ℕ) (from to : ℕ) (at : SinkTarget) : Type 0 where
  pub number : ℕ
  pub later : from ≤ number
  pub below : number < to
  pub program : List ℕ
  pub plain : lacks 47 program ≡ true
  pub named : IsNamed host program (first_id + number) at

pub same_target : (a b : List ℕ) (at : SinkTarget) → at ≡ target.File a → at ≡ target.File b → a ≡ b
same_target a b at x y = let e : target.File a ≡ target.File b = sym x ∙ y in cc

-- two files are not at one target where the hosts differ, or the processes
pub other_file : (h g : List ℕ) (a b c d : ℕ) (at : SinkTarget) → IsFileOf h a b at → IsFileOf g c d at → b ≤ 2 ^ 32 → d ≤ 2 ^ 32 → (h ≡ g) × (a < d) × (c < b)
other_file h g a b c d at x y bs ds =
    let name = same_target _ _ at x.named.is y.named.is in
    let xb = x.below in let yb = y.below in let xl = x.later in let yl = y.later in
    let first : first_id + x.number < 2 ^ 64 = omega arith in
    let second : first_id + y.number < 2 ^ 64 = omega arith in
    let same = same_file h g x.program y.program (first_id + x.number) (first_id + y.number) x.named.kind y.named.kind x.plain y.plain first second name in
    let number : first_id + x.number ≡ first_id + y.number = same.2 in
    (same.0, omega arith, omega arith)
