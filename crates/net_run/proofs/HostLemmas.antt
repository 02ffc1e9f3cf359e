-- What hosts wrote, host by host; and with what is put at the end, the files of a run.
use Rattle.std.proofs.Common.{◌≡◌, ℕ, zero, suc, ◌+◌, ◌≤◌, ◌^◌, Bool, true, false, List, [], ◌∷◌, ◌++◌, length, map, slice_get, refl, sym, ap, subst, ◌∙◌, arith}
use Rattle.std.specs.Prelude.{◌||◌, flat_map}
use Rattle.std.specs.List.{AllByRecursion, IsDistinct}
use Rattle.std.specs.Str.{bytes_eq}
use Rattle.std.proofs.lemmas.List.Elements.{recursion_from_All}
use Rattle.std.proofs.lemmas.Map.Keys.{IsDistinct-head, IsDistinct-tail}
use Rattle.std.proofs.lemmas.Slice.Eq.{bytes_eq-Decides}
use Rattle.run_outside.specs.declared.sink.SinkTarget.{SinkTarget}
use Rattle.sim_base.specs.declared.state.State.{State}
use Rattle.file_calls.specs.declared.task.Output.{Output}
use Rattle.host_state.specs.HostRecord.{HostRecord, state_in, process_state}
use Rattle.guest_process.specs.States.{state_of}
use Rattle.guest_process.specs.declared.process.Process.{Process}
use Rattle.host_rows.specs.declared.row.ProcessRow.{ProcessRow}
use Rattle.out_text.specs.Files.{state_line}
use Rattle.run_files.specs.Grown.{process_grown, host_grown, hosts_grown}
use Rattle.host_state.specs.Gains.{AreGained}
use Rattle.net_run.specs.Grown.{HaveOwnFiles}
use Rattle.run_files.specs.Listed.{HostNames, HasIds, listed, listed_process, by_process, by_host}
use Rattle.run_files.specs.Files.{Put, program_of, written_to}
use Rattle.file_calls.specs.Guest.{first_id}
use Rattle.net_run.specs.Targets.{is_touched}
use Rattle.net_run.specs.Rest.{state_at, process_rest, host_rest, hosts_rest}
use Rattle.net_run.specs.Shown.{files_named, files_from, host_files}
use Rattle.run_files.specs.declared.listed.ProcessListing.{ProcessListing}
use Rattle.net_run.proofs.FileLemmas.{IsFileOf, touched_named, other_file}
use Rattle.net_run.proofs.GrowthLemmas.{HasNoSlash, whole_of_process, more_grown, touched_two, touched_processes, splits_processes}
use Rattle.net_run.proofs.NameLemmas.{program_is_plain}
use Rattle.net_run.proofs.SplitLemmas.{touched_append, Splits, splits_append}

-- ---- hosts with files of their own

-- each process has an id, and a name without a slash
pub record IsOwn (host : HostNames) : Type 0 where
  pub ids : first_id + length host.processes ≤ 2 ^ 32
  pub plain : AllByRecursion HasNoSlash host.processes

abbrev pub AreOwn : List HostNames → Type 0
AreOwn [] = Unit {0}
AreOwn (host ∷ hosts) = IsOwn host × AllByRecursion (λ (name : List ℕ). bytes_eq host.name name ≡ false) (map (λ (h : HostNames). h.name) hosts) × AreOwn hosts

plain_listed : (rows : List ProcessRow) → AllByRecursion HasNoSlash (map listed_process rows)
plain_listed [] = tt
plain_listed (row ∷ rows) = (program_is_plain row.path, plain_listed rows)

abbrev pub names_of_hosts : List HostRecord → List HostNames
names_of_hosts hs = map (λ (h : HostRecord). listed h.row) hs

abbrev name_of_host : HostNames → List ℕ
name_of_host h = h.name

own_each : (hs : List HostRecord) → IsDistinct bytes_eq (map name_of_host (names_of_hosts hs)) → AllByRecursion HasIds (names_of_hosts hs) → AreOwn (names_of_hosts hs)
own_each [] apart ids = tt
own_each (h ∷ hs) apart ids = (
  record { ids = ids.0; plain = plain_listed h.row.processes },
  IsDistinct-head bytes_eq h.row.name (map name_of_host (names_of_hosts hs)) apart,
  own_each hs (IsDistinct-tail bytes_eq h.row.name (map name_of_host (names_of_hosts hs)) apart) ids.1,
)

pub own_hosts : (hs : List HostRecord) → HaveOwnFiles (names_of_hosts hs) → AreOwn (names_of_hosts hs)
own_hosts hs own = own_each hs own.names (recursion_from_All HasIds (names_of_hosts hs) own.ids)

module _ {X : Type 0} (at : SinkTarget) (whole : HostNames → X → List Put)
    (named : (host : HostNames) (x : X) → IsOwn host → is_touched at (whole host x) ≡ true → IsFileOf host.name 0 (0 + length host.processes) at) where
  -- a file of a host isn't one of those behind it
  pub none_later : (name : List ℕ) (to : ℕ) (hosts : List HostNames) (xs : List X) → IsFileOf name 0 to at → to ≤ 2 ^ 32
      → AllByRecursion (λ (other : List ℕ). bytes_eq name other ≡ false) (map (λ (h : HostNames). h.name) hosts) → AreOwn hosts → is_touched at (by_host whole hosts xs) ≡ true → ⊥
  none_later name to [] xs file small apart own e = cc
  none_later name to (host ∷ hosts) [] file small apart own e = cc
  none_later name to (host ∷ hosts) (x ∷ xs) file small apart own e =
      go (is_touched at (whole host x)) (is_touched at (by_host whole hosts xs)) refl refl (sym (touched_append at (whole host x) (by_host whole hosts xs)) ∙ e)
      (λ later. none_later name to hosts xs file small apart.1 own.2 later) where
        go : (a b : Bool) → is_touched at (whole host x) ≡ a → is_touched at (by_host whole hosts xs) ≡ b → (a || b) ≡ true → (is_touched at (by_host whole hosts xs) ≡ true → ⊥) → ⊥
        go true b here later t behind =
            let ids = own.0.ids in
            let same = (other_file name host.name 0 to 0 (0 + length host.processes) at file (named host x own.0 here) small (omega arith)).0 in
            let is : bytes_eq name host.name ≡ true = (bytes_eq-Decides name host.name).1 same in
            let not : bytes_eq name host.name ≡ false = apart.0 in
            let e2 : true ≡ false = sym is ∙ not in cc
        go false true here later t behind = behind later
        go false false here later t behind = cc

  -- what is touched is a file of some host
  pub some_file : (hosts : List HostNames) (xs : List X) → AreOwn hosts → is_touched at (by_host whole hosts xs) ≡ true → (name : List ℕ) × (to : ℕ) × IsFileOf name 0 to at
  some_file [] xs own e = absurd (cc)
  some_file (host ∷ hosts) [] own e = absurd (cc)
  some_file (host ∷ hosts) (x ∷ xs) own e =
      go (is_touched at (whole host x)) (is_touched at (by_host whole hosts xs)) refl refl (sym (touched_append at (whole host x) (by_host whole hosts xs)) ∙ e)
      (λ later. some_file hosts xs own.2 later) where
        go : (a b : Bool) → is_touched at (whole host x) ≡ a → is_touched at (by_host whole hosts xs) ≡ b → (a || b) ≡ true
            → (is_touched at (by_host whole hosts xs) ≡ true → (name : List ℕ) × (to : ℕ) × IsFileOf name 0 to at) → (name : List ℕ) × (to : ℕ) × IsFileOf name 0 to at
        go true b here later t behind = (host.name, 0 + length host.processes, named host x own.0 here)
        go false true here later t behind = behind later
        go false false here later t behind = absurd (cc)

-- ---- what hosts wrote

pub file_grown : (at : SinkTarget) (host : HostNames) (outputs : List Output) → IsOwn host → is_touched at (host_grown host outputs) ≡ true → IsFileOf host.name 0 (0 + length host.processes) at
file_grown at host outputs own e =
    touched_processes at host.name (process_grown host.name outputs) (λ p process t. touched_two at host.name process.program (first_id + p) (written_to p 1 outputs) (written_to p 2 outputs) t)
    0 host.processes own.plain e

more_host : (at : SinkTarget) (host : HostNames) (xs ys : List Output) → IsOwn host → Splits at (host_grown host xs) (host_grown host ys) (host_grown host (xs ++ ys))
more_host at host xs ys own =
    let ids = own.ids in
    splits_processes at host.name (process_grown host.name (xs ++ ys))
    (λ p process t. touched_two at host.name process.program (first_id + p) (written_to p 1 (xs ++ ys)) (written_to p 2 (xs ++ ys)) t)
    (process_grown host.name xs) (process_grown host.name ys) (λ p process plain small. more_grown at host.name xs ys p process plain small) 0 host.processes own.plain (omega arith)

pub more_hosts : (at : SinkTarget) (hosts : List HostNames) (xs ys zs : List (List Output)) → AreOwn hosts → AreGained xs ys zs → Splits at (hosts_grown hosts xs) (hosts_grown hosts ys) (hosts_grown hosts zs)
more_hosts at [] xs ys zs own gained = record { bytes = refl; first = λ e. e; second = refl }
more_hosts at (host ∷ hosts) [] [] [] own gained = record { bytes = refl; first = λ e. e; second = refl }
more_hosts at (host ∷ hosts) [] [] (z ∷ zs) own gained = absurd gained
more_hosts at (host ∷ hosts) [] (y ∷ ys) zs own gained = absurd gained
more_hosts at (host ∷ hosts) (x ∷ xs) [] zs own gained = absurd gained
more_hosts at (host ∷ hosts) (x ∷ xs) (y ∷ ys) [] own gained = absurd gained
more_hosts at (host ∷ hosts) (x ∷ xs) (y ∷ ys) (z ∷ zs) own gained =
    splits_append at (host_grown host x) (host_grown host y) (host_grown host z) (hosts_grown hosts xs) (hosts_grown hosts ys) (hosts_grown hosts zs)
    (subst (λ (l : List Output). Splits at (host_grown host x) (host_grown host y) (host_grown host l)) (sym gained.0) (more_host at host x y own.0))
    (more_hosts at hosts xs ys zs own.2 gained.1)
    (λ here later.
    let ids = own.0.ids in
    none_later at host_grown (file_grown at) host.name (0 + length host.processes) hosts zs (file_grown at host z own.0 here) (omega arith) own.1 own.2 later)

-- ---- the files of a run

state_listed : (processes : List Process) (p : ℕ) → state_at (map state_of processes) p ≡ state_in (slice_get processes p)
state_listed [] p = refl
state_listed (process ∷ processes) zero = refl
state_listed (process ∷ processes) (suc p) = state_listed processes p

pub state_of_host : (h : HostRecord) (p : ℕ) → state_at (map state_of h.processes) p ≡ process_state p h
state_of_host h p = state_listed h.processes p

module _ (h : HostRecord) where
  abbrev states : List State
  states = map state_of h.processes

  abbrev process_whole : ℕ → ProcessListing → List Put
  process_whole p process = files_named h.row.name process.program (first_id + p) (written_to p 1 h.written) (written_to p 2 h.written) (state_line (state_at states p))

  files_listed : (p : ℕ) (rows : List ProcessRow) → by_process process_whole p (map listed_process rows) ≡ files_from h p rows
  files_listed p [] = refl
  files_listed p (row ∷ rows) =
      ap (λ (l : List Put). process_whole p (listed_process row) ++ l) (files_listed (p + 1) rows)
      ∙ ap (λ (s : State). files_named h.row.name (program_of row.path) (first_id + p) (written_to p 1 h.written) (written_to p 2 h.written) (state_line s) ++ files_from h (p + 1) rows) (state_of_host h p)

pub file_rest : (at : SinkTarget) (host : HostNames) (states : List State) → IsOwn host → is_touched at (host_rest host states) ≡ true → IsFileOf host.name 0 (0 + length host.processes) at
file_rest at host states own e =
    touched_processes at host.name (process_rest host.name states) (λ p process t. touched_named at host.name process.program (first_id + p) [] [] (state_line (state_at states p)) t)
    0 host.processes own.plain e

whole_host : (at : SinkTarget) (h : HostRecord) → IsOwn (listed h.row) → Splits at (host_grown (listed h.row) h.written) (host_rest (listed h.row) (map state_of h.processes)) (host_files h)
whole_host at h own =
    let ids = own.ids in
    let name = h.row.name in
    subst (λ (zs : List Put). Splits at (host_grown (listed h.row) h.written) (host_rest (listed h.row) (map state_of h.processes)) zs) (files_listed h 0 h.row.processes)
    (splits_processes at name (process_whole h)
    (λ p process t. touched_named at name process.program (first_id + p) (written_to p 1 h.written) (written_to p 2 h.written) (state_line (state_at (map state_of h.processes) p)) t)
    (process_grown name h.written) (process_rest name (map state_of h.processes))
    (λ p process plain small. whole_of_process at name process.program (first_id + p) (written_to p 1 h.written) (written_to p 2 h.written) (state_line (state_at (map state_of h.processes) p)))
    0 (map listed_process h.row.processes) own.plain (omega arith))

abbrev pub written_by : List HostRecord → List (List Output)
written_by hs = map (λ (h : HostRecord). h.written) hs

abbrev pub states_by : List HostRecord → List (List State)
states_by hs = map (λ (h : HostRecord). map state_of h.processes) hs

pub whole_hosts : (at : SinkTarget) (hs : List HostRecord) → AreOwn (names_of_hosts hs)
    → Splits at (hosts_grown (names_of_hosts hs) (written_by hs)) (hosts_rest (names_of_hosts hs) (states_by hs)) (flat_map host_files hs)
whole_hosts at [] own = record { bytes = refl; first = λ e. e; second = refl }
whole_hosts at (h ∷ hs) own =
    let here = whole_host at h own.0 in
    let later = whole_hosts at hs own.2 in
    let ids = own.0.ids in
    let host = listed h.row in
    splits_append at (host_grown host h.written) (host_rest host (map state_of h.processes)) (host_files h)
    (hosts_grown (names_of_hosts hs) (written_by hs)) (hosts_rest (names_of_hosts hs) (states_by hs)) (flat_map host_files hs) here later
    (λ x y.
    none_later at host_rest (file_rest at) h.row.name (0 + length host.processes) (names_of_hosts hs) (states_by hs) (file_rest at host (map state_of h.processes) own.0 (here.second ∙ x))
    (omega arith) own.1 own.2 (later.second ∙ y))
