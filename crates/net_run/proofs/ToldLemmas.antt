-- What is told of a world: its hosts' names, the states of its processes, and what its packet log comes to.
use Rattle.std.proofs.Common.{◌≡◌, ℕ, zero, suc, ◌+◌, ◌-◌, ◌<◌, ◌^◌, Bool, true, false, List, [], ◌∷◌, ◌++◌, length, map, slice_get, Option, Some, All, refl, sym, ap, ◌∙◌, arith}
use Rattle.std.specs.Prelude.{if◌then◌else◌, min, count_by, unwrap_or}
use Rattle.std.specs.List.{AllByRecursion, IsDistinct, fold}
use Rattle.std.specs.Str.{bytes_eq}
use Rattle.std.proofs.lemmas.Slice.Eq.{bytes_eq-Decides}
use Rattle.sim_base.specs.declared.act.Act.{Act}
use Rattle.run_outside.specs.declared.sink.SinkTarget.TheVariants as target
use Rattle.sim_base.specs.declared.state.State.{State}
use Rattle.sim_base.specs.declared.state.State.TheVariants.{NotStarted}
use Rattle.host_state.specs.HostRecord.{HostRecord}
use Rattle.guest_process.specs.States.{state_of}
use Rattle.host_state.specs.Opening.{opening}
use Rattle.host_link.specs.declared.line.Line.{Line}
use Rattle.host_rows.specs.declared.row.Row.{Row}
use Rattle.out_text.specs.Files.{state_line}
use Rattle.out_text.specs.Summary.{is_send, is_lost, is_recv, acts_counted, summary_of}
use Rattle.out_text.specs.Log.{LogLine}
use Rattle.net_run.specs.Grown.{HaveOwnFiles}
use Rattle.run_files.specs.Listed.{HostNames, HasIds, listed, listed_process, by_process, by_host}
use Rattle.host_state.specs.Gains.{names_in}
use Rattle.run_files.specs.Files.{Put, log_name}
use Rattle.file_calls.specs.Guest.{first_id}
use Rattle.net_run.specs.Rest as rest
use Rattle.net_run.specs.Rest.{state_at, TellsStates, all_rest, ending, summary_in, summary_rest}
use Rattle.net_run.specs.inside.Rest.{states_in, rest_in}
use Rattle.net_run.specs.Shown.{files_named, unmet_by, named, named_log, status_by, status_of}
use Rattle.host_link.specs.Logs.{lines_of}
use Rattle.net_run.specs.World.{World, opening_world}
use Rattle.run_files.specs.declared.listed.ProcessListing.{ProcessListing}
use Rattle.net_run.proofs.HostLemmas.{names_of_hosts, states_by, state_of_host}
use Rattle.net_run.proofs.WholeLemmas.{unmet_of_world}

-- ---- names

opened_names : (rows : List Row) → names_of_hosts (map (λ (row : Row). (opening row).host) rows) ≡ map listed rows
opened_names [] = refl
opened_names (row ∷ rows) = ap (λ (l : List HostNames). listed row ∷ l) (opened_names rows)

pub opening_names : (rows : List Row) → names_in (opening_world rows) ≡ map listed rows
opening_names rows = opened_names rows

abbrev name_of : HostNames → List ℕ
name_of h = h.name

differ : (x : List ℕ) (ys : List (List ℕ)) → ((i : ℕ) → slice_get ys i ≡ Some x → ⊥) → AllByRecursion (λ (y : List ℕ). bytes_eq x y ≡ false) ys
differ x [] none = tt
differ x (y ∷ ys) none = (go (bytes_eq x y) refl, differ x ys (λ i e. none (suc i) e)) where
  go : (b : Bool) → bytes_eq x y ≡ b → bytes_eq x y ≡ false
  go true e = absurd (none 0 (ap Some (sym ((bytes_eq-Decides x y).0 e))))
  go false e = e

distinct : (xs : List (List ℕ)) → ((x : List ℕ) (i j : ℕ) → slice_get xs i ≡ Some x → slice_get xs j ≡ Some x → i ≡ j) → IsDistinct bytes_eq xs
unfolding IsDistinct
distinct [] apart = tt
distinct (x ∷ xs) apart = (
  differ x xs (λ i e. let same : suc i ≡ 0 = apart x (suc i) 0 e refl in absurd (omega arith)),
  distinct xs (λ y i j a b. let same : suc i ≡ suc j = apart y (suc i) (suc j) a b in omega arith),
)

-- where no name stands twice
pub own_files : (hosts : List HostNames) → ((name : List ℕ) (i j : ℕ) → slice_get (map (λ (h : HostNames). h.name) hosts) i ≡ Some name → slice_get (map (λ (h : HostNames). h.name) hosts) j ≡ Some name → i ≡ j)
    → All HasIds hosts → HaveOwnFiles hosts
own_files hosts apart ids = record { names = distinct (map name_of hosts) apart; ids = ids }

-- ---- states

there : {X : Type 0} (xs : List X) (i : ℕ) → i < length xs → (x : X) × (slice_get xs i ≡ Some x)
there [] i below = absurd (omega arith)
there (x ∷ xs) zero below = (x, refl)
there (x ∷ xs) (suc i) below = there xs i (omega arith)

told_state : (h : HostRecord) (states : List State) (p : ℕ) → TellsStates h states → p < length h.row.processes → state_at states p ≡ state_at (map state_of h.processes) p
told_state h states p tells below =
    let count = tells.count in
    let s = there states p (omega arith) in
    ap (λ (o : Option State). unwrap_or o NotStarted) s.1 ∙ tells.each p s.0 s.1 ∙ sym (state_of_host h p)

same_by_process : (f g : ℕ → ProcessListing → List Put) (p : ℕ) (processes : List ProcessListing) → ((q : ℕ) (process : ProcessListing) → q < p + length processes → f q process ≡ g q process)
    → by_process f p processes ≡ by_process g p processes
same_by_process f g p [] same = refl
same_by_process f g p (process ∷ processes) same =
    let here : f p process ≡ g p process = same p process (omega arith) in
    let later = same_by_process f g (p + 1) processes (λ q x below. same q x (omega arith)) in
    ap (λ (l : List Put). l ++ by_process f (p + 1) processes) here ∙ ap (λ (l : List Put). g p process ++ l) later

listed_count : {X Y : Type 0} (f : X → Y) (xs : List X) → length (map f xs) ≡ length xs
listed_count f [] = refl
listed_count f (x ∷ xs) = ap suc (listed_count f xs)

module _ (by : List ℕ → List State → ℕ → ProcessListing → List Put)
    (same : (name : List ℕ) (xs ys : List State) (p : ℕ) (process : ProcessListing) → state_at xs p ≡ state_at ys p → by name xs p process ≡ by name ys p process) where
  abbrev each : HostNames → List State → List Put
  each host states = by_process (by host.name states) 0 host.processes

  pub same_by_host : (hs : List HostRecord) (states : List (List State)) → length states ≡ length hs
      → ((k : ℕ) (h : HostRecord) (told : List State) → slice_get hs k ≡ Some h → slice_get states k ≡ Some told → TellsStates h told)
      → by_host each (names_of_hosts hs) states ≡ by_host each (names_of_hosts hs) (states_by hs)
  same_by_host [] states count tells = refl
  same_by_host (h ∷ hs) [] count tells = absurd (omega arith)
  same_by_host (h ∷ hs) (told ∷ states) count tells =
      let count_is = listed_count listed_process h.row.processes in
      let here : each (listed h.row) told ≡ each (listed h.row) (map state_of h.processes) =
      same_by_process (by h.row.name told) (by h.row.name (map state_of h.processes)) 0 (map listed_process h.row.processes)
      (λ p process below. same h.row.name told (map state_of h.processes) p process (told_state h told p (tells 0 h told refl refl) (omega arith))) in
      let later = same_by_host hs states (omega arith) (λ k g told a b. tells (suc k) g told a b) in
      ap (λ (l : List Put). l ++ by_host each (names_of_hosts hs) states) here ∙ ap (λ (l : List Put). each (listed h.row) (map state_of h.processes) ++ l) later

module _ (w : World) (states : List (List State)) (count : length states ≡ length w.hosts)
    (tells : (k : ℕ) (h : HostRecord) (told : List State) → slice_get w.hosts k ≡ Some h → slice_get states k ≡ Some told → TellsStates h told) where
  -- the unmet expectations, of states as they were told
  pub unmet_told : rest.unmet_of_hosts (names_in w) states ≡ rest.unmet_of_hosts (names_in w) (states_in w)
  unmet_told = same_by_host rest.unmet_of_process (λ name xs ys p process e. ap (λ (s : State). unmet_by name process.program (first_id + p) process.expected s) e) w.hosts states count tells

  pub status_told : status_by (rest.unmet_of_hosts (names_in w) states) ≡ status_of w
  status_told = ap status_by (unmet_told ∙ unmet_of_world w)

  -- and all that is put at the end
  pub rest_told : (load : Bool) → all_rest (names_in w) states (summary_in load w) ≡ rest_in load w
  rest_told load =
      ap (λ (l : List Put). l ++ ending (names_in w) states (summary_in load w))
      (same_by_host rest.process_rest (λ name xs ys p process e. ap (λ (s : State). files_named name process.program (first_id + p) [] [] (state_line s)) e) w.hosts states count tells)
      ∙ ap (λ (l : List Put). rest.hosts_rest (names_in w) (states_in w) ++ ((target.File log_name, []) ∷ (l ++ summary_rest (summary_in load w)))) unmet_told

-- ---- the summary

abbrev counts_one : Bool → ℕ → ℕ
counts_one told n = n + (if told then 1 else 0)

counted_from : (is_one : Act → Bool) (hs : List HostRecord) (lines : List Line) (n : ℕ)
    → fold (λ (m : ℕ) (line : LogLine). counts_one (is_one line.act) m) n (map (named hs) lines) ≡ fold (λ (m : ℕ) (line : Line). counts_one (is_one line.act) m) n lines
counted_from is_one hs [] n = refl
counted_from is_one hs (l ∷ lines) n = counted_from is_one hs lines (counts_one (is_one l.act) n)

counted_named : (is_one : Act → Bool) (hs : List HostRecord) (lines : List Line) → count_by (λ (line : LogLine). is_one line.act) (map (named hs) lines) ≡ count_by (λ (line : Line). is_one line.act) lines
counted_named is_one hs lines = counted_from is_one hs lines 0

abbrev pub lines_counted : (Act → Bool) → List Line → ℕ
lines_counted is_one lines = min (count_by (λ (line : Line). is_one line.act) lines) (2 ^ 64 - 1)

-- the summary by the lines of the log, which tell no names
pub summary_of_lines : (w : World) → summary_of (length w.hosts) (named_log w)
    ≡ record { hosts = length w.hosts; sent = lines_counted is_send (lines_of w.log); lost = lines_counted is_lost (lines_of w.log); received = lines_counted is_recv (lines_of w.log) }
summary_of_lines w =
    let sent : acts_counted is_send (named_log w) ≡ lines_counted is_send (lines_of w.log) = counted is_send in
    let lost : acts_counted is_lost (named_log w) ≡ lines_counted is_lost (lines_of w.log) = counted is_lost in
    let received : acts_counted is_recv (named_log w) ≡ lines_counted is_recv (lines_of w.log) = counted is_recv in
    λ i. record { hosts = length w.hosts; sent = sent i; lost = lost i; received = received i } where
      counted : (is_one : Act → Bool) → acts_counted is_one (named_log w) ≡ lines_counted is_one (lines_of w.log)
      counted is_one = ap (λ (n : ℕ). min n (2 ^ 64 - 1)) (counted_named is_one w.hosts (lines_of w.log))
