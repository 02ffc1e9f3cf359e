-- The processes of a host are read as they were shown.
use Rattle.std.proofs.Common.{◌≡◌, ℕ, suc, ◌+◌, ◌≤◌, false, List, [], ◌∷◌, ◌++◌, map, length, Option, Some, None, IfSome, Ok, codes, nat_le, refl, sym, ap, ◌∙◌, arith, append_assoc, append-nil, lt-ltb, le-leb, subst}
use Rattle.std.specs.List.{AllByRecursion}
use Rattle.sim_base.specs.Refusals.{◌>>=◌}
use Rattle.sim_base.specs.Signal.{signal_name}
use Rattle.sim_base.specs.declared.signal.Signal.{Signal}
use Rattle.sim_base.specs.declared.signal.Signal.TheVariants.{SigHup, SigInt, SigQuit, SigIll, SigTrap, SigAbrt, SigBus, SigFpe, SigKill, SigUsr1, SigSegv, SigUsr2, SigPipe, SigAlrm, SigTerm, SigXcpu}
use Rattle.sim_base.specs.declared.time.Time.{Time}
use Rattle.sim_base.proofs.RefusalLemmas.{then_is}
use Rattle.shd_values.specs.Word.{signal_of, names_program}
use Rattle.yaml_tree.specs.Said.Said.{sequence, mapping}
use Rattle.yaml_merge.specs.Plain.{is_null}
use Rattle.yaml_merge.specs.declared.plain.Pair.{Pair}
use Rattle.host_rows.specs.declared.row.FinalState.{FinalState}
use Rattle.host_rows.specs.declared.row.FinalState.TheVariants.{Exited, Signaled, Running}
use Rattle.shd_config.specs.declared.config.Variable.{Variable}
use Rattle.shd_config.specs.declared.config.ProcessConfig.{ProcessConfig}
use Rattle.shd_config.specs.declared.process.ProcessDraft.{ProcessDraft}
use Rattle.shd_config.specs.declared.fault.ConfigKind.TheVariants.{OutOfRange}
use Rattle.shd_config.specs.Steps.{checked, below, through, mapping_line}
use Rattle.shd_config.specs.Keys.{key_of}
use Rattle.shd_config.specs.Values.{mapping_at, sequence_at, time_at, signal_at, ranged}
use Rattle.shd_config.specs.Process.{argument_row, arguments_in, arguments_at, variable_row, environment_at, state_of, state_at, start_in, shutdown_at, is_behind, new_process, process_row, finished_process, process_of, process_in, process_at, process_item as read_item, processes_at, texts_size}
use Rattle.config_lines.specs.Shown.{shown_time}
use Rattle.shown_config.specs.Plain.{IsPlainState, IsShutdown, IsPlainProcess}
use Rattle.shown_config.proofs.words.Words.{Word}
use Rattle.shown_config.proofs.words.Words.Word.{bare, quote}
use Rattle.shown_config.proofs.forms.Cells.{Cell}
use Rattle.shown_config.proofs.forms.Cells.Cell.{word}
use Rattle.shown_config.proofs.blocks.Blocks.{cell_said, leaves_pairs, item_said, items_said, after_item}
use Rattle.shown_config.proofs.blocks.BlockSaid.{item_pairs, words_items, words_items_is, entries_pairs, entries_pairs_is, mappings, items_items}
use Rattle.shown_config.proofs.config.ConfigBlock.{args_cell, variable_words, environment_cell, state_cell, shutdown_leaves, process_item}
use Rattle.shown_config.proofs.reading.ReadSteps.{through_ok, mapping_ok, sequence_ok, checked_ok, ranged_ok, text_pair, number_ok, time_ok, text_ok, words_not_null, entries_not_null}
use Rattle.shown_config.proofs.words.Decimals.{time_read}

-- ---- values

signal_known : (s : Signal) → signal_of (signal_name s) ≡ Some s
signal_known SigHup = refl
signal_known SigInt = refl
signal_known SigQuit = refl
signal_known SigIll = refl
signal_known SigTrap = refl
signal_known SigAbrt = refl
signal_known SigBus = refl
signal_known SigFpe = refl
signal_known SigKill = refl
signal_known SigUsr1 = refl
signal_known SigSegv = refl
signal_known SigUsr2 = refl
signal_known SigPipe = refl
signal_known SigAlrm = refl
signal_known SigTerm = refl
signal_known SigXcpu = refl

signal_ok : (s : Signal) (line : ℕ) (key : List ℕ) → signal_at (text_pair line key (signal_name s)) ≡ Ok s
signal_ok s line key = rw (signal_known s) refl

args_through : (n : ℕ) (key : List ℕ) (before args : List (List ℕ)) → through (argument_row key) before (words_items n (map quote args)) ≡ Ok (before ++ args)
args_through n key before [] = ap Ok (sym (append-nil before))
args_through n key before (a ∷ args) = args_through n key (before ++ a ∷ []) args ∙ ap Ok (append_assoc before (a ∷ []) args)

args_reads : (n line : ℕ) (key : List ℕ) (args : List (List ℕ)) → arguments_at (record { line = line; key = key; value = cell_said n (args_cell args) }) ≡ Ok args
unfolding arguments_at
args_reads n line key args =
    let p : Pair = record { line = line; key = key; value = cell_said n (args_cell args) } in
    ap (arguments_in p) (words_items_is n (map quote args)) ∙ args_through n key [] args

variables_through : (n : ℕ) (before vs : List Variable) → through variable_row before (entries_pairs n (map variable_words vs)) ≡ Ok (before ++ vs)
variables_through n before [] = ap Ok (sym (append-nil before))
variables_through n before (v ∷ vs) = variables_through n (before ++ v ∷ []) vs ∙ ap Ok (append_assoc before (v ∷ []) vs)

environment_reads : (n line : ℕ) (key : List ℕ) (vs : List Variable) → environment_at (record { line = line; key = key; value = cell_said n (environment_cell vs) }) ≡ Ok vs
unfolding environment_at
environment_reads n line key vs =
    let p : Pair = record { line = line; key = key; value = cell_said n (environment_cell vs) } in
    then_is (mapping_at p) (λ pairs. below p (through variable_row [] pairs)) (entries_pairs n (map variable_words vs)) (Ok vs) (mapping_ok p _ (entries_pairs_is n (map variable_words vs)))
    (ap (below p) (variables_through n [] vs))

state_reads : (n line : ℕ) (key : List ℕ) (s : FinalState) → IsPlainState s → state_at (record { line = line; key = key; value = cell_said n (state_cell s) }) ≡ Ok s
unfolding state_at state_of key_of
state_reads n line key (Exited status) h = rw (number_ok 0 255 status n (codes "exited") (omega arith) h (omega arith)) refl
state_reads n line key (Signaled signal) h = rw (signal_ok signal n (codes "signaled")) refl
state_reads n line key Running h = refl

state_not_null : (n : ℕ) (s : FinalState) → is_null (cell_said n (state_cell s)) ≡ false
state_not_null n (Exited status) = refl
state_not_null n (Signaled s) = refl
state_not_null n Running = refl

shutdown_reads : (start t : Time) (line : ℕ) (key : List ℕ) → IsShutdown start t → shutdown_at (Some start) (text_pair line key (shown_time t)) ≡ Ok t
shutdown_reads start t line key h =
    let p = text_pair line key (shown_time t) in
    then_is (time_at p) (ranged (is_behind (Some start)) p) t (Ok t) (time_ok t line key h.1) (ranged_ok (is_behind (Some start)) p t (lt-ltb start.nanos t.nanos h.0))

-- ---- a process

abbrev draft_with : ProcessConfig → Option Time → ProcessDraft
draft_with p shutdown = record { path = Some p.path; args = p.args; environment = p.environment; start_time = Some p.start_time; shutdown_time = shutdown; shutdown_signal = None; expected_final_state = None }

abbrev whole_draft : ProcessConfig → ProcessDraft
whole_draft p = record { path = Some p.path; args = p.args; environment = p.environment; start_time = Some p.start_time; shutdown_time = p.shutdown_time; shutdown_signal = Some p.shutdown_signal; expected_final_state = Some p.expected_final_state }

abbrev end_leaves : ProcessConfig → List (Word × Cell)
end_leaves p = (bare (codes "shutdown_signal"), word (bare (signal_name p.shutdown_signal))) ∷ (bare (codes "expected_final_state"), state_cell p.expected_final_state) ∷ []

end_reads : (n : ℕ) (p : ProcessConfig) (start : Option Time) → IsPlainProcess p → through (process_row start) (draft_with p p.shutdown_time) (leaves_pairs n (end_leaves p)) ≡ Ok (whole_draft p)
unfolding key_of
end_reads n p start h =
    rw (signal_ok p.shutdown_signal n (codes "shutdown_signal"), state_not_null (1 + n) p.expected_final_state, state_reads (1 + n) (1 + n) (codes "expected_final_state") p.expected_final_state h.state) refl

shutdown_through : (n : ℕ) (p : ProcessConfig) (o : Option Time) → p.shutdown_time ≡ o → IsPlainProcess p → through (process_row (Some p.start_time)) (draft_with p None) (leaves_pairs n (shutdown_leaves o (end_leaves p))) ≡ Ok (whole_draft p)
unfolding key_of
shutdown_through n p None e h = ap (λ o. through (process_row (Some p.start_time)) (draft_with p o) (leaves_pairs n (end_leaves p))) (sym e) ∙ end_reads n p (Some p.start_time) h
shutdown_through n p (Some t) e h =
    rw (shutdown_reads p.start_time t n (codes "shutdown_time") (subst (λ (o : Option Time). IfSome o (IsShutdown p.start_time)) e h.shutdown))
    (ap (λ o. through (process_row (Some p.start_time)) (draft_with p o) (leaves_pairs (1 + n) (end_leaves p))) (sym e) ∙ end_reads (1 + n) p (Some p.start_time) h)

-- the pairs of a process
abbrev process_pairs : ℕ → ProcessConfig → List Pair
process_pairs n p = text_pair n (codes "path") p.path ∷ leaves_pairs (1 + n) ((process_item p).1)

start_known : (n : ℕ) (p : ProcessConfig) → IsPlainProcess p → start_in (process_pairs n p) ≡ Some p.start_time
unfolding key_of
start_known n p h = time_read p.start_time h.start

process_through : (n : ℕ) (p : ProcessConfig) → IsPlainProcess p → through (process_row (Some p.start_time)) new_process (process_pairs n p) ≡ Ok (whole_draft p)
unfolding key_of
process_through n p h =
    rw (
      text_ok names_program p.path (codes "path") n h.program,
      words_not_null (1 + n) (sequence (1 + n)) (map quote p.args) refl,
      args_reads (1 + n) (1 + n) (codes "args") p.args,
      entries_not_null (1 + (1 + n)) (mapping (1 + (1 + n))) (map variable_words p.environment) refl,
      environment_reads (1 + (1 + n)) (1 + (1 + n)) (codes "environment") p.environment,
      time_ok p.start_time (1 + (1 + (1 + n))) (codes "start_time") h.start,
    )
    (shutdown_through (1 + (1 + (1 + (1 + n)))) p p.shutdown_time refl h)

process_of_reads : (n line : ℕ) (p : ProcessConfig) → IsPlainProcess p → process_of line (process_pairs n p) ≡ Ok p
unfolding process_of
process_of_reads n line p h =
    ap (λ s. through (process_row s) new_process (process_pairs n p) >>= finished_process (mapping_line line (process_pairs n p))) (start_known n p h)
    ∙ ap (λ r. r >>= finished_process (mapping_line line (process_pairs n p))) (process_through n p h)

process_reads : (n line : ℕ) (key : List ℕ) (p : ProcessConfig) → IsPlainProcess p → process_at (record { line = line; key = key; value = item_said n (process_item p) }) ≡ Ok p
unfolding process_at process_in
process_reads n line key p h =
    let q : Pair = record { line = line; key = key; value = item_said n (process_item p) } in
    let inside : process_in q ≡ Ok p =
    then_is (mapping_at q) (λ pairs. below q (process_of q.line pairs)) (process_pairs n p) (Ok p) (mapping_ok q _ (item_pairs n (process_item p)))
    (ap (below q) (process_of_reads n line p h)) in
    then_is (process_in q) (λ c. checked OutOfRange q (nat_le (texts_size c) 65536) >>= λ _. Ok c) p (Ok p) inside
    (then_is (checked OutOfRange q (nat_le (texts_size p) 65536)) (λ _. Ok p) tt (Ok p) (checked_ok OutOfRange q _ (le-leb (texts_size p) 65536 h.few)) refl)

-- ---- processes

processes_through : (n : ℕ) (key : List ℕ) (before ps : List ProcessConfig) → AllByRecursion IsPlainProcess ps → through (read_item key) before (mappings n (map process_item ps)) ≡ Ok (before ++ ps)
processes_through n key before [] h = ap Ok (sym (append-nil before))
processes_through n key before (p ∷ ps) h =
    through_ok (read_item key) before (before ++ p ∷ []) (item_said n (process_item p)) (mappings (after_item n (process_item p)) (map process_item ps)) (Ok (before ++ (p ∷ ps)))
    (ap (λ r. r >>= λ c. Ok (before ++ c ∷ [])) (process_reads n _ _ p h.0))
    (processes_through (after_item n (process_item p)) key (before ++ p ∷ []) ps h.1 ∙ ap Ok (append_assoc before (p ∷ []) ps))

length_mappings : (n : ℕ) (ps : List ProcessConfig) → length (mappings n (map process_item ps)) ≡ length ps
length_mappings n [] = refl
length_mappings n (p ∷ ps) = ap suc (length_mappings (after_item n (process_item p)) ps)

pub processes_reads : (n line : ℕ) (key : List ℕ) (ps : List ProcessConfig) → length ps ≤ 64 → AllByRecursion IsPlainProcess ps → processes_at (record { line = line; key = key; value = items_said n (sequence n) (map process_item ps) }) ≡ Ok ps
unfolding processes_at
processes_reads n line key ps few h =
    let q : Pair = record { line = line; key = key; value = items_said n (sequence n) (map process_item ps) } in
    let found = mappings n (map process_item ps) in
    then_is (sequence_at q) (λ items. checked OutOfRange q (nat_le (length items) 64) >>= λ _. through (read_item key) [] items) found (Ok ps) (sequence_ok q found (items_items n (map process_item ps)))
    (then_is (checked OutOfRange q (nat_le (length found) 64)) (λ _. through (read_item key) [] found) tt (Ok ps)
    (checked_ok OutOfRange q _ (le-leb (length found) 64 (let e = length_mappings n ps in omega (arith, e, few))))
    (processes_through n key [] ps h))
