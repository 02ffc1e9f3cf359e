-- A process.
use Rattle.std.specs.Prelude.{ℕ, ◌+◌, Bool, true, ◌||◌, not, if◌then◌else◌, nat_lt, nat_le, List, [], ◌∷◌, ◌++◌, length, sum_by, Option, Some, None, is_some, unwrap_or, option_and_then, Result, Ok, codes}
use Rattle.std.specs.Str.{bytes_eq}
use Rattle.sim_base.specs.Limits.{most_text_bytes, most_processes}
use Rattle.sim_base.specs.declared.time.Time.{Time}
use Rattle.sim_base.specs.declared.signal.Signal.{Signal}
use Rattle.sim_base.specs.declared.signal.Signal.TheVariants.{SigTerm}
use Rattle.shd_values.specs.Word.{names_program}
use Rattle.shd_values.specs.Words.{words_of}
use Rattle.sim_base.specs.Refusals.{◌>>=◌}
use Rattle.yaml_tree.specs.Said.{Said}
use Rattle.yaml_merge.specs.Plain.{is_null, text_in, items_in, pairs_in}
use Rattle.yaml_merge.specs.declared.plain.Pair.{Pair}
use Rattle.shd_config.specs.declared.fault.ConfigKind.TheVariants.{UnknownKey, OutOfRange, BadValue}
use Rattle.shd_config.specs.declared.fault.ConfigFault.{ConfigFault}
use Rattle.shd_config.specs.declared.key.Key.{Key}
use Rattle.shd_config.specs.declared.key.Key.TheVariants as keys
use Rattle.host_rows.specs.declared.row.FinalState.{FinalState}
use Rattle.host_rows.specs.declared.row.FinalState.TheVariants as states
use Rattle.shd_config.specs.declared.config.Variable.{Variable}
use Rattle.shd_config.specs.declared.config.ProcessConfig.{ProcessConfig}
use Rattle.shd_config.specs.declared.state.StateDraft.{StateDraft}
use Rattle.shd_config.specs.declared.process.ProcessDraft.{ProcessDraft}
use Rattle.shd_config.specs.Steps.{refused, needed, checked, below, through, optional, mapping_line, item}
use Rattle.shd_config.specs.Keys.{key_of}
use Rattle.shd_config.specs.Values.{mapping_at, sequence_at, text_at, scalar_at, number_at, time_of, time_at, signal_at, ranged, text_with}
use Rattle.shd_config.specs.Bounds.{greatest_status}

-- ---- the arguments

abbrev pub argument_row : List ℕ → List (List ℕ) → Said → Result (List (List ℕ)) ConfigFault
argument_row key before value = text_at (item key (length before) value) >>= λ text. Ok (before ++ text ∷ [])

abbrev pub arguments_in : Pair → Option (List Said) → Result (List (List ℕ)) ConfigFault
arguments_in p (Some items) = through (argument_row p.key) [] items
arguments_in p None = scalar_at words_of p

-- a list of scalars, or a text that is split into words
unfoldable pub arguments_at : Pair → Result (List (List ℕ)) ConfigFault
arguments_at p = arguments_in p (items_in p.value)

-- ---- the environment

abbrev pub variable_row : List Variable → Pair → Result (List Variable) ConfigFault
variable_row before p = text_at p >>= λ text. Ok (before ++ (record { name = p.key; value = text }) ∷ [])

unfoldable pub environment_at : Pair → Result (List Variable) ConfigFault
environment_at p = mapping_at p >>= λ pairs. below p (through variable_row [] pairs)

-- ---- the final state that is expected

abbrev pub new_state : StateDraft
new_state = record { exited = None; signaled = None }

-- of two keys that exclude each other the second is refused; a null isn't given
abbrev pub state_alone : Bool → Pair → Result (Unit {0}) ConfigFault
state_alone other p = checked BadValue p (is_null p.value || not other)

abbrev pub state_key : Option Key → StateDraft → Pair → Result StateDraft ConfigFault
state_key (Some keys.Exited) d p = do
  _ ← state_alone (is_some d.signaled) p
  status ← optional p (number_at 0 greatest_status p)
  Ok (record d { exited = status })
state_key (Some keys.Signaled) d p = do
  _ ← state_alone (is_some d.exited) p
  signal ← optional p (signal_at p)
  Ok (record d { signaled = signal })
state_key _ d p = refused UnknownKey p

abbrev pub state_row : StateDraft → Pair → Result StateDraft ConfigFault
state_row d p = state_key (key_of p.key) d p

abbrev pub ended_state : ℕ → Option ℕ → Option Signal → Result FinalState ConfigFault
ended_state line (Some status) signaled = Ok (states.Exited status)
ended_state line None signaled = needed (codes "exited") line signaled >>= λ signal. Ok (states.Signaled signal)

unfoldable pub state_of : ℕ → List Pair → Result FinalState ConfigFault
state_of line pairs = through state_row new_state pairs >>= λ d. ended_state (mapping_line line pairs) d.exited d.signaled

abbrev pub running_state : List ℕ → Option FinalState
running_state text = if bytes_eq text (codes "running") then Some states.Running else None

abbrev pub state_in : Pair → Option (List Pair) → Result FinalState ConfigFault
state_in p (Some pairs) = below p (state_of p.line pairs)
state_in p None = scalar_at running_state p

-- `{exited: STATUS}`, `{signaled: SIGNAL}` or `running`
unfoldable pub state_at : Pair → Result FinalState ConfigFault
state_at p = state_in p (pairs_in p.value)

-- ---- the start and the shutdown

abbrev pub zero_time : Time
zero_time = record { nanos = 0 }

abbrev pub start_of : Pair → Option Time
start_of p = if is_null p.value then Some zero_time else option_and_then time_of (text_in p.value)

abbrev pub start_in_row : Option Key → Pair → Option Time → Option Time
start_in_row (Some keys.StartTime) p rest = start_of p
start_in_row _ p rest = rest

-- the start that a mapping gives, or 0 where it gives none; nothing where it can't be read
abbrev pub start_in : List Pair → Option Time
start_in [] = Some zero_time
start_in (p ∷ ps) = start_in_row (key_of p.key) p (start_in ps)

-- whether a time comes behind the start, which is known or not
abbrev pub is_behind : Option Time → Time → Bool
is_behind None time = true
is_behind (Some start) time = nat_lt start.nanos time.nanos

abbrev pub shutdown_at : Option Time → Pair → Result Time ConfigFault
shutdown_at start p = time_at p >>= ranged (is_behind start) p

-- ---- the process

abbrev pub new_process : ProcessDraft
new_process = record { path = None; args = []; environment = []; start_time = None; shutdown_time = None; shutdown_signal = None; expected_final_state = None }

abbrev pub process_key : Option Time → Option Key → ProcessDraft → Pair → Result ProcessDraft ConfigFault
process_key start (Some keys.Path) d p = text_with names_program p >>= λ v. Ok (record d { path = Some v })
process_key start (Some keys.Args) d p = optional p (arguments_at p) >>= λ v. Ok (record d { args = unwrap_or v [] })
process_key start (Some keys.Environment) d p = optional p (environment_at p) >>= λ v. Ok (record d { environment = unwrap_or v [] })
process_key start (Some keys.StartTime) d p = optional p (time_at p) >>= λ v. Ok (record d { start_time = v })
process_key start (Some keys.ShutdownTime) d p = optional p (shutdown_at start p) >>= λ v. Ok (record d { shutdown_time = v })
process_key start (Some keys.ShutdownSignal) d p = optional p (signal_at p) >>= λ v. Ok (record d { shutdown_signal = v })
process_key start (Some keys.ExpectedFinalState) d p = optional p (state_at p) >>= λ v. Ok (record d { expected_final_state = v })
process_key start _ d p = refused UnknownKey p

abbrev pub process_row : Option Time → ProcessDraft → Pair → Result ProcessDraft ConfigFault
process_row start d p = process_key start (key_of p.key) d p

abbrev pub finished_process : ℕ → ProcessDraft → Result ProcessConfig ConfigFault
finished_process line d = do
  path ← needed (codes "path") line d.path
  Ok (record {
    path = path;
    args = d.args;
    environment = d.environment;
    start_time = unwrap_or d.start_time zero_time;
    shutdown_time = d.shutdown_time;
    shutdown_signal = unwrap_or d.shutdown_signal SigTerm;
    expected_final_state = unwrap_or d.expected_final_state (states.Exited 0);
  })

unfoldable pub process_of : ℕ → List Pair → Result ProcessConfig ConfigFault
process_of line pairs = through (process_row (start_in pairs)) new_process pairs >>= finished_process (mapping_line line pairs)

-- the bytes of a process's texts, each with a zero byte behind it; a variable's text is NAME=VALUE
abbrev pub texts_size : ProcessConfig → ℕ
texts_size c = (length c.path + 1) + (sum_by (λ a. length a + 1) c.args + sum_by (λ v. length v.name + length v.value + 2) c.environment)

-- what the mapping of a process says
unfoldable pub process_in : Pair → Result ProcessConfig ConfigFault
process_in p = mapping_at p >>= λ pairs. below p (process_of p.line pairs)

-- the texts of a process are looked at last
unfoldable pub process_at : Pair → Result ProcessConfig ConfigFault
process_at p = do
  c ← process_in p
  _ ← checked OutOfRange p (nat_le (texts_size c) most_text_bytes)
  Ok c

abbrev pub process_item : List ℕ → List ProcessConfig → Said → Result (List ProcessConfig) ConfigFault
process_item key before value = process_at (item key (length before) value) >>= λ c. Ok (before ++ c ∷ [])

-- at most 64 processes
unfoldable pub processes_at : Pair → Result (List ProcessConfig) ConfigFault
processes_at p = do
  items ← sequence_at p
  _ ← checked OutOfRange p (nat_le (length items) most_processes)
  through (process_item p.key) [] items
