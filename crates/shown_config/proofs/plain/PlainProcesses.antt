-- What a process is that is read from a good tree.
use Rattle.std.proofs.Common.{◌≡◌, ℕ, ◌≤◌, true, List, [], length, Option, Some, None, IfSome, IfOk, IsUtf8, codes, unwrap_or, nat_le, Ok, Err, refl, sym, ap, ◌∙◌, subst, arith, ltb-true, leb-true}
use Rattle.std.specs.List.{AllByRecursion}
use Rattle.std.proofs.lemmas.List.Elements.{All-from_recursion}
use Rattle.sim_base.specs.declared.time.Time.{Time}
use Rattle.sim_base.proofs.RefusalLemmas.{then_has, then_all, weaker}
use Rattle.shd_config.proofs.Walks.{checked_has, below_has, needed_has, optional_has, Read}
use Rattle.shd_values.specs.Word.{names_program}
use Rattle.yaml_tree.specs.Said.{Said}
use Rattle.yaml_merge.specs.declared.plain.Pair.{Pair}
use Rattle.host_rows.specs.declared.row.FinalState.TheVariants.{Exited}
use Rattle.shd_config.specs.declared.config.ProcessConfig.{ProcessConfig}
use Rattle.shd_config.specs.declared.key.Key.{Key}
use Rattle.shd_config.specs.declared.key.Key.TheVariants as keys
use Rattle.shd_config.specs.declared.process.ProcessDraft.{ProcessDraft}
use Rattle.shd_config.specs.declared.fault.ConfigKind.TheVariants.{OutOfRange}
use Rattle.shd_config.specs.Steps.{needed, through, optional, item}
use Rattle.shd_config.specs.Keys.{key_of}
use Rattle.shd_config.specs.Values.{mapping_at, sequence_at, time_at, signal_at, text_with}
use Rattle.shd_config.specs.Process.{arguments_at, environment_at, state_at, zero_time, start_in, is_behind, shutdown_at, new_process, process_key, process_row, finished_process, process_of, process_in, process_at, process_item, processes_at, texts_size}
use Rattle.shown_config.specs.Plain.{AreApart, IsPlainVariable, IsPlainState, IsShutdown, IsPlainProcess}
use Rattle.shown_config.proofs.plain.Has.{ranged_has, or_default_has, through_keeps, IsPushed, ArePushed, through_pushes, read_length, read_each}
use Rattle.shown_config.proofs.plain.GoodTrees.{IsGood, IsGoodPair, AreGoodPairs, keys_in}
use Rattle.shown_config.proofs.plain.PlainValues.{mapping_has, sequence_has, IsSmall, time_has, text_with_has}
use Rattle.shown_config.proofs.plain.PlainLists.{IsEnvironment, no_environment, arguments_has, environment_has, state_has}
use Rattle.shown_config.proofs.plain.Starts.{IsKnown, start_known}

-- ---- a process

abbrev IsProgram : List ℕ → Type 0
IsProgram path = IsUtf8 path × (names_program path ≡ true)

-- a shutdown that is behind the start, if that is known
abbrev IsBehind : Option Time → Time → Type 0
IsBehind start t = (is_behind start t ≡ true) × IsSmall t

record IsDraft (start : Option Time) (d : ProcessDraft) : Type 0 where
  path : IfSome d.path IsProgram
  args : AllByRecursion IsUtf8 d.args
  pub environment : IsEnvironment d.environment
  begins : IfSome d.start_time IsSmall
  shutdown : IfSome d.shutdown_time (IsBehind start)
  pub state : IfSome d.expected_final_state IsPlainState

shutdown_has : (start : Option Time) (p : Pair) → IfOk (shutdown_at start p) (IsBehind start)
shutdown_has start p = then_has IsSmall (IsBehind start) (time_at p) _ (time_has p) (λ t k. ranged_has (IsBehind start) (is_behind start) p t (λ e. (e, k)))

module _ (start : Option Time) where
  process_key_has : (key : Option Key) (d : ProcessDraft) (p : Pair) → IsDraft start d → IsGoodPair p → IfOk (process_key start key d p) (IsDraft start)
  process_key_has (Some keys.Path) d p h g =
      then_has IsProgram (IsDraft start) (text_with names_program p) _ (text_with_has names_program p g.value)
      (λ v k. record { path = k; args = h.args; environment = h.environment; begins = h.begins; shutdown = h.shutdown; state = h.state })
  process_key_has (Some keys.Args) d p h g =
      then_has (λ v. IfSome v (AllByRecursion IsUtf8)) (IsDraft start) (optional p (arguments_at p)) _ (optional_has (AllByRecursion IsUtf8) p (arguments_at p) (arguments_has p g.value))
      (λ v k. record { path = h.path; args = or_default_has (AllByRecursion IsUtf8) v [] k tt; environment = h.environment; begins = h.begins; shutdown = h.shutdown; state = h.state })
  process_key_has (Some keys.Environment) d p h g =
      then_has (λ v. IfSome v IsEnvironment) (IsDraft start) (optional p (environment_at p)) _ (optional_has IsEnvironment p (environment_at p) (environment_has p g.value))
      (λ v k. record { path = h.path; args = h.args; environment = or_default_has IsEnvironment v [] k no_environment; begins = h.begins; shutdown = h.shutdown; state = h.state })
  process_key_has (Some keys.StartTime) d p h g =
      then_has (λ v. IfSome v IsSmall) (IsDraft start) (optional p (time_at p)) _ (optional_has IsSmall p (time_at p) (time_has p))
      (λ v k. record { path = h.path; args = h.args; environment = h.environment; begins = k; shutdown = h.shutdown; state = h.state })
  process_key_has (Some keys.ShutdownTime) d p h g =
      then_has (λ v. IfSome v (IsBehind start)) (IsDraft start) (optional p (shutdown_at start p)) _ (optional_has (IsBehind start) p (shutdown_at start p) (shutdown_has start p))
      (λ v k. record { path = h.path; args = h.args; environment = h.environment; begins = h.begins; shutdown = k; state = h.state })
  process_key_has (Some keys.ShutdownSignal) d p h g =
      then_all (IsDraft start) (optional p (signal_at p)) _
      (λ v. record { path = h.path; args = h.args; environment = h.environment; begins = h.begins; shutdown = h.shutdown; state = h.state })
  process_key_has (Some keys.ExpectedFinalState) d p h g =
      then_has (λ v. IfSome v IsPlainState) (IsDraft start) (optional p (state_at p)) _ (optional_has IsPlainState p (state_at p) (state_has p g.value))
      (λ v k. record { path = h.path; args = h.args; environment = h.environment; begins = h.begins; shutdown = h.shutdown; state = k })
  process_key_has _ d p h g = tt

no_draft : (start : Option Time) → IsDraft start new_process
no_draft start = record { path = tt; args = tt; environment = no_environment; begins = tt; shutdown = tt; state = tt }

-- a process is plain where its texts are few
abbrev IsPlainIfFew : ProcessConfig → Type 0
IsPlainIfFew c = texts_size c ≤ 65536 → IsPlainProcess c

behind : (start : Option Time) (first : Time) (o : Option Time) → start ≡ Some first → IfSome o (IsBehind start) → IfSome o (IsShutdown first)
behind start first None e h = tt
behind start first (Some t) e h = (ltb-true first.nanos t.nanos (sym (ap (λ s. is_behind s t) e) ∙ h.0), h.1)

finished_has : (start : Option Time) (line : ℕ) (d : ProcessDraft) → start ≡ Some (unwrap_or d.start_time zero_time) → IsDraft start d → IfOk (finished_process line d) IsPlainIfFew
finished_has start line d e h =
    then_has IsProgram IsPlainIfFew (needed (codes "path") line d.path) _ (needed_has IsProgram (codes "path") line d.path h.path)
    (λ path k few. record {
      path = k.0;
      program = k.1;
      args = All-from_recursion IsUtf8 d.args h.args;
      environment = All-from_recursion IsPlainVariable d.environment h.environment.each;
      apart = h.environment.apart;
      start = or_default_has IsSmall d.start_time zero_time h.begins (omega arith);
      shutdown = behind start (unwrap_or d.start_time zero_time) d.shutdown_time e h.shutdown;
      state = or_default_has IsPlainState d.expected_final_state (Exited 0) h.state (omega arith);
      few = few;
    })

both_have : {A : Type 0} (P Q : A → Type 0) (read : Read A) → IfOk read P → IfOk read Q → IfOk read (λ a. P a × Q a)
both_have P Q (Ok a) h k = (h, k)
both_have P Q (Err f) h k = tt

process_of_has : (line : ℕ) (pairs : List Pair) → AllByRecursion IsGoodPair pairs → AreApart (keys_in pairs) → IfOk (process_of line pairs) IsPlainIfFew
unfolding process_of
process_of_has line pairs h a =
    let start = start_in pairs in
    then_has (λ d. IsDraft start d × IsKnown start pairs d) IsPlainIfFew (through (process_row start) new_process pairs) _
    (both_have (IsDraft start) (IsKnown start pairs) (through (process_row start) new_process pairs)
    (through_keeps (IsDraft start) IsGoodPair (process_row start) (λ d p k g. process_key_has start (key_of p.key) d p k g) new_process pairs (no_draft start) h)
    (start_known start new_process pairs refl a))
    (λ d k. finished_has start _ d k.1 k.0)

process_has : (p : Pair) → IsGood p.value → IfOk (process_at p) IsPlainProcess
unfolding process_at process_in
process_has p g =
    then_has IsPlainIfFew IsPlainProcess (process_in p) _
    (then_has (AreGoodPairs p.value) IsPlainIfFew (mapping_at p) _ (mapping_has p g) (λ pairs k. below_has IsPlainIfFew p (process_of p.line pairs) (process_of_has p.line pairs k.each k.apart)))
    (λ c k. checked_has IsPlainProcess OutOfRange p (nat_le (texts_size c) 65536) _ (λ e. k (leb-true (texts_size c) 65536 e)))

-- ---- processes

abbrev pub ArePlainProcesses : List ProcessConfig → Type 0
ArePlainProcesses ps = (length ps ≤ 64) × AllByRecursion IsPlainProcess ps

process_pushed : (key : List ℕ) (before : List ProcessConfig) (value : Said) → IsGood value → IfOk (process_item key before value) (IsPushed (λ _. IsPlainProcess) value before)
process_pushed key before value g =
    then_has IsPlainProcess (IsPushed (λ _. IsPlainProcess) value before) (process_at (item key (length before) value)) _ (process_has (item key (length before) value) g)
    (λ c k. record { last = c; read = k; is = refl })

pub processes_has : (p : Pair) → IsGood p.value → IfOk (processes_at p) ArePlainProcesses
unfolding processes_at
processes_has p g =
    then_has (AllByRecursion IsGood) ArePlainProcesses (sequence_at p) _ (sequence_has p g)
    (λ items h. checked_has ArePlainProcesses OutOfRange p (nat_le (length items) 64) _
    (λ e. weaker (ArePushed (λ _. IsPlainProcess) items []) ArePlainProcesses (through (process_item p.key) [] items)
    (through_pushes (λ _. IsPlainProcess) IsGood (process_item p.key) (λ before value k. process_pushed p.key before value k) [] items h)
    (λ all more. (let few = leb-true (length items) 64 e in let count = read_length (λ (_ : Said). IsPlainProcess) items more.more more.read in
    subst ArePlainProcesses (sym more.are) (omega (arith, few, count), read_each (λ (_ : Said). IsPlainProcess) IsPlainProcess (λ a b r. r) items more.more more.read)))))
