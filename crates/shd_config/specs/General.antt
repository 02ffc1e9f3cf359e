-- The key `general`.
use Rattle.std.specs.Prelude.{ℕ, List, Option, Some, None, is_some, unwrap_or, Result, Ok, codes}
use Rattle.sim_base.specs.Units.{max_u32}
use Rattle.sim_base.specs.Refusals.{◌>>=◌}
use Rattle.yaml_merge.specs.declared.plain.Pair.{Pair}
use Rattle.shd_config.specs.declared.fault.ConfigKind.TheVariants.{UnknownKey}
use Rattle.shd_config.specs.declared.fault.ConfigFault.{ConfigFault}
use Rattle.shd_config.specs.declared.key.Key.{Key}
use Rattle.shd_config.specs.declared.key.Key.TheVariants as keys
use Rattle.shd_config.specs.declared.general.General.{General}
use Rattle.shd_config.specs.declared.general.GeneralDraft.{GeneralDraft}
use Rattle.shd_config.specs.declared.overrides.Overrides.{Overrides}
use Rattle.shd_config.specs.Steps.{refused, needed, below, through, given, optional, mapping_line}
use Rattle.shd_config.specs.Keys.{key_of}
use Rattle.shd_config.specs.Values.{mapping_at, text_at, number_at, time_at, stop_time_at, text_with, is_some_text}

abbrev pub new_general : GeneralDraft
new_general = record { stop_time = None; seed = None; parallelism = None; bootstrap_end_time = None; data_directory = None }

-- A pair of `general`. Only what has no effect has no field.
abbrev pub general_key : Overrides → Option Key → GeneralDraft → Pair → Result GeneralDraft ConfigFault
general_key o (Some keys.StopTime) d p = given (is_some o.stop_time) p (stop_time_at p) >>= λ v. Ok (record d { stop_time = v })
general_key o (Some keys.Seed) d p = optional p (number_at 0 max_u32 p) >>= λ v. Ok (record d { seed = v })
general_key o (Some keys.Parallelism) d p = optional p (number_at 0 max_u32 p) >>= λ v. Ok (record d { parallelism = v })
general_key o (Some keys.BootstrapEndTime) d p = optional p (time_at p) >>= λ v. Ok (record d { bootstrap_end_time = v })
general_key o (Some keys.DataDirectory) d p = optional p (text_with is_some_text p) >>= λ v. Ok (record d { data_directory = v })
general_key o (Some keys.LogLevel) d p = optional p (text_at p) >>= λ _. Ok d
general_key o (Some keys.HeartbeatInterval) d p = optional p (text_at p) >>= λ _. Ok d
general_key o (Some keys.Progress) d p = optional p (text_at p) >>= λ _. Ok d
general_key o (Some keys.ModelUnblockedSyscallLatency) d p = optional p (text_at p) >>= λ _. Ok d
general_key o _ d p = refused UnknownKey p

abbrev pub general_row : Overrides → GeneralDraft → Pair → Result GeneralDraft ConfigFault
general_row o d p = general_key o (key_of p.key) d p

-- the value of an option of the command line, else the one that is given, if any
abbrev pub overridden : {A : Type 0} → Option A → Option A → Option A
overridden (Some x) y = Some x
overridden None y = y

-- what is set, with the defaults
abbrev pub finished_general : Overrides → ℕ → GeneralDraft → Result General ConfigFault
finished_general o line d = do
  stop_time ← needed (codes "stop_time") line (overridden o.stop_time d.stop_time)
  Ok (record {
    stop_time = stop_time;
    seed = unwrap_or (overridden o.seed d.seed) 1;
    parallelism = unwrap_or (overridden o.parallelism d.parallelism) 0;
    bootstrap_end_time = unwrap_or d.bootstrap_end_time (record { nanos = 0 });
    data_directory = unwrap_or (overridden o.data_directory d.data_directory) (codes "shadow.data");
  })

unfoldable pub general_of : Overrides → ℕ → List Pair → Result General ConfigFault
general_of o line pairs = through (general_row o) new_general pairs >>= finished_general o (mapping_line line pairs)

unfoldable pub general_at : Overrides → Pair → Result General ConfigFault
general_at o p = mapping_at p >>= λ pairs. below p (general_of o p.line pairs)
