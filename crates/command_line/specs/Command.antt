-- The command: its options, its flags and its word, and what clap finds in the words of a call.
use Rattle.std.specs.Prelude.{ℕ, List, Option, Some, Result, Ok, Err, Bool, false, if◌then◌else◌, codes}
use Rattle.std.specs.Str.{bytes_eq}
use Rattle.std.specs.Option.{option_map_or}
use Rattle.clap.specs.Faults.{fault_of}
use Rattle.clap.specs.Simple.{App, matches_of, new_app, new_rule, with_rule}
use Rattle.clap.specs.Walk.{Row, Rule, Text, first_of, is_empty}
use Rattle.clap.specs.declared.builder.action.ArgAction.TheVariants.{Set, SetTrue}
use Rattle.command_line.specs.declared.name.OptionName.{OptionName}
use Rattle.command_line.specs.declared.name.OptionName.TheVariants.{Seed, Parallelism, DataDirectory, StopTime, Budget, SelfLoad, ReadCapture}
use Rattle.command_line.specs.declared.fault.WordsFault.{WordsFault}
use Rattle.command_line.specs.declared.fault.WordsFault.TheVariants.{Usage}

abbrev pub name_text : OptionName → Text
name_text Seed = codes "seed"
name_text Parallelism = codes "parallelism"
name_text DataDirectory = codes "data-directory"
name_text StopTime = codes "stop-time"
name_text Budget = codes "budget"
name_text SelfLoad = codes "self-load"
name_text ReadCapture = codes "read-capture"

-- --NAME VALUE
abbrev pub option_rule : Text → Rule
option_rule name = record (new_rule name) { long = Some name; action = Some Set }

-- the letters p and d
abbrev pub letter_p : ℕ
letter_p = 112

abbrev pub letter_d : ℕ
letter_d = 100

-- --NAME VALUE or -L VALUE
abbrev pub short_option_rule : ℕ → Text → Rule
short_option_rule letter name = record (option_rule name) { short = Some letter }

-- --NAME
abbrev pub flag_rule : Text → Rule
flag_rule name = record (new_rule name) { long = Some name; action = Some SetTrue }

-- CONFIG
abbrev pub config_rule : Rule
config_rule = record (new_rule (codes "CONFIG")) { action = Some Set }

-- shadow [--seed N] [-p|--parallelism N] [-d|--data-directory DIR] [--stop-time T] [--budget N] [--self-load N] [--streams] [--read-capture FILE] [--show-config] [CONFIG]
unfoldable pub shadow_command : App
shadow_command = with_rule (with_rule (with_rule (with_rule (with_rule (with_rule (with_rule (with_rule (with_rule (with_rule (new_app (codes "shadow"))
    (option_rule (name_text Seed))) (short_option_rule letter_p (name_text Parallelism))) (short_option_rule letter_d (name_text DataDirectory)))
    (option_rule (name_text StopTime))) (option_rule (name_text Budget))) (option_rule (name_text SelfLoad))) (flag_rule (codes "streams"))) (option_rule (name_text ReadCapture)))
    (flag_rule (codes "show-config"))) config_rule

-- what the words give to the options, the flags and the word, where clap takes them
unfoldable pub found : List Text → Result (List Row) WordsFault
found words = if is_empty (fault_of shadow_command words) then Ok (matches_of shadow_command words) else Err Usage

-- the value of an option, if it is given
abbrev pub value_of : OptionName → List Row → Option Text
value_of name rows = first_of (name_text name) rows

-- the configuration's name, if it is given
abbrev pub config_of : List Row → Option Text
config_of rows = first_of (codes "CONFIG") rows

-- whether the flag of this name is given
abbrev pub is_given : Text → List Row → Bool
is_given name rows = option_map_or (λ text. bytes_eq text (codes "true")) (first_of name rows) false
