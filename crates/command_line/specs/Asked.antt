-- What a command line asks for, or its first fault.
use Rattle.std.specs.Prelude.{◌≡◌, ℕ, ◌&&◌, List, length, Option, Some, None, option_map, option_and_then, unwrap_or, Result, Ok, Err, Bool, if◌then◌else◌, nat_le, nat_lt, codes}
use Rattle.std.specs.Char.{is_ascii_digit}
use Rattle.std.specs.List.{list_all}
use Rattle.std.specs.Str.Parse.{digits_value}
use Rattle.sim_base.specs.Limits.{most_ring_hosts}
use Rattle.sim_base.specs.Units.{latest_time, max_u32}
use Rattle.base_texts.specs.Quantity.{time_of_text}
use Rattle.sim_base.specs.declared.time.Time.{Time}
use Rattle.clap.specs.Walk.{Row, Text}
use Rattle.command_line.specs.Command.{found, value_of, config_of, is_given}
use Rattle.sim_base.specs.Refusals.{◌>>=◌, or_refuse}
use Rattle.command_line.specs.declared.asked.Asked.{Asked}
use Rattle.command_line.specs.declared.asked.Choice.{Choice}
use Rattle.command_line.specs.declared.asked.Choice.TheVariants as choice
use Rattle.command_line.specs.declared.asked.Subject.{Subject}
use Rattle.command_line.specs.declared.asked.Subject.TheVariants as subject
use Rattle.command_line.specs.declared.fault.WordsError.{WordsError}
use Rattle.command_line.specs.declared.fault.WordsError.TheVariants.{Refused, NoMemory}
use Rattle.command_line.specs.declared.fault.WordsFault.{WordsFault}
use Rattle.command_line.specs.declared.fault.WordsFault.TheVariants.{Usage, BadOption}
use Rattle.command_line.specs.declared.name.OptionName.{OptionName}
use Rattle.command_line.specs.declared.name.OptionName.TheVariants.{Seed, Parallelism, DataDirectory, StopTime, Budget, SelfLoad, ReadCapture}

-- ---- values

-- decimal digits, one at least
abbrev pub is_decimal : Text → Bool
is_decimal text = nat_lt 0 (length text) && list_all is_ascii_digit text

abbrev pub if_within : ℕ → ℕ → ℕ → Option ℕ
if_within least most n = if nat_le least n && nat_le n most then Some n else None

-- a number from `least` to `most`, in decimal digits
abbrev pub number_within : ℕ → ℕ → Text → Option ℕ
number_within least most text = if is_decimal text then if_within least most (digits_value 10 text) else None

-- a text that isn't empty
abbrev pub some_text : Text → Option Text
some_text text = if nat_lt 0 (length text) then Some text else None

-- a time from 1 ns to the latest time
abbrev pub stop_time_of : Text → Option Time
stop_time_of text = option_map (λ (n : ℕ). record { nanos = n }) (option_and_then (if_within 1 latest_time) (time_of_text text))

-- the value of an option, if it is given; one that can't be read is refused
abbrev pub read_option : {A : Type 0} → OptionName → (Text → Option A) → Option Text → Result (Option A) WordsFault
read_option name read None = Ok None
read_option name read (Some text) = or_refuse (option_map (λ a. Some a) (read text)) (BadOption name)

-- ---- what is to be read

-- a configuration's name, the text of a self-load's size, or a capture's name
pub data Chosen : Type 0 where
  config : Text → Chosen
  self_load : Text → Chosen
  capture : Text → Chosen

-- exactly one of the three is given
abbrev pub chosen : Option Text → Option Text → Option Text → Result Chosen WordsFault
chosen (Some name) None None = Ok (config name)
chosen None (Some size) None = Ok (self_load size)
chosen None None (Some name) = Ok (capture name)
chosen _ _ _ = Err Usage

-- the choice of the code
abbrev pub choice_of : Choice → Chosen
choice_of (choice.Config name) = config name.now
choice_of (choice.SelfLoad size) = self_load size.now
choice_of (choice.Capture name) = capture name.now

-- `-` is the name of standard input; a self-load has two hosts at least
abbrev pub subject_of : Chosen → Result Subject WordsFault
subject_of (config name) = Ok (subject.File name)
subject_of (self_load size) = do
  hosts ← or_refuse (number_within 2 most_ring_hosts size) (BadOption SelfLoad)
  Ok (subject.SelfLoad hosts)
subject_of (capture name) = Ok (subject.Capture name)

-- how many instructions a turn takes at most, and where nothing is said
abbrev pub greatest_budget : ℕ
greatest_budget = 1000000000

abbrev pub default_budget : ℕ
default_budget = 10000000

-- what the options override, each with the bounds of its value
abbrev pub seed_of : List Row → Result (Option ℕ) WordsFault
seed_of rows = read_option Seed (number_within 0 max_u32) (value_of Seed rows)

abbrev pub parallelism_of : List Row → Result (Option ℕ) WordsFault
parallelism_of rows = read_option Parallelism (number_within 0 max_u32) (value_of Parallelism rows)

abbrev pub data_directory_of : List Row → Result (Option Text) WordsFault
data_directory_of rows = read_option DataDirectory some_text (value_of DataDirectory rows)

abbrev pub stop_of : List Row → Result (Option Time) WordsFault
stop_of rows = read_option StopTime stop_time_of (value_of StopTime rows)

abbrev pub budget_of : List Row → Result (Option ℕ) WordsFault
budget_of rows = read_option Budget (number_within 1 greatest_budget) (value_of Budget rows)

-- the faults in their order: the words, what is to be read, and then the options
unfoldable pub asked : List Text → Result Asked WordsFault
asked words = do
  rows ← found words
  choice ← chosen (config_of rows) (value_of SelfLoad rows) (value_of ReadCapture rows)
  seed ← seed_of rows
  parallelism ← parallelism_of rows
  directory ← data_directory_of rows
  stop ← stop_of rows
  budget ← budget_of rows
  subject ← subject_of choice
  Ok (record {
    subject = subject;
    seed = seed;
    parallelism = parallelism;
    data_directory = directory;
    stop_time = stop;
    budget = unwrap_or budget default_budget;
    streams = is_given (codes "streams") rows;
    shows_config = is_given (codes "show-config") rows;
  })

-- ---- what calls answer

-- the call answers what a definition gives, or its fault, if memory sufficed
module _ {A B : Type 0} (view : A → B) (defined : Result B WordsFault) where
  abbrev pub Meets : Result A WordsError → Type 0
  Meets (Ok a) = defined ≡ Ok (view a)
  Meets (Err (Refused fault)) = defined ≡ Err fault
  Meets (Err NoMemory) = Unit {0}
