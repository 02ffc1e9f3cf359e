-- The kinds of values.
use Rattle.std.specs.Prelude.{ℕ, Bool, ◌&&◌, not, if◌then◌else◌, nat_lt, nat_le, List, length, Option, Result, Ok}
use Rattle.std.specs.Option.{option_map}
use Rattle.base_texts.specs.Quantity.{time_of_text, rate_of_text}
use Rattle.sim_base.specs.Units.{latest_time}
use Rattle.sim_base.specs.declared.time.Time.{Time}
use Rattle.sim_base.specs.declared.address.Ip.{Ip}
use Rattle.sim_base.specs.declared.signal.Signal.{Signal}
use Rattle.shd_values.specs.Number.{number_of, size_of}
use Rattle.shd_values.specs.Address.{address_of}
use Rattle.shd_values.specs.Word.{truth_of, signal_of}
use Rattle.sim_base.specs.Refusals.{◌>>=◌}
use Rattle.yaml_tree.specs.Said.{Said}
use Rattle.yaml_merge.specs.Plain.{text_in, items_in, pairs_in}
use Rattle.yaml_merge.specs.declared.plain.Pair.{Pair}
use Rattle.shd_config.specs.declared.fault.ConfigKind.TheVariants.{WrongType, OutOfRange, BadValue}
use Rattle.shd_config.specs.declared.fault.ConfigFault.{ConfigFault}
use Rattle.shd_config.specs.Steps.{refused, valued, checked}
use Rattle.shd_config.specs.Bounds.{greatest_capture}

-- a mapping
abbrev pub mapping_at : Pair → Result (List Pair) ConfigFault
mapping_at p = valued WrongType p (pairs_in p.value)

-- a sequence
abbrev pub sequence_at : Pair → Result (List Said) ConfigFault
sequence_at p = valued WrongType p (items_in p.value)

-- a scalar
abbrev pub text_at : Pair → Result (List ℕ) ConfigFault
text_at p = valued WrongType p (text_in p.value)

-- a scalar of a grammar
abbrev pub scalar_at : {A : Type 0} → (List ℕ → Option A) → Pair → Result A ConfigFault
scalar_at grammar p = text_at p >>= λ text. valued BadValue p (grammar text)

-- a value that is in its range
abbrev pub ranged : {A : Type 0} → (A → Bool) → Pair → A → Result A ConfigFault
ranged test p x = if test x then Ok x else refused OutOfRange p

abbrev pub is_within : ℕ → ℕ → ℕ → Bool
is_within least most n = nat_le least n && nat_le n most

-- a whole number from the least to the most
abbrev pub number_at : ℕ → ℕ → Pair → Result ℕ ConfigFault
number_at least most p = scalar_at number_of p >>= ranged (is_within least most) p

-- a size in bytes from 1 to 65,535
abbrev pub size_at : Pair → Result ℕ ConfigFault
size_at p = scalar_at size_of p >>= ranged (is_within 1 greatest_capture) p

abbrev pub time_of : List ℕ → Option Time
time_of text = option_map (λ n. record { nanos = n }) (time_of_text text)

abbrev pub time_at : Pair → Result Time ConfigFault
time_at p = scalar_at time_of p

-- 1 ns to 2^61 ns
abbrev pub may_stop_at : Time → Bool
may_stop_at t = is_within 1 latest_time t.nanos

abbrev pub stop_time_at : Pair → Result Time ConfigFault
stop_time_at p = time_at p >>= ranged may_stop_at p

-- bits a second, at least 1
abbrev pub rate_at : Pair → Result ℕ ConfigFault
rate_at p = scalar_at rate_of_text p >>= ranged (λ n. nat_lt 0 n) p

abbrev pub truth_at : Pair → Result Bool ConfigFault
truth_at p = scalar_at truth_of p

abbrev pub signal_at : Pair → Result Signal ConfigFault
signal_at p = scalar_at signal_of p

-- not in 0.0.0.0/8 nor 127.0.0.0/8, and below 224.0.0.0
abbrev pub may_be_host : Ip → Bool
may_be_host ip = is_within 0x0100_0000 0xdfff_ffff ip.bits && not (is_within 0x7f00_0000 0x7fff_ffff ip.bits)

abbrev pub address_at : Pair → Result Ip ConfigFault
address_at p = scalar_at address_of p >>= ranged may_be_host p

-- a text of which a test holds
abbrev pub text_with : (List ℕ → Bool) → Pair → Result (List ℕ) ConfigFault
text_with test p = do
  text ← text_at p
  _ ← checked BadValue p (test text)
  Ok text

abbrev pub is_some_text : List ℕ → Bool
is_some_text text = nat_lt 0 (length text)
