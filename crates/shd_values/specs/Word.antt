-- Words with a meaning of their own: truth values, signals, names of hosts, paths of programs.
use Rattle.std.specs.Prelude.{ℕ, Bool, true, false, ◌&&◌, ◌||◌, not, ◌==◌, nat_lt, if◌then◌else◌, List, [], ◌∷◌, length, Option, Some, None, codes, find, slice_index, ◌-◌}
use Rattle.std.specs.List.{list_all}
use Rattle.std.specs.Char.{is_ascii_alphanumeric}
use Rattle.std.specs.Str.{bytes_eq}
use Rattle.sim_base.specs.Ascii.{hyphen, underscore, full_stop, slash}
use Rattle.sim_base.specs.Signal.{signal_name}
use Rattle.sim_base.specs.declared.signal.Signal.{Signal}
use Rattle.sim_base.specs.declared.signal.Signal.TheVariants.{SigHup, SigInt, SigQuit, SigIll, SigTrap, SigAbrt, SigBus, SigFpe, SigKill, SigUsr1, SigSegv, SigUsr2, SigPipe, SigAlrm, SigTerm, SigXcpu}

-- the signals that end a process
abbrev pub signals : List Signal
signals = SigHup ∷ SigInt ∷ SigQuit ∷ SigIll ∷ SigTrap ∷ SigAbrt ∷ SigBus ∷ SigFpe ∷ SigKill ∷ SigUsr1 ∷ SigSegv ∷ SigUsr2 ∷ SigPipe ∷ SigAlrm ∷ SigTerm ∷ SigXcpu ∷ []

-- the signal of this name, in upper case
abbrev pub signal_of : List ℕ → Option Signal
signal_of text = find (λ s. bytes_eq (signal_name s) text) signals

-- a truth value, in lower case, capitalised or in upper case
abbrev pub truth_of : List ℕ → Option Bool
truth_of word =
    if bytes_eq word (codes "true") || bytes_eq word (codes "True") || bytes_eq word (codes "TRUE") then Some true
    else (if bytes_eq word (codes "false") || bytes_eq word (codes "False") || bytes_eq word (codes "FALSE") then Some false else None)

-- a letter, a digit, `-`, `_` or `.`
abbrev pub is_name_byte : ℕ → Bool
is_name_byte b = is_ascii_alphanumeric b || b == hyphen || b == underscore || b == full_stop

-- the most bytes of a host's name (RFC 1123, section 2.1)
abbrev pub most_name_bytes : ℕ
most_name_bytes = 63

-- 1 to 63 letters, digits, `-`, `_` and `.`, the first of them a letter or a digit
abbrev pub is_name_of_host : List ℕ → Bool
is_name_of_host [] = false
is_name_of_host (b ∷ rest) = is_ascii_alphanumeric b && nat_lt (length rest) most_name_bytes && list_all is_name_byte rest

-- the last part of a path, behind its last `/`, isn't empty
abbrev pub names_program : List ℕ → Bool
names_program path = nat_lt 0 (length path) && not (slice_index path (length path - 1) == slash)
