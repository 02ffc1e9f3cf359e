-- Reading step by step: a value, or the first fault. The path of a fault begins at the mapping that is read.
use Rattle.std.specs.Prelude.{◌≡◌, ℕ, Bool, ◌&&◌, if◌then◌else◌, List, [], ◌∷◌, ◌++◌, Option, Some, None, Result, Ok, Err, codes}
use Rattle.std.specs.Fmt.{decimal}
use Rattle.sim_base.specs.Refusals.{◌>>=◌}
use Rattle.yaml_tree.specs.Said.{Said}
use Rattle.yaml_merge.specs.Plain.{is_null, line_of}
use Rattle.yaml_merge.specs.declared.plain.Pair.{Pair}
use Rattle.shd_config.specs.declared.fault.ConfigKind.{ConfigKind}
use Rattle.shd_config.specs.declared.fault.ConfigKind.TheVariants.{Missing}
use Rattle.shd_config.specs.declared.fault.ConfigFault.{ConfigFault}
use Rattle.shd_config.specs.declared.fault.ConfigError.{ConfigError}
use Rattle.shd_config.specs.declared.fault.ConfigError.TheVariants as errors

-- the fault of a pair stands at the line of its key
abbrev pub fault_at : ConfigKind → Pair → ConfigFault
fault_at kind p = record { line = p.line; path = p.key; kind = kind }

abbrev pub refused : {A : Type 0} → ConfigKind → Pair → Result A ConfigFault
refused kind p = Err (fault_at kind p)

-- the fault of a key that a mapping lacks stands at the line of the mapping
abbrev pub lack_at : List ℕ → ℕ → ConfigFault
lack_at key line = record { line = line; path = key; kind = Missing }

abbrev pub needed : {A : Type 0} → List ℕ → ℕ → Option A → Result A ConfigFault
needed key line (Some x) = Ok x
needed key line None = Err (lack_at key line)

-- a value, or a fault of this kind where there is none
abbrev pub valued : {A : Type 0} → ConfigKind → Pair → Option A → Result A ConfigFault
valued kind p (Some x) = Ok x
valued kind p None = refused kind p

-- a fault where the test fails
abbrev pub checked : ConfigKind → Pair → Bool → Result (Unit {0}) ConfigFault
checked kind p passes = if passes then Ok tt else refused kind p

-- the path of a fault below a pair goes on behind the pair's key
abbrev pub path_below : List ℕ → ConfigFault → ConfigFault
path_below front f = record f { path = front ++ (codes "." ++ f.path) }

abbrev pub below : {A : Type 0} → Pair → Result A ConfigFault → Result A ConfigFault
below p (Ok x) = Ok x
below p (Err f) = Err (path_below p.key f)

-- a step for each item, from the left on, up to the first fault
abbrev pub through : {S A : Type 0} → (S → A → Result S ConfigFault) → S → List A → Result S ConfigFault
through step s [] = Ok s
through step s (x ∷ xs) = step s x >>= λ next. through step next xs

-- a key that may be absent is absent where its value is null
abbrev pub given : {A : Type 0} → Bool → Pair → Result A ConfigFault → Result (Option A) ConfigFault
given may_be_absent p read = if may_be_absent && is_null p.value then Ok None else (read >>= λ x. Ok (Some x))

abbrev pub optional : {A : Type 0} → Pair → Result A ConfigFault → Result (Option A) ConfigFault
optional p read = if is_null p.value then Ok None else (read >>= λ x. Ok (Some x))

-- the line of a mapping is that of its first key; that of an empty one is given
abbrev pub mapping_line : ℕ → List Pair → ℕ
mapping_line line [] = line
mapping_line line (p ∷ ps) = p.line

-- An item of the sequence of a key, as `processes[0]`, stands where its node begins.
abbrev pub item : List ℕ → ℕ → Said → Pair
item key n value = record { line = line_of value; key = key ++ (codes "[" ++ (decimal n ++ codes "]")); value = value }

-- ---- what the code answers

-- the error is this fault, want of memory aside
abbrev pub IsFault : ConfigError → ConfigFault → Type 0
IsFault (errors.Fault f) fault = f ≡ fault
IsFault errors.NoMemory fault = Unit {0}

-- an error below a path is the changed fault, want of memory aside
abbrev pub IsBelow : List ℕ → ConfigError → ConfigError → Type 0
IsBelow front (errors.Fault f) error = IsFault error (path_below front f)
IsBelow front errors.NoMemory error = error ≡ errors.NoMemory

-- the error that was answered is that of the definition, want of memory aside
abbrev pub Fails : {A : Type 0} → ConfigError → Result A ConfigFault → Type 0
Fails (errors.Fault f) read = read ≡ Err f
Fails errors.NoMemory read = Unit {0}

-- what was answered is what the definition gives, want of memory aside
abbrev pub Gives : {A : Type 0} → Result A ConfigError → Result A ConfigFault → Type 0
Gives (Ok x) read = read ≡ Ok x
Gives (Err e) read = Fails e read

-- the same of what is seen by view
abbrev pub GivesSeen : {A B : Type 0} → (A → B) → Result A ConfigError → Result B ConfigFault → Type 0
GivesSeen view (Ok x) read = read ≡ Ok (view x)
GivesSeen view (Err e) read = Fails e read

-- the same where the value is what stands there then
abbrev pub Sets : {A : Type 0} → Result (Unit {0}) ConfigError → A → Result A ConfigFault → Type 0
Sets (Ok _) now read = read ≡ Ok now
Sets (Err e) now read = Fails e read

-- the same where the value itself isn't kept
abbrev pub Passes : {A : Type 0} → Result (Unit {0}) ConfigError → Result A ConfigFault → Type 0
Passes {A} (Ok _) read = (x : A) × (read ≡ Ok x)
Passes (Err e) read = Fails e read
