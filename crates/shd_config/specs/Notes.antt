-- The notes of a configuration: the paths of the keys that have no effect, in document order. An absent key has no note.
use Rattle.std.specs.Prelude.{ℕ, Bool, true, false, ◌&&◌, not, if◌then◌else◌, List, [], ◌∷◌, ◌++◌, Option, Some, unwrap_or, codes}
use Rattle.std.specs.List.{flat_map}
use Rattle.yaml_merge.specs.Plain.{is_null, pairs_in}
use Rattle.yaml_merge.specs.declared.plain.Pair.{Pair}
use Rattle.shd_config.specs.declared.key.Key.{Key}
use Rattle.shd_config.specs.declared.key.Key.TheVariants as keys
use Rattle.shd_config.specs.Keys.{key_of}

abbrev pub general_has_no_effect : Option Key → Bool
general_has_no_effect (Some keys.LogLevel) = true
general_has_no_effect (Some keys.HeartbeatInterval) = true
general_has_no_effect (Some keys.Progress) = true
general_has_no_effect (Some keys.ModelUnblockedSyscallLatency) = true
general_has_no_effect _ = false

abbrev pub option_has_no_effect : Option Key → Bool
option_has_no_effect (Some keys.LogLevel) = true
option_has_no_effect _ = false

-- the path of a key below another one
abbrev pub path_behind : List ℕ → Pair → List ℕ
path_behind front p = front ++ (codes "." ++ p.key)

abbrev pub noted : Bool → List ℕ → Pair → List (List ℕ)
noted has_no_effect front p = if has_no_effect && not (is_null p.value) then path_behind front p ∷ [] else []

abbrev pub general_note : List ℕ → Pair → List (List ℕ)
general_note front p = noted (general_has_no_effect (key_of p.key)) front p

abbrev pub option_note : List ℕ → Pair → List (List ℕ)
option_note front p = noted (option_has_no_effect (key_of p.key)) front p

-- each key below `experimental` has its note, also one whose value is null
abbrev pub experimental_note : List ℕ → Pair → List (List ℕ)
experimental_note front p = path_behind front p ∷ []

-- the pairs of a value
abbrev pub held : Pair → List Pair
held p = unwrap_or (pairs_in p.value) []

abbrev pub host_key_notes : Option Key → List ℕ → Pair → List (List ℕ)
host_key_notes (Some keys.HostOptions) front p = flat_map (option_note (path_behind front p)) (held p)
host_key_notes _ front p = []

abbrev pub host_notes : List ℕ → Pair → List (List ℕ)
host_notes front p = host_key_notes (key_of p.key) front p

abbrev pub hosts_notes : List ℕ → Pair → List (List ℕ)
hosts_notes front p = flat_map (host_notes (path_behind front p)) (held p)

abbrev pub key_notes : Option Key → Pair → List (List ℕ)
key_notes (Some keys.General) p = flat_map (general_note p.key) (held p)
key_notes (Some keys.Experimental) p = flat_map (experimental_note p.key) (held p)
key_notes (Some keys.HostOptionDefaults) p = flat_map (option_note p.key) (held p)
key_notes (Some keys.Hosts) p = flat_map (hosts_notes p.key) (held p)
key_notes _ p = []

abbrev pub pair_notes : Pair → List (List ℕ)
pair_notes p = key_notes (key_of p.key) p

unfoldable pub notes : List Pair → List (List ℕ)
notes pairs = flat_map pair_notes pairs
