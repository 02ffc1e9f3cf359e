-- What each step of merging gives.
use Rattle.std.specs.Prelude.{◌≡◌, ℕ, ◌+◌, List, [], ◌∷◌, ◌++◌, Result, Ok, Err, if◌then◌else◌}
use Rattle.yaml_tree.specs.Said.{Said}
use Rattle.yaml_tree.specs.Said.Said.{null, text, sequence, mapping, with_item}
use Rattle.yaml_tree.specs.declared.entries.Child.{Child}
use Rattle.yaml_tree.specs.declared.node.Node.{Node}
use Rattle.yaml_tree.specs.declared.node.Value.{Value}
use Rattle.yaml_tree.specs.declared.node.Value.TheVariants.{Null, Text, Sequence, Mapping}
use Rattle.yaml_merge.specs.inside.Held.{HoldsPlain, valid_text, keys_in}
use Rattle.yaml_merge.specs.Sources.{sources}
use Rattle.yaml_merge.specs.Merge.{is_merge_key, has, keys_of, new_pairs, below, item_place, with_merged, merged}
use Rattle.yaml_merge.specs.declared.plain.Pair.{Pair}
use Rattle.yaml_merge.specs.declared.fault.MergeFault.{MergeFault}
use Rattle.yaml_merge.specs.declared.fault.MergeError.{MergeError}
use Rattle.yaml_merge.specs.declared.fault.MergeError.TheVariants as errors

-- the error is this fault, want of memory aside
abbrev pub IsFault : MergeError → MergeFault → Type 0
IsFault (errors.Fault f) fault = f ≡ fault
IsFault errors.NoMemory fault = Unit {0}

-- an error below a place is the changed fault, want of memory aside
abbrev pub IsBelow : (MergeFault → MergeFault) → MergeError → MergeError → Type 0
IsBelow change (errors.Fault f) error = IsFault error (change f)
IsBelow change errors.NoMemory error = error ≡ errors.NoMemory

-- the error that was answered is that of the definition, want of memory aside
abbrev pub Fails : {A : Type 0} → MergeError → Result A MergeFault → Type 0
Fails (errors.Fault fault) read = read ≡ Err fault
Fails errors.NoMemory read = Unit {0}

-- what was answered, seen by view, is what the definition gives, want of memory aside
abbrev pub Gives : {A B : Type 0} → (A → B) → Result A MergeError → Result B MergeFault → Type 0
Gives view (Ok x) read = read ≡ Ok (view x)
Gives view (Err e) read = Fails e read

-- the fault of a first step is that of the whole; from what it makes the rest goes on
abbrev pub LeadsTo : Result Said MergeFault → (Said → Type 0) → Result Said MergeFault → Type 0
LeadsTo (Ok made) rest whole = rest made
LeadsTo (Err fault) rest whole = whole ≡ Err fault

-- the trees that these nodes hold, merged, behind the items before, are this
abbrev pub ItemsMergeTo : ℕ → List Node → Said → ℕ → List ℕ → Result Said MergeFault → Type 0
ItemsMergeTo most nodes before i [] whole = whole ≡ Ok before
ItemsMergeTo most nodes before i (n ∷ ns) whole = (value : Said) × HoldsPlain most nodes n value
    × LeadsTo (below (item_place i) value (merged value)) (λ v. ItemsMergeTo most nodes (with_item before v) (i + 1) ns whole) whole

-- the pairs that these entries hold, merged, behind those before, in a mapping, are this
abbrev pub EntriesMergeTo : ℕ → List Node → Said → Said → List (List ℕ × Child) → Result Said MergeFault → Type 0
EntriesMergeTo most nodes all before [] whole = whole ≡ Ok before
EntriesMergeTo most nodes all before (e ∷ es) whole = (value : Said) × HoldsPlain most nodes e.1.node value
    × LeadsTo (with_merged all before e.1.line (valid_text e.0) value (merged value)) (λ b. EntriesMergeTo most nodes all b es whole) whole

-- what a node with this line and this value holds, merged, is this
abbrev pub ValueMergesTo : ℕ → List Node → ℕ → Value → Result Said MergeFault → Type 0
ValueMergesTo most nodes line Null whole = whole ≡ Ok (null line)
ValueMergesTo most nodes line (Text bytes) whole = whole ≡ Ok (text line (valid_text bytes))
ValueMergesTo most nodes line (Sequence numbers) whole = ItemsMergeTo most nodes (sequence line) 0 numbers whole
ValueMergesTo most nodes line (Mapping entries) whole = (all : Said) × (keys_of all ≡ keys_in entries) × EntriesMergeTo most nodes all (mapping line) entries whole

-- what is put for a pair of a mapping with these keys
abbrev pub pairs_put : List (List ℕ) → ℕ → List ℕ → Said → List Pair
pairs_put keys line key value = if is_merge_key key then new_pairs keys (sources value) else (record { line = line; key = key; value = value }) ∷ []

-- the keys with one more, which is taken once
abbrev pub with_key : List (List ℕ) → List ℕ → List (List ℕ)
with_key taken key = if has key taken then taken else taken ++ key ∷ []
