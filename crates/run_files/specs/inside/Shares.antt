-- Lines in shares, and their texts joined.
use Rattle.std.specs.Prelude.{◌≡◌, ℕ, List, [], ◌∷◌, ◌++◌, Result, Ok, Err, flat_map, Vec}
use Rattle.std.specs.declared.alloc.Global.{Global}
use Rattle.sim_base.specs.declared.memory.NoMemory.{NoMemory}
use Rattle.host_link.specs.declared.line.Logged.{Logged}

-- the lines of shares, one share behind another
abbrev pub lines_in : List (Vec Logged Global) → List Logged
lines_in shares = flat_map (λ (share : Vec Logged Global). share.items) shares

-- there is each of these texts, and this text has them one behind another
unfoldable pub AreJoined : List (Result (List ℕ) NoMemory) → List ℕ → Type 0
AreJoined [] text = text ≡ []
AreJoined (Ok first ∷ rest) text = (left : List ℕ) × (text ≡ first ++ left) × AreJoined rest left
AreJoined (Err e ∷ rest) text = ⊥
