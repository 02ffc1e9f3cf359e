-- what is received and waits
use Rattle.std.proofs.Common.{◌≡◌, ℕ, ◌+◌, ◌-◌, ◌≤◌, List, ◌++◌, length, take, drop, min, sym, ap, ◌∙◌, arith, length-append}
use Rattle.std.proofs.lemmas.List.{drop-append-le, length-take, take_all}

-- no more is taken than the window holds
pub fits : (count window waiting : ℕ) (text : List ℕ) → count ≤ window → window ≡ 65535 - waiting → waiting ≤ 65535 → length (take count text) + waiting ≤ 65535
fits count window waiting text a b w = omega (arith, length-take count text)

-- bytes that fit are kept whole
pub all_kept : (bytes : List ℕ) (room : ℕ) → length bytes ≤ room → take (min (length bytes) room) bytes ≡ bytes
all_kept bytes room h = take_all (min (length bytes) room) bytes (omega arith)

pub ruleset kept = (all_kept, drop-append-le, length-append)
