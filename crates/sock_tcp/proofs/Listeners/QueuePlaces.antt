-- the places of the accept queue
use Rattle.std.proofs.Common.{◌≡◌, ℕ, ◌+◌, ◌-◌, ◌==◌, ◌<◌, ◌≤◌, List, [], ◌∷◌, ◌++◌, length, set, Bool, true, false, not, nat_lt, if◌then◌else◌, map, refl, sym, subst, arith, length-append}
use Rattle.std.specs.List.{All, filter, remove}
use Rattle.std.proofs.lemmas.Bool.Decides.{nat_tests}
use Rattle.std.proofs.lemmas.List.Edits.{length-remove}
use Rattle.std.proofs.lemmas.List.Elements.{All-nil, All-cons, All-head, All-tail, All-weaker}
use Rattle.std.proofs.Math.ListN.{length-set}
use Rattle.sock_tcp.specs.connection.Tcb.{Tcb}
use Rattle.sock_tcp.specs.listener.Listen.{is_elsewhere, place_past, places_past}

-- more records
pub below_more : (n m : ℕ) (places : List ℕ) → n ≤ m → All (λ place. place < n) places → All (λ place. place < m) places
below_more n m places b h = All-weaker (λ place. place < n) (λ place. place < m) (λ place k. omega arith) places h

pub below_set : (records : List Tcb) (at : ℕ) (r : Tcb) (places : List ℕ) → All (λ place. place < length records) places → All (λ place. place < length (set records at r)) places
below_set records at r places h = below_more (length records) (length (set records at r)) places (omega (arith, length-set records at r)) h

pub below_push : (records : List Tcb) (r : Tcb) (places : List ℕ) → All (λ place. place < length records) places → All (λ place. place < length (records ++ r ∷ [])) places
below_push records r places h = below_more (length records) (length (records ++ r ∷ [])) places (omega (arith, length-append records (r ∷ []))) h

-- one record less
past_below : (gone place n : ℕ) → not (place == gone) ≡ true → gone < n + 1 → place < n + 1 → (if nat_lt gone place then place - 1 else place) < n
past_below gone place n e a b = grind (arith, nat_tests)

kept_if : (gone place n : ℕ) (rest : List ℕ) (b : Bool) → not (place == gone) ≡ b → gone < n + 1 → place < n + 1 → All (λ at. at < n) (map (place_past gone) rest) → All (λ at. at < n) (map (place_past gone) (if b then place ∷ rest else rest))
kept_if gone place n rest true e a b h = All-cons (λ at. at < n) (place_past gone place) (map (place_past gone) rest) (past_below gone place n e a b) h
kept_if gone place n rest false e a b h = h

past_all_below : (gone n : ℕ) (places : List ℕ) → gone < n + 1 → All (λ at. at < n + 1) places → All (λ at. at < n) (places_past gone places)
past_all_below gone n [] g h = All-nil (λ at. at < n)
past_all_below gone n (place ∷ places) g h =
    kept_if gone place n (filter (is_elsewhere gone) places) (not (place == gone)) refl g (All-head (λ at. at < n + 1) place places h) (past_all_below gone n places g (All-tail (λ at. at < n + 1) place places h))

pub below_removed : (records : List Tcb) (gone : ℕ) (places : List ℕ) → gone < length records → All (λ place. place < length records) places → All (λ place. place < length (remove records gone)) (places_past gone places)
below_removed records gone places g h =
    let count = length-remove records gone g in
    past_all_below gone (length (remove records gone)) places (omega (arith, count)) (subst (λ n. All (λ place. place < n) places) (sym count) h)
