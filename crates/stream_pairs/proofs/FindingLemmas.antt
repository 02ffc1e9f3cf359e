-- How the other end of a connection is found.
use Rattle.std.proofs.Common.{◌≡◌, ℕ, zero, suc, ◌+◌, ◌<◌, ◌≤◌, Bool, true, false, cond, List, [], ◌∷◌, length, map, get_or, drop, slice_get, Option, Some, None, refl, sym, ap, ◌∙◌, arith}
use Rattle.std.specs.Prelude.{find, option_and_then, unwrap_or}
use Rattle.std.specs.HashMap.{HashMap, get}
use Rattle.std.specs.List.{position_from}
use Rattle.std.proofs.lemmas.Option.{slice_get_past, slice_get-get_or}
use Rattle.sim_base.specs.Addresses.{host_at, is_same_ip}
use Rattle.sim_base.specs.declared.address.Addr.{Addr}
use Rattle.sim_base.specs.declared.address.Ip.{Ip}
use Rattle.stream_pairs.specs.Directions.{Kept, is_within, is_between, other_host, unused, kept_at}
use Rattle.stream_pairs.specs.inside.Finding.{same_pair, Indexes}
use Rattle.stream_pairs.specs.declared.entries.Pair.{Pair}
use Rattle.host_sockets.specs.declared.streams.HostStream.{HostStream}

-- the first of those from a place on
pub find_drop : {X : Type 0} (p : X → Bool) (xs : List X) (i : ℕ) (d : X) → i < length xs → find p (drop i xs) ≡ cond (p (get_or xs i d)) (Some (get_or xs i d)) (find p (drop (i + 1) xs))
find_drop p [] i d below = absurd (omega arith)
find_drop p (x ∷ xs) zero d below = refl
find_drop p (x ∷ xs) (suc i) d below =
    let more : suc i + 1 ≡ suc (i + 1) = omega arith in
    find_drop p xs i d (omega (arith, below)) ∙ ap (λ (k : ℕ). cond (p (get_or xs i d)) (Some (get_or xs i d)) (find p (drop k (x ∷ xs)))) (sym more)

pub find_all : {X : Type 0} (p : X → Bool) (xs : List X) (i : ℕ) → i ≡ 0 → find p (drop i xs) ≡ find p xs
find_all p xs i none = ap (λ (k : ℕ). find p (drop k xs)) none

-- ---- by addresses

abbrev addresses : List Kept → List Ip
addresses all = map (λ (k : Kept). k.address) all

abbrev has : Ip → Kept → Bool
has ip k = is_same_ip ip k.address

-- the place of a host's address among the rest of the addresses is that of the host
found_from : (ip : Ip) (all rest : List Kept) (n : ℕ) → ((i : ℕ) → slice_get all (n + i) ≡ slice_get rest i)
    → option_and_then (slice_get all) (position_from (is_same_ip ip) n (addresses rest)) ≡ find (has ip) rest
found_from ip all [] n same = refl
found_from ip all (k ∷ rest) n same = go (has ip k) refl (found_from ip all rest (n + 1) later) where
  later : (i : ℕ) → slice_get all ((n + 1) + i) ≡ slice_get rest i
  later i = ap (slice_get all) (let e : (n + 1) + i ≡ n + suc i = omega arith in e) ∙ same (suc i)

  go : (b : Bool) → has ip k ≡ b → option_and_then (slice_get all) (position_from (is_same_ip ip) (n + 1) (addresses rest)) ≡ find (has ip) rest
      → option_and_then (slice_get all) (cond b (Some n) (position_from (is_same_ip ip) (n + 1) (addresses rest))) ≡ cond b (Some k) (find (has ip) rest)
  go true e there = ap (slice_get all) (let e : n ≡ n + 0 = omega arith in e) ∙ same 0
  go false e there = there

pub found_at : (ip : Ip) (all : List Kept) → option_and_then (slice_get all) (host_at (addresses all) ip) ≡ find (has ip) all
unfolding host_at
found_at ip all = found_from ip all all 0 (λ i. ap (slice_get all) (let e : 0 + i ≡ i = omega arith in e))

module _ (all : List Kept) (k : Kept) (s : HostStream) where
  abbrev by : Bool → Option Kept
  by within = cond within (Some k) (find (has s.peer.ip) all)

  pub within_place : (place : ℕ) → is_within s ≡ true → slice_get all place ≡ Some k → option_and_then (slice_get all) (Some place) ≡ other_host all k s
  within_place place within at = at ∙ sym (ap by within)

  pub found_place : (book : List Ip) (o : Option ℕ) → is_within s ≡ false → book ≡ addresses all → o ≡ host_at book s.peer.ip → option_and_then (slice_get all) o ≡ other_host all k s
  found_place book o outside book_is is =
      ap (option_and_then (slice_get all)) (is ∙ ap (λ (b : List Ip). host_at b s.peer.ip) book_is) ∙ found_at s.peer.ip all ∙ sym (ap by outside)

-- ---- what a host keeps

there : {X : Type 0} (xs : List X) (i : ℕ) → i < length xs → (x : X) × (slice_get xs i ≡ Some x)
there [] i below = absurd (omega arith)
there (x ∷ xs) zero below = (x, refl)
there (x ∷ xs) (suc i) below = there xs i (omega arith)

abbrev pair : Addr → Addr → Pair
pair own peer = record { own = own; peer = peer }

module _ {S : Type 0} (book : List Ip) (entries : List (HashMap Pair HostStream S)) (all : List Kept) (indexes : Indexes book entries all) (place : ℕ) (own peer : Addr) where
  pub kept_found : (e : HashMap Pair HostStream S) → place < length entries → e ≡ get_or entries place e → kept_at own peer (slice_get all place) ≡ unwrap_or (get same_pair e (pair own peer)) (unused own peer)
  kept_found e within is =
      let at : slice_get entries place ≡ Some e = slice_get-get_or entries place e within ∙ ap (λ (x : HashMap Pair HostStream S). Some x) (sym is) in
      let (k, here) = there all place (let same = indexes.count in omega arith) in
      ap (kept_at own peer) here ∙ ap (λ (o : Option HostStream). unwrap_or o (unused own peer)) (sym (indexes.each place k e here at (pair own peer)))

  pub kept_nowhere : length entries ≤ place → kept_at own peer (slice_get all place) ≡ unused own peer
  kept_nowhere past = ap (kept_at own peer) (slice_get_past all place (let same = indexes.count in omega arith))
