-- Directions, host by host.
use Rattle.std.proofs.Common.{◌≡◌, ℕ, zero, suc, ◌+◌, ◌<◌, ◌≤◌, ◌⊎◌, inl, inr, ⊎_elim, List, [], ◌∷◌, ◌++◌, length, map, take, get_or, slice_get, Option, Some, None, option_map, refl, sym, ap, subst, ◌∙◌, arith, append-nil, append_assoc}
use Rattle.std.specs.Prelude.{flat_map}
use Rattle.std.specs.HashMap.{HashMap}
use Rattle.std.proofs.lemmas.Grind.{flat_map-append}
use Rattle.std.proofs.lemmas.List.{length_push, take_more, map-append}
use Rattle.std.proofs.lemmas.Option.{slice_get-get_or, slice_get-map}
use Rattle.sim_base.specs.declared.address.Ip.{Ip}
use Rattle.out_text.specs.declared.streams.Stream.{Stream}
use Rattle.stream_pairs.specs.Directions.{Kept, kept_in, direction, directions}
use Rattle.stream_pairs.specs.inside.Finding.{Finds, Indexes}
use Rattle.stream_pairs.specs.declared.entries.Pair.{Pair}
use Rattle.host_sockets.specs.declared.streams.HostStream.{HostStream}
use Rattle.stream_pairs.specs.declared.kept.KeptStreams.{KeptStreams}

-- ---- the tables

-- the first n hosts have theirs
pub record HasEntries {S : Type 0} (n : ℕ) (entries : List (HashMap Pair HostStream S)) (all : List Kept) : Type 0 where
  pub count : length entries ≡ n
  pub each : (i : ℕ) (k : Kept) (e : HashMap Pair HostStream S) → slice_get all i ≡ Some k → slice_get entries i ≡ Some e → Finds e k.streams

-- one more at the end
at_more : {A : Type 0} (xs : List A) (x y : A) (i : ℕ) → slice_get (xs ++ x ∷ []) i ≡ Some y → (slice_get xs i ≡ Some y) ⊎ ((i ≡ length xs) × (x ≡ y))
at_more [] x y zero at = inr (refl, (let e : Some x ≡ Some y = at in cc))
at_more [] x y (suc i) at = absurd (let e : None ≡ Some y = at in cc)
at_more (z ∷ zs) x y zero at = inl at
at_more (z ∷ zs) x y (suc i) at = ⊎_elim (λ (l : slice_get zs i ≡ Some y). inl l) (λ (r : (i ≡ length zs) × (x ≡ y)). inr (ap suc r.0, r.1)) (at_more zs x y i at)

same_some : {A : Type 0} (a b : A) (o : Option A) → o ≡ Some a → o ≡ Some b → a ≡ b
same_some a b o p q = cc

pub no_entries : {S : Type 0} (n : ℕ) (entries : List (HashMap Pair HostStream S)) (all : List Kept) → n ≡ 0 → entries ≡ [] → HasEntries n entries all
no_entries n [] all none is = record { count = sym none; each = λ i k e there at. absurd (nothing e at) } where
  nothing : {A : Type 0} (e : A) → None ≡ Some e → ⊥
  nothing e at = cc
no_entries n (e ∷ entries) all none is = absurd (cc)

pub more_entries : {S : Type 0} (n : ℕ) (old new : List (HashMap Pair HostStream S)) (e : HashMap Pair HostStream S) (all : List Kept) (k : Kept)
    → HasEntries n old all → new ≡ old ++ e ∷ [] → slice_get all n ≡ Some k → Finds e k.streams → HasEntries (n + 1) new all
more_entries {S} n old new e all k has is here finds = record {
  count = ap length is ∙ length_push old e ∙ ap (λ (m : ℕ). m + 1) has.count;
  each = λ i j f there at.
      ⊎_elim
      (λ (l : slice_get old i ≡ Some f). has.each i j f there l)
      (λ (r : (i ≡ length old) × (e ≡ f)).
      (let same : k ≡ j = same_some k j (slice_get all i) (ap (slice_get all) (r.0 ∙ has.count) ∙ here) there in
      subst (λ (x : Kept). Finds f x.streams) same (subst (λ (x : HashMap Pair HostStream S). Finds x k.streams) r.1 finds)))
      (at_more old e f i (sym (ap (λ (l : List (HashMap Pair HostStream S)). slice_get l i) is) ∙ at));
}

-- the host at a place
pub host_at : (kept : List KeptStreams) (i : ℕ) (k : KeptStreams) → i < length kept → k ≡ get_or kept i k → slice_get (map kept_in kept) i ≡ Some (kept_in k)
host_at kept i k below is =
    slice_get-map kept_in kept i ∙ ap (option_map kept_in) (slice_get-get_or kept i k below) ∙ ap (λ (x : KeptStreams). Some (kept_in x)) (sym is)

addresses_of : (kept : List KeptStreams) → map (λ (k : KeptStreams). k.address) kept ≡ map (λ (k : Kept). k.address) (map kept_in kept)
addresses_of [] = refl
addresses_of (k ∷ kept) = ap (λ (l : List Ip). k.address ∷ l) (addresses_of kept)

pub all_entries_is : {S : Type 0} (n : ℕ) (entries : List (HashMap Pair HostStream S)) (kept : List KeptStreams) (book : List Ip) → HasEntries n entries (map kept_in kept) → n ≡ length (map kept_in kept)
    → book ≡ map (λ (k : KeptStreams). k.address) kept → Indexes book entries (map kept_in kept)
all_entries_is n entries kept book has all is = record { book_is = is ∙ addresses_of kept; count = has.count ∙ all; each = has.each }

pub indexed : {S : Type 0} (book : List Ip) (entries es : List (HashMap Pair HostStream S)) (kept : List KeptStreams)
    → ((b : List Ip) → b ≡ map (λ (k : KeptStreams). k.address) kept → Indexes b entries (map kept_in kept)) → book ≡ map (λ (k : KeptStreams). k.address) kept → es ≡ entries
    → Indexes book es (map kept_in kept)
indexed {S} book entries es kept all is same = subst (λ (x : List (HashMap Pair HostStream S)). Indexes book x (map kept_in kept)) (sym same) (all book is)

-- ---- the directions

abbrev pub of_host : List Kept → Kept → List Stream
of_host all k = map (direction all k) k.streams

next_kept : (ks : List KeptStreams) (i : ℕ) (x : KeptStreams) → i < length ks → x ≡ get_or ks i x → take (i + 1) (map kept_in ks) ≡ take i (map kept_in ks) ++ kept_in x ∷ []
next_kept [] i x l e = absurd (omega arith)
next_kept (y ∷ ys) zero x l e = ap (λ (z : KeptStreams). kept_in z ∷ []) (sym e)
next_kept (y ∷ ys) (suc i) x l e =
    ap (λ (j : ℕ). take j (map kept_in (y ∷ ys))) (let more : suc i + 1 ≡ suc (i + 1) = omega arith in more) ∙ ap (λ (zs : List Kept). kept_in y ∷ zs) (next_kept ys i x (omega arith) e)

-- one more connection of a host
pub pushed_more : (f : HostStream → Stream) (xs ys : List HostStream) (i : ℕ) (d : HostStream) (before old new : List Stream) (s : Stream) → ys ≡ xs → i < length ys
    → old ≡ before ++ map f (take i xs) → new ≡ old ++ s ∷ [] → s ≡ f (get_or ys i d) → new ≡ before ++ map f (take (i + 1) xs)
pushed_more f xs ys i d before old new s same below so_far put is =
    let within : i < length xs = subst (λ (zs : List HostStream). i < length zs) same below in
    let here : s ≡ f (get_or xs i d) = is ∙ ap (λ (zs : List HostStream). f (get_or zs i d)) same in
    let whole : map f (take (i + 1) xs) ≡ map f (take i xs) ++ s ∷ [] =
    ap (map f) (take_more xs i d within) ∙ map-append f (take i xs) (get_or xs i d ∷ []) ∙ ap (λ (t : Stream). map f (take i xs) ++ t ∷ []) (sym here) in
    put ∙ ap (λ (l : List Stream). l ++ s ∷ []) so_far ∙ append_assoc before (map f (take i xs)) (s ∷ []) ∙ ap (λ (l : List Stream). before ++ l) (sym whole)

-- one more host
pub more_directions : (kept : List KeptStreams) (all : List Kept) (n : ℕ) (k : KeptStreams) (old new : List Stream) → n < length kept → k ≡ get_or kept n k
    → old ≡ flat_map (of_host all) (take n (map kept_in kept)) → new ≡ old ++ of_host all (kept_in k) → new ≡ flat_map (of_host all) (take (n + 1) (map kept_in kept))
more_directions kept all n k old new below is so_far put =
    let first : List Kept = take n (map kept_in kept) in
    let whole : flat_map (of_host all) (take (n + 1) (map kept_in kept)) ≡ flat_map (of_host all) first ++ of_host all (kept_in k) =
    ap (flat_map (of_host all)) (next_kept kept n k below is) ∙ flat_map-append (of_host all) first (kept_in k ∷ [])
    ∙ ap (λ (l : List Stream). flat_map (of_host all) first ++ l) (append-nil (of_host all (kept_in k))) in
    put ∙ ap (λ (l : List Stream). l ++ of_host all (kept_in k)) so_far ∙ sym whole

take_past : (ks : List KeptStreams) (m : ℕ) → length ks ≤ m → take m (map kept_in ks) ≡ map kept_in ks
take_past [] zero l = refl
take_past [] (suc m) l = refl
take_past (k ∷ ks) zero l = absurd (omega arith)
take_past (k ∷ ks) (suc m) l = ap (λ (zs : List Kept). kept_in k ∷ zs) (take_past ks m (omega arith))

pub all_directions : (kept : List KeptStreams) (n : ℕ) (streams : List Stream) → length kept ≤ n → streams ≡ flat_map (of_host (map kept_in kept)) (take n (map kept_in kept))
    → streams ≡ directions (map kept_in kept)
unfolding directions
all_directions kept n streams past is = is ∙ ap (flat_map (of_host (map kept_in kept))) (take_past kept n past)
