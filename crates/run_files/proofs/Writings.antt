-- What hosts wrote, one host after another.
use Rattle.std.proofs.Common.{◌≡◌, ℕ, zero, suc, ◌+◌, ◌<◌, ◌≤◌, Bool, true, List, [], ◌∷◌, ◌++◌, length, map, flat_map, drop, replicate, get_or, refl, sym, ap, subst, ◌∙◌, arith, append_assoc, append-nil, Vec, Global}
use Rattle.std.specs.Prelude.{◌==◌, vec_len}
use Rattle.std.proofs.lemmas.Bool.{eqb-true}
use Rattle.std.proofs.lemmas.List.{drop-drop, flat_map_more, length-append, length-replicate, nil_from_length, replicate_more}
use Rattle.file_calls.specs.declared.task.Output.{Output}
use Rattle.run_files.specs.Files.{Put}
use Rattle.run_files.specs.Grown.{host_grown, with_bytes}
use Rattle.run_files.specs.Listed.{HostNames, said, by_host}
use Rattle.run_files.specs.Written.{with_silent}
use Rattle.run_files.specs.declared.listed.HostListing.{HostListing}
use Rattle.run_files.specs.declared.written.HostWritten.{HostWritten}
use Rattle.run_files.specs.declared.written.Written.{Written}
use Rattle.run_files.proofs.Listings.{drop_at, none_left, nothing_grown}

-- ---- one host more

pub wrote_nothing : (outputs : Vec Output Global) (b : Bool) → b ≡ (vec_len outputs == 0) → b ≡ true → outputs.items ≡ []
wrote_nothing outputs b is empty =
    nil_from_length outputs.items (let none : vec_len outputs ≡ 0 = eqb-true (vec_len outputs) 0 (sym is ∙ empty) in omega (arith, none, outputs.ok.0))

pub one_more : (hosts new : List HostWritten) (host : HostWritten) → new ≡ hosts ++ host ∷ [] → flat_map with_silent new ++ [] ≡ (flat_map with_silent hosts ++ replicate host.silent []) ++ host.outputs.items ∷ []
one_more hosts new host is =
    append-nil (flat_map with_silent new) ∙ ap (flat_map with_silent) is ∙ sym (flat_map_more with_silent [] hosts host)
    ∙ sym (append_assoc (flat_map with_silent hosts) (replicate host.silent []) (host.outputs.items ∷ []))

pub one_silent : (before : List (List Output)) (old new : ℕ) → new ≡ old + 1 → before ++ replicate new [] ≡ (before ++ replicate old []) ++ [] ∷ []
one_silent before old new is =
    ap (λ (n : ℕ). before ++ replicate n []) is ∙ ap (λ (l : List (List Output)). before ++ l) (sym (replicate_more old [])) ∙ sym (append_assoc before (replicate old []) ([] ∷ []))

-- ---- hosts that wrote nothing

drop_map : {X Y : Type 0} (f : X → Y) (n : ℕ) (xs : List X) → drop n (map f xs) ≡ map f (drop n xs)
drop_map f zero [] = refl
drop_map f zero (x ∷ xs) = refl
drop_map f (suc n) [] = refl
drop_map f (suc n) (x ∷ xs) = drop_map f n xs

abbrev pub put_by : HostNames → List Output → List Put
put_by host outputs = with_bytes (host_grown host outputs)

put_none : (hosts : List HostNames) → by_host put_by hosts [] ≡ []
put_none [] = refl
put_none (host ∷ hosts) = refl

pass_silent : (hosts : List HostNames) (n : ℕ) (more : List (List Output)) → by_host put_by hosts (replicate n [] ++ more) ≡ by_host put_by (drop n hosts) more
pass_silent [] zero more = refl
pass_silent [] (suc n) more = refl
pass_silent (host ∷ hosts) zero more = refl
pass_silent (host ∷ hosts) (suc n) more = ap (λ (l : List Put). l ++ by_host put_by hosts (replicate n [] ++ more)) (nothing_grown host [] refl) ∙ pass_silent hosts n more

-- ---- host by host

-- a row as it is read
pub row_is : (rows shown : List HostWritten) (i : ℕ) (host : HostWritten) → shown ≡ rows → i < length shown → host ≡ get_or shown i host → (i < length rows) × (host ≡ get_or rows i host)
row_is rows shown i host same below is = (
  subst (λ (l : List HostWritten). i < length l) same below,
  is ∙ ap (λ (l : List HostWritten). get_or l i host) same,
)

abbrev nothing : List Output
nothing = []

module _ (hosts : List HostListing) (w : Written) where
  -- what wasn't yet put of hosts, from that row on
  abbrev pub left_of : ℕ → List (List Output)
  left_of i = flat_map with_silent (drop i w.hosts.items) ++ replicate w.silent []

  abbrev pub puts_left : ℕ → ℕ → List Put
  puts_left place i = by_host put_by (map said (drop place hosts)) (left_of i)

  module _ (i : ℕ) (host : HostWritten) (below : i < length w.hosts.items) (is : host ≡ get_or w.hosts.items i host) where
    left_next : left_of i ≡ with_silent host ++ left_of (i + 1)
    left_next =
        ap (λ (l : List HostWritten). flat_map with_silent l ++ replicate w.silent []) (drop_at w.hosts.items i host below is)
        ∙ append_assoc (with_silent host) (flat_map with_silent (drop (i + 1) w.hosts.items)) (replicate w.silent [])

    long_next : length (left_of i) ≡ host.silent + 1 + length (left_of (i + 1))
    long_next =
        let all : length (left_of i) ≡ length (with_silent host ++ left_of (i + 1)) = ap length left_next in
        let parts = length-append (with_silent host) (left_of (i + 1)) in
        let here = length-append (replicate host.silent nothing) (host.outputs.items ∷ []) in
        let silent = length-replicate host.silent nothing in
        omega (arith, all, parts, here, silent)

    pub row_within : (place : ℕ) → place + length (left_of i) ≡ length hosts → place + host.silent < length hosts
    row_within place count = let next = long_next in omega (arith, next, count)

    pub count_next : (place : ℕ) → place + length (left_of i) ≡ length hosts → place + host.silent + 1 + length (left_of (i + 1)) ≡ length hosts
    count_next place count = let next = long_next in omega (arith, next, count)

    pub puts_next : (place : ℕ) (listing : HostListing) → place + host.silent < length hosts → listing ≡ get_or hosts (place + host.silent) listing
        → puts_left place i ≡ put_by (said listing) host.outputs.items ++ puts_left (place + host.silent + 1) (i + 1)
    puts_next place listing within listed =
        ap (by_host put_by (map said (drop place hosts))) (left_next ∙ append_assoc (replicate host.silent []) (host.outputs.items ∷ []) (left_of (i + 1)))
        ∙ pass_silent (map said (drop place hosts)) host.silent (host.outputs.items ∷ left_of (i + 1))
        ∙ ap (λ (l : List HostNames). by_host put_by l (host.outputs.items ∷ left_of (i + 1)))
        (drop_map said host.silent (drop place hosts) ∙ ap (map said) (drop-drop host.silent place hosts ∙ drop_at hosts (place + host.silent) listing within listed))

  pub puts_end : (place i : ℕ) → length w.hosts.items ≤ i → puts_left place i ≡ []
  puts_end place i end =
      ap (λ (l : List HostWritten). by_host put_by (map said (drop place hosts)) (flat_map with_silent l ++ replicate w.silent [])) (none_left w.hosts.items i end)
      ∙ ap (by_host put_by (map said (drop place hosts))) (sym (append-nil (replicate w.silent [])))
      ∙ pass_silent (map said (drop place hosts)) w.silent [] ∙ put_none (drop w.silent (map said (drop place hosts)))
