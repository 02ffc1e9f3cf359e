-- Pieces process by process and host by host.
use Rattle.std.proofs.Common.{◌≡◌, ℕ, zero, suc, ◌+◌, ◌<◌, ◌≤◌, List, [], ◌∷◌, ◌++◌, length, map, drop, get_or, refl, sym, ap, ◌∙◌, arith, append_assoc, append-nil}
use Rattle.std.proofs.lemmas.List.Elements.{filter-append}
use Rattle.file_calls.specs.declared.task.Output.{Output}
use Rattle.run_files.specs.Files.{Put, put_of}
use Rattle.run_files.specs.Grown.{process_grown, host_grown, is_some, with_bytes}
use Rattle.run_files.specs.Listed.{HostNames, said, by_process, by_host}
use Rattle.run_files.specs.declared.listed.HostListing.{HostListing}
use Rattle.run_files.specs.declared.listed.ProcessListing.{ProcessListing}
use Rattle.run_files.specs.declared.piece.Piece.{Piece}

pub puts_more : (old : List Piece) (p : Piece) → map put_of (old ++ (p ∷ [])) ≡ map put_of old ++ (put_of p ∷ [])
puts_more [] p = refl
puts_more (x ∷ old) p = ap (λ (l : List Put). put_of x ∷ l) (puts_more old p)

pub pushed_one : (old new : List Piece) (p : Piece) (a : Put) → new ≡ old ++ (p ∷ []) → put_of p ≡ a → map put_of new ≡ map put_of old ++ (a ∷ [])
pushed_one old new p a is same = ap (map put_of) is ∙ puts_more old p ∙ ap (λ (q : Put). map put_of old ++ (q ∷ [])) same

pub pushed_three : (old n1 n2 n3 : List Piece) (p q r : Piece) (a b c : Put) → n1 ≡ old ++ (p ∷ []) → n2 ≡ n1 ++ (q ∷ []) → n3 ≡ n2 ++ (r ∷ []) → put_of p ≡ a → put_of q ≡ b → put_of r ≡ c
    → map put_of n3 ≡ map put_of old ++ (a ∷ b ∷ c ∷ [])
pushed_three old n1 n2 n3 p q r a b c e1 e2 e3 p_is q_is r_is =
    pushed_one n2 n3 r c e3 r_is ∙ ap (λ (l : List Put). l ++ (c ∷ [])) (pushed_one n1 n2 q b e2 q_is ∙ ap (λ (l : List Put). l ++ (b ∷ [])) (pushed_one old n1 p a e1 p_is))
    ∙ append_assoc (map put_of old ++ (a ∷ [])) (b ∷ []) (c ∷ []) ∙ append_assoc (map put_of old) (a ∷ []) (b ∷ c ∷ [])

-- ---- process by process

drop_first : {X : Type 0} (xs : List X) (i : ℕ) (x : X) → i < length xs → x ≡ get_or xs i x → drop i xs ≡ x ∷ drop (suc i) xs
drop_first [] i x below is = absurd (omega arith)
drop_first {X = X} (y ∷ ys) zero x below is = ap (λ (z : X). z ∷ ys) (sym is)
drop_first (y ∷ ys) (suc i) x below is = drop_first ys i x (omega arith) is

pub drop_at : {X : Type 0} (xs : List X) (i : ℕ) (x : X) → i < length xs → x ≡ get_or xs i x → drop i xs ≡ x ∷ drop (i + 1) xs
drop_at {X = X} xs i x below is = drop_first xs i x below is ∙ ap (λ (j : ℕ). x ∷ drop j xs) (let e : suc i ≡ i + 1 = omega arith in e)

pub none_left : {X : Type 0} (xs : List X) (i : ℕ) → length xs ≤ i → drop i xs ≡ []
none_left [] zero end = refl
none_left [] (suc i) end = refl
none_left (x ∷ xs) zero end = absurd (omega arith)
none_left (x ∷ xs) (suc i) end = none_left xs i (omega arith)

module _ (f : ℕ → ProcessListing → List Put) (place : ℕ) (processes : List ProcessListing) where
  pub process_step : (process : ProcessListing) (old new whole : List Put) → place < length processes → process ≡ get_or processes place process
      → new ≡ old ++ f place process → old ++ by_process f place (drop place processes) ≡ whole → new ++ by_process f (place + 1) (drop (place + 1) processes) ≡ whole
  process_step process old new whole below is new_is so_far =
      let rest = by_process f (place + 1) (drop (place + 1) processes) in
      ap (λ (l : List Put). l ++ rest) new_is ∙ append_assoc old (f place process) rest
      ∙ ap (λ (l : List ProcessListing). old ++ by_process f place l) (sym (drop_at processes place process below is)) ∙ so_far

  pub process_end : (puts whole : List Put) → length processes ≤ place → puts ++ by_process f place (drop place processes) ≡ whole → puts ≡ whole
  process_end puts whole end so_far =
      sym (append-nil puts) ∙ ap (λ (l : List ProcessListing). puts ++ by_process f place l) (sym (none_left processes place end)) ∙ so_far

pub with_bytes_append : (ps qs : List Put) → with_bytes (ps ++ qs) ≡ with_bytes ps ++ with_bytes qs
with_bytes_append ps qs = filter-append (λ (put : Put). is_some put.1) ps qs

pub bytes_by_process : (f : ℕ → ProcessListing → List Put) (p : ℕ) (processes : List ProcessListing) → by_process (λ (q : ℕ) (process : ProcessListing). with_bytes (f q process)) p processes ≡ with_bytes (by_process f p processes)
bytes_by_process f p [] = refl
bytes_by_process f p (process ∷ processes) =
    ap (λ (l : List Put). with_bytes (f p process) ++ l) (bytes_by_process f (p + 1) processes) ∙ sym (with_bytes_append (f p process) (by_process f (p + 1) processes))

-- ---- host by host

pub bytes_by_host : {X : Type 0} (f : HostNames → X → List Put) (hosts : List HostNames) (xs : List X) → by_host (λ (host : HostNames) (x : X). with_bytes (f host x)) hosts xs ≡ with_bytes (by_host f hosts xs)
bytes_by_host f [] xs = refl
bytes_by_host f (host ∷ hosts) [] = refl
bytes_by_host f (host ∷ hosts) (x ∷ xs) = ap (λ (l : List Put). with_bytes (f host x) ++ l) (bytes_by_host f hosts xs) ∙ sym (with_bytes_append (f host x) (by_host f hosts xs))

module _ {X Y : Type 0} (f : HostNames → X → List Put) (view : Y → X) (hosts : List HostListing) (ys : List Y) where
  abbrev pub left_by_host : ℕ → List Put
  left_by_host j = by_host f (map said (drop j hosts)) (map view (drop j ys))

  pub host_next : (i : ℕ) (h : HostListing) (y : Y) → i < length hosts → length ys ≡ length hosts → h ≡ get_or hosts i h → y ≡ get_or ys i y → left_by_host i ≡ f (said h) (view y) ++ left_by_host (i + 1)
  host_next i h y below same h_is y_is =
      ap (λ (l : List HostListing). by_host f (map said l) (map view (drop i ys))) (drop_at hosts i h below h_is)
      ∙ ap (λ (l : List Y). by_host f (map said (h ∷ drop (i + 1) hosts)) (map view l)) (drop_at ys i y (omega arith) y_is)

  pub host_none : (i : ℕ) → length hosts ≤ i → left_by_host i ≡ []
  host_none i end = ap (λ (l : List HostListing). by_host f (map said l) (map view (drop i ys))) (none_left hosts i end)

-- ---- nothing

nothing_by_process : (host : List ℕ) (p : ℕ) (processes : List ProcessListing) → with_bytes (by_process (process_grown host []) p processes) ≡ []
nothing_by_process host p [] = refl
nothing_by_process host p (process ∷ processes) = nothing_by_process host (p + 1) processes

pub nothing_grown : (host : HostNames) (outputs : List Output) → outputs ≡ [] → with_bytes (host_grown host outputs) ≡ []
nothing_grown host outputs none = ap (λ (l : List Output). with_bytes (host_grown host l)) none ∙ nothing_by_process host.name 0 host.processes
