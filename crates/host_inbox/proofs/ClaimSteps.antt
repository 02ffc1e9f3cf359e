-- A claim keeps the rule.
use Rattle.std.proofs.Common.{◌≡◌, ◌≢◌, ℕ, ◌+◌, ◌*◌, ◌^◌, ◌%◌, ◌<◌, ◌≤◌, ◌==◌, List, [], ◌∷◌, ◌++◌, length, get_or, set, Option, None, sym, refl, ap, ◌∙◌, subst, ⊎_elim, lt_of_not-le, eq-eqb, ne_eqb, length-append, arith}
use mathlib.Core.Option.{some, none}
use mathlib.Core.Logic.{dite}
use native.Mathlib.Decide.{dec_le, ℕ_discrete}
use lib.ListN.{get_elem?}
use Rattle.std.proofs.lemmas.List.{length-set, get_or-set_other, get_or-set_same}
use Rattle.std.proofs.lemmas.List.Elements.{All-push, All-from_recursion, recursion_from_All}
use Rattle.atomic_table.specs.Table.{State, Me, takes, keeps, step, stepped, Allows}
use Rattle.atomic_table.proofs.Lists.{at_set, set_here, set_else}
use Rattle.host_inbox.specs.declared.entry.Entry.{Entry}
use Rattle.host_inbox.specs.declared.entry.Claim.{Claim}
use Rattle.host_inbox.specs.declared.rule.Known.{Known}
use Rattle.host_inbox.specs.declared.rule.Size.{Size}
use Rattle.list_weights.specs.Weights.{weigh, numbers_below, only}
use Rattle.host_inbox.specs.Entries.{place_of, claim, entry}
use Rattle.host_inbox.specs.Inboxes.{IsEntered, IsPending, Fits, AreInboxes, known_weight}
use Rattle.host_inbox.specs.Steps.{after_claim, after_full, Claimed}
use Rattle.list_weights.proofs.Weights.{weigh_set}
use Rattle.host_inbox.proofs.Weights.{weigh_next}
use Rattle.host_inbox.proofs.Members.{within}
use Rattle.host_inbox.proofs.Knowing.{same_place, claimed_few, claim_adds, full_adds, fits_taken}

-- the least number that isn't claimed, in the words after a claim
next_here : (words : List ℕ) (host n m : ℕ) → host < length words → m ≡ n + 1 → get_or (set words host m) host 0 ≡ n + 1
next_here words host n m near e = get_or-set_same words host m 0 near ∙ e

-- words only grow
grown : (words : List ℕ) (host m other : ℕ) → host < length words → get_or words host 0 ≤ m → get_or words other 0 ≤ get_or (set words host m) other 0
grown words host m other near le = dite (ℕ_discrete other host)
    (λ (e : other ≡ host).
    let a : get_or (set words host m) other 0 ≡ m = ap (λ (k : ℕ). get_or (set words host m) k 0) e ∙ get_or-set_same words host m 0 near in
    let b : get_or words other 0 ≡ get_or words host 0 = ap (λ (k : ℕ). get_or words k 0) e in
    omega arith)
    (λ (ne : other ≢ host). let a = get_or-set_other words host other m 0 ne in omega arith)

module _ {T : Type 0} where
  claim_once : (size : Size) (s : State (Option T) (Known T)) (host m id : ℕ) (v w : Known T) → AreInboxes size s → host < size.hosts → get_elem? s.views id ≡ some v → m ≡ get_or s.words host 0 + 1
      → ((other : ℕ) (h : ℕ → ℕ) → known_weight other h w ≡ known_weight other h v + only (host == other) (h (get_or s.words host 0)))
      → (other : ℕ) (h : ℕ → ℕ) → other < size.hosts → weigh (known_weight other h) (set s.views id w) ≡ weigh h (numbers_below (get_or (set s.words host m) other 0))
  claim_once size s host m id v w rule near at next adds other h there =
      let n : ℕ = get_or s.words host 0 in
      let change = weigh_set (known_weight other h) s.views id v w at in
      let more = adds other h in
      let before = rule.once other h there in
      let long = rule.words in
      let room : host < length s.words = omega arith in
      dite (ℕ_discrete host other)
      (λ (e : host ≡ other).
      let one : only (host == other) (h n) ≡ h n = ap (λ b. only b (h n)) (eq-eqb host other e) in
      let here : get_or (set s.words host m) other 0 ≡ n + 1 = ap (λ (k : ℕ). get_or (set s.words host m) k 0) (sym e) ∙ next_here s.words host n m room next in
      let same : get_or s.words other 0 ≡ n = ap (λ (k : ℕ). get_or s.words k 0) (sym e) in
      let was : weigh h (numbers_below (get_or s.words other 0)) ≡ weigh h (numbers_below n) = ap (λ (k : ℕ). weigh h (numbers_below k)) same in
      let is : weigh h (numbers_below (get_or (set s.words host m) other 0)) ≡ weigh h (numbers_below n) + h n = ap (λ (k : ℕ). weigh h (numbers_below k)) here ∙ weigh_next h n in
      omega arith)
      (λ (ne : host ≢ other).
      let nothing : only (host == other) (h n) ≡ 0 = ap (λ b. only b (h n)) (ne_eqb host other ne) in
      let same : get_or (set s.words host m) other 0 ≡ get_or s.words other 0 = get_or-set_other s.words host other m 0 (λ e. ne (sym e)) in
      let is : weigh h (numbers_below (get_or (set s.words host m) other 0)) ≡ weigh h (numbers_below (get_or s.words other 0)) = ap (λ (k : ℕ). weigh h (numbers_below k)) same in
      omega arith)

  claim_placed : (size : Size) (s : State (Option T) (Known T)) (host m id : ℕ) (v : Known T) → AreInboxes size s → host < size.hosts → get_elem? s.views id ≡ some v → m ≡ get_or s.words host 0 + 1
      → length v.entered + length v.pending < v.share * 4294967296 → get_or s.words host 0 < 16
      → AreInboxes size (stepped s host m id [] (after_claim v host (get_or s.words host 0)) (takes (place_of host (get_or s.words host 0)) None))
  claim_placed size s host m id v rule near at next few small =
      let n : ℕ = get_or s.words host 0 in
      let k : ℕ = place_of host n in
      let w : Known T = after_claim v host n in
      let home : get_elem? s.homes k ≡ some (some None) = rule.free host n near (omega arith) small in
      let long = rule.words in
      let room : host < length s.words = omega arith in
      record {
        words = length-set s.words host m ∙ rule.words;
        homes = length-set s.homes k none ∙ rule.homes;
        shares = (let change = weigh_set (λ (u : Known T). u.share) s.views id v w at in let all = rule.shares in omega arith);
        few = rule.few;
        once = claim_once size s host m id v w rule near at next (λ other h. claim_adds v host n other h);
        free = λ other p there from below.
            (let more = grown s.words host m other room (omega arith) in
            let old : get_elem? s.homes (place_of other p) ≡ some (some None) = rule.free other p there (omega arith) below in
            let apart : place_of other p ≢ k = λ e.
            (let both = same_place other p host n below small e in
            let here : get_or (set s.words host m) other 0 ≡ m = ap (λ (j : ℕ). get_or (set s.words host m) j 0) both.0 ∙ get_or-set_same s.words host m 0 room in
            let number = both.1 in
            absurd (omega arith)) in
            set_else s.homes k (place_of other p) none apart ∙ old);
        each = λ seat u to. ⊎_elim
            (λ t. subst (λ (x : Known T). Fits size.hosts (set s.homes k none) x) t.1 (mine k home))
            (λ t. fits_taken size.hosts s.homes k u home (rule.each seat u t.1))
            (at_set s.views id seat w u to);
      }
    where
      mine : (k : ℕ) → get_elem? s.homes (place_of host (get_or s.words host 0)) ≡ some (some None) → Fits size.hosts (set s.homes (place_of host (get_or s.words host 0)) none) (after_claim v host (get_or s.words host 0))
      mine k home =
          let n : ℕ = get_or s.words host 0 in
          let old = fits_taken size.hosts s.homes (place_of host n) v home (rule.each id v at) in
          let P : Claim → Type 0 = IsPending size.hosts (set s.homes (place_of host n) none) in
          record {
            entered = old.entered;
            pending = recursion_from_All P (v.pending ++ claim host n ∷ []) (All-push P v.pending (claim host n) (All-from_recursion P v.pending old.pending)
                (record { host = near; number = small; out = set_here s.homes (place_of host n) none (within s.homes (place_of host n) (some None) home) }));
            few = omega (arith, length-append v.pending (claim host n ∷ []));
          }

  claim_full : (size : Size) (s : State (Option T) (Known T)) (host m id : ℕ) (v : Known T) → AreInboxes size s → host < size.hosts → get_elem? s.views id ≡ some v → m ≡ get_or s.words host 0 + 1
      → length v.entered + length v.pending < v.share * 4294967296 → 16 ≤ get_or s.words host 0
      → AreInboxes size (stepped s host m id [] (after_full v host (get_or s.words host 0)) keeps)
  claim_full size s host m id v rule near at next few large =
      let n : ℕ = get_or s.words host 0 in
      let w : Known T = after_full v host n in
      let long = rule.words in
      let room : host < length s.words = omega arith in
      record {
        words = length-set s.words host m ∙ rule.words;
        homes = rule.homes;
        shares = (let change = weigh_set (λ (u : Known T). u.share) s.views id v w at in let all = rule.shares in omega arith);
        few = rule.few;
        once = claim_once size s host m id v w rule near at next (λ other h. full_adds v host n other h);
        free = λ other p there from below.
            (let more = grown s.words host m other room (omega arith) in
            rule.free other p there (omega arith) below);
        each = λ seat u to. ⊎_elim
            (λ t. subst (λ (x : Known T). Fits size.hosts s.homes x) t.1 mine)
            (λ t. rule.each seat u t.1)
            (at_set s.views id seat w u to);
      }
    where
      mine : Fits size.hosts s.homes (after_full v host (get_or s.words host 0))
      mine =
          let n : ℕ = get_or s.words host 0 in
          let old = rule.each id v at in
          let e : Entry (Option T) = entry host n None in
          let P : Entry (Option T) → Type 0 = IsEntered size.hosts s.homes in
          record {
            entered = recursion_from_All P (v.entered ++ e ∷ []) (All-push P v.entered e (All-from_recursion P v.entered old.entered)
                (record { host = near; placed = λ small. absurd (omega arith); full = λ small. absurd (omega arith) }));
            pending = old.pending;
            few = omega (arith, length-append v.entered (e ∷ []));
          }

  -- a claim may be made while the seat has fewer than its share of claims
  pub claims : (size : Size) (slots id host : ℕ) (v : Known T) → host < size.hosts → length v.entered + length v.pending < v.share * 4294967296
      → Allows (AreInboxes size) slots id (v, []) host (λ n. (n + 1) % 2 ^ 64) (Claimed (step slots host 1 0 none) (v, []))
  claims size slots id host v near few s rule long at fits =
      let n : ℕ = get_or s.words host 0 in
      let bound = claimed_few size s host rule near in
      let next : (n + 1) % 2 ^ 64 ≡ n + 1 = omega arith in
      dite (dec_le 16 n)
      (λ (large : 16 ≤ n). (
        after_full v host n,
        keeps,
        tt,
        claim_full size s host ((n + 1) % 2 ^ 64) id v rule near at next few large,
        record { placed = λ small. absurd (omega arith); full = λ _. refl },
      ))
      (λ not. let small : n < 16 = lt_of_not-le not in (
        after_claim v host n,
        takes (place_of host n) None,
        rule.free host n near (omega arith) small,
        claim_placed size s host ((n + 1) % 2 ^ 64) id v rule near at next few small,
        record { placed = λ _. refl; full = λ large. absurd (omega arith) },
      ))

  -- the same, of a seat that holds no place
  pub claims_of : (size : Size) (slots id host : ℕ) (me : Me (Option T) (Known T)) → host < size.hosts → me.1 ≡ [] → length me.0.entered + length me.0.pending < me.0.share * 4294967296
      → Allows (AreInboxes size) slots id me host (λ n. (n + 1) % 2 ^ 64) (Claimed (step slots host 1 0 none) me)
  claims_of size slots id host me near empty few =
      subst
      (λ (carried : List (ℕ × Option T)). Allows (AreInboxes size) slots id (me.0, carried) host (λ n. (n + 1) % 2 ^ 64) (Claimed (step slots host 1 0 none) (me.0, carried)))
      (sym empty)
      (claims size slots id host me.0 near few)
