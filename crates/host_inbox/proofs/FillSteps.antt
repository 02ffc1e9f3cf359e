-- Giving a place back with a parcel keeps the rule.
use Rattle.std.proofs.Common.{◌≡◌, ◌≢◌, ℕ, ◌+◌, ◌^◌, ◌%◌, ◌<◌, List, [], ◌∷◌, ◌++◌, map, length, get_or, set, Option, Some, None, sym, refl, ap, ◌∙◌, subst, ⊎_elim, eq-eqb, length-append, arith}
use mathlib.Core.Option.{Option as Place, some, none}
use lib.ListN.{get_elem?}
use Rattle.std.specs.List.{AllByRecursion}
use Rattle.std.proofs.lemmas.List.{length-set, get_or-set_other}
use Rattle.std.proofs.lemmas.List.Elements.{All-nil, All-cons, All-same, All-append, All-weaker, All-from_recursion, recursion_from_All}
use Rattle.atomic_table.specs.Table.{State, Me, gives, step, stepped, Allows}
use Rattle.atomic_table.proofs.Lists.{at_set, set_here, set_else}
use Rattle.host_inbox.specs.declared.entry.Entry.{Entry}
use Rattle.host_inbox.specs.declared.entry.Claim.{Claim}
use Rattle.host_inbox.specs.declared.rule.Known.{Known}
use Rattle.host_inbox.specs.declared.rule.Size.{Size}
use Rattle.list_weights.specs.Weights.{weigh, numbers_below, only}
use Rattle.host_inbox.specs.Entries.{place_of, claim, entry, claim_weight}
use Rattle.host_inbox.specs.Inboxes.{IsEntered, IsPending, Fits, AreInboxes, known_weight}
use Rattle.host_inbox.specs.Steps.{after_fill, Filled}
use Rattle.list_weights.proofs.Weights.{weigh_set, weigh_two, is_number, is_itself}
use Rattle.host_inbox.proofs.Weights.{at_most_once}
use Rattle.host_inbox.proofs.Members.{within}
use Rattle.host_inbox.proofs.Knowing.{same_place, fill_adds}

counted : (host number at n : ℕ) → at ≡ host → n ≡ number → claim_weight host (is_number number) (claim at n) ≡ 1
counted host number at n p q =
    ap (λ b. only b (is_number number n)) (eq-eqb at host p) ∙ ap (is_number number) q ∙ is_itself number

-- the words of hosts' claims stay
same_claims : (size : Size) (words : List ℕ) (host m other : ℕ) → other < size.hosts → get_or (set words (size.hosts + host) m) other 0 ≡ get_or words other 0
same_claims size words host m other there = get_or-set_other words (size.hosts + host) other m 0 (λ e. absurd (omega arith))

module _ {T : Type 0} where
  differs : (x : T) (p : Option T) → p ≡ Some x → (y : Place (Option T)) → y ≡ none → some (some p) ≡ some y → ⊥
  differs x p is y out e = cc

  out_or_empty : (x y : Place (Option T)) → x ≡ none → y ≡ some None → some y ≡ some x → ⊥
  out_or_empty x y p q e = cc

  -- what lies at other places stays
  stays_entered : (hosts : ℕ) (homes : List (Place (Option T))) (k : ℕ) (y : Place (Option T)) (xs : List (Entry (Option T))) → get_elem? homes k ≡ some none
      → AllByRecursion (IsEntered hosts homes) xs → AllByRecursion (IsEntered hosts (set homes k y)) xs
  stays_entered hosts homes k y xs out p = recursion_from_All (IsEntered hosts (set homes k y)) xs (All-weaker (IsEntered hosts homes) (IsEntered hosts (set homes k y))
      (λ e q. record {
        host = q.host;
        full = q.full;
        placed = λ small.
            (let f = q.full small in let at = q.placed small in
            let apart : place_of e.host e.number ≢ k = λ same. differs f.0 e.parcel f.1 none refl (sym at ∙ ap (λ (j : ℕ). get_elem? homes j) same ∙ out) in
            set_else homes k (place_of e.host e.number) y apart ∙ at);
      })
      xs (All-from_recursion (IsEntered hosts homes) xs p))

  -- and so do the claims of a seat that hasn't this number
  stays_pending : (hosts : ℕ) (homes : List (Place (Option T))) (host number : ℕ) (y : Place (Option T)) (xs : List Claim) → number < 16
      → weigh (claim_weight host (is_number number)) xs ≡ 0 → AllByRecursion (IsPending hosts homes) xs → AllByRecursion (IsPending hosts (set homes (place_of host number) y)) xs
  stays_pending hosts homes host number y [] small none_there p = tt
  stays_pending hosts homes host number y (c ∷ xs) small none_there p =
      let apart : place_of c.host c.number ≢ place_of host number = λ e.
      (let both = same_place c.host c.number host number p.0.number small e in
      let one = counted host number c.host c.number both.0 both.1 in
      absurd (omega arith)) in (
        record { host = p.0.host; number = p.0.number; out = set_else homes (place_of host number) (place_of c.host c.number) y apart ∙ p.0.out },
        stays_pending hosts homes host number y xs small (omega arith) p.1,
      )

  -- no other seat has claimed the number
  others_lack : (size : Size) (s : State (Option T) (Known T)) (id seat host number : ℕ) (v u : Known T) → AreInboxes size s → host < size.hosts → v.pending ≡ claim host number ∷ []
      → get_elem? s.views id ≡ some v → seat ≢ id → get_elem? s.views seat ≡ some u → weigh (claim_weight host (is_number number)) u.pending ≡ 0
  others_lack size s id seat host number v u rule near pending at ne to =
      let two = weigh_two (known_weight host (is_number number)) s.views id seat v u ne at to in
      let all = rule.once host (is_number number) near in
      let once = at_most_once number (get_or s.words host 0) in
      let one = counted host number host number refl refl in
      let mine : weigh (claim_weight host (is_number number)) v.pending ≡ claim_weight host (is_number number) (claim host number) + 0 = ap (weigh (claim_weight host (is_number number))) pending in
      omega arith

  fill_keeps : (size : Size) (s : State (Option T) (Known T)) (m id host number : ℕ) (v : Known T) (x : T) → AreInboxes size s → host < size.hosts → number < 16 → v.pending ≡ claim host number ∷ []
      → get_elem? s.views id ≡ some v → AreInboxes size (stepped s (size.hosts + host) m id ((place_of host number, Some x) ∷ []) (after_fill v (Some x)) gives)
  fill_keeps size s m id host number v x rule near small pending at =
      let k : ℕ = place_of host number in
      let w : Known T = after_fill v (Some x) in
      let old : Fits size.hosts s.homes v = rule.each id v at in
      let was : AllByRecursion (IsPending size.hosts s.homes) (claim host number ∷ []) = subst (AllByRecursion (IsPending size.hosts s.homes)) pending old.pending in
      let out : get_elem? s.homes k ≡ some none = was.0.out in
      record {
        words = length-set s.words (size.hosts + host) m ∙ rule.words;
        homes = length-set s.homes k (some (Some x)) ∙ rule.homes;
        shares = (let change = weigh_set (λ (u : Known T). u.share) s.views id v w at in let all = rule.shares in omega arith);
        few = rule.few;
        once = λ other h there.
            (let change = weigh_set (known_weight other h) s.views id v w at in
            let same = fill_adds v (Some x) other h in
            let before = rule.once other h there in
            let words : weigh h (numbers_below (get_or (set s.words (size.hosts + host) m) other 0)) ≡ weigh h (numbers_below (get_or s.words other 0)) = ap (λ (n : ℕ). weigh h (numbers_below n)) (same_claims size s.words host m other there) in
            omega arith);
        free = λ other p there from below.
            (let words = same_claims size s.words host m other there in
            let empty = rule.free other p there (omega arith) below in
            let apart : place_of other p ≢ k = λ e. out_or_empty none (some None) refl refl (sym empty ∙ ap (λ (j : ℕ). get_elem? s.homes j) e ∙ out) in
            set_else s.homes k (place_of other p) (some (Some x)) apart ∙ empty);
        each = λ seat u to. ⊎_elim
            (λ t. subst (λ (z : Known T). Fits size.hosts (set s.homes k (some (Some x))) z) t.1 (mine out old))
            (λ t. (let theirs = rule.each seat u t.1 in record {
              entered = stays_entered size.hosts s.homes k (some (Some x)) u.entered out theirs.entered;
              pending = stays_pending size.hosts s.homes host number (some (Some x)) u.pending small (others_lack size s id seat host number v u rule near pending at t.0 t.1) theirs.pending;
              few = theirs.few;
            }))
            (at_set s.views id seat w u to);
      }
    where
      mine : get_elem? s.homes (place_of host number) ≡ some none → Fits size.hosts s.homes v → Fits size.hosts (set s.homes (place_of host number) (some (Some x))) (after_fill v (Some x))
      mine out old =
          let homes : List (Place (Option T)) = set s.homes (place_of host number) (some (Some x)) in
          let e : Entry (Option T) = entry host number (Some x) in
          let one : map (λ (c : Claim). entry c.host c.number (Some x)) v.pending ≡ e ∷ [] = ap (map (λ (c : Claim). entry c.host c.number (Some x))) pending in
          let P : Entry (Option T) → Type 0 = IsEntered size.hosts homes in
          let there : P e = record { host = near; placed = λ _. set_here s.homes (place_of host number) (some (Some x)) (within s.homes (place_of host number) none out); full = λ _. (x, refl) } in
          let count : length v.pending ≡ 1 = ap length pending in
          let counts : length (map (λ (c : Claim). entry c.host c.number (Some x)) v.pending) ≡ 1 = ap length one in
          record {
            entered = recursion_from_All P (v.entered ++ map (λ (c : Claim). entry c.host c.number (Some x)) v.pending) (All-append P v.entered (map (λ (c : Claim). entry c.host c.number (Some x)) v.pending)
                (All-from_recursion P v.entered (stays_entered size.hosts s.homes (place_of host number) (some (Some x)) v.entered out old.entered))
                (All-same P (map (λ (c : Claim). entry c.host c.number (Some x)) v.pending) (e ∷ []) one (All-cons P e [] there (All-nil P))));
            pending = tt;
            few = (let f = old.few in omega (arith, length-append v.entered (map (λ (c : Claim). entry c.host c.number (Some x)) v.pending)));
          }

  -- a seat whose only claim has this number may give its place back, with a parcel in it
  pub fills : (size : Size) (slots id host number : ℕ) (v : Known T) (x : T) → host < size.hosts → number < 16 → v.pending ≡ claim host number ∷ []
      → Allows (AreInboxes size) slots id (v, (place_of host number, Some x) ∷ []) (size.hosts + host) (λ n. (n + 1) % 2 ^ 64) (Filled (step slots (size.hosts + host) 1 0 none) (v, (place_of host number, Some x) ∷ []))
  fills size slots id host number v x near small pending s rule long at fits = (
    after_fill v (Some x),
    gives,
    tt,
    fill_keeps size s ((get_or s.words (size.hosts + host) 0 + 1) % 2 ^ 64) id host number v x rule near small pending at,
    refl,
  )

  -- the same, as a seat holds it
  pub fills_of : (size : Size) (slots id hosts host number : ℕ) (v : Known T) (me : Me (Option T) (Known T)) (x : T) → hosts ≡ size.hosts → host < hosts → number < 16 → v.pending ≡ claim host number ∷ []
      → me ≡ (v, (place_of host number, Some x) ∷ [])
      → Allows (AreInboxes size) slots id me (hosts + host) (λ n. (n + 1) % 2 ^ 64) (Filled (step slots (hosts + host) 1 0 none) me)
  fills_of size slots id hosts host number v me x all near small pending is =
      let step_of : Me (Option T) (Known T) → ℕ → Type 0 = λ it n. Allows (AreInboxes size) slots id it (n + host) (λ n. (n + 1) % 2 ^ 64) (Filled (step slots (n + host) 1 0 none) it) in
      subst (λ (it : Me (Option T) (Known T)). step_of it hosts) (sym is)
      (subst (λ (n : ℕ). step_of (v, (place_of host number, Some x) ∷ []) n) (sym all) (fills size slots id host number v x (omega arith) small pending))
