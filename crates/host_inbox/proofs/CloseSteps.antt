-- What lies in the places once one seat has all shares.
use Rattle.std.proofs.Common.{◌≡◌, ◌≢◌, ℕ, zero, suc, ◌+◌, ◌*◌, ◌<◌, ◌≤◌, ◌==◌, Bool, true, false, List, [], ◌∷◌, map, length, get_or, Option, Some, None, nat_lt, sym, refl, ap, ◌∙◌, subst, eq-eqb, ne_eqb, lt-ltb, arith}
use mathlib.Core.Option.{Option as Place, some}
use mathlib.Core.Logic.{dite}
use native.Mathlib.Decide.{ℕ_discrete}
use lib.ListN.{get_elem?}
use Rattle.std.specs.List.{AllByRecursion, filter}
use Rattle.std.proofs.lemmas.List.Elements.{All-weaker, All-from_recursion, recursion_from_All}
use Rattle.atomic_table.specs.Table.{State, Me, Final, Seen}
use Rattle.host_inbox.specs.declared.entry.Entry.{Entry}
use Rattle.host_inbox.specs.declared.rule.Known.{Known}
use Rattle.host_inbox.specs.declared.rule.Size.{Size}
use Rattle.list_weights.specs.Weights.{weigh, numbers_below, only}
use Rattle.host_inbox.specs.Entries.{place_of, claim_weight, entry_weight}
use Rattle.host_inbox.specs.Inboxes.{IsEntered, Fits, AreInboxes, known, known_weight}
use Rattle.host_inbox.specs.inside.Carriers.{filed, kept_if}
use Rattle.host_inbox.specs.Drains.{numbers_of}
use Rattle.host_inbox.specs.inside.Slots.{AreLaid, AreClosed}
use Rattle.list_weights.proofs.Weights.{weigh_alone, is_number, is_other}
use Rattle.host_inbox.proofs.Weights.{just_once}
use Rattle.host_inbox.proofs.Members.{each_map}
use Rattle.list_weights.proofs.Permutations.{same_weights}

weigh_none : {X : Type 0} (h : X → ℕ) (xs : List X) → length xs ≡ 0 → weigh h xs ≡ 0
weigh_none h [] e = refl
weigh_none h (x ∷ xs) e = absurd (omega arith)

module _ {X : Type 0} where
  -- an entry of that number
  pub find_entry : (P : Entry X → Type 0) (host number : ℕ) (es : List (Entry X)) → 0 < weigh (entry_weight host (is_number number)) es → AllByRecursion P es
      → (e : Entry X) × P e × (e.host ≡ host) × (e.number ≡ number)
  find_entry P host number [] some_there p = absurd (omega arith)
  find_entry P host number (e ∷ es) some_there p = dite (ℕ_discrete e.host host)
      (λ (same : e.host ≡ host). dite (ℕ_discrete e.number number)
      (λ (is : e.number ≡ number). (e, p.0, same, is))
      (λ (ne : e.number ≢ number).
      let one : only (e.host == host) (is_number number e.number) ≡ is_number number e.number = ap (λ b. only b (is_number number e.number)) (eq-eqb e.host host same) in
      let nothing = is_other number e.number ne in
      find_entry P host number es (omega arith) p.1))
      (λ (ne : e.host ≢ host).
      let nothing : only (e.host == host) (is_number number e.number) ≡ 0 = ap (λ b. only b (is_number number e.number)) (ne_eqb e.host host ne) in
      find_entry P host number es (omega arith) p.1)

module _ {T : Type 0} where
  -- the numbers of a host weigh what its entries do
  by_test : (b : Bool) (e : Entry T) (es : List (Entry T)) (h : ℕ → ℕ) → weigh h (map (λ (x : Entry T). x.number) (Rattle.std.proofs.Common.cond b (e ∷ es) es)) ≡ only b (h e.number) + weigh h (map (λ (x : Entry T). x.number) es)
  by_test true e es h = refl
  by_test false e es h = omega arith

  pub numbers_weigh : (host : ℕ) (h : ℕ → ℕ) (es : List (Entry T)) → weigh h (numbers_of host es) ≡ weigh (entry_weight host h) es
  numbers_weigh host h [] = refl
  numbers_weigh host h (e ∷ es) = by_test (e.host == host) e (filter (λ (x : Entry T). x.host == host) es) h ∙ ap (λ n. only (e.host == host) (h e.number) + n) (numbers_weigh host h es)

  filed_weigh : (host : ℕ) (h : ℕ → ℕ) (es : List (Entry T)) → weigh (entry_weight host h) (map filed es) ≡ weigh (entry_weight host h) es
  filed_weigh host h [] = refl
  filed_weigh host h (e ∷ es) = ap (λ n. only (e.host == host) (h e.number) + n) (filed_weigh host h es)

  -- a seat with no share knows nothing
  idle : (hosts : ℕ) (homes : List (Place (Option T))) (host : ℕ) (h : ℕ → ℕ) (u : Known T) → Fits hosts homes u → u.share ≡ 0 → known_weight host h u ≡ 0
  idle hosts homes host h u fits no_share =
      let few = fits.few in
      let a = weigh_none (entry_weight host h) u.entered (omega arith) in
      let b = weigh_none (claim_weight host h) u.pending (omega arith) in
      omega arith

  kept_parcel : (n : ℕ) (x : T) → n < 16 → kept_if (nat_lt n 16) x ≡ Some x
  kept_parcel n x small = ap (λ b. kept_if b x) (lt-ltb n 16 small)

  laid : (size : Size) (s : State (Option T) (Known T)) (id host : ℕ) (entries : List (Entry T)) (xs : List (Option T)) → AreInboxes size s → get_elem? s.views id ≡ some (known size.seats (map filed entries) [])
      → ((k : ℕ) (y : Option T) → get_elem? s.homes k ≡ some (some y) → get_elem? xs k ≡ some y) → host < size.hosts → AreLaid host entries xs
  laid size s id host entries xs rule at values near =
      let v : Known T = known size.seats (map filed entries) [] in
      let n : ℕ = get_or s.words host 0 in
      let mine = rule.each id v at in
      let weighs : (h : ℕ → ℕ) → weigh h (numbers_below n) ≡ weigh (entry_weight host h) (map filed entries) = λ h.
      (let alone = weigh_alone (known_weight host h) (λ (u : Known T). u.share) s.views id v at rule.shares (λ j u to no_share. idle size.hosts s.homes host h u (rule.each j u to) no_share) in
      let all = rule.once host h near in
      omega arith) in
      record {
        claimed = n;
        once = same_weights (numbers_of host entries) (numbers_below n) (λ h. numbers_weigh host h entries ∙ sym (filed_weigh host h entries) ∙ sym (weighs h));
        full = λ number below small.
            (let one = just_once number n below in
            let sum = weighs (is_number number) in
            let found = find_entry (IsEntered size.hosts s.homes) host number (map filed entries) (omega arith) mine.entered in
            let e : Entry (Option T) = found.0 in
            let here : e.number < 16 = (let is = found.3 in omega arith) in
            let full = found.1.full here in (
              full.0,
              values (place_of host number) (Some full.0)
                  (sym (ap (λ (p : ℕ × ℕ). get_elem? s.homes (place_of p.0 p.1)) (λ i. (found.2 i, found.3 i))) ∙ found.1.placed here ∙ ap (λ (p : Option T). some (some p)) full.1),
            ));
        empty = λ number from small. values (place_of host number) None (rule.free host number near from small);
        placed = recursion_from_All (λ (e : Entry T). e.host ≡ host → e.number < 16 → get_elem? xs (place_of host e.number) ≡ some (Some e.parcel)) entries
            (All-weaker (λ (e : Entry T). IsEntered size.hosts s.homes (filed e)) (λ (e : Entry T). e.host ≡ host → e.number < 16 → get_elem? xs (place_of host e.number) ≡ some (Some e.parcel))
            (λ e p of_host small. values (place_of host e.number) (Some e.parcel)
            (sym (ap (λ (k : ℕ). get_elem? s.homes (place_of k e.number)) of_host) ∙ p.placed small ∙ ap (λ (y : Option T). some (some y)) (kept_parcel e.number e.parcel small)))
            entries (All-from_recursion (λ (e : Entry T). IsEntered size.hosts s.homes (filed e)) entries (each_map (IsEntered size.hosts s.homes) filed entries mine.entered)));
      }

  -- the places of boards whose seats are joined into one
  pub closes : (size : Size) (id : ℕ) (entries : List (Entry T)) (words : List ℕ) (xs : List (Option T)) → Final (Seen (AreInboxes size) id (known size.seats (map filed entries) [])) words xs → AreClosed size.hosts entries xs
  closes size id entries words xs final =
      let s : State (Option T) (Known T) = final.0 in
      let mine = final.1.0.each id (known size.seats (map filed entries) []) final.1.1 in
      record {
        hosts_of = recursion_from_All (λ (e : Entry T). e.host < size.hosts) entries (All-weaker (λ (e : Entry T). IsEntered size.hosts s.homes (filed e)) (λ (e : Entry T). e.host < size.hosts) (λ e p. p.host)
            entries (All-from_recursion (λ (e : Entry T). IsEntered size.hosts s.homes (filed e)) entries (each_map (IsEntered size.hosts s.homes) filed entries mine.entered)));
        each = λ host near. laid size s id host entries xs final.1.0 final.1.1 final.4 near;
      }

  -- the same, as boards and their joined seat tell it
  pub closes_of : (key size : Size) (id count hosts : ℕ) (v : Known T) (entries : List (Entry T)) (words : List ℕ) (xs : List (Option T)) → key ≡ size → v ≡ known count (map filed entries) [] → count ≡ size.seats → hosts ≡ size.hosts
      → Final (Seen (AreInboxes key) id v) words xs → AreClosed hosts entries xs
  closes_of key size id count hosts v entries words xs same knows all count_of final =
      let v_is : v ≡ known size.seats (map filed entries) [] = knows ∙ ap (λ (n : ℕ). known n (map filed entries) []) all in
      subst (λ (n : ℕ). AreClosed n entries xs) (sym count_of)
      (closes size id entries words xs
      (subst (λ (p : Size × Known T). Final (Seen (AreInboxes p.0) id p.1) words xs) (λ i. (same i, v_is i)) final))

  pub known_of : (me : Me (Option T) (Known T)) (count : ℕ) (entries : List (Entry (Option T))) → me ≡ (known count entries [], []) → me.0 ≡ known count entries []
  known_of me count entries is = ap (λ (m : Me (Option T) (Known T)). m.0) is
