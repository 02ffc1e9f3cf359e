-- Seats are made, and come back.
use Rattle.std.proofs.Common.{◌≡◌, ℕ, zero, suc, ◌+◌, ◌-◌, ◌*◌, ◌<◌, ◌≤◌, List, [], ◌∷◌, ◌++◌, map, length, get_or, set, replicate, add-zero, Option, None, sym, refl, ap, ◌∙◌, subst, ⊎_elim, length-append, arith}
use mathlib.Core.Option.{some, some-injective, some-ne-none}
use lib.ListN.{get_elem?}
use Rattle.atomic_table.specs.Table.{Me, Splits, Joins, opening}
use Rattle.std.proofs.lemmas.List.{length-map, length-replicate, get_or-replicate}
use Rattle.std.proofs.lemmas.List.Elements.{All-append, All-from_recursion, recursion_from_All}
use Rattle.atomic_table.proofs.Lists.{at_set, at_snoc, set_else}
use Rattle.host_inbox.specs.declared.entry.Entry.{Entry}
use Rattle.host_inbox.specs.declared.entry.Claim.{Claim}
use Rattle.host_inbox.specs.declared.rule.Known.{Known}
use Rattle.host_inbox.specs.declared.rule.Size.{Size}
use Rattle.list_weights.specs.Weights.{weigh, numbers_below}
use Rattle.host_inbox.specs.Entries.{place_of, claim_weight, entry_weight}
use Rattle.host_inbox.specs.Inboxes.{IsEntered, IsPending, Fits, AreInboxes, known, known_weight}
use Rattle.host_inbox.specs.Steps.{less_one, one, both, spent}
use Rattle.list_weights.proofs.Weights.{weigh_append, weigh_set}

module _ {T : Type 0} where
  -- a seat that has put nothing may give one seat away
  pub splits : (size : Size) (id : ℕ) (v : Known T) → 0 < v.share → v.entered ≡ [] → v.pending ≡ [] → Splits (AreInboxes size) id v (less_one v) (one v)
  splits size id v some_share none_entered none_pending s rule at =
      let l : Known T = less_one v in
      let r : Known T = one v in
      let no_entries : length v.entered ≡ 0 = ap length none_entered in
      let no_claims : length v.pending ≡ 0 = ap length none_pending in
      record {
        words = rule.words;
        homes = rule.homes;
        shares = (let change = weigh_set (λ (u : Known T). u.share) s.views id v l at in
            let more = weigh_append (λ (u : Known T). u.share) (set s.views id l) (r ∷ []) in
            let all = rule.shares in omega arith);
        few = rule.few;
        once = λ host h there.
            (let change = weigh_set (known_weight host h) s.views id v l at in
            let more = weigh_append (known_weight host h) (set s.views id l) (r ∷ []) in
            let all = rule.once host h there in omega arith);
        free = rule.free;
        each = λ seat u to. ⊎_elim
            (λ t. ⊎_elim
            (λ q. subst (λ (z : Known T). Fits size.hosts s.homes z) q.1
            (let old = rule.each id v at in record { entered = old.entered; pending = old.pending; few = omega arith }))
            (λ q. rule.each seat u q.1)
            (at_set s.views id seat l u t))
            (λ t. subst (λ (z : Known T). Fits size.hosts s.homes z) t (record { entered = tt; pending = tt; few = omega arith }))
            (at_snoc (set s.views id l) r u seat to);
      }

  -- what two seats know is known by one
  pub joins : (size : Size) (id other : ℕ) (v w : Known T) → Joins (AreInboxes size) id v other w (both v w) spent
  joins size id other v w s rule at apart to =
      let b : Known T = both v w in
      let theirs : get_elem? s.views other ≡ some w = sym (set_else s.views id other b apart) ∙ to in
      record {
        words = rule.words;
        homes = rule.homes;
        shares = (let first = weigh_set (λ (u : Known T). u.share) s.views id v b at in
            let second = weigh_set (λ (u : Known T). u.share) (set s.views id b) other w spent to in
            let all = rule.shares in omega arith);
        few = rule.few;
        once = λ host h there.
            (let first = weigh_set (known_weight host h) s.views id v b at in
            let second = weigh_set (known_weight host h) (set s.views id b) other w spent to in
            let entered = weigh_append (entry_weight host h) v.entered w.entered in
            let pending = weigh_append (claim_weight host h) v.pending w.pending in
            let all = rule.once host h there in omega arith);
        free = rule.free;
        each = λ seat u at_seat. ⊎_elim
            (λ t. subst (λ (z : Known T). Fits size.hosts s.homes z) t.1 (record { entered = tt; pending = tt; few = omega arith }))
            (λ t. ⊎_elim
            (λ q. subst (λ (z : Known T). Fits size.hosts s.homes z) q.1
            (let mine = rule.each id v at in
            let others = rule.each other w theirs in
            let P : Entry (Option T) → Type 0 = IsEntered size.hosts s.homes in
            let Q : Claim → Type 0 = IsPending size.hosts s.homes in
            record {
              entered = recursion_from_All P (v.entered ++ w.entered) (All-append P v.entered w.entered (All-from_recursion P v.entered mine.entered) (All-from_recursion P w.entered others.entered));
              pending = recursion_from_All Q (v.pending ++ w.pending) (All-append Q v.pending w.pending (All-from_recursion Q v.pending mine.pending) (All-from_recursion Q w.pending others.pending));
              few = (let a = mine.few in let c = others.few in omega (arith, length-append v.entered w.entered, length-append v.pending w.pending));
            }))
            (λ q. rule.each seat u q.1)
            (at_set s.views id seat b u t.1))
            (at_set (set s.views id b) other seat spent u at_seat);
      }

  -- the same, as a seat holds it
  pub splits_of : (size : Size) (id k : ℕ) (me : Me (Option T) (Known T)) → 0 < k → me ≡ (known k [] [], []) → Splits (AreInboxes size) id me.0 (less_one me.0) (one me.0)
  splits_of size id k me some_share is =
      let share : me.0.share ≡ k = ap (λ (m : Me (Option T) (Known T)). m.0.share) is in
      splits size id me.0 (omega arith) (ap (λ (m : Me (Option T) (Known T)). m.0.entered) is) (ap (λ (m : Me (Option T) (Known T)). m.0.pending) is)

  pub one_less : (k : ℕ) (me new : Me (Option T) (Known T)) → me ≡ (known (k + 1) [] [], []) → new ≡ (less_one me.0, me.1) → new ≡ (known k [] [], [])
  one_less k me new is to = to ∙ ap (λ (m : Me (Option T) (Known T)). (less_one m.0, m.1)) is ∙ ap (λ (n : ℕ). (known n [] [], [])) (let e : k + 1 - 1 ≡ k = omega arith in e)

  vacant_at : (n k : ℕ) → k < n → get_elem? (map some (replicate {A = Option T} n None)) k ≡ some (some None)
  vacant_at zero k w = absurd (omega arith)
  vacant_at (suc n) zero w = refl
  vacant_at (suc n) (suc k) w = vacant_at n k (omega arith)

  one_view : (v u : Known T) (seat : ℕ) → get_elem? (v ∷ []) seat ≡ some u → v ≡ u
  one_view v u zero e = some-injective v u e
  one_view v u (suc seat) e = absurd (some-ne-none u (sym e))

  -- inboxes into which nothing was put
  pub opens : (size : Size) (words : List ℕ) → size.seats ≤ 64 → words ≡ replicate (size.hosts + size.hosts) 0
      → AreInboxes size (opening words (replicate {A = Option T} (size.hosts * 16) None) (known size.seats [] []))
  opens size words few is =
      let zero_at : (host : ℕ) → host < size.hosts → get_or words host 0 ≡ 0 = λ host near.
      ap (λ (ws : List ℕ). get_or ws host 0) is ∙ get_or-replicate (size.hosts + size.hosts) host 0 0 (omega arith) in
      record {
        words = ap length is ∙ length-replicate (size.hosts + size.hosts) 0;
        homes = length-map (replicate {A = Option T} (size.hosts * 16) None) some ∙ length-replicate {A = Option T} (size.hosts * 16) None;
        shares = add-zero size.seats;
        few = few;
        once = λ host h near. sym (ap (λ (n : ℕ). weigh h (numbers_below n)) (zero_at host near));
        free = λ host number near from small. vacant_at (size.hosts * 16) (place_of host number) (omega arith);
        each = λ seat u at. subst (λ (z : Known T). Fits size.hosts (map some (replicate {A = Option T} (size.hosts * 16) None)) z) (one_view (known size.seats [] []) u seat at)
            (record { entered = tt; pending = tt; few = omega arith });
      }
