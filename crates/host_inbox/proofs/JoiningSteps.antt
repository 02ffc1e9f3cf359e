-- Carriers' seats are joined into one, from the last on.
use Rattle.std.proofs.Common.{◌≡◌, ℕ, ◌+◌, List, [], ◌∷◌, ◌++◌, map, length, All, Option, Some, sym, ap, ◌∙◌, append_assoc, append-nil, length-append, arith}
use Rattle.std.proofs.lemmas.Grind.{flat_map-append}
use Rattle.std.proofs.lemmas.List.{map-append}
use Rattle.std.proofs.lemmas.List.Elements.{All-pop}
use Rattle.atomic_table.specs.Table.{Me}
use Rattle.atomic_table.specs.Seated.{TableId}
use Rattle.host_inbox.specs.declared.entry.Entry.{Entry}
use Rattle.host_inbox.specs.declared.rule.Known.{Known}
use Rattle.host_inbox.specs.Inboxes.{known}
use Rattle.host_inbox.specs.Steps.{both}
use Rattle.host_inbox.specs.inside.Carriers.{filed}
use Rattle.host_inbox.specs.CarrierViews.{CarrierView}
use Rattle.host_inbox.specs.Drains.{all_entries}
use Rattle.host_inbox.specs.inside.Slots.{IsJoining}

module _ {T : Type 0} where
  entries_snoc : (xs : List (CarrierView T)) (c : CarrierView T) → all_entries (xs ++ c ∷ []) ≡ all_entries xs ++ c.entries
  entries_snoc xs c = flat_map-append (λ (carrier : CarrierView T). carrier.entries) xs (c ∷ []) ∙ ap (λ (l : List (Entry T)). all_entries xs ++ l) (append-nil c.entries)

  -- the last carrier alone
  pub begins : (id : TableId) (carriers left : List (CarrierView T)) (last : CarrierView T) (me : Me (Option T) (Known T)) → carriers ≡ left ++ last ∷ [] → All (λ (c : CarrierView T). c.boards ≡ id) carriers
      → me ≡ (known 1 (map filed last.entries) [], []) → IsJoining id carriers left me
  begins id carriers left last me is theirs knows = record {
    entries = last.entries;
    share = 1;
    knows = knows;
    count = (let long = ap length is in omega (arith, length-append left (last ∷ [])));
    all = sym (ap all_entries is ∙ entries_snoc left last);
    theirs = (All-pop (λ (c : CarrierView T). c.boards ≡ id) carriers left (Some last) is theirs).0;
  }

  -- one carrier more
  pub joins_more : (id : TableId) (carriers old left : List (CarrierView T)) (next : CarrierView T) (me before new : Me (Option T) (Known T)) → IsJoining id carriers old me → old ≡ left ++ next ∷ []
      → before ≡ (known 1 (map filed next.entries) [], []) → new ≡ (both before.0 me.0, before.1) → IsJoining id carriers left new
  joins_more id carriers old left next me before new h is knows joins = record {
    entries = next.entries ++ h.entries;
    share = 1 + h.share;
    knows = joins
        ∙ ap (λ (m : Me (Option T) (Known T)). (both m.0 me.0, m.1)) knows
        ∙ ap (λ (m : Me (Option T) (Known T)). (both (known 1 (map filed next.entries) []) m.0, [])) h.knows
        ∙ ap (λ (l : List (Entry (Option T))). (known (1 + h.share) l [], [])) (sym (map-append filed next.entries h.entries));
    count = (let long = ap length is in let count = h.count in omega (arith, length-append left (next ∷ [])));
    all = sym (append_assoc (all_entries left) next.entries h.entries) ∙ ap (λ (l : List (Entry T)). l ++ h.entries) (sym (ap all_entries is ∙ entries_snoc left next)) ∙ h.all;
    theirs = (All-pop (λ (c : CarrierView T). c.boards ≡ id) old left (Some next) is h.theirs).0;
  }

  pub last_is_theirs : (id : TableId) (old left : List (CarrierView T)) (next : CarrierView T) → All (λ (c : CarrierView T). c.boards ≡ id) old → old ≡ left ++ next ∷ [] → next.boards ≡ id
  last_is_theirs id old left next theirs is = (All-pop (λ (c : CarrierView T). c.boards ≡ id) old left (Some next) is theirs).1

  -- all carriers
  pub ends : (id : TableId) (carriers left : List (CarrierView T)) (me : Me (Option T) (Known T)) → IsJoining id carriers left me → length left ≡ 0
      → me ≡ (known (length carriers) (map filed (all_entries carriers)) [], [])
  ends id carriers (c ∷ left) me h none = absurd (omega arith)
  ends id carriers [] me h none =
      h.knows ∙ ap (λ (p : ℕ × List (Entry T)). (known p.0 (map filed p.1) [], [])) (λ i. ((let count = h.count in let e : h.share ≡ length carriers = omega arith in e) i, h.all i))

  pub holds_nothing : (id : TableId) (carriers left : List (CarrierView T)) (me : Me (Option T) (Known T)) → IsJoining id carriers left me → me.1 ≡ []
  holds_nothing id carriers left me h = ap (λ (m : Me (Option T) (Known T)). m.1) h.knows
