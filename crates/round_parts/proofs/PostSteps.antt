-- One parcel more is posted.
use Rattle.std.proofs.Common.{◌≡◌, ⊎_elim, ℕ, ◌-◌, ◌<◌, ◌≤◌, ◌^◌, inl, inr, Bool, true, false, List, [], ◌∷◌, ◌++◌, All, length, nat_le, refl, sym, ap, subst, ◌∙◌, arith, append_assoc, append-nil}
use Rattle.std.specs.Prelude.{if◌then◌else◌}
use Rattle.std.proofs.lemmas.Bool.{le-leb, lt-leb}
use Rattle.std.proofs.lemmas.List.Elements.{All-push, filter-append}
use Rattle.sim_base.specs.declared.event.Parcel.{Parcel}
use Rattle.host_inbox.specs.declared.entry.Entry.{Entry}
use Rattle.host_inbox.specs.Entries.{entry}
use Rattle.round_parts.specs.Arrivals.{Boxed}
use Rattle.round_parts.specs.Posts.{IsPosted, carried, given_back}

carried_more : (entries : List (Entry Boxed)) (e : Entry Boxed) → carried (entries ++ e ∷ []) ≡ carried entries ++ e.parcel.value ∷ []
carried_more [] e = refl
carried_more (x ∷ entries) e = ap (λ (l : List Parcel). x.parcel.value ∷ l) (carried_more entries e)

given_more : (entries : List (Entry Boxed)) (e : Entry Boxed) (back : Bool) → nat_le 16 e.number ≡ back → given_back (entries ++ e ∷ []) ≡ given_back entries ++ (if back then e ∷ [] else [])
given_more entries e back is =
    filter-append (λ (x : Entry Boxed). nat_le 16 x.number) entries (e ∷ [])
    ∙ ap (λ (b : Bool). given_back entries ++ (if b then e ∷ [] else [])) is

module _ (all : List Parcel) (entries : List (Entry Boxed)) (spill : List Parcel) (is : IsPosted all entries spill) where
  -- no put more may be made
  pub kept_more : (p : Parcel) (new : List Parcel) → length entries ≡ 2 ^ 32 - 1 → new ≡ spill ++ p ∷ [] → IsPosted (all ++ p ∷ []) entries new
  kept_more p new last more = record {
    kept = is.kept ++ p ∷ [];
    sent = ap (λ (l : List Parcel). l ++ p ∷ []) is.sent ∙ append_assoc (carried entries) is.kept (p ∷ []);
    spilled = more ∙ ap (λ (l : List Parcel). l ++ p ∷ []) is.spilled ∙ append_assoc (carried (given_back entries)) is.kept (p ∷ []);
    last = inr last;
    theirs = is.theirs;
  }

  module _ (few : length entries < 2 ^ 32 - 1) (boxed : Boxed) (number : ℕ) (new : List (Entry Boxed)) (new_is : new ≡ entries ++ entry boxed.value.to.index number boxed ∷ []) where
    none_kept : is.kept ≡ []
    none_kept = ⊎_elim (λ (none : is.kept ≡ []). none) (λ (last : length entries ≡ 2 ^ 32 - 1). absurd (omega arith)) is.last

    sent_more : all ++ boxed.value ∷ [] ≡ carried new ++ []
    sent_more =
        ap (λ (l : List Parcel). l ++ boxed.value ∷ []) (is.sent ∙ ap (λ (l : List Parcel). carried entries ++ l) none_kept ∙ append-nil (carried entries))
        ∙ sym (append-nil (carried new) ∙ ap carried new_is ∙ carried_more entries (entry boxed.value.to.index number boxed))

    spilled_so_far : spill ≡ carried (given_back entries)
    spilled_so_far = is.spilled ∙ ap (λ (l : List Parcel). carried (given_back entries) ++ l) none_kept ∙ append-nil (carried (given_back entries))

    theirs_more : All (λ (e : Entry Boxed). e.host ≡ e.parcel.value.to.index) new
    theirs_more = subst (All (λ (e : Entry Boxed). e.host ≡ e.parcel.value.to.index)) (sym new_is)
        (All-push (λ (e : Entry Boxed). e.host ≡ e.parcel.value.to.index) entries (entry boxed.value.to.index number boxed) is.theirs refl)

    -- the parcel has a place
    pub placed_more : number < 16 → IsPosted (all ++ boxed.value ∷ []) new spill
    placed_more free = record {
      kept = [];
      sent = sent_more;
      spilled = spilled_so_far ∙ sym (append-nil (carried (given_back new))
          ∙ ap carried (ap given_back new_is ∙ given_more entries (entry boxed.value.to.index number boxed) false (lt-leb 16 number free) ∙ append-nil (given_back entries)));
      last = inl refl;
      theirs = theirs_more;
    }

    -- it came back
    pub back_more : 16 ≤ number → IsPosted (all ++ boxed.value ∷ []) new (spill ++ boxed.value ∷ [])
    back_more full = record {
      kept = [];
      sent = sent_more;
      spilled = ap (λ (l : List Parcel). l ++ boxed.value ∷ []) spilled_so_far
          ∙ sym (append-nil (carried (given_back new))
          ∙ ap carried (ap given_back new_is ∙ given_more entries (entry boxed.value.to.index number boxed) true (le-leb 16 number full))
          ∙ carried_more (given_back entries) (entry boxed.value.to.index number boxed));
      last = inl refl;
      theirs = theirs_more;
    }
