-- Lists that are made host by host.
use Rattle.std.proofs.Common.{◌≡◌, List, [], ◌∷◌, ◌++◌, flat_map, refl, sym, ap, subst, ◌∙◌, append_assoc, append-nil}
use Rattle.std.proofs.lemmas.List.Concat.{flat_map-append}
use Rattle.sim_base.specs.declared.event.Parcel.{Parcel}
use Rattle.host_state.specs.declared.host.Host.{Host}
use Rattle.round_schedule.specs.inside.Closing.{placed_at, IsSameHost}
use Rattle.round_schedule.specs.Standing.{EachStands, IsWaiting}
use Rattle.round_schedule.specs.declared.member.Member.{Member}
use Rattle.round_schedule.proofs.Openings.{pair_none, pair_more}

-- ---- hosts without what was in their places

pub record IsClearing (whole left cleared : List Member) (parcels : List Parcel) : Type 0 where
  pub done : List Member
  pub whole_is : whole ≡ done ++ left
  pub hosts : EachStands (λ i. IsSameHost) done cleared
  pub parcels_are : parcels ≡ flat_map placed_at done

pub clearing_start : (whole left cleared : List Member) (parcels : List Parcel) → whole ≡ left → cleared ≡ [] → parcels ≡ [] → IsClearing whole left cleared parcels
clearing_start whole left cleared parcels same none nothing = record {
  done = [];
  whole_is = same;
  hosts = subst (EachStands (λ i. IsSameHost) []) (sym none) (pair_none (λ i. IsSameHost));
  parcels_are = nothing;
}

pub clearing_next : (whole left rest cleared new : List Member) (parcels more : List Parcel) (m n : Member) → left ≡ m ∷ rest → IsClearing whole left cleared parcels → IsSameHost m n
    → new ≡ cleared ++ n ∷ [] → more ≡ parcels ++ placed_at m → IsClearing whole rest new more
clearing_next whole left rest cleared new parcels more m n left_is going same new_is more_is = record {
  done = going.done ++ m ∷ [];
  whole_is = going.whole_is ∙ ap (λ (l : List Member). going.done ++ l) left_is ∙ sym (append_assoc going.done (m ∷ []) rest);
  hosts = subst (EachStands (λ i. IsSameHost) (going.done ++ m ∷ [])) (sym new_is) (pair_more IsSameHost going.done cleared m n going.hosts same);
  parcels_are = more_is ∙ ap (λ (l : List Parcel). l ++ placed_at m) going.parcels_are ∙ ap (λ (l : List Parcel). flat_map placed_at going.done ++ l) (sym (append-nil (placed_at m)))
      ∙ sym (flat_map-append placed_at going.done (m ∷ []));
}

pub clearing_end : (whole left cleared : List Member) (parcels : List Parcel) → left ≡ [] → IsClearing whole left cleared parcels → EachStands (λ i. IsSameHost) whole cleared × (parcels ≡ flat_map placed_at whole)
clearing_end whole left cleared parcels none going =
    let all : whole ≡ going.done = going.whole_is ∙ ap (λ (l : List Member). going.done ++ l) none ∙ append-nil going.done in (
      subst (λ (l : List Member). EachStands (λ i. IsSameHost) l cleared) (sym all) going.hosts,
      going.parcels_are ∙ ap (flat_map placed_at) (sym all),
    )

-- ---- hosts that wait

pub record IsMaking (whole left : List Host) (made : List Member) : Type 0 where
  pub done : List Host
  pub whole_is : whole ≡ done ++ left
  pub waiting : EachStands (λ i. IsWaiting) done made

pub making_start : (whole left : List Host) (made : List Member) → whole ≡ left → made ≡ [] → IsMaking whole left made
making_start whole left made same none = record { done = []; whole_is = same; waiting = subst (EachStands (λ i. IsWaiting) []) (sym none) (pair_none (λ i. IsWaiting)) }

pub making_next : (whole left rest : List Host) (made new : List Member) (h : Host) (m : Member) → left ≡ h ∷ rest → IsMaking whole left made → IsWaiting h m → new ≡ made ++ m ∷ [] → IsMaking whole rest new
making_next whole left rest made new h m left_is going waits new_is = record {
  done = going.done ++ h ∷ [];
  whole_is = going.whole_is ∙ ap (λ (l : List Host). going.done ++ l) left_is ∙ sym (append_assoc going.done (h ∷ []) rest);
  waiting = subst (EachStands (λ i. IsWaiting) (going.done ++ h ∷ [])) (sym new_is) (pair_more IsWaiting going.done made h m going.waiting waits);
}

pub making_end : (whole left : List Host) (made : List Member) → left ≡ [] → IsMaking whole left made → EachStands (λ i. IsWaiting) whole made
making_end whole left made none going =
    let all : whole ≡ going.done = going.whole_is ∙ ap (λ (l : List Host). going.done ++ l) none ∙ append-nil going.done in
    subst (λ (l : List Host). EachStands (λ i. IsWaiting) l made) (sym all) going.waiting
