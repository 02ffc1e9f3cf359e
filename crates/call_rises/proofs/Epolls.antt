-- the entries of each epoll of a process stay in order
use Rattle.std.proofs.Common.{◌≡◌, ◌≢◌, ◌⊎◌, inl, inr, ⊎_elim, ℕ, zero, suc, ◌-◌, Bool, true, false, cond, not, if◌then◌else◌, List, [], ◌∷◌, ◌++◌, map, take, drop, Option, Some, None, refl, sym, ap, subst, ◌∙◌, arith}
use Rattle.std.specs.List.{position_or_len}
use Rattle.std.proofs.lemmas.Bool.Decides.{nat_tests}
use Rattle.host_fds.specs.declared.epoll.Seen.{Seen}
use Rattle.host_fds.specs.declared.epoll.Watch.{Watch}
use Rattle.host_fds.specs.Epoll as epoll
use Rattle.host_files.specs.Epolls.{EpollsState, no_entries, with_epoll, after_put, after_removal, forgets, forgotten, after_report, entries_reported, epoll_ended}
use Rattle.host_files.specs.Slots.{at, free_place, without, after, acts}
use Rattle.file_calls.specs.declared.controlling.Change.{Change}
use Rattle.file_calls.specs.declared.controlling.Change.TheVariants.{Put, Remove}
use Rattle.file_calls.specs.EpollControl.{changed}
use Rattle.pipe_laws.specs.Watching.{EpollAct, Puts, Drops, Tells, epoll_after, Rise}
use Rattle.pipe_laws.proofs.Watching.{act_rises}
use Rattle.file_laws.proofs.Places.{acts_here, without_here, set_other, made_here, made_other}
use Rattle.call_rises.specs.Moves.{AllRise}
use Rattle.call_rises.specs.Names.{IsIn, HasEntry}
use Rattle.call_rises.proofs.Views.{by_number}

-- an act on one of them
acts_by : (act : EpollAct) (f : List Watch → Option (List Watch)) → ((entries : List Watch) → f entries ≡ Some (epoll_after act entries)) → (o : Option (List Watch)) (left : List Watch) → ((entries : List Watch) → o ≡ Some entries → Rise entries) → after f o ≡ Some left → Rise left
acts_by act f is None left h e = cc
acts_by act f is (Some entries) left h e =
    let same : epoll_after act entries ≡ left = cc_some (sym (is entries) ∙ e) in subst Rise same (act_rises act entries (h entries refl))
  where
    cc_some : {x y : List Watch} → Some x ≡ Some y → x ≡ y
    cc_some e = cc

rise_acts : (act : EpollAct) (f : List Watch → Option (List Watch)) → ((entries : List Watch) → f entries ≡ Some (epoll_after act entries)) → (j : ℕ) (s : EpollsState) → AllRise s → AllRise (acts f j s)
rise_acts act f is j s h k left there =
    by_number j k (Rise left)
    (λ same.
    acts_by act f is (at j s) left (λ entries e. h j entries e)
    (sym (acts_here f j s) ∙ subst (λ (n : ℕ). at n (acts f j s) ≡ Some left) (sym same) there))
    (λ apart. h k left (sym (set_other j k (after f (at j s)) s apart) ∙ there))

pub rise_made : (s : EpollsState) → AllRise s → AllRise (with_epoll s)
rise_made s h k left there =
    by_number (free_place s) k (Rise left)
    (λ same.
    let here : Some no_entries ≡ Some left = sym (made_here no_entries s) ∙ subst (λ (n : ℕ). at n (with_epoll s) ≡ Some left) (sym same) there in
    empty left here)
    (λ apart. h k left (sym (made_other k no_entries s apart) ∙ there))
  where
    empty : (left : List Watch) → Some no_entries ≡ Some left → Rise left
    empty [] e = tt
    empty (w ∷ left) e = cc

pub rise_changed : (change : Change) (place : ℕ) (s : EpollsState) → AllRise s → AllRise (changed change place s)
rise_changed (Put w) place s h = rise_acts (Puts w) (after_put w) (λ entries. refl) place s h
rise_changed (Remove fd) place s h = rise_acts (Drops fd) (after_removal fd) (λ entries. refl) place s h

pub rise_reported : (room : ℕ) (seen : List Seen) (place : ℕ) (s : EpollsState) → AllRise s → AllRise (entries_reported room seen place s)
rise_reported room seen place s h = rise_acts (Tells room seen) (after_report room seen) (λ entries. refl) place s h

pub rise_ended : (place : ℕ) (s : EpollsState) → AllRise s → AllRise (epoll_ended place s)
rise_ended place s h k left there =
    by_number place k (Rise left)
    (λ same.
    let none : None ≡ Some left = sym (without_here place s) ∙ subst (λ (n : ℕ). at n (without place s) ≡ Some left) (sym same) there in
    absurd (cc))
    (λ apart. h k left (sym (set_other place k None s apart) ∙ there))

-- a descriptor that is closed: no epoll has its entry
forgets_by : (fd : ℕ) (o : Option (List Watch)) (left : List Watch) → ((entries : List Watch) → o ≡ Some entries → Rise entries) → forgets fd o ≡ Some left → Rise left
forgets_by fd None left h e = cc
forgets_by fd (Some entries) left h e =
    let same : epoll.without fd entries ≡ left = cc in subst Rise same (act_rises (Drops fd) entries (h entries refl))

forgotten_at : (fd k : ℕ) (s : EpollsState) → at k (forgotten fd s) ≡ forgets fd (at k s)
forgotten_at fd k [] = refl
forgotten_at fd zero (x ∷ s) = refl
forgotten_at fd (suc k) (x ∷ s) = forgotten_at fd k s

pub rise_forgotten : (fd : ℕ) (s : EpollsState) → AllRise s → AllRise (forgotten fd s)
rise_forgotten fd s h k left there =
    forgets_by fd (at k s) left (λ entries e. h k entries e) (sym (forgotten_at fd k s) ∙ there)

-- what is seen of each entry of an epoll, if it is there
abbrev pub seen_of_all : (Watch → Seen) → Option (List Watch) → List Seen
seen_of_all sees None = []
seen_of_all sees (Some entries) = map sees entries

pub none_rise : AllRise []
none_rise k entries e = cc

-- where the entries of epolls come from
module _ (x : Watch) where
  in_dropped : (b : Bool) (w : Watch) (rest : List Watch) → IsIn x (cond (not b) (w ∷ rest) rest) → ((b ≡ false) × (x ≡ w)) ⊎ IsIn x rest
  in_dropped true w rest h = inr h
  in_dropped false w rest (inl same) = inl (refl, same)
  in_dropped false w rest (inr there) = inr there

  in_without : (fd : ℕ) (ws : List Watch) → IsIn x (epoll.without fd ws) → IsIn x ws × (epoll.names fd x ≡ false)
  in_without fd [] h = absurd h
  in_without fd (w ∷ ws) h =
      found (λ there. in_without fd ws there) (in_dropped (epoll.names fd w) w (epoll.without fd ws) h)
    where
      found : (IsIn x (epoll.without fd ws) → IsIn x ws × (epoll.names fd x ≡ false)) → ((epoll.names fd w ≡ false) × (x ≡ w)) ⊎ IsIn x (epoll.without fd ws) → IsIn x (w ∷ ws) × (epoll.names fd x ≡ false)
      found later (inl here) = (inl here.1, subst (λ (v : Watch). epoll.names fd v ≡ false) (sym here.1) here.0)
      found later (inr there) = let before = later there in (inr before.0, before.1)

  in_split : (w : Watch) (n : ℕ) (ws : List Watch) → IsIn x (take n ws ++ w ∷ drop n ws) → (x ≡ w) ⊎ IsIn x ws
  in_split w zero [] h = h
  in_split w zero (v ∷ ws) h = h
  in_split w (suc n) [] h = h
  in_split w (suc n) (v ∷ ws) (inl same) = inr (inl same)
  in_split w (suc n) (v ∷ ws) (inr there) = ⊎_elim (λ same. inl same) (λ old. inr (inr old)) (in_split w n ws there)

  in_put : (w : Watch) (ws : List Watch) → IsIn x (epoll.with_watch w ws) → (x ≡ w) ⊎ IsIn x ws
  in_put w ws h =
      ⊎_elim (λ same. inl same) (λ old. inr (in_without w.fd ws old).0)
      (in_split w (position_or_len (epoll.is_behind w.fd) (epoll.without w.fd ws)) (epoll.without w.fd ws) h)

  -- an entry that is told, or not
  abbrev Was : (Watch → Seen) → Watch → Type 0
  Was sees w = (x ≡ w) ⊎ (x ≡ epoll.report_of w (sees w))

  abbrev WasIn : (Watch → Seen) → List Watch → Type 0
  WasIn sees ws = (w : Watch) × (IsIn w ws × Was sees w)

  in_either : (sees : Watch → Seen) (b : Bool) (w : Watch) (ws told_rest rest : List Watch) → (IsIn x told_rest → WasIn sees ws) → (IsIn x rest → WasIn sees ws) → IsIn x (if b then epoll.report_of w (sees w) ∷ told_rest else w ∷ rest) → WasIn sees (w ∷ ws)
  in_either sees true w ws told_rest rest a c (inl same) = (w, (inl refl, inr same))
  in_either sees true w ws told_rest rest a c (inr there) = let before = a there in (before.0, (inr before.1.0, before.1.1))
  in_either sees false w ws told_rest rest a c (inl same) = (w, (inl refl, inl same))
  in_either sees false w ws told_rest rest a c (inr there) = let before = c there in (before.0, (inr before.1.0, before.1.1))

  in_reported : (room : ℕ) (sees : Watch → Seen) (ws : List Watch) → IsIn x (epoll.reported room (map sees ws) ws) → WasIn sees ws
  unfolding epoll.reported
  in_reported room sees [] h = absurd h
  in_reported room sees (w ∷ ws) h =
      in_either sees (epoll.is_told room w (sees w)) w ws (epoll.reported (room - 1) (map sees ws) ws) (epoll.reported room (map sees ws) ws)
      (λ there. in_reported (room - 1) sees ws there) (λ there. in_reported room sees ws there) h

  -- those of one epoll after an act on another
  entry_acted : (g : List Watch → List Watch) (place : ℕ) (s : EpollsState) (k : ℕ) (P : Type 0) → HasEntry k (acts (λ ws. Some (g ws)) place s) x → ((before : List Watch) → place ≡ k → at k s ≡ Some before → IsIn x (g before) → P) → (HasEntry k s x → P) → P
  entry_acted g place s k P (entries, (there, is_in)) here others =
      by_number place k P
      (λ same.
      by_one (at k s) refl
      (sym (subst (λ (n : ℕ). at n (acts (λ ws. Some (g ws)) place s) ≡ after (λ ws. Some (g ws)) (at n s)) same (acts_here (λ ws. Some (g ws)) place s)) ∙ there) same)
      (λ apart. others (entries, (sym (set_other place k (after (λ ws. Some (g ws)) (at place s)) s apart) ∙ there, is_in)))
    where
      by_one : (o : Option (List Watch)) → at k s ≡ o → after (λ ws. Some (g ws)) o ≡ Some entries → place ≡ k → P
      by_one None e f same = let no : ⊥ = cc in absurd no
      by_one (Some before) e f same =
          let now_is : g before ≡ entries = cc in here before same e (subst (λ (ws : List Watch). IsIn x ws) (sym now_is) is_in)

  pub entry_made : (s : EpollsState) (k : ℕ) → HasEntry k (with_epoll s) x → HasEntry k s x
  entry_made s k (entries, (there, is_in)) =
      by_number (free_place s) k (HasEntry k s x)
      (λ same.
      let here : Some no_entries ≡ Some entries = sym (made_here no_entries s) ∙ subst (λ (n : ℕ). at n (with_epoll s) ≡ Some entries) (sym same) there in
      absurd (none_in entries here is_in))
      (λ apart. (entries, (sym (made_other k no_entries s apart) ∙ there, is_in)))
    where
      none_in : (entries : List Watch) → Some no_entries ≡ Some entries → IsIn x entries → ⊥
      none_in [] e h = h
      none_in (w ∷ entries) e h = cc

  pub entry_put : (w : Watch) (place : ℕ) (s : EpollsState) (k : ℕ) → HasEntry k (changed (Put w) place s) x → (x ≡ w) ⊎ HasEntry k s x
  entry_put w place s k h =
      entry_acted (epoll.with_watch w) place s k ((x ≡ w) ⊎ HasEntry k s x) h
      (λ before same e is_in. ⊎_elim (λ new. inl new) (λ old. inr (before, (e, old))) (in_put w before is_in))
      (λ old. inr old)

  pub entry_removed : (fd place : ℕ) (s : EpollsState) (k : ℕ) → HasEntry k (changed (Remove fd) place s) x → HasEntry k s x
  entry_removed fd place s k h =
      entry_acted (epoll.without fd) place s k (HasEntry k s x) h
      (λ before same e is_in. (before, (e, (in_without fd before is_in).0)))
      (λ old. old)

  -- a report tells by what is seen of each
  pub entry_reported : (room : ℕ) (sees : Watch → Seen) (place : ℕ) (s : EpollsState) (k : ℕ) → HasEntry k (entries_reported room (seen_of_all sees (at place s)) place s) x → (w : Watch) × (HasEntry k s w × Was sees w)
  entry_reported room sees place s k h =
      entry_acted (epoll.reported room (seen_of_all sees (at place s))) place s k _ h
      (λ before same e is_in.
      let all : seen_of_all sees (at place s) ≡ map sees before = subst (λ (n : ℕ). seen_of_all sees (at n s) ≡ map sees before) (sym same) (ap (λ (o : Option (List Watch)). seen_of_all sees o) e) in
      let found = in_reported room sees before (subst (λ (seen : List Seen). IsIn x (epoll.reported room seen before)) all is_in) in
      (found.0, ((before, (e, found.1.0)), found.1.1)))
      (λ old. (x, (old, inl refl)))

  pub entry_forgotten : (fd k : ℕ) (s : EpollsState) → HasEntry k (forgotten fd s) x → HasEntry k s x × (epoll.names fd x ≡ false)
  entry_forgotten fd k s (entries, (there, is_in)) = by_one (at k s) refl (sym (forgotten_at fd k s) ∙ there)
    where
      by_one : (o : Option (List Watch)) → at k s ≡ o → forgets fd o ≡ Some entries → HasEntry k s x × (epoll.names fd x ≡ false)
      by_one None e f = cc
      by_one (Some before) e f =
          let now_is : epoll.without fd before ≡ entries = cc in
          let found = in_without fd before (subst (λ (ws : List Watch). IsIn x ws) (sym now_is) is_in) in
          ((before, (e, found.0)), found.1)

  pub entry_ended : (place k : ℕ) (s : EpollsState) → HasEntry k (epoll_ended place s) x → HasEntry k s x
  entry_ended place k s (entries, (there, is_in)) =
      by_number place k (HasEntry k s x)
      (λ same.
      let none : None ≡ Some entries = sym (without_here place s) ∙ subst (λ (n : ℕ). at n (without place s) ≡ Some entries) (sym same) there in
      absurd (cc))
      (λ apart. (entries, (sym (set_other place k None s apart) ∙ there, is_in)))

  pub another_fd : (fd : ℕ) → epoll.names fd x ≡ false → x.fd ≢ fd
  another_fd fd e same = grind (arith, nat_tests)
