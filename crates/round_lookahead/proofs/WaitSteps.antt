-- All that waits for hosts: the events that they hold, and the packets for them.
use Rattle.std.proofs.Common.{◌≡◌, ℕ, suc, List, [], ◌∷◌, ◌++◌, Option, Some, None, inl, map, flat_map, length, slice_get, refl, sym, ap, subst, ◌∙◌, arith, append-nil, append_assoc, IsPermutation}
use Rattle.std.specs.Prelude.{Box}
use Rattle.std.specs.declared.alloc.Global.{Global}
use Rattle.std.proofs.lemmas.List.Sorted.{IsPermutation-refl, IsPermutation-sym, IsPermutation-trans, IsPermutation-append_right}
use Rattle.sim_base.specs.declared.event.Event.{Event}
use Rattle.sim_base.specs.declared.time.Time.{Time}
use Rattle.event_order.specs.Events.{IsLeastDue}
use Rattle.host_state.specs.declared.host.Host.{Host}
use Rattle.world_order.proofs.Homes.{some_is}
use Rattle.world_order.proofs.Members.{IsIn, IsIn_permutation, Each_from_All, All_from_Each}
use Rattle.world_order.proofs.Parts.{second_first}
use Rattle.round_lookahead.specs.declared.workers.host_task.HostTask.{HostTask}
use Rattle.round_lookahead.specs.declared.workers.worked.Done.{Done}
use Rattle.round_lookahead.specs.inside.Alone.{held_by}
use Rattle.round_parts.specs.Arrivals.{Boxed, arrivals}
use Rattle.round_parts.specs.Rows.{row_arrivals}
use Rattle.round_parts.specs.Dues.{first_due, lesser_due}
use Rattle.round_lookahead.specs.inside.Waits.{IsSameHosts, rows_of}
use Rattle.round_lookahead.specs.Tasks.{waiting}
use Rattle.round_parts.proofs.DueSteps.{any_in, in_any, IsDue, IsFrom, least_both}
use Rattle.round_lookahead.proofs.IdleSteps.{first-is}

-- ---- two parts

-- each of two parts
pub split_parts : {X : Type 0} (f g : X → List Event) (xs : List X) → IsPermutation (flat_map (λ x. f x ++ g x) xs) (flat_map f xs ++ flat_map g xs)
split_parts f g [] = IsPermutation-refl []
split_parts f g (x ∷ xs) =
    IsPermutation-trans ((f x ++ g x) ++ flat_map (λ y. f y ++ g y) xs) ((f x ++ g x) ++ (flat_map f xs ++ flat_map g xs)) ((f x ++ flat_map f xs) ++ (g x ++ flat_map g xs))
    (IsPermutation-append_right (f x ++ g x) (flat_map (λ y. f y ++ g y) xs) (flat_map f xs ++ flat_map g xs) (split_parts f g xs))
    (subst (λ (l : List Event). IsPermutation l ((f x ++ flat_map f xs) ++ (g x ++ flat_map g xs))) (sym (append_assoc (f x) (g x) (flat_map f xs ++ flat_map g xs)))
    (subst (IsPermutation (f x ++ (g x ++ (flat_map f xs ++ flat_map g xs)))) (sym (append_assoc (f x) (flat_map f xs) (g x ++ flat_map g xs)))
    (IsPermutation-append_right (f x) (g x ++ (flat_map f xs ++ flat_map g xs)) (flat_map f xs ++ (g x ++ flat_map g xs)) (second_first (g x) (flat_map f xs) (flat_map g xs)))))

abbrev pub held_in : List HostTask → List Event
held_in ts = flat_map (λ (t : HostTask). t.host.value.queue) ts

abbrev pub arrived_in : List HostTask → List Event
arrived_in ts = flat_map (λ (t : HostTask). arrivals t.parcels.items) ts

pub arrived_rows : (ts : List HostTask) → row_arrivals (rows_of ts) ≡ arrived_in ts
arrived_rows [] = refl
arrived_rows (t ∷ ts) = ap (λ (l : List Event). arrivals t.parcels.items ++ l) (arrived_rows ts)

pub waiting_parts : (ts : List HostTask) → IsPermutation (flat_map waiting ts) (held_in ts ++ arrived_in ts)
waiting_parts ts = split_parts (λ (t : HostTask). t.host.value.queue) (λ (t : HostTask). arrivals t.parcels.items) ts

-- ---- packets wait too

held_hosts : (ts : List HostTask) → flat_map (λ (b : Box Host Global). b.value.queue) (map (λ (t : HostTask). t.host) ts) ≡ held_in ts
held_hosts [] = refl
held_hosts (t ∷ ts) = ap (λ (l : List Event). t.host.value.queue ++ l) (held_hosts ts)

same_held : (old new : List HostTask) → IsSameHosts old new → held_in old ≡ held_in new
same_held old new same = sym (held_hosts old) ∙ ap (flat_map (λ (b : Box Host Global). b.value.queue)) (sym same.hosts) ∙ held_hosts new

pub waits_with : (old new : List HostTask) (more : List Event) → IsSameHosts old new → IsPermutation (row_arrivals (rows_of new)) (more ++ row_arrivals (rows_of old))
    → IsPermutation (flat_map waiting new) (more ++ flat_map waiting old)
waits_with old new more same moved =
    let arrived : IsPermutation (arrived_in new) (more ++ arrived_in old) =
    subst (λ (l : List Event). IsPermutation l (more ++ arrived_in old)) (arrived_rows new)
    (subst (λ (l : List Event). IsPermutation (row_arrivals (rows_of new)) (more ++ l)) (arrived_rows old) moved) in
    let before : IsPermutation (held_in new ++ arrived_in old) (flat_map waiting old) =
    subst (λ (l : List Event). IsPermutation (l ++ arrived_in old) (flat_map waiting old)) (same_held old new same)
    (IsPermutation-sym (flat_map waiting old) (held_in old ++ arrived_in old) (waiting_parts old)) in
    IsPermutation-trans (flat_map waiting new) (held_in new ++ arrived_in new) (more ++ flat_map waiting old) (waiting_parts new)
    (IsPermutation-trans (held_in new ++ arrived_in new) (held_in new ++ (more ++ arrived_in old)) (more ++ flat_map waiting old)
    (IsPermutation-append_right (held_in new) (arrived_in new) (more ++ arrived_in old) arrived)
    (IsPermutation-trans (held_in new ++ (more ++ arrived_in old)) (more ++ (held_in new ++ arrived_in old)) (more ++ flat_map waiting old)
    (second_first (held_in new) more (arrived_in old))
    (IsPermutation-append_right more (held_in new ++ arrived_in old) (flat_map waiting old) before)))

-- all that waits for hosts that were run in their places is what they hold
pub held_waits : (ts : List HostTask) (ds : List Done) → length ds ≡ length ts
    → ((k : ℕ) (d : Done) → slice_get ds k ≡ Some d → (t : HostTask) × (slice_get ts k ≡ Some t) × (t.host ≡ d.host) × (t.parcels.items ≡ [])) → flat_map waiting ts ≡ held_by ds
held_waits [] [] count at = refl
held_waits [] (d ∷ ds) count at = absurd (omega arith)
held_waits (t ∷ ts) [] count at = absurd (omega arith)
held_waits (t ∷ ts) (d ∷ ds) count at =
    let first = at 0 d refl in
    let is : t ≡ first.0 = some_is t first.0 first.1 in
    let none : t.parcels.items ≡ [] = ap (λ (x : HostTask). x.parcels.items) is ∙ first.3 in
    let held : waiting t ≡ d.host.value.queue =
    ap (λ (l : List Boxed). t.host.value.queue ++ arrivals l) none ∙ append-nil t.host.value.queue ∙ ap (λ (x : HostTask). x.host.value.queue) is ∙ ap (λ (b : Box Host Global). b.value.queue) first.2 in
    let rest : flat_map waiting ts ≡ held_by ds = held_waits ts ds (omega arith) (λ k e there. at (suc k) e there) in
    λ i. held i ++ rest i

-- ---- when the first is due

nothing_in : (es : List Event) → ((e : Event) → IsIn e es → ⊥) → es ≡ []
nothing_in [] none = refl
nothing_in (e ∷ es) none = absurd (none e (inl refl))

-- of the same events in another order
least_permuted : (es fs : List Event) (due : Option Time) → IsPermutation es fs → IsLeastDue es due → IsLeastDue fs due
least_permuted es fs None same none = nothing_in fs (λ e h. subst (IsIn e) none (IsIn_permutation e fs es (IsPermutation-sym es fs same) h))
least_permuted es fs (Some x) same least =
    let first = any_in (IsDue x) es least.0 in (
      in_any (IsDue x) fs first.0 (IsIn_permutation first.0 es fs same first.1) first.2,
      All_from_Each (IsFrom x) fs (λ e h. Each_from_All (IsFrom x) es least.1 e (IsIn_permutation e fs es (IsPermutation-sym es fs same) h)),
    )

-- once packets wait too
pub due_with : (old new : List HostTask) (more : List Event) (held packets due : Option Time) → IsLeastDue (flat_map waiting old) held → IsLeastDue more packets → due ≡ lesser_due packets held
    → IsPermutation (flat_map waiting new) (more ++ flat_map waiting old) → due ≡ first_due (flat_map waiting new)
due_with old new more held packets due first arrive is moved =
    first-is (flat_map waiting new) due
    (least_permuted (more ++ flat_map waiting old) (flat_map waiting new) due (IsPermutation-sym (flat_map waiting new) (more ++ flat_map waiting old) moved)
    (subst (IsLeastDue (more ++ flat_map waiting old)) (sym is) (least_both more (flat_map waiting old) packets held arrive first)))
