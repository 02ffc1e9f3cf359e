-- When the first of some events is due, and a host with nothing to do.
use Rattle.std.proofs.Common.{◌≡◌, ℕ, ◌≤◌, Bool, true, false, ◌||◌, nat_lt, length, take, get_or, ◌+◌, ◌<◌, ⊎_elim, rules, Option, List, [], ◌∷◌, ◌++◌, Some, None, All, inl, inr, refl, sym, ap, subst, ◌∙◌, arith, append-nil, IsPermutation}
use Rattle.std.specs.Prelude.{◌↔◌, ◌==◌, Box, vec_len, count_by}
use Rattle.std.specs.declared.alloc.Global.{Global}
use Rattle.std.specs.List.{Any}
use Rattle.std.proofs.lemmas.Bool.{eqb-true, or_parts, or_from}
use Rattle.std.proofs.lemmas.List.{nil_from_length}
use Rattle.std.proofs.lemmas.List.Elements.{All-nil}
use Rattle.std.proofs.lemmas.List.Sorted.{IsPermutation-refl}
use Rattle.std.proofs.lemmas.List.Sums.{count_by_more_yes, count_by_more_no}
use Rattle.sim_base.specs.declared.event.Event.{Event}
use Rattle.sim_base.specs.declared.host.HostId.{HostId}
use Rattle.sim_base.specs.declared.time.Time.{Time}
use Rattle.event_order.specs.Events.{IsLeastDue}
use Rattle.file_calls.specs.declared.task.Output.{Output}
use Rattle.host_state.specs.declared.host.Host.{Host}
use Rattle.host_link.specs.Net.{Net}
use Rattle.host_state.specs.Fits.{IsEventOf}
use Rattle.host_state.specs.HostRecord.{HostRecord}
use Rattle.host_state.specs.HostStands.{Stands}
use Rattle.host_state.specs.Running.{Owns}
use Rattle.world_order.specs.Steps.{has_due}
use Rattle.world_order.specs.WholeTurns.{unfired, rests}
use Rattle.world_order.proofs.Members.{IsIn, Each, Each_from_All, All_from_Each}
use Rattle.round_lookahead.specs.declared.workers.host_task.HostTask.{HostTask}
use Rattle.round_lookahead.specs.declared.workers.worked.Done.{Done}
use Rattle.round_parts.specs.Arrivals.{Boxed, arrivals}
use Rattle.round_parts.specs.Dues.{first_due}
use Rattle.round_lookahead.specs.inside.Idles.{IsIdle, is_busy}
use Rattle.round_lookahead.specs.Tasks.{IsTask, waiting}
use Rattle.round_lookahead.specs.inside.Works.{HasRun}
use Rattle.round_parts.proofs.DueSteps.{any_in, IsDue, IsFrom, least_both, least-one}

-- ---- the first that is due

pub first_least : (es : List Event) → IsLeastDue es (first_due es)
first_least [] = refl
first_least (e ∷ es) = least_both (e ∷ []) es (Some e.key.due) (first_due es) (least-one e e.key.due refl) (first_least es)

none_due_first : (x : Time) (es : List Event) → es ≡ [] → IsLeastDue es (Some x) → ⊥
none_due_first x es none least = (any_in (IsDue x) [] (subst (Any (IsDue x)) none least.0)).1

same_time : (x y : Time) → x.nanos ≡ y.nanos → x ≡ y
same_time x y same = ap (λ (n : ℕ). record { nanos = n }) same

-- there is one such time
first_one : (es : List Event) (a b : Option Time) → IsLeastDue es a → IsLeastDue es b → a ≡ b
first_one es None None first second = refl
first_one es None (Some y) first second = absurd (none_due_first y es first second)
first_one es (Some x) None first second = absurd (none_due_first x es second first)
first_one es (Some x) (Some y) first second =
    let i = any_in (IsDue x) es first.0 in
    let j = any_in (IsDue y) es second.0 in
    let here : i.0.key.due.nanos ≡ x.nanos = ap (λ (t : Time). t.nanos) i.2 in
    let there : j.0.key.due.nanos ≡ y.nanos = ap (λ (t : Time). t.nanos) j.2 in
    let less : x.nanos ≤ j.0.key.due.nanos = Each_from_All (IsFrom x) es first.1 j.0 j.1 in
    let more : y.nanos ≤ i.0.key.due.nanos = Each_from_All (IsFrom y) es second.1 i.0 i.1 in
    ap Some (same_time x y (omega (arith, here, there, less, more)))

pub first-is : (es : List Event) (a : Option Time) → IsLeastDue es a → a ≡ first_due es
first-is es a least = first_one es a (first_due es) least (first_least es)

pub least_of : (es : List Event) (a : Option Time) → a ≡ first_due es → IsLeastDue es a
least_of es a is = subst (IsLeastDue es) (sym is) (first_least es)

-- ---- nothing due

abbrev pub is_before : ℕ → Option Time → Bool
is_before end None = false
is_before end (Some due) = nat_lt due.nanos end

late_is : (end due : ℕ) → end ≤ due → nat_lt due end ≡ false
late_is end due late = search rules

late_from : (end due : ℕ) → nat_lt due end ≡ false → end ≤ due
late_from end due late = search rules

abbrev IsLate : ℕ → Event → Type 0
IsLate end e = end ≤ e.key.due.nanos

-- none is due before the end where the first isn't
late_by : (end : ℕ) (es : List Event) (a : Option Time) → IsLeastDue es a → (is_before end a ≡ false) ↔ All (IsLate end) es
late_by end es None none = (λ h. subst (All (IsLate end)) (sym none) (All-nil (IsLate end)), λ h. refl)
late_by end es (Some x) least = (
  (λ h. All_from_Each (IsLate end) es (λ e i. (let from : x.nanos ≤ e.key.due.nanos = Each_from_All (IsFrom x) es least.1 e i in let late = late_from end x.nanos h in omega (arith, from, late)))),
  (λ all.
      let i = any_in (IsDue x) es least.0 in
      let is : i.0.key.due.nanos ≡ x.nanos = ap (λ (t : Time). t.nanos) i.2 in
      let late : end ≤ i.0.key.due.nanos = Each_from_All (IsLate end) es all i.0 i.1 in
      late_is end x.nanos (omega (arith, is, late))),
)

pub idle_where : (end : ℕ) (t : HostTask) → t.parcels.items ≡ [] → (is_before end t.due ≡ false) ↔ IsIdle end t
idle_where end t none =
    let both = late_by end t.host.value.queue t.due (least_of t.host.value.queue t.due t.told) in
    (λ h. record { none = none; later = both.0 h }, λ idle. both.1 idle.later)

pub none_wait : (t : HostTask) (b : Bool) → b ≡ (vec_len t.parcels == 0) → b ≡ true → t.parcels.items ≡ []
none_wait t b is empty = nil_from_length t.parcels.items (let none : vec_len t.parcels ≡ 0 = eqb-true (vec_len t.parcels) 0 (sym is ∙ empty) in omega (arith, none, t.parcels.ok.0))

-- ---- a host with nothing to do

none_due : (end : ℕ) (es : List Event) → Each (IsLate end) es → has_due end es ≡ false
none_due end [] late = refl
none_due end (e ∷ es) late = ap (λ (b : Bool). b || has_due end es) (late_is end e.key.due.nanos (late e (inl refl))) ∙ none_due end es (λ x h. late x (inr h))

-- it was run where it stays as it is
pub idle_run : (net : Net) (end : ℕ) (t : HostTask) (h : HostRecord) (d : Done) → IsTask net t.id.index t h → IsIdle end t
    → d.id ≡ t.id → d.host ≡ t.host → d.lines.items ≡ [] → d.outputs.items ≡ [] → HasRun net end t h d []
idle_run net end t h d is idle id host lines outputs =
    let q : List Event = t.host.value.queue in
    let all : waiting t ≡ q = ap (λ (bs : List Boxed). q ++ arrivals bs) idle.none ∙ append-nil q in
    record {
      ran = unfired h (waiting t);
      run = record {
        id = ap (λ (i : HostId). i.index) id;
        start = waiting t;
        joined = IsPermutation-refl (waiting t);
        runs = rests h (waiting t) (ap (has_due end) all ∙ none_due end q (Each_from_All (IsLate end) q idle.later));
        stands = subst (λ (b : Box Host Global). Stands b.value h) (sym host) is.stands;
        queue = subst (λ (b : Box Host Global). IsPermutation b.value.queue (waiting t)) (sym host) (subst (IsPermutation q) (sym all) (IsPermutation-refl q));
        over = subst (λ (b : Box Host Global). All (IsLate end) b.value.queue) (sym host) idle.later;
        owns = subst (λ (b : Box Host Global). Owns net h.link b.value.queue) (sym host) (subst (Owns net h.link) all is.owns);
        lines = lines;
        written = sym (ap (λ (l : List Output). h.written ++ l) outputs ∙ append-nil h.written);
        events = All-nil (IsEventOf net);
        packets = refl;
      };
      made = refl;
    }

-- ---- how many have something to do

all_late : (end : ℕ) (es : List Event) → has_due end es ≡ false → Each (IsLate end) es
all_late end [] none = λ x h. absurd h
all_late end (e ∷ es) none =
    let parts = or_parts (nat_lt e.key.due.nanos end) (has_due end es) none in
    λ x h. ⊎_elim
    (λ (same : x ≡ e). subst (IsLate end) (sym same) (late_from end e.key.due.nanos parts.0))
    (λ (rest : IsIn x es). all_late end es parts.1 x rest)
    h

no_parcels : (t : HostTask) → nat_lt 0 (length t.parcels.items) ≡ false → t.parcels.items ≡ []
no_parcels t none = nil_from_length t.parcels.items (let zero : length t.parcels.items ≤ 0 = late_from (length t.parcels.items) 0 none in omega arith)

idle_tested : (end : ℕ) (t : HostTask) → is_busy end t ≡ false → IsIdle end t
idle_tested end t idle =
    let parts = or_parts (nat_lt 0 (length t.parcels.items)) (has_due end t.host.value.queue) idle in
    record { none = no_parcels t parts.0; later = All_from_Each (IsLate end) t.host.value.queue (all_late end t.host.value.queue parts.1) }

tested_idle : (end : ℕ) (t : HostTask) → IsIdle end t → is_busy end t ≡ false
tested_idle end t idle =
    or_from (nat_lt 0 (length t.parcels.items)) (has_due end t.host.value.queue)
    (ap (λ (bs : List Boxed). nat_lt 0 (length bs)) idle.none)
    (none_due end t.host.value.queue (Each_from_All (IsLate end) t.host.value.queue idle.later))

false_both : (a b : Bool) → (a ≡ false → b ≡ false) → (b ≡ false → a ≡ false) → a ≡ b
false_both false b there back = sym (there refl)
false_both true false there back = back refl
false_both true true there back = refl

busy_by : (end : ℕ) (t : HostTask) (b : Bool) → (b ≡ false) ↔ IsIdle end t → b ≡ is_busy end t
busy_by end t b is = false_both b (is_busy end t) (λ h. tested_idle end t (is.0 h)) (λ h. is.1 (idle_tested end t h))

pub one_busy_more : (end : ℕ) (ts : List HostTask) (i : ℕ) (t : HostTask) (b : Bool) → i < length ts → t ≡ get_or ts i t → (b ≡ false) ↔ IsIdle end t → b ≡ true
    → count_by (is_busy end) (take (i + 1) ts) ≡ count_by (is_busy end) (take i ts) + 1
one_busy_more end ts i t b below at is busy = count_by_more_yes (is_busy end) ts i t below (ap (is_busy end) (sym at) ∙ sym (busy_by end t b is) ∙ busy)

pub no_busy_more : (end : ℕ) (ts : List HostTask) (i : ℕ) (t : HostTask) (b : Bool) → i < length ts → t ≡ get_or ts i t → (b ≡ false) ↔ IsIdle end t → b ≡ false
    → count_by (is_busy end) (take (i + 1) ts) ≡ count_by (is_busy end) (take i ts)
no_busy_more end ts i t b below at is idle = count_by_more_no (is_busy end) ts i t below (ap (is_busy end) (sym at) ∙ sym (busy_by end t b is) ∙ idle)
