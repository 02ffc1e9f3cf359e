-- The least due of two lists of events.
use Rattle.std.proofs.Common.{◌≡◌, ℕ, ◌+◌, map, flat_map, take, get_or, length, ◌<◌, ◌≤◌, Bool, true, false, nat_lt, rules, inl, inr, Option, List, [], ◌∷◌, ◌++◌, Some, None, All, refl, sym, ap, subst, ◌∙◌, arith, append-nil}
use Rattle.std.specs.Prelude.{if◌then◌else◌}
use Rattle.std.specs.List.{Any}
use Rattle.std.proofs.lemmas.List.{take_more, map_more}
use Rattle.std.proofs.lemmas.List.Elements.{All-append}
use Rattle.sim_base.specs.declared.event.Event.{Event}
use Rattle.sim_base.specs.declared.time.Time.{Time}
use Rattle.event_order.specs.Events.{IsLeastDue}
use Rattle.round_parts.specs.Dues.{lesser_due}
use Rattle.round_parts.proofs.ListFacts.{flat_append}
use Rattle.world_order.proofs.Members.{IsIn, IsIn_left, IsIn_right, IsIn_from_Contains, Contains_from_IsIn, Each_from_All, All_from_Each}

module _ {X : Type 0} (P : X → Type 0) where
  pub any_in : (xs : List X) → Any P xs → (x : X) × IsIn x xs × P x
  any_in xs a = (a.1, IsIn_from_Contains a.1 xs (a.0, a.2, a.3), a.4)

  pub in_any : (xs : List X) (x : X) → IsIn x xs → P x → Any P xs
  in_any xs x h p = let c = Contains_from_IsIn x xs h in (c.0, x, c.1, c.2, p)

abbrev pub IsDue : Time → Event → Type 0
IsDue due e = e.key.due ≡ due

abbrev pub IsFrom : Time → Event → Type 0
IsFrom due e = due.nanos ≤ e.key.due.nanos

from_earlier : (x y : Time) (es : List Event) → x.nanos ≤ y.nanos → All (IsFrom y) es → All (IsFrom x) es
from_earlier x y es less all = All_from_Each (IsFrom x) es (λ e h. (let l = Each_from_All (IsFrom y) es all e h in omega arith))

module _ (es fs : List Event) where
  pub least-first : (x y : Time) → IsLeastDue es (Some x) → IsLeastDue fs (Some y) → x.nanos ≤ y.nanos → IsLeastDue (es ++ fs) (Some x)
  least-first x y a b less =
      let i = any_in (IsDue x) es a.0 in
      (in_any (IsDue x) (es ++ fs) i.0 (IsIn_left i.0 es fs i.1) i.2, All-append (IsFrom x) es fs a.1 (from_earlier x y fs less b.1))

  pub least-second : (x y : Time) → IsLeastDue es (Some x) → IsLeastDue fs (Some y) → y.nanos ≤ x.nanos → IsLeastDue (es ++ fs) (Some y)
  least-second x y a b less =
      let i = any_in (IsDue y) fs b.0 in
      (in_any (IsDue y) (es ++ fs) i.0 (IsIn_right i.0 es fs i.1) i.2, All-append (IsFrom y) es fs (from_earlier y x es less a.1) b.1)

  least_by : (x y : Time) (b : Bool) → nat_lt y.nanos x.nanos ≡ b → IsLeastDue es (Some x) → IsLeastDue fs (Some y) → IsLeastDue (es ++ fs) (if b then Some y else Some x)
  least_by x y true is a b = least-second x y a b (let l : y.nanos < x.nanos = search rules in omega arith)
  least_by x y false is a b = least-first x y a b (let l : x.nanos ≤ y.nanos = search rules in l)

-- of two lists one after the other
pub least_both : (es fs : List Event) (a b : Option Time) → IsLeastDue es a → IsLeastDue fs b → IsLeastDue (es ++ fs) (lesser_due a b)
least_both es fs None b none rest = subst (λ (l : List Event). IsLeastDue (l ++ fs) b) (sym none) rest
least_both es fs (Some x) None first none = subst (λ (l : List Event). IsLeastDue (es ++ l) (Some x)) (sym none) (subst (λ (l : List Event). IsLeastDue l (Some x)) (sym (append-nil es)) first)
least_both es fs (Some x) (Some y) first second = least_by es fs x y (nat_lt y.nanos x.nanos) refl first second

-- of one more
pub least_more : (es more all : List Event) (a b : Option Time) (c : Option Time) → all ≡ es ++ more → c ≡ lesser_due a b → IsLeastDue es a → IsLeastDue more b → IsLeastDue all c
least_more es more all a b c is least first second =
    subst (λ (l : List Event). IsLeastDue l c) (sym is) (subst (IsLeastDue (es ++ more)) (sym least) (least_both es more a b first second))

pub least-one : (e : Event) (due : Time) → e.key.due ≡ due → IsLeastDue (e ∷ []) (Some due)
least-one e due is = (
  in_any (IsDue due) (e ∷ []) e (inl refl) is,
  All_from_Each (IsFrom due) (e ∷ []) (λ x h. from_one x h),
)
  where
    from_one : (x : Event) → IsIn x (e ∷ []) → due.nanos ≤ x.key.due.nanos
    from_one x (inl same) = (let t : x.key.due.nanos ≡ due.nanos = ap (λ (y : Event). y.key.due.nanos) same ∙ ap (λ (u : Time). u.nanos) is in omega arith)
    from_one x (inr none) = absurd none

-- one more of the first of a list
pub parts-more : {X : Type 0} (f : X → List Event) (xs : List X) (i : ℕ) (x : X) → i < length xs → x ≡ get_or xs i x → flat_map f (take (i + 1) xs) ≡ flat_map f (take i xs) ++ f x
parts-more f xs i x below is =
    ap (flat_map f) (take_more xs i x below ∙ ap (λ y. take i xs ++ y ∷ []) (sym is)) ∙ flat_append f (take i xs) (x ∷ [])
    ∙ ap (λ (l : List Event). flat_map f (take i xs) ++ l) (append-nil (f x))

pub events_more : {X : Type 0} (f : X → Event) (xs : List X) (i : ℕ) (x : X) → i < length xs → x ≡ get_or xs i x → map f (take (i + 1) xs) ≡ map f (take i xs) ++ f x ∷ []
events_more f xs i x below is = map_more f xs i x below ∙ ap (λ y. map f (take i xs) ++ f y ∷ []) (sym is)

-- ---- before a stop

-- some event is due before the stop where the least is, and else none is
pub some_before : (es : List Event) (least : Time) (stop : ℕ) → IsLeastDue es (Some least) → least.nanos < stop → Any (λ (e : Event). e.key.due.nanos < stop) es
some_before es least stop due before =
    let first = any_in (IsDue least) es due.0 in
    let is : first.0.key.due.nanos ≡ least.nanos = ap (λ (t : Time). t.nanos) first.2 in
    in_any (λ (e : Event). e.key.due.nanos < stop) es first.0 first.1 (omega arith)

pub none-before : (es : List Event) (least : Time) (stop : ℕ) → IsLeastDue es (Some least) → stop ≤ least.nanos → Any (λ (e : Event). e.key.due.nanos < stop) es → ⊥
none-before es least stop due late early =
    let first = any_in (λ (e : Event). e.key.due.nanos < stop) es early in
    let before : first.0.key.due.nanos < stop = first.2 in
    let from : least.nanos ≤ first.0.key.due.nanos = Each_from_All (IsFrom least) es due.1 first.0 first.1 in
    omega arith

pub none_there : (es : List Event) (stop : ℕ) → es ≡ [] → Any (λ (e : Event). e.key.due.nanos < stop) es → ⊥
none_there es stop none early = (any_in (λ (e : Event). e.key.due.nanos < stop) [] (subst (Any (λ (e : Event). e.key.due.nanos < stop)) none early)).1
