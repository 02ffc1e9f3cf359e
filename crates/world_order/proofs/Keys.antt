-- Keys: the same or not, and their order.
use Rattle.std.proofs.Common.{◌≡◌, ◌≢◌, ℕ, ◌<◌, ◌≤◌, ◌⊎◌, inl, inr, ⊎_elim, Bool, true, false, ◌&&◌, refl, sym, ap, subst, ◌∙◌, eqb, eqb-true, true≢false, cond, ◌==◌, lt-ltb}
use Rattle.std.specs.Ordering.{is_eq, is_lt, ordering_reverse, ordering_then, nat_cmp}
use Rattle.std.specs.declared.cmp.Ordering.{Ordering}
use Rattle.std.specs.declared.cmp.Ordering.TheVariants.{Less, Equal, Greater}
use Rattle.std.proofs.lemmas.Bool.{cases_lt}
use denote.Enum.Bare.{sameb}
use Rattle.sim_base.specs.Key.{key_order}
use Rattle.sim_base.specs.KeyLaws.{key_order_total, key_ties}
use Rattle.sim_base.specs.declared.key.Key.{Key}
use Rattle.sim_base.specs.declared.key.Kind.{Kind}
use Rattle.sim_base.specs.declared.key.Kind.TheVariants.{Packet, Local}
use Rattle.sim_base.specs.contracts.key.Kind.{the_type}
use Rattle.world_order.specs.EventOrder.{same_key}

-- ---- three answers

less : (o : Ordering) → is_lt o ≡ true → o ≡ Less
less Less is = refl
less Equal is = absurd (cc)
less Greater is = absurd (cc)

equal : (o : Ordering) → is_eq o ≡ true → o ≡ Equal
equal Less is = absurd (cc)
equal Equal is = refl
equal Greater is = absurd (cc)

both : (a b : Bool) → (a && b) ≡ true → (a ≡ true) × (b ≡ true)
both true b is = (refl, is)
both false b is = absurd (cc)

kinds : (a b : Kind) → sameb the_type a b ≡ true → a ≡ b
kinds Packet Packet is = refl
kinds Packet Local is = absurd (cc)
kinds Local Packet is = absurd (cc)
kinds Local Local is = refl

-- ---- the same key

pub same_key_is : (a b : Key) → same_key a b ≡ true → a ≡ b
same_key_is a b is =
    let parts : (eqb a.due.nanos b.due.nanos && (sameb the_type a.kind b.kind && (eqb a.source.index b.source.index && eqb a.number b.number))) ≡ true = key_ties a b ∙ is in
    let one = both _ _ parts in
    let two = both _ _ one.1 in
    let three = both _ _ two.1 in
    let due : a.due.nanos ≡ b.due.nanos = eqb-true _ _ one.0 in
    let kind : a.kind ≡ b.kind = kinds _ _ two.0 in
    let source : a.source.index ≡ b.source.index = eqb-true _ _ three.0 in
    let number : a.number ≡ b.number = eqb-true _ _ three.1 in
    λ i. record { due = record { nanos = due i }; kind = kind i; source = record { index = source i }; number = number i }

itself : (o : Ordering) → o ≡ ordering_reverse o → is_eq o ≡ true
itself Less is = absurd (let e : Less ≡ Greater = is in cc)
itself Equal is = refl
itself Greater is = absurd (let e : Greater ≡ Less = is in cc)

pub same_key_refl : (a : Key) → same_key a a ≡ true
same_key_refl a = itself (key_order a a) (key_order_total.antisymm a a)

pub same_key_of : (a b : Key) → a ≡ b → same_key a b ≡ true
same_key_of a b is = subst (λ (k : Key). same_key a k ≡ true) is (same_key_refl a)

by_test : (a b : Key) (t : Bool) → same_key a b ≡ t → (a ≡ b) ⊎ (a ≢ b)
by_test a b true is = inl (same_key_is a b is)
by_test a b false is = inr (λ e. true≢false (sym (same_key_of a b e) ∙ is))

-- two keys are the same or not
pub key_cases : (a b : Key) → (a ≡ b) ⊎ (a ≢ b)
key_cases a b = by_test a b (same_key a b) refl

other_test : (a b : Key) (t : Bool) → same_key a b ≡ t → a ≢ b → same_key a b ≡ false
other_test a b true is differ = absurd (differ (same_key_is a b is))
other_test a b false is differ = is

pub same_key_other : (a b : Key) → a ≢ b → same_key a b ≡ false
same_key_other a b differ = other_test a b (same_key a b) refl differ

-- ---- the order

-- the first key comes before the second
abbrev pub key_before : Key → Key → Bool
key_before a b = is_lt (key_order a b)

not_both : (o : Ordering) → o ≡ ordering_reverse o → is_lt o ≡ false
not_both Less is = absurd (let e : Less ≡ Greater = is in cc)
not_both Equal is = refl
not_both Greater is = refl

pub never_before_itself : (a : Key) → key_before a a ≡ false
never_before_itself a = not_both (key_order a a) (key_order_total.antisymm a a)

pub one_way : (a b : Key) → key_before a b ≡ true → key_before b a ≡ false
one_way a b is = ap is_lt (key_order_total.antisymm b a ∙ ap ordering_reverse (less _ is))

-- what doesn't come before b, where b doesn't come before c, doesn't come before c
goes_through : (a b c : Key) (o : Ordering) → key_order a b ≡ o → is_lt o ≡ false → key_before b c ≡ false → key_before a c ≡ false
goes_through a b c Less is first second = absurd (cc)
goes_through a b c Equal is first second = ap is_lt (key_order_total.congr a b c is) ∙ second
goes_through a b c Greater is first second = by_order (key_order a c) refl
  where
    by_order : (o : Ordering) → key_order a c ≡ o → is_lt (key_order a c) ≡ false
    by_order Equal e = ap is_lt e
    by_order Greater e = ap is_lt e
    by_order Less e =
        let back : key_order b a ≡ Less = key_order_total.antisymm b a ∙ ap ordering_reverse is in
        let through : key_order b c ≡ Less = key_order_total.trans b a c back e in
        absurd (let contra : true ≡ false = sym (ap is_lt through) ∙ second in cc)

pub not_before_through : (a b c : Key) → key_before a b ≡ false → key_before b c ≡ false → key_before a c ≡ false
not_before_through a b c first second = goes_through a b c (key_order a b) refl first second

-- where neither comes before the other, they are the same
neither : (o : Ordering) → is_lt o ≡ false → is_lt (ordering_reverse o) ≡ false → is_eq o ≡ true
neither Less first second = absurd (cc)
neither Equal first second = refl
neither Greater first second = absurd (cc)

pub same_place : (a b : Key) → key_before a b ≡ false → key_before b a ≡ false → a ≡ b
same_place a b first second =
    same_key_is a b (neither (key_order a b) first (ap is_lt (sym (key_order_total.antisymm b a)) ∙ second))

-- a key that is due earlier comes before
is_first : (o rest : Ordering) → o ≡ Less → is_lt (ordering_then o rest) ≡ true
is_first Less rest is = refl
is_first Equal rest is = absurd (cc)
is_first Greater rest is = absurd (cc)

smaller : (x y : ℕ) → x < y → nat_cmp x y ≡ Less
smaller x y lt = ap (λ (t : Bool). cond t Less (cond (x == y) Equal Greater)) (lt-ltb x y lt)

pub due_before : (a b : Key) → a.due.nanos < b.due.nanos → key_before a b ≡ true
due_before a b early = is_first (nat_cmp a.due.nanos b.due.nanos) _ (smaller a.due.nanos b.due.nanos early)

pub due_from : (a b : Key) → key_before a b ≡ false → b.due.nanos ≤ a.due.nanos
due_from a b is = ⊎_elim
    (λ (early : a.due.nanos < b.due.nanos). absurd (true≢false (sym (due_before a b early) ∙ is)))
    (λ (late : b.due.nanos ≤ a.due.nanos). late)
    (cases_lt a.due.nanos b.due.nanos)
