-- which place is found by an end
use Rattle.std.proofs.Common.{◌≡◌, ◌≢◌, ℕ, Bool, true, false, cond, ◌==◌, Option, Some, None, is_some, refl, sym, ap, ◌∙◌, inl, inr}
use Rattle.std.proofs.lemmas.Bool.{cases_eq, cases_Bool, eqb-true, eq-eqb, ne_eqb, and_parts, and_from}
use Rattle.sim_base.specs.declared.address.Addr.{Addr}
use Rattle.sim_base.specs.Addresses.{is_same}
use Rattle.udp_table.specs.inside.Indexing.{Finds}

end_at : ℕ → ℕ → Addr
end_at bits port = record { ip = record { bits = bits }; port = port }

pub end_is : (a b : Addr) → is_same a b ≡ true → a ≡ b
unfolding end_at
end_is a b e =
    let parts = and_parts (a.ip.bits == b.ip.bits) (a.port == b.port) e in
    ap (λ (bits : ℕ). end_at bits a.port) (eqb-true a.ip.bits b.ip.bits parts.0) ∙ ap (λ (port : ℕ). end_at b.ip.bits port) (eqb-true a.port b.port parts.1)

same_self : (a : Addr) → is_same a a ≡ true
same_self a = and_from (a.ip.bits == a.ip.bits) (a.port == a.port) (eq-eqb a.ip.bits a.ip.bits refl) (eq-eqb a.port a.port refl)

pub some_is : {A : Type 0} (a b : A) → Some a ≡ Some b → a ≡ b
some_is a b e = cc

pub none_is : {A : Type 0} (a : A) → None ≡ Some a → ⊥
none_is a e = cc

some_found : {A : Type 0} (o : Option A) → is_some o ≡ false → o ≡ None
some_found None e = refl
some_found (Some x) e = cc

-- an entry was taken out
pub taken_out : (f g : Addr → Option ℕ) (at : Addr) (place : ℕ) (old new : ℕ → Option Addr) → old place ≡ Some at → new place ≡ None → ((k : ℕ) → k ≢ place → new k ≡ old k)
    → ((q : Addr) → g q ≡ cond (is_same at q) None (f q)) → Finds f old → Finds g new
taken_out f g at place old new was is others out h = record {
  each = λ k q e. elim (cases_eq k place) as (λ _. g q ≡ Some k) [
    | inl same ↦ absurd (none_is q (sym is ∙ (ap new (sym same) ∙ e)))
    | inr apart ↦
        let found : f q ≡ Some k = h.each k q (sym (others k apart) ∙ e) in
        elim (cases_Bool (is_same at q)) as (λ _. g q ≡ Some k) [
          | inl hit ↦ absurd (apart (some_is k place (sym found ∙ (ap f (sym (end_is at q hit)) ∙ h.each place at was))))
          | inr miss ↦ out q ∙ (ap (λ (b : Bool). cond b None (f q)) miss ∙ found)
        ]
  ];
  only = λ k q e. elim (cases_Bool (is_same at q)) as (λ _. new k ≡ Some q) [
    | inl hit ↦ absurd (none_is k (sym (out q ∙ ap (λ (b : Bool). cond b None (f q)) hit) ∙ e))
    | inr miss ↦
        let old_k : old k ≡ Some q = h.only k q (sym (out q ∙ ap (λ (b : Bool). cond b None (f q)) miss) ∙ e) in
        elim (cases_eq k place) as (λ _. new k ≡ Some q) [
          | inl same ↦ absurd (differs at q miss (some_is at q (sym was ∙ (ap old (sym same) ∙ old_k))))
          | inr apart ↦ others k apart ∙ old_k
        ]
  ];
}
  where
    differs : (a b : Addr) → is_same a b ≡ false → a ≡ b → ⊥
    differs a b miss same = let e : false ≡ true = sym miss ∙ (ap (is_same a) (sym same) ∙ same_self a) in cc

-- an entry was put in
pub put_in : (f g : Addr → Option ℕ) (at : Addr) (place : ℕ) (old new : ℕ → Option Addr) → old place ≡ None → new place ≡ Some at → ((k : ℕ) → k ≢ place → new k ≡ old k)
    → is_some (f at) ≡ false → ((q : Addr) → g q ≡ cond (is_same at q) (Some place) (f q)) → Finds f old → Finds g new
put_in f g at place old new was is others free put h = record {
  each = λ k q e. elim (cases_eq k place) as (λ _. g q ≡ Some k) [
    | inl same ↦
        let here : at ≡ q = some_is at q (sym is ∙ (ap new (sym same) ∙ e)) in
        put q ∙ (ap (λ (b : Bool). cond b (Some place) (f q)) (ap (is_same at) (sym here) ∙ same_self at) ∙ ap (λ (n : ℕ). Some n) (sym same))
    | inr apart ↦
        let found : f q ≡ Some k = h.each k q (sym (others k apart) ∙ e) in
        elim (cases_Bool (is_same at q)) as (λ _. g q ≡ Some k) [
          | inl hit ↦ absurd (none_is k (sym (some_found (f at) free) ∙ (ap f (end_is at q hit) ∙ found)))
          | inr miss ↦ put q ∙ (ap (λ (b : Bool). cond b (Some place) (f q)) miss ∙ found)
        ]
  ];
  only = λ k q e. elim (cases_Bool (is_same at q)) as (λ _. new k ≡ Some q) [
    | inl hit ↦
        let same : place ≡ k = some_is place k (sym (put q ∙ ap (λ (b : Bool). cond b (Some place) (f q)) hit) ∙ e) in
        ap new (sym same) ∙ (is ∙ ap (λ (x : Addr). Some x) (end_is at q hit))
    | inr miss ↦
        let old_k : old k ≡ Some q = h.only k q (sym (put q ∙ ap (λ (b : Bool). cond b (Some place) (f q)) miss) ∙ e) in
        elim (cases_eq k place) as (λ _. new k ≡ Some q) [
          | inl same ↦ absurd (none_is q (sym was ∙ (ap old (sym same) ∙ old_k)))
          | inr apart ↦ others k apart ∙ old_k
        ]
  ];
}

-- or nothing changed
pub stays : (f : Addr → Option ℕ) (place : ℕ) (old new : ℕ → Option Addr) → new place ≡ old place → ((k : ℕ) → k ≢ place → new k ≡ old k) → Finds f old → Finds f new
stays f place old new here others h = record {
  each = λ k q e. h.each k q (sym (same k) ∙ e);
  only = λ k q e. same k ∙ h.only k q e;
}
  where
    same : (k : ℕ) → new k ≡ old k
    same k = elim (cases_eq k place) as (λ _. new k ≡ old k) [ inl e ↦ ap new e ∙ (here ∙ ap old (sym e)) | inr apart ↦ others k apart ]

-- the place that has left its end
abbrev pub without : ℕ → (ℕ → Option Addr) → ℕ → Option Addr
without place local k = cond (k == place) None (local k)

pub without_here : (place : ℕ) (local : ℕ → Option Addr) → without place local place ≡ None
without_here place local = ap (λ (b : Bool). cond b None (local place)) (eq-eqb place place refl)

pub without_other : (place : ℕ) (local : ℕ → Option Addr) (k : ℕ) → k ≢ place → without place local k ≡ local k
without_other place local k apart = ap (λ (b : Bool). cond b None (local k)) (ne_eqb k place apart)
