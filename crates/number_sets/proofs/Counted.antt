-- bags by what they count and which numbers they have
use Rattle.std.proofs.Common.{◌≡◌, ◌≢◌, ℕ, ◌+◌, ◌-◌, ◌<◌, ◌≤◌, ◌==◌, Bool, true, false, not, cond, ◌&&◌, ◌||◌, Option, Some, None, nat_lt, if◌then◌else◌, refl, sym, ap, subst, ◌∙◌, arith, inl, inr}
use Rattle.std.proofs.lemmas.Bool.{cases_eq, eq-eqb}
use Rattle.std.proofs.lemmas.Bool.Decides.{nat_tests}
use Rattle.number_sets.specs.Bags.{count_in, one}

abbrev pub Both : (ℕ → Option ℕ) → (ℕ → Bool) → (ℕ → ℕ) → Type 0
Both g h times = (n : ℕ) → (count_in (g n) ≡ times n) × (h n ≡ nat_lt 0 (times n))

apart_test : (n m : ℕ) → n ≢ m → (n == m) ≡ false
apart_test n m differs = grind (arith, nat_tests)

one_same : (number n : ℕ) → n ≡ number → one number n ≡ 1
one_same number n same = ap (λ (b : Bool). if b then 1 else 0) (eq-eqb n number same)

one_other : (number n : ℕ) → n ≢ number → one number n ≡ 0
one_other number n differs = ap (λ (b : Bool). if b then 1 else 0) (apart_test n number differs)

positive : (n : ℕ) → 0 < n → nat_lt 0 n ≡ true
positive n h = grind (arith, nat_tests)

nothing : (n : ℕ) → n ≡ 0 → nat_lt 0 n ≡ false
nothing n h = grind (arith, nat_tests)

-- at one number both change, at others they stay
changed : (g g' : ℕ → Option ℕ) (h h' : ℕ → Bool) (times times' : ℕ → ℕ) (number : ℕ) (new : Option ℕ) → Both g h times
    → ((q : ℕ) → g' q ≡ cond (number == q) new (g q)) → ((n : ℕ) → n ≢ number → h' n ≡ h n) → ((n : ℕ) → n ≢ number → times' n ≡ times n)
    → count_in new ≡ times' number → h' number ≡ nat_lt 0 (times' number) → Both g' h' times'
changed g g' h h' times times' number new old put others stay here member = λ n. elim (cases_eq n number) [
  | inl same ↦
      let at : g' number ≡ new = put number ∙ ap (λ (b : Bool). cond b new (g number)) (eq-eqb number number refl) in
      subst (λ (k : ℕ). (count_in (g' k) ≡ times' k) × (h' k ≡ nat_lt 0 (times' k))) (sym same) (ap count_in at ∙ here, member)
  | inr differs ↦
      let at : g' n ≡ g n = put n ∙ ap (λ (b : Bool). cond b new (g n)) (apart_test number n (λ e. differs (sym e))) in
      (ap count_in at ∙ ((old n).0 ∙ sym (stay n differs)), others n differs ∙ ((old n).1 ∙ sym (ap (nat_lt 0) (stay n differs))))
]

pub added : (g g' : ℕ → Option ℕ) (h h' : ℕ → Bool) (times : ℕ → ℕ) (number total : ℕ) → Both g h times → total ≡ count_in (g number)
    → ((q : ℕ) → g' q ≡ cond (number == q) (Some (total + 1)) (g q)) → ((n : ℕ) → h' n ≡ (n == number || h n)) → Both g' h' (λ n. times n + one number n)
added g g' h h' times number total old is put joins =
    let o = one_same number number refl in
    let was = (old number).0 in
    changed g g' h h' times (λ n. times n + one number n) number (Some (total + 1)) old put
    (λ n differs. joins n ∙ ap (λ (b : Bool). b || h n) (apart_test n number differs))
    (λ n differs. let z = one_other number n differs in omega arith)
    (omega arith)
    (joins number ∙ (ap (λ (b : Bool). b || h number) (eq-eqb number number refl) ∙ sym (positive (times number + one number number) (omega arith))))

-- one of several is taken out
pub lessened : (g g' : ℕ → Option ℕ) (h : ℕ → Bool) (times : ℕ → ℕ) (number total : ℕ) → Both g h times → total ≡ count_in (g number) → 1 < total
    → ((q : ℕ) → g' q ≡ cond (number == q) (Some (total - 1)) (g q)) → Both g' h (λ n. times n - one number n)
lessened g g' h times number total old is several put =
    let o = one_same number number refl in
    let was = (old number).0 in
    changed g g' h h times (λ n. times n - one number n) number (Some (total - 1)) old put
    (λ n differs. refl)
    (λ n differs. let z = one_other number n differs in omega arith)
    (omega arith)
    ((old number).1 ∙ (positive (times number) (omega arith) ∙ sym (positive (times number - one number number) (omega arith))))

-- the last one is
pub removed : (g g' : ℕ → Option ℕ) (h h' : ℕ → Bool) (times : ℕ → ℕ) (number total : ℕ) → Both g h times → total ≡ count_in (g number) → total ≤ 1
    → ((q : ℕ) → g' q ≡ cond (number == q) None (g q)) → ((n : ℕ) → h' n ≡ (not (n == number) && h n)) → Both g' h' (λ n. times n - one number n)
removed g g' h h' times number total old is few put out =
    let o = one_same number number refl in
    let was = (old number).0 in
    changed g g' h h' times (λ n. times n - one number n) number None old put
    (λ n differs. out n ∙ ap (λ (b : Bool). not b && h n) (apart_test n number differs))
    (λ n differs. let z = one_other number n differs in omega arith)
    (omega arith)
    (out number ∙ (ap (λ (b : Bool). not b && h number) (eq-eqb number number refl) ∙ sym (nothing (times number - one number number) (omega arith))))
