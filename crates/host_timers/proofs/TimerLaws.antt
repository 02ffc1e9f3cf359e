-- What the definitions of a timer mean, expiry by expiry.
use Rattle.std.proofs.Common.{◌≡◌, ◌≢◌, ◌↔◌, ℕ, ◌+◌, ◌-◌, ◌*◌, ◌/◌, ◌<◌, ◌≤◌, true, false, Option, Some, None, refl, sym, ap, ◌∙◌, subst, arith, inl, inr}
use Rattle.std.specs.Prelude.{◌==◌, nat_lt, if◌then◌else◌, MatchOption}
use Rattle.std.proofs.Math.Nat.{le-div_iff_mul-le, mul-le-mul_right}
use Rattle.std.proofs.lemmas.Bool.{cases_lt, eq-eqb, ne_eqb, lt-ltb, le-ltb}
use Rattle.std.proofs.lemmas.Bool.Decides.{eqb_tells}
use Rattle.host_timers.specs.Timer.{TimerState, Expires, expiry, expired, next_due}

-- the cases of a timer that is on
module _ (t : TimerState) (now : ℕ) (on : t.first ≢ 0) where
  expired_before : now < t.first → expired t now ≡ 0
  expired_before before =
      let a : (t.first == 0) ≡ false = ne_eqb t.first 0 on in
      let b : nat_lt now t.first ≡ true = lt-ltb now t.first before in
      rw (a, b) refl

  expired_once : t.first ≤ now → t.interval ≡ 0 → expired t now ≡ 1
  expired_once past once =
      let a : (t.first == 0) ≡ false = ne_eqb t.first 0 on in
      let b : nat_lt now t.first ≡ false = le-ltb now t.first past in
      let d : (t.interval == 0) ≡ true = eq-eqb t.interval 0 once in
      rw (a, b, d) refl

  expired_often : t.first ≤ now → t.interval ≢ 0 → expired t now ≡ (now - t.first) / t.interval + 1
  expired_often past often =
      let a : (t.first == 0) ≡ false = ne_eqb t.first 0 on in
      let b : nat_lt now t.first ≡ false = le-ltb now t.first past in
      let d : (t.interval == 0) ≡ false = ne_eqb t.interval 0 often in
      rw (a, b, d) refl

  next_before : now < t.first → next_due t now ≡ Some t.first
  next_before before =
      let a : (t.first == 0) ≡ false = ne_eqb t.first 0 on in
      let b : nat_lt now t.first ≡ true = lt-ltb now t.first before in
      rw (a, b) refl

  next_once : t.first ≤ now → t.interval ≡ 0 → next_due t now ≡ None
  next_once past once =
      let a : (t.first == 0) ≡ false = ne_eqb t.first 0 on in
      let b : nat_lt now t.first ≡ false = le-ltb now t.first past in
      let d : (t.interval == 0) ≡ true = eq-eqb t.interval 0 once in
      rw (a, b, d) refl

  next_often : t.first ≤ now → t.interval ≢ 0 → next_due t now ≡ Some (expiry t ((now - t.first) / t.interval + 1))
  next_often past often =
      let a : (t.first == 0) ≡ false = ne_eqb t.first 0 on in
      let b : nat_lt now t.first ≡ false = le-ltb now t.first past in
      let d : (t.interval == 0) ≡ false = ne_eqb t.interval 0 often in
      rw (a, b, d) refl

-- an expiry is among those at or before a moment exactly where it is not after it
pub expired_counts : (t : TimerState) (now k : ℕ) → Expires t k → (k < expired t now) ↔ (expiry t k ≤ now)
expired_counts t now k is =
    elim (cases_lt now t.first) [
      | inl before ↦ let none : expired t now ≡ 0 = expired_before t now is.0 before in (λ below. absurd (omega arith), λ at. absurd (omega arith))
      | inr past ↦ elim (eqb_tells t.interval 0) [
        | inl once ↦
            let one : expired t now ≡ 1 = expired_once t now is.0 past once.1 in
            let only : k ≡ 0 = is.1 once.1 in
            let product : k * t.interval ≡ 0 = ap (λ j. j * t.interval) only ∙ omega arith in
            (λ below. omega arith, λ at. omega arith)
        | inr often ↦
            let many : expired t now ≡ (now - t.first) / t.interval + 1 = expired_often t now is.0 past often.1 in
            let some : 0 < t.interval = let differ : t.interval ≢ 0 = often.1 in omega arith in
            let fits : (k ≤ (now - t.first) / t.interval) ↔ (k * t.interval ≤ now - t.first) = le-div_iff_mul-le some in (
              λ below. let within : k * t.interval ≤ now - t.first = fits.0 (omega arith) in omega arith,
              λ at. let within : k ≤ (now - t.first) / t.interval = fits.1 (omega arith) in omega arith,
            )
      ]
    ]

-- a moment at which a timer expires, after another one and before every other such moment
pub record IsFirstAfter (t : TimerState) (now due : ℕ) : Type 0 where
  pub later : now < due
  pub expires : (k : ℕ) × (Expires t k × (due ≡ expiry t k))
  pub first : (k : ℕ) → Expires t k → now < expiry t k → due ≤ expiry t k

abbrev Answers : TimerState → ℕ → Option ℕ → Type 0
Answers t now answer = MatchOption answer ((k : ℕ) → Expires t k → expiry t k ≤ now) (IsFirstAfter t now)

-- the next expiry is the first after now, and there is none exactly where no expiry is after now
pub next_due_is_first : (t : TimerState) (now : ℕ) → MatchOption (next_due t now) ((k : ℕ) → Expires t k → expiry t k ≤ now) (IsFirstAfter t now)
next_due_is_first t now =
    elim (eqb_tells t.first 0) [
      | inl off ↦
          let none : next_due t now ≡ None = ap (λ b. if b then None else (if nat_lt now t.first then Some t.first else (if t.interval == 0 then None else Some (expiry t (expired t now))))) off.0 in
          subst (Answers t now) (sym none) (λ k is. absurd (is.0 off.1))
      | inr on ↦ elim (cases_lt now t.first) [
        | inl before ↦ subst (Answers t now) (sym (next_before t now on.1 before)) (record {
          later = before;
          expires = (0, ((on.1, λ _. refl), omega arith));
          first = λ k is later. omega arith;
        })
        | inr past ↦ elim (eqb_tells t.interval 0) [
          | inl once ↦ subst (Answers t now) (sym (next_once t now on.1 past once.1)) (λ k is.
              let only : k ≡ 0 = is.1 once.1 in
              let product : k * t.interval ≡ 0 = ap (λ j. j * t.interval) only ∙ omega arith in
              omega arith)
          | inr often ↦
              let n : ℕ = (now - t.first) / t.interval + 1 in
              let many : expired t now ≡ n = expired_often t now on.1 past often.1 in
              let has : Expires t n = (on.1, λ none. absurd (often.1 none)) in
              subst (Answers t now) (sym (next_often t now on.1 past often.1)) (record {
                later = elim (cases_lt now (expiry t n)) [
                  | inl later ↦ later
                  | inr not_later ↦ let below : n < expired t now = (expired_counts t now n has).1 not_later in absurd (omega arith)
                ];
                expires = (n, (has, refl));
                first = λ k is later.
                    elim (cases_lt k n) [
                      | inl below ↦ let passed : expiry t k ≤ now = (expired_counts t now k is).0 (omega arith) in absurd (omega arith)
                      | inr at ↦ omega (arith, mul-le-mul_right t.interval at)
                    ];
              })
        ]
      ]
    ]
