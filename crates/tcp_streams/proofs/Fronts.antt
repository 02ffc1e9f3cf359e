-- fronts of lists
use Rattle.std.proofs.Common.{◌≡◌, ℕ, suc, ◌+◌, ◌≤◌, ⊎_elim, List, [], ◌∷◌, ◌++◌, length, take, drop, refl, sym, ap, subst, ◌∙◌, append_assoc, append-nil, length-append, arith}
use Rattle.std.proofs.lemmas.List.{length-take, length-drop, take-append-drop, drop_all}
use Rattle.std.proofs.Math.Seq.{drop-append_seam}
use Rattle.std.proofs.lemmas.Bool.{cases_lt}
use Rattle.tcp_laws.specs.Sending.{IsAt, stream}
use Rattle.tcp_laws.proofs.Places.{nothing_at, IsAt_drop}
use Rattle.tcp_streams.specs.Heard.{IsFront}

pub nothing_front : (whole : List ℕ) → IsFront [] whole
nothing_front whole = record { behind = whole; is = refl }

pub IsFront_append : (front whole more : List ℕ) → IsFront front whole → IsFront front (whole ++ more)
IsFront_append front whole more h =
    record { behind = h.behind ++ more; is = ap (λ xs. xs ++ more) h.is ∙ append_assoc front h.behind more }

pub IsFront_take : (n : ℕ) (front whole : List ℕ) → IsFront front whole → IsFront (take n front) whole
IsFront_take n front whole h = record {
  behind = drop n front ++ h.behind;
  is = h.is ∙ (ap (λ xs. xs ++ h.behind) (sym (take-append-drop n front)) ∙ append_assoc (take n front) (drop n front) h.behind);
}

-- a front as long as the whole is the whole
pub empty_of : (xs : List ℕ) → length xs ≡ 0 → xs ≡ []
empty_of [] e = refl
empty_of (x ∷ xs) e = absurd (omega arith)

pub whole_front : (front whole : List ℕ) → IsFront front whole → length front ≡ length whole → front ≡ whole
whole_front front whole h e =
    let long : length whole ≡ length front + length h.behind = ap length h.is ∙ length-append front h.behind in
    sym (h.is ∙ (ap (λ xs. front ++ xs) (empty_of h.behind (omega (arith, long, e))) ∙ append-nil front))

-- what follows a front at its end makes it longer: the SYN has the first place
drop_stream : (n m : ℕ) (whole : List ℕ) → m ≡ suc n → drop m (stream whole) ≡ drop n whole
drop_stream n m whole e = ap (λ k. drop k (stream whole)) e

pub IsFront_more : (front text whole : List ℕ) → IsFront front whole → IsAt (1 + length front) text (stream whole) → IsFront (front ++ text) whole
IsFront_more front text whole h p =
    let seam : drop (length front) whole ≡ h.behind = ap (drop (length front)) h.is ∙ drop-append_seam front h.behind in
    let shift : drop (1 + length front) (stream whole) ≡ drop (length front) whole = drop_stream (length front) (1 + length front) whole (omega arith) in
    let back : h.behind ≡ text ++ p.behind = sym seam ∙ (sym shift ∙ p.is) in
    record {
      behind = p.behind;
      is = h.is ∙ (ap (λ xs. front ++ xs) back ∙ sym (append_assoc front text p.behind));
    }

-- a text behind its first bytes
pub IsAt_past : (place n : ℕ) (text whole : List ℕ) → IsAt place text whole → IsAt (place + n) (drop n text) whole
IsAt_past place n text whole h =
    ⊎_elim
    (λ b.
    let none : drop n text ≡ [] = drop_all n text (omega arith) in
    subst (λ (xs : List ℕ). IsAt (place + n) xs whole) (sym none) (nothing_at (place + n) whole))
    (λ b.
    let cut : length (take n text) ≡ n = omega (arith, length-take n text) in
    subst (λ (k : ℕ). IsAt (place + k) (drop n text) whole) cut (IsAt_drop place n text whole h))
    (cases_lt (length text) n)

-- and where a text stands, the whole is long enough
pub IsAt_long : (place : ℕ) (text whole : List ℕ) → place ≤ length whole → IsAt place text whole → place + length text ≤ length whole
IsAt_long place text whole b h =
    let long : length (drop place whole) ≡ length text + length h.behind = ap length h.is ∙ length-append text h.behind in
    omega (arith, long, length-drop place whole)
