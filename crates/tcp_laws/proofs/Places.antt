-- where a text stands in a list
use Rattle.std.proofs.Common.{◌≡◌, ℕ, zero, suc, ◌+◌, ◌-◌, ◌<◌, ◌≤◌, ⊎_elim, List, [], ◌∷◌, ◌++◌, length, take, drop, refl, sym, ap, ◌∙◌, append_assoc, append-nil, arith}
use Rattle.std.proofs.lemmas.List.{drop-drop, drop-append-le, take-append-drop, drop_all}
use Rattle.std.proofs.lemmas.Bool.{cases_lt}
use Rattle.std.proofs.Math.Seq.{drop-append-add}
use Rattle.tcp_laws.specs.Sending.{IsAt, stream}

-- no text stands anywhere
pub nothing_at : (place : ℕ) (whole : List ℕ) → IsAt place [] whole
nothing_at place whole = record { behind = drop place whole; is = refl }

-- the first part of it
pub IsAt_take : (place n : ℕ) (text whole : List ℕ) → IsAt place text whole → IsAt place (take n text) whole
IsAt_take place n text whole h = record {
  behind = drop n text ++ h.behind;
  is = h.is ∙ (ap (λ xs. xs ++ h.behind) (sym (take-append-drop n text)) ∙ append_assoc (take n text) (drop n text) h.behind);
}

-- and the rest
past : (front back : List ℕ) → drop (length front) (front ++ back) ≡ back
past front back = ap (λ n. drop n (front ++ back)) (omega arith) ∙ drop-append-add front back 0

pub IsAt_drop : (place n : ℕ) (text whole : List ℕ) → IsAt place text whole → IsAt (place + length (take n text)) (drop n text) whole
IsAt_drop place n text whole h =
    let front = take n text in
    let back = drop n text in
    record {
      behind = h.behind;
      is = sym (drop-drop (length front) place whole)
          ∙ (ap (drop (length front)) (h.is ∙ (ap (λ xs. xs ++ h.behind) (sym (take-append-drop n text)) ∙ append_assoc front back h.behind))
          ∙ past front (back ++ h.behind));
    }

-- what was written stands behind the SYN
drop_stream : (n : ℕ) (written : List ℕ) → 1 ≤ n → drop n (stream written) ≡ drop (n - 1) written
drop_stream zero written h = absurd (omega arith)
drop_stream (suc k) written h = let e : k ≡ suc k - 1 = omega arith in ap (λ m. drop m written) e

pub IsAt_written : (n : ℕ) (written : List ℕ) → 1 ≤ n → IsAt n (drop (n - 1) written) (stream written)
IsAt_written n written h = record {
  behind = [];
  is = drop_stream n written h ∙ sym (append-nil (drop (n - 1) written));
}

-- as a list grows
text_past : (place : ℕ) (text whole more : List ℕ) → length whole < place → IsAt place text whole → IsAt place text (whole ++ more)
text_past place [] whole more b h = nothing_at place (whole ++ more)
text_past place (x ∷ text) whole more b h =
    let none : drop place whole ≡ [] = drop_all place whole (omega arith) in
    let no : [] ≡ x ∷ (text ++ h.behind) = sym none ∙ h.is in
    cc

text_within : (place : ℕ) (text whole more : List ℕ) → place ≤ length whole → IsAt place text whole → IsAt place text (whole ++ more)
text_within place text whole more b h = record {
  behind = h.behind ++ more;
  is = drop-append-le place whole more b ∙ (ap (λ xs. xs ++ more) h.is ∙ append_assoc text h.behind more);
}

pub IsAt_append : (place : ℕ) (text whole more : List ℕ) → IsAt place text whole → IsAt place text (whole ++ more)
IsAt_append place text whole more h =
    ⊎_elim (λ b. text_past place text whole more b h) (λ b. text_within place text whole more b h) (cases_lt (length whole) place)
