-- A text in single quotes: what is read is spelled, and what is spelled is read.
use Rattle.std.proofs.Common.{◌≡◌, ℕ, ◌+◌, Bool, true, false, ◌&&◌, not, cond, List, [], ◌∷◌, ◌++◌, Option, Some, None, option_map, length, refl, sym, ap, ◌∙◌, subst, append_assoc, arith, ◌==◌}
use Rattle.std.proofs.lemmas.Bool.{eqb-true}
use Rattle.std.proofs.lemmas.Option.{none-some, same_Some}
use Rattle.sim_base.specs.Ascii.{apostrophe}
use Rattle.yaml_tokens.specs.Lines.{begins_with}
use Rattle.yaml_tokens.specs.Scalars.{single_quoted, with_part}
use Rattle.yaml_tokens.specs.Spelling.{single_spelling}

pub mapped : {A B : Type 0} (f : A → B) (o : Option A) (y : B) → option_map f o ≡ Some y → (x : A) × (o ≡ Some x) × (f x ≡ y)
mapped f None y e = absurd (none-some y e)
mapped f (Some x) y e = (x, refl, same_Some (f x) y e)

-- ---- what is spelled is read

pub read_single : (text rest : List ℕ) → begins_with apostrophe rest ≡ false → single_quoted false (single_spelling text ++ apostrophe ∷ rest) ≡ Some (text, length (single_spelling text) + 1)
unfolding single_quoted
read_single [] [] h = refl
read_single [] (r ∷ rest) h = rw h refl
read_single (t ∷ text) rest h =
    elim (t == apostrophe) as (λ q. (t == apostrophe) ≡ q → single_quoted false ((cond q (apostrophe ∷ apostrophe ∷ []) (t ∷ []) ++ single_spelling text) ++ apostrophe ∷ rest) ≡ Some (t ∷ text, length (cond q (apostrophe ∷ apostrophe ∷ []) (t ∷ []) ++ single_spelling text) + 1)) [
      | true ↦ λ e. let is : t ≡ apostrophe = eqb-true t apostrophe e in
          let n : 1 + (1 + (length (single_spelling text) + 1)) ≡ length (apostrophe ∷ apostrophe ∷ single_spelling text) + 1 = omega arith in
          ap (λ o. option_map (with_part []) (option_map (with_part (apostrophe ∷ [])) o)) (read_single text rest h) ∙ (λ j. Some (sym is j ∷ text, n j))
      | false ↦ λ e. let n : 1 + (length (single_spelling text) + 1) ≡ length (t ∷ single_spelling text) + 1 = omega arith in
          ap (λ q. option_map (with_part (cond (q && true) [] (t ∷ []))) (single_quoted (q && true) (single_spelling text ++ apostrophe ∷ rest))) e
          ∙ ap (option_map (with_part (t ∷ []))) (read_single text rest h) ∙ (λ j. Some (t ∷ text, n j))
    ] refl

-- ---- what is read is spelled

-- the bytes begin with some text in single quotes
pub record Single (bytes : List ℕ) : Type 0 where
  pub text : List ℕ
  pub rest : List ℕ
  pub spelled : bytes ≡ apostrophe ∷ (single_spelling text ++ apostrophe ∷ rest)
  pub closed : begins_with apostrophe rest ≡ false

begins_single : (bytes : List ℕ) → begins_with apostrophe bytes ≡ false → Single (apostrophe ∷ apostrophe ∷ bytes)
begins_single bytes h = record { text = []; rest = bytes; spelled = refl; closed = h }

-- a byte more in front, as it is spelled
front_single : (b : ℕ) (q : Bool) (bytes : List ℕ) → (b == apostrophe) ≡ q → Single (apostrophe ∷ bytes) → Single (apostrophe ∷ (cond q (apostrophe ∷ apostrophe ∷ []) (b ∷ []) ++ bytes))
front_single b q bytes e s =
    let is : bytes ≡ single_spelling s.text ++ apostrophe ∷ s.rest = cc (s.spelled) in
    record {
      text = b ∷ s.text;
      rest = s.rest;
      spelled = ap (λ l. apostrophe ∷ (cond q (apostrophe ∷ apostrophe ∷ []) (b ∷ []) ++ l)) is
          ∙ ap (λ l. apostrophe ∷ l) (sym (append_assoc (cond q (apostrophe ∷ apostrophe ∷ []) (b ∷ [])) (single_spelling s.text) (apostrophe ∷ s.rest)))
          ∙ ap (λ p. apostrophe ∷ ((cond p (apostrophe ∷ apostrophe ∷ []) (b ∷ []) ++ single_spelling s.text) ++ apostrophe ∷ s.rest)) (sym e);
      closed = s.closed;
    }

-- an opening quote, and the quote that is held back
abbrev pub opened : Bool → List ℕ → List ℕ
opened false bytes = apostrophe ∷ bytes
opened true bytes = apostrophe ∷ apostrophe ∷ bytes

pub found_single : (held : Bool) (bytes : List ℕ) (found : List ℕ × ℕ) → single_quoted held bytes ≡ Some found → Single (opened held bytes)
unfolding single_quoted
found_single false [] found e = absurd (none-some _ e)
found_single true [] found e = begins_single [] refl
found_single false (b ∷ bytes) found e =
    (elim (b == apostrophe) as (λ q. (b == apostrophe) ≡ q → option_map (with_part (cond (q && true) [] (b ∷ []))) (single_quoted (q && true) bytes) ≡ Some found → Single (apostrophe ∷ b ∷ bytes)) [
      | true ↦ λ q f. let m = mapped _ _ _ f in subst (λ c. Single (apostrophe ∷ c ∷ bytes)) (sym (eqb-true b apostrophe q)) (found_single true bytes m.0 m.1)
      | false ↦ λ q f. let m = mapped _ _ _ f in front_single b false bytes q (found_single false bytes m.0 m.1)
    ]) refl e
found_single true (b ∷ bytes) found e =
    (elim (b == apostrophe) as (λ q. (b == apostrophe) ≡ q → cond (not q) (Some ([], 0)) (option_map (with_part (cond (q && false) [] (b ∷ []))) (single_quoted (q && false) bytes)) ≡ Some found → Single (apostrophe ∷ apostrophe ∷ b ∷ bytes)) [
      | true ↦ λ q f. let m = mapped _ _ _ f in
          subst (λ c. Single (apostrophe ∷ apostrophe ∷ c ∷ bytes)) (sym (eqb-true b apostrophe q)) (front_single apostrophe true bytes refl (found_single false bytes m.0 m.1))
      | false ↦ λ q f. begins_single (b ∷ bytes) q
    ]) refl e
