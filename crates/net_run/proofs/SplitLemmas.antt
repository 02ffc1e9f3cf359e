-- Pieces whose bytes are, target by target, those of two lists of pieces, one behind the other.
use Rattle.std.proofs.Common.{◌≡◌, ℕ, Bool, true, false, List, [], ◌∷◌, ◌++◌, refl, sym, ap, ◌∙◌, append_assoc, append-nil}
use Rattle.std.specs.Prelude.{if◌then◌else◌, ◌||◌}
use Rattle.std.proofs.lemmas.Grind.{flat_map-append}
use Rattle.std.proofs.lemmas.List.Folds.{list_any-append}
use Rattle.run_outside.specs.declared.sink.SinkTarget.{SinkTarget}
use Rattle.run_files.specs.Grown.{with_bytes}
use Rattle.run_files.specs.Files.{Put}
use Rattle.net_run.specs.Targets.{is_target, bytes_at, is_touched}
use Rattle.net_run.proofs.ContentLemmas.{untouched_bytes}

pub bytes_at_append : (at : SinkTarget) (ps qs : List Put) → bytes_at at (ps ++ qs) ≡ bytes_at at ps ++ bytes_at at qs
bytes_at_append at ps qs = flat_map-append (λ (put : Put). if is_target put.0 at then put.1 else []) ps qs

pub touched_append : (at : SinkTarget) (ps qs : List Put) → is_touched at (ps ++ qs) ≡ (is_touched at ps || is_touched at qs)
touched_append at ps qs = list_any-append (λ (put : Put). is_target put.0 at) ps qs

or_first : (a b : Bool) → a ≡ true → (a || b) ≡ true
or_first true b e = refl
or_first false b e = absurd (cc)

or_second : (a b : Bool) → b ≡ true → (a || b) ≡ true
or_second true b e = refl
or_second false b e = e

pub touched_first : (at : SinkTarget) (ps qs : List Put) → is_touched at ps ≡ true → is_touched at (ps ++ qs) ≡ true
touched_first at ps qs e = touched_append at ps qs ∙ or_first (is_touched at ps) (is_touched at qs) e

pub touched_second : (at : SinkTarget) (ps qs : List Put) → is_touched at qs ≡ true → is_touched at (ps ++ qs) ≡ true
touched_second at ps qs e = touched_append at ps qs ∙ or_second (is_touched at ps) (is_touched at qs) e

-- ---- pieces without bytes

pub with_bytes_bytes : (at : SinkTarget) (ps : List Put) → bytes_at at (with_bytes ps) ≡ bytes_at at ps
with_bytes_bytes at [] = refl
with_bytes_bytes at ((where', []) ∷ ps) = with_bytes_bytes at ps ∙ empty (is_target where' at) where
  empty : (b : Bool) → bytes_at at ps ≡ (if b then [] else []) ++ bytes_at at ps
  empty true = refl
  empty false = refl
with_bytes_bytes at ((where', byte ∷ bytes) ∷ ps) = ap (λ (bs : List ℕ). (if is_target where' at then byte ∷ bytes else []) ++ bs) (with_bytes_bytes at ps)

pub with_bytes_touched : (at : SinkTarget) (ps : List Put) → is_touched at (with_bytes ps) ≡ true → is_touched at ps ≡ true
with_bytes_touched at [] e = e
with_bytes_touched at ((where', []) ∷ ps) e = or_second (is_target where' at) (is_touched at ps) (with_bytes_touched at ps e)
with_bytes_touched at ((where', byte ∷ bytes) ∷ ps) e = go (is_target where' at) e (λ t. with_bytes_touched at ps t) where
  go : (b : Bool) → (b || is_touched at (with_bytes ps)) ≡ true → (is_touched at (with_bytes ps) ≡ true → is_touched at ps ≡ true) → (b || is_touched at ps) ≡ true
  go true t later = refl
  go false t later = later t

-- ---- two lists in one

-- the third has the bytes of the first and then those of the second; the first puts at targets of the third, the second at all of them
pub record Splits (at : SinkTarget) (xs ys zs : List Put) : Type 0 where
  pub bytes : bytes_at at zs ≡ bytes_at at xs ++ bytes_at at ys
  pub first : is_touched at xs ≡ true → is_touched at zs ≡ true
  pub second : is_touched at ys ≡ is_touched at zs

module _ (at : SinkTarget) (xs ys zs xs' ys' zs' : List Put) (s : Splits at xs ys zs) (t : Splits at xs' ys' zs') (apart : is_touched at zs ≡ true → is_touched at zs' ≡ true → ⊥) where
  swapped : (there here : Bool) → is_touched at ys ≡ there → is_touched at xs' ≡ here → bytes_at at ys ++ bytes_at at xs' ≡ bytes_at at xs' ++ bytes_at at ys
  swapped true true y x = absurd (apart (sym s.second ∙ y) (t.first x))
  swapped false here y x =
      let none = untouched_bytes at ys y in
      ap (λ (l : List ℕ). l ++ bytes_at at xs') none ∙ sym (append-nil (bytes_at at xs')) ∙ ap (λ (l : List ℕ). bytes_at at xs' ++ l) (sym none)
  swapped true false y x =
      let none = untouched_bytes at xs' x in
      ap (λ (l : List ℕ). bytes_at at ys ++ l) none ∙ append-nil (bytes_at at ys) ∙ ap (λ (l : List ℕ). l ++ bytes_at at ys) (sym none)

  regrouped : (a b c d : List ℕ) → b ++ c ≡ c ++ b → (a ++ b) ++ (c ++ d) ≡ (a ++ c) ++ (b ++ d)
  regrouped a b c d e =
      append_assoc a b (c ++ d) ∙ ap (λ (l : List ℕ). a ++ l) (sym (append_assoc b c d) ∙ ap (λ (l : List ℕ). l ++ d) e ∙ append_assoc c b d) ∙ sym (append_assoc a c (b ++ d))

  first_of : (a b : Bool) → (a || b) ≡ true → is_touched at xs ≡ a → is_touched at xs' ≡ b → (is_touched at zs || is_touched at zs') ≡ true
  first_of true b e x y = or_first (is_touched at zs) (is_touched at zs') (s.first x)
  first_of false true e x y = or_second (is_touched at zs) (is_touched at zs') (t.first y)
  first_of false false e x y = absurd (cc)

  pub splits_append : Splits at (xs ++ xs') (ys ++ ys') (zs ++ zs')
  splits_append = record {
    bytes = bytes_at_append at zs zs' ∙ ap (λ (l : List ℕ). l ++ bytes_at at zs') s.bytes ∙ ap (λ (l : List ℕ). (bytes_at at xs ++ bytes_at at ys) ++ l) t.bytes
        ∙ regrouped (bytes_at at xs) (bytes_at at ys) (bytes_at at xs') (bytes_at at ys') (swapped (is_touched at ys) (is_touched at xs') refl refl)
        ∙ ap (λ (l : List ℕ). l ++ (bytes_at at ys ++ bytes_at at ys')) (sym (bytes_at_append at xs xs')) ∙ ap (λ (l : List ℕ). bytes_at at (xs ++ xs') ++ l) (sym (bytes_at_append at ys ys'));
    first = λ e. touched_append at zs zs' ∙ first_of (is_touched at xs) (is_touched at xs') (sym (touched_append at xs xs') ∙ e) refl refl;
    second = touched_append at ys ys' ∙ ap (λ (b : Bool). b || is_touched at ys') s.second ∙ ap (λ (b : Bool). is_touched at zs || b) t.second ∙ sym (touched_append at zs zs');
  }
