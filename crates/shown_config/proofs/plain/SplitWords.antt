-- The words of a UTF-8 text are UTF-8.
use Rattle.std.proofs.Common.{◌≡◌, ℕ, Bool, true, ◌&&◌, List, [], ◌∷◌, ◌++◌, fold, Option, Some, None, IfSome, IsUtf8, chars, encode_utf8, option_to_list, unwrap_or, refl, ◌∙◌, arith}
use Rattle.std.specs.List.{list_all, AllByRecursion}
use Rattle.std.specs.Char.{IsScalar}
use Rattle.std.specs.Str.{is_utf8}
use Rattle.std.proofs.Math.Utf8.{scalar, scalars}
use Rattle.std.proofs.lemmas.Bool.{and_parts, and_from}
use Rattle.std.proofs.lemmas.List.Folds.{list_all-append}
use Rattle.std.proofs.lemmas.Str.{IsUtf8-append, IsUtf8-encode, IsUtf8-nil, IsUtf8-from_is_utf8, is_utf8-from_IsUtf8, scalars-chars}
use Rattle.shd_values.specs.Words.{with_character, next, start, finished, words_of}

-- the words that have ended, and the one that has begun
abbrev are_utf8 : List (List ℕ) → Option (List ℕ) → Bool
are_utf8 words word = list_all is_utf8 words && is_utf8 (unwrap_or word [])

nil : is_utf8 [] ≡ true
nil = is_utf8-from_IsUtf8 [] IsUtf8-nil

ended : (words : List (List ℕ)) (word : Option (List ℕ)) → are_utf8 words word ≡ true → list_all is_utf8 (words ++ option_to_list word) ≡ true
ended words word h = let k = and_parts (list_all is_utf8 words) (is_utf8 (unwrap_or word [])) h in list_all-append is_utf8 words (option_to_list word) ∙ and_from (list_all is_utf8 words) _ k.0 (by word k.1)
  where
    by : (o : Option (List ℕ)) → is_utf8 (unwrap_or o []) ≡ true → list_all is_utf8 (option_to_list o) ≡ true
    by None k = refl
    by (Some w) k = and_from (is_utf8 w) true k refl

longer : (words : List (List ℕ)) (word : Option (List ℕ)) (c : ℕ) → IsScalar c → are_utf8 words word ≡ true → are_utf8 words (with_character word c) ≡ true
longer words word c s h =
    let k = and_parts (list_all is_utf8 words) (is_utf8 (unwrap_or word [])) h in
    and_from (list_all is_utf8 words) _ k.0 (is_utf8-from_IsUtf8 _ (IsUtf8-append (unwrap_or word []) (encode_utf8 c) (IsUtf8-from_is_utf8 (unwrap_or word []) k.1) (IsUtf8-encode c s)))

next_utf8 : (c : ℕ) (s t : _) → next s c ≡ t → IsScalar c → are_utf8 s.words s.word ≡ true → are_utf8 t.words t.word ≡ true
next_utf8 c s t e k h =
    let none : are_utf8 (s.words ++ option_to_list s.word) None ≡ true = and_from (list_all is_utf8 (s.words ++ option_to_list s.word)) _ (ended s.words s.word h) nil in
    let more : are_utf8 s.words (with_character s.word c) ≡ true = longer s.words s.word c k h in
    grind arith

fold_utf8 : (cs : List ℕ) (s t : _) → fold next s cs ≡ t → scalars cs ≡ true → are_utf8 s.words s.word ≡ true → are_utf8 t.words t.word ≡ true
fold_utf8 [] s t e k h = rw (← e) h
fold_utf8 (c ∷ cs) s t e k h = let q = and_parts (scalar c) (scalars cs) k in fold_utf8 cs (next s c) t e q.1 (next_utf8 c s (next s c) refl q.0 h)

all_utf8 : Option (List (List ℕ)) → Bool
all_utf8 None = true
all_utf8 (Some words) = list_all is_utf8 words

finished_utf8 : (s : _) (o : Option (List (List ℕ))) → finished s ≡ o → are_utf8 s.words s.word ≡ true → all_utf8 o ≡ true
unfolding all_utf8
finished_utf8 s o e h =
    let words : list_all is_utf8 (s.words ++ option_to_list s.word) ≡ true = ended s.words s.word h in
    grind arith

each_utf8 : (words : List (List ℕ)) → list_all is_utf8 words ≡ true → AllByRecursion IsUtf8 words
each_utf8 [] h = tt
each_utf8 (w ∷ words) h = let k = and_parts (is_utf8 w) (list_all is_utf8 words) h in (IsUtf8-from_is_utf8 w k.0, each_utf8 words k.1)

some_utf8 : (o : Option (List (List ℕ))) → all_utf8 o ≡ true → IfSome o (AllByRecursion IsUtf8)
unfolding all_utf8
some_utf8 None h = tt
some_utf8 (Some words) h = each_utf8 words h

pub words_has : (text : List ℕ) → IsUtf8 text → IfSome (words_of text) (AllByRecursion IsUtf8)
words_has text u =
    some_utf8 (words_of text) (finished_utf8 (fold next start (chars text)) (words_of text) refl
    (fold_utf8 (chars text) start (fold next start (chars text)) refl (scalars-chars text u) nil))
