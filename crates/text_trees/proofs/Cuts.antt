-- Where UTF-8 is cut into UTF-8.
use Rattle.std.proofs.Common.{◌≡◌, ℕ, ◌+◌, ◌-◌, ◌<◌, Bool, true, false, cond, List, [], ◌∷◌, ◌++◌, length, get_or, take, drop, reverse, IsUtf8, refl, sym, ap, ◌∙◌, subst, arith, one-add, take_all, drop_of_length-le, ⊎_elim, eqb-true}
use Rattle.std.specs.List.{prefix_len, suffix_len}
use Rattle.std.proofs.lemmas.Bool.{cases_lt}
use Rattle.std.proofs.lemmas.List.{get_or-reverse}
use Rattle.std.proofs.lemmas.List.Sums.{prefix_len_passes, suffix_len-le-length}
use Rattle.std.proofs.lemmas.Str.{IsUtf8-nil, IsUtf8-take, IsUtf8-drop, IsUtf8-past_char, IsCharBoundary-before_ascii, encode_ascii}
use Rattle.yaml_tokens.specs.Scalars.{is_space, without_spaces}
use Rattle.yaml_tokens.specs.Literals.{is_feed, without_feeds}

-- behind an ASCII byte
pub utf8_tail : (b : ℕ) (bytes : List ℕ) → b < 128 → IsUtf8 (b ∷ bytes) → IsUtf8 bytes
utf8_tail b bytes h u = IsUtf8-past_char (b ∷ bytes) bytes b u (ap (λ l. l ++ bytes) (sym (encode_ascii b h)))

-- before an ASCII byte, or at the end
pub utf8_cut : (bytes : List ℕ) (n : ℕ) → IsUtf8 bytes → (n < length bytes → get_or bytes n 0 < 128) → IsUtf8 (take n bytes) × IsUtf8 (drop n bytes)
utf8_cut bytes n u h = ⊎_elim
    (λ lt. (let b = IsCharBoundary-before_ascii bytes n lt (h lt) in (IsUtf8-take bytes n u b, IsUtf8-drop bytes n u b)))
    (λ le. (subst IsUtf8 (sym (take_all n bytes le)) u, subst IsUtf8 (sym (drop_of_length-le bytes {i = n} le)) IsUtf8-nil))
    (cases_lt n (length bytes))

-- behind the ASCII bytes of a class
pub utf8_behind : (p : ℕ → Bool) → ((b : ℕ) → p b ≡ true → b < 128) → (bytes : List ℕ) → IsUtf8 bytes → IsUtf8 (drop (prefix_len p bytes) bytes)
utf8_behind p f [] u = u
utf8_behind p f (b ∷ bytes) u = by (p b) refl (utf8_behind p f bytes)
  where
    by : (t : Bool) → p b ≡ t → (IsUtf8 bytes → IsUtf8 (drop (prefix_len p bytes) bytes)) → IsUtf8 (drop (cond t (1 + prefix_len p bytes) 0) (b ∷ bytes))
    by true e more = subst (λ (n : ℕ). IsUtf8 (drop n (b ∷ bytes))) (sym (one-add (prefix_len p bytes))) (more (utf8_tail b bytes (f b e) u))
    by false e more = u

-- without the last ASCII bytes of a class
utf8_without : (p : ℕ → Bool) → ((b : ℕ) → p b ≡ true → b < 128) → (bytes : List ℕ) → IsUtf8 bytes → IsUtf8 (take (length bytes - suffix_len p bytes) bytes)
utf8_without p f bytes u = (utf8_cut bytes (length bytes - suffix_len p bytes) u at).0
  where
    at : length bytes - suffix_len p bytes < length bytes → get_or bytes (length bytes - suffix_len p bytes) 0 < 128
    at lt =
        let k = suffix_len p bytes - 1 in
        let most = suffix_len-le-length p bytes in
        let there : get_or (reverse bytes) k 0 ≡ get_or bytes (length bytes - 1 - k) 0 = get_or-reverse bytes k 0 (omega (arith, most, lt)) in
        let same : length bytes - 1 - k ≡ length bytes - suffix_len p bytes = omega (arith, most, lt) in
        let passes = prefix_len_passes p (reverse bytes) k 0 (omega (arith, lt)) in
        f (get_or bytes (length bytes - suffix_len p bytes) 0) (ap p (sym (there ∙ ap (λ n. get_or bytes n 0) same)) ∙ passes)

space_ascii : (b : ℕ) → is_space b ≡ true → b < 128
space_ascii b h = let e = eqb-true b 32 h in omega (arith, e)

feed_ascii : (b : ℕ) → is_feed b ≡ true → b < 128
feed_ascii b h = let e = eqb-true b 10 h in omega (arith, e)

pub spaces_utf8 : (bytes : List ℕ) → IsUtf8 bytes → IsUtf8 (drop (prefix_len is_space bytes) bytes)
spaces_utf8 bytes u = utf8_behind is_space space_ascii bytes u

pub without_spaces_utf8 : (bytes : List ℕ) → IsUtf8 bytes → IsUtf8 (without_spaces bytes)
without_spaces_utf8 bytes u = utf8_without is_space space_ascii bytes u

pub without_feeds_utf8 : (bytes : List ℕ) → IsUtf8 bytes → IsUtf8 (without_feeds bytes)
without_feeds_utf8 bytes u = utf8_without is_feed feed_ascii bytes u
