-- the places of a table
use Rattle.std.proofs.Common.{◌≡◌, ◌≢◌, ℕ, zero, suc, ◌+◌, ◌<◌, ◌≤◌, List, [], ◌∷◌, ◌++◌, length, get_or, set, Bool, true, false, Option, Some, None, is_some, is_none, refl, sym, ap, subst, ◌∙◌, arith}
use Rattle.std.specs.List.{position_or_len, sum_by}
use Rattle.std.proofs.lemmas.List.Sums.{position_or_len_is, sum_by-set, sum_by_push}
use Rattle.sock_udp.specs.declared.ends.UdpEnds.{UdpEnds}
use Rattle.udp_table.specs.inside.Indexing.{at_place, times, Changes}

get_set : (places : List (Option UdpEnds)) (place : ℕ) (is : Option UdpEnds) → place < length places → get_or (set places place is) place None ≡ is
get_set [] place is b = absurd (omega arith)
get_set (x ∷ places) zero is b = refl
get_set (x ∷ places) (suc place) is b = get_set places place is (omega arith)

get_other : (places : List (Option UdpEnds)) (place k : ℕ) (is : Option UdpEnds) → k ≢ place → get_or (set places place is) k None ≡ get_or places k None
get_other [] place k is apart = refl
get_other (x ∷ places) zero zero is apart = absurd (apart refl)
get_other (x ∷ places) zero (suc k) is apart = refl
get_other (x ∷ places) (suc place) zero is apart = refl
get_other (x ∷ places) (suc place) (suc k) is apart = get_other places place k is (λ same. apart (ap (λ (n : ℕ). suc n) same))

get_last : (places : List (Option UdpEnds)) (is : Option UdpEnds) → get_or (places ++ is ∷ []) (length places) None ≡ is
get_last [] is = refl
get_last (x ∷ places) is = get_last places is

get_past : (places : List (Option UdpEnds)) (k : ℕ) → length places ≤ k → get_or places k None ≡ None
get_past [] k b = refl
get_past (x ∷ places) zero b = absurd (omega arith)
get_past (x ∷ places) (suc k) b = get_past places k (omega arith)

get_before : (places : List (Option UdpEnds)) (is : Option UdpEnds) (k : ℕ) → k ≢ length places → get_or (places ++ is ∷ []) k None ≡ get_or places k None
get_before [] is zero apart = absurd (apart refl)
get_before [] is (suc k) apart = refl
get_before (x ∷ places) is zero apart = refl
get_before (x ∷ places) is (suc k) apart = get_before places is k (λ same. apart (ap (λ (n : ℕ). suc n) same))

changes_behind : (places : List (Option UdpEnds)) (is : Option UdpEnds) → Changes (length places) None is places (places ++ is ∷ [])
changes_behind places is = record {
  was = get_past places (length places) (omega arith);
  is = get_last places is;
  others = λ k apart. get_before places is k apart;
  sums = λ n. let pushed = sum_by_push (times n) places is in omega arith;
}

-- a socket is put at a place
pub changes_set : (places : List (Option UdpEnds)) (place : ℕ) (was is : Option UdpEnds) → place < length places → was ≡ get_or places place was → Changes place was is places (set places place is)
changes_set places place was is b there =
    let here : get_or places place None ≡ was = same_there places place was b ∙ sym there in
    record {
      was = here;
      is = get_set places place is b;
      others = λ k apart. get_other places place k is apart;
      sums = λ n. ap (λ (x : Option UdpEnds). sum_by (times n) (set places place is) + times n x) (sym here) ∙ sum_by-set (times n) places place is None b;
    }
  where
    same_there : (places : List (Option UdpEnds)) (place : ℕ) (d : Option UdpEnds) → place < length places → get_or places place None ≡ get_or places place d
    same_there [] place d b = absurd (omega arith)
    same_there (x ∷ places) zero d b = refl
    same_there (x ∷ places) (suc place) d b = same_there places place d (omega arith)

-- or behind all
pub changes_push : (places new : List (Option UdpEnds)) (place : ℕ) (is : Option UdpEnds) → place ≡ length places → new ≡ places ++ is ∷ [] → Changes place None is places new
changes_push places new place is behind pushed = subst (λ (k : ℕ). Changes k None is places new) (sym behind) (subst (λ (xs : List (Option UdpEnds)). Changes (length places) None is places xs) (sym pushed) (changes_behind places is))

some_none : (o : Option UdpEnds) → is_some o ≡ true → is_none o ≡ false
some_none None e = cc
some_none (Some x) e = refl

none_some : (o : Option UdpEnds) → is_some o ≡ false → is_none o ≡ true
none_some None e = refl
none_some (Some x) e = cc

-- the least place that isn't taken is the first one without a socket
pub first_free : (taken : ℕ → Bool) (places : List (Option UdpEnds)) (place : ℕ) → ((k : ℕ) → taken k ≡ is_some (at_place places k)) → taken place ≡ false → ((k : ℕ) → k < place → taken k ≡ true)
    → place ≡ position_or_len is_none places
first_free taken places place knows absent least =
    sym (position_or_len_is is_none places place None (within places place (λ k less. sym (knows k) ∙ least k less))
    (λ k less. some_none (at_place places k) (sym (knows k) ∙ least k less))
    (λ less. none_some (at_place places place) (sym (knows place) ∙ absent)))
  where
    within : (places : List (Option UdpEnds)) (place : ℕ) → ((k : ℕ) → k < place → is_some (get_or places k None) ≡ true) → place ≤ length places
    within places zero all = omega arith
    within [] (suc place) all = let none : false ≡ true = all 0 (omega arith) in cc
    within (x ∷ places) (suc place) all = let rest = within places place (λ k less. all (suc k) (omega arith)) in omega arith
