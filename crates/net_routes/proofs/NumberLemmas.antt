-- Costs under numbers, and rows of numbers.
use Rattle.std.proofs.Common.{◌≡◌, ℕ, zero, suc, ◌<◌, true, false, cond, List, [], ◌∷◌, ◌++◌, length, get_or, slice_get, map, Option, Some, None, refl, sym, ap, ◌∙◌, subst, ⊎_elim, arith}
use Rattle.std.specs.Option.{option_eq}
use Rattle.std.specs.Prelude.{All, Contains}
use Rattle.std.proofs.lemmas.Bool.{and_parts, cases_Bool, cond-true, cond-false, eqb-true}
use Rattle.std.proofs.lemmas.List.{append_assoc, map-append}
use Rattle.std.proofs.lemmas.List.Elements.{All-nil, All-cons, All-push, Contains-get_or}
use Rattle.net_routes.specs.declared.cost.Cost.{Cost}
use Rattle.net_routes.specs.inside.Numbers.{same_cost, AreNumbers, KeepNumbers, GetsNumberIf, GetNumbers}
use Rattle.net_routes.proofs.ListLemmas.{some_same}

-- PLACES OF A LIST

module _ {A : Type 0} where
  pub get_within : (xs : List A) (n : ℕ) (x : A) → slice_get xs n ≡ Some x → n < length xs
  get_within [] n x e = absurd (let never : ⊥ = cc in never)
  get_within (y ∷ ys) zero x e = omega arith
  get_within (y ∷ ys) (suc n) x e = omega (arith, get_within ys n x e)

  pub get_is : (xs : List A) (n : ℕ) (x d : A) → slice_get xs n ≡ Some x → get_or xs n d ≡ x
  get_is [] n x d e = absurd (let never : ⊥ = cc in never)
  get_is (y ∷ ys) zero x d e = some_same y x e
  get_is (y ∷ ys) (suc n) x d e = get_is ys n x d e

  pub get_front : (xs ys : List A) (n : ℕ) (x : A) → slice_get xs n ≡ Some x → slice_get (xs ++ ys) n ≡ Some x
  get_front [] ys n x e = absurd (let never : ⊥ = cc in never)
  get_front (z ∷ zs) ys zero x e = e
  get_front (z ∷ zs) ys (suc n) x e = get_front zs ys n x e

  pub get_end : (xs : List A) (x : A) → slice_get (xs ++ x ∷ []) (length xs) ≡ Some x
  get_end [] x = refl
  get_end (y ∷ ys) x = get_end ys x

-- ONE NUMBER MORE

cost_is : (a b : Cost) → same_cost a b ≡ true → a ≡ b
cost_is a b e =
    let both = and_parts _ _ e in
    ap (λ (l : ℕ). let c : Cost = record { latency = l; reliability = a.reliability } in c) (eqb-true a.latency b.latency both.0)
    ∙ ap (λ (r : ℕ). let c : Cost = record { latency = b.latency; reliability = r } in c) (eqb-true a.reliability b.reliability both.1)

same_is : (c d : Option Cost) → option_eq same_cost c d ≡ true → c ≡ d
same_is None None e = refl
same_is None (Some b) e = absurd (let never : ⊥ = cc in never)
same_is (Some a) None e = absurd (let never : ⊥ = cc in never)
same_is (Some a) (Some b) e = ap (λ (x : Cost). Some x) (cost_is a b e)

-- the costs get one more at the end
pub keep_more : (costs more : List (Option Cost)) → KeepNumbers costs (costs ++ more)
keep_more costs more n c e = get_front costs more n c e

pub numbers_kept : (costs more : List (Option Cost)) (number : Option Cost → Option ℕ) → AreNumbers costs number → AreNumbers (costs ++ more) number
numbers_kept costs more number are c n e = get_front costs more n c (are c n e)

-- and it gets its place as its number
pub numbers_more : (costs : List (Option Cost)) (number more : Option Cost → Option ℕ) (c : Option Cost) (n : ℕ) → length costs ≡ n → ((q : Option Cost) → more q ≡ cond (option_eq same_cost c q) (Some n) (number q)) → AreNumbers costs number → AreNumbers (costs ++ c ∷ []) more
numbers_more costs number more c n size is are q m e =
    ⊎_elim
    (λ (same : option_eq same_cost c q ≡ true).
    let its : n ≡ m = some_same n m (sym (is q ∙ cond-true _ (Some n) (number q) same) ∙ e) in
    ap (λ (k : ℕ). slice_get (costs ++ c ∷ []) k) (sym (size ∙ its)) ∙ get_end costs c ∙ ap (λ (x : Option Cost). Some x) (same_is c q same))
    (λ (other : option_eq same_cost c q ≡ false). get_front costs (c ∷ []) m q (are q m (sym (is q ∙ cond-false _ (Some n) (number q) other) ∙ e)))
    (cases_Bool (option_eq same_cost c q))

-- NUMBERS FOR THE COSTS OF A ROW

-- the cost at a place of the row gets the next number, or none
pub added_next : (row old before new : List (Option Cost)) (place : ℕ) (c : Option Cost) → place < length row → c ≡ get_or row place None → GetNumbers row old before → GetsNumberIf c before new → GetNumbers row old new
added_next row old before new place c lt is h next =
    let P : Option Cost → Type 0 = λ o. Contains row o in
    let of_row : Contains row c = subst P (sym is) (Contains-get_or row place None lt) in
    ⊎_elim
    (λ (same : new ≡ before). record { more = h.more; behind = same ∙ h.behind; of_row = h.of_row })
    (λ (one : new ≡ before ++ c ∷ []). record {
      more = h.more ++ c ∷ [];
      behind = one ∙ ap (λ (l : List (Option Cost)). l ++ c ∷ []) h.behind ∙ append_assoc old h.more (c ∷ []);
      of_row = All-push (Contains row) h.more c h.of_row of_row;
    })
    next

-- ROWS OF NUMBERS

-- numbers of the costs of a row
abbrev pub AreNumbersOf : List (Option Cost) → List ℕ → List (Option Cost) → Type 0
AreNumbersOf costs numbers row = map (slice_get costs) numbers ≡ map (λ (c : Option Cost). Some c) row

head_is : {A : Type 0} (x y : A) (xs ys : List A) → x ∷ xs ≡ y ∷ ys → x ≡ y
head_is x y xs ys e = cc

tail_is : {A : Type 0} (x y : A) (xs ys : List A) → x ∷ xs ≡ y ∷ ys → xs ≡ ys
tail_is x y xs ys e = cc

-- they are the row
pub row_is : (costs : List (Option Cost)) (numbers : List ℕ) (row : List (Option Cost)) → AreNumbersOf costs numbers row → map (λ n. get_or costs n None) numbers ≡ row
row_is costs [] [] e = refl
row_is costs [] (c ∷ cs) e = absurd (let never : ⊥ = cc in never)
row_is costs (n ∷ ns) [] e = absurd (let never : ⊥ = cc in never)
row_is costs (n ∷ ns) (c ∷ cs) e =
    ap (λ (x : Option Cost). x ∷ map (λ k. get_or costs k None) ns) (get_is costs n c None (head_is _ _ _ _ e))
    ∙ ap (λ (xs : List (Option Cost)). c ∷ xs) (row_is costs ns cs (tail_is _ _ _ _ e))

-- and each is one
pub numbers_within : (costs : List (Option Cost)) (numbers : List ℕ) (row : List (Option Cost)) → AreNumbersOf costs numbers row → All (λ n. n < length costs) numbers
numbers_within costs [] row e = All-nil (λ n. n < length costs)
numbers_within costs (n ∷ ns) [] e = absurd (let never : ⊥ = cc in never)
numbers_within costs (n ∷ ns) (c ∷ cs) e = All-cons (λ k. k < length costs) n ns (get_within costs n c (head_is _ _ _ _ e)) (numbers_within costs ns cs (tail_is _ _ _ _ e))

-- also when costs get numbers
pub numbers_stay : (costs more : List (Option Cost)) (numbers : List ℕ) (row : List (Option Cost)) → KeepNumbers costs more → AreNumbersOf costs numbers row → AreNumbersOf more numbers row
numbers_stay costs more [] [] keep e = refl
numbers_stay costs more [] (c ∷ cs) keep e = absurd (let never : ⊥ = cc in never)
numbers_stay costs more (n ∷ ns) [] keep e = absurd (let never : ⊥ = cc in never)
numbers_stay costs more (n ∷ ns) (c ∷ cs) keep e =
    ap (λ (x : Option (Option Cost)). x ∷ map (slice_get more) ns) (keep n c (head_is _ _ _ _ e))
    ∙ ap (λ (xs : List (Option (Option Cost))). Some c ∷ xs) (numbers_stay costs more ns cs keep (tail_is _ _ _ _ e))

-- one cost more
pub numbers_push : (costs : List (Option Cost)) (numbers : List ℕ) (row : List (Option Cost)) (n : ℕ) (c : Option Cost) → AreNumbersOf costs numbers row → slice_get costs n ≡ Some c → AreNumbersOf costs (numbers ++ n ∷ []) (row ++ c ∷ [])
numbers_push costs numbers row n c are is =
    map-append (slice_get costs) numbers (n ∷ [])
    ∙ ap (λ (l : List (Option (Option Cost))). l ++ slice_get costs n ∷ []) are
    ∙ ap (λ (x : Option (Option Cost)). map (λ (o : Option Cost). Some o) row ++ x ∷ []) is
    ∙ sym (map-append (λ (o : Option Cost). Some o) row (c ∷ []))
