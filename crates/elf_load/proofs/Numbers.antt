-- Lists of numbers that name each number of another list once.
use Rattle.std.proofs.Common.{◌≡◌, ℕ, ◌+◌, ◌<◌, ◌≤◌, Bool, true, false, cond, ◌||◌, List, [], ◌∷◌, ◌++◌, length, refl, sym, ap, ◌∙◌, subst, arith, length-append, append_assoc}
use Rattle.std.specs.Prelude.{◌==◌}
use Rattle.std.specs.Ordering.{nat_cmp, eq_by_cmp}
use Rattle.std.specs.Cmp.{unsigned_tied}
use Rattle.std.specs.List.{list_any}
use Rattle.std.specs.FinSet.{FinSet, from_list, insert, contains, len, same_set, nat_cmp-IsAntisymmetric, contains-from_list, from_list_push, len-empty, len-insert}
use Rattle.std.proofs.lemmas.Bool.{eqb-true}
use Rattle.std.proofs.lemmas.Cmp.{nat_cmp_total, eq_by_cmp_equiv}
use Rattle.std.proofs.lemmas.List.{append-nil}
use Rattle.std.proofs.lemmas.List.Folds.{list_any-append}
use Rattle.elf_load.specs.inside.Layout.{IsListOf}

abbrev pub set_of : List ℕ → FinSet nat_cmp
set_of xs = from_list xs

pub eq_by_cmp_is : (q x : ℕ) → eq_by_cmp nat_cmp q x ≡ (x == q)
eq_by_cmp_is q x = (eq_by_cmp_equiv nat_cmp_total).symm q x ∙ unsigned_tied x q

pub any_same : (xs : List ℕ) (q : ℕ) → list_any (eq_by_cmp nat_cmp q) xs ≡ list_any (λ y. y == q) xs
any_same [] q = refl
any_same (x ∷ xs) q = ap (λ b. b || list_any (eq_by_cmp nat_cmp q) xs) (eq_by_cmp_is q x) ∙ ap (λ b. (x == q) || b) (any_same xs q)

pub contains_set_of : (xs : List ℕ) (q : ℕ) → contains (set_of xs) q ≡ list_any (λ y. y == q) xs
contains_set_of xs q = contains-from_list nat_cmp_total xs q ∙ any_same xs q

pub same_sets : (xs ys : List ℕ) → ((q : ℕ) → list_any (λ y. y == q) xs ≡ list_any (λ y. y == q) ys) → set_of xs ≡ set_of ys
same_sets xs ys is = same_set nat_cmp_total nat_cmp-IsAntisymmetric _ _ (λ q. contains_set_of xs q ∙ is q ∙ sym (contains_set_of ys q))

pub any_from_sets : (xs ys : List ℕ) (q : ℕ) → set_of xs ≡ set_of ys → list_any (λ y. y == q) xs ≡ list_any (λ y. y == q) ys
any_from_sets xs ys q e = sym (contains_set_of xs q) ∙ ap (λ s. contains s q) e ∙ contains_set_of ys q

pub set_of_append : (xs ys zs : List ℕ) → set_of xs ≡ set_of ys → set_of (xs ++ zs) ≡ set_of (ys ++ zs)
set_of_append xs ys zs e =
    same_sets _ _ (λ q. list_any-append (λ y. y == q) xs zs ∙ ap (λ b. b || list_any (λ y. y == q) zs) (any_from_sets xs ys q e) ∙ sym (list_any-append (λ y. y == q) ys zs))

pub set_of_push : (xs : List ℕ) (k : ℕ) → set_of (xs ++ k ∷ []) ≡ insert (set_of xs) k
set_of_push xs k = from_list_push nat_cmp_total nat_cmp-IsAntisymmetric xs k

pub len_push : (xs : List ℕ) (k : ℕ) → len (set_of (xs ++ k ∷ [])) ≡ cond (list_any (λ y. y == k) xs) (len (set_of xs)) (len (set_of xs) + 1)
len_push xs k = ap len (set_of_push xs k) ∙ len-insert nat_cmp_total (set_of xs) k ∙ ap (λ b. cond b (len (set_of xs)) (len (set_of xs) + 1)) (contains_set_of xs k)

step_up : (b : Bool) (n m : ℕ) → m ≡ cond b n (n + 1) → n ≤ m
step_up true n m e = omega arith
step_up false n m e = omega arith

pub len_le_append : (xs ys : List ℕ) → len (set_of xs) ≤ len (set_of (xs ++ ys))
len_le_append xs [] = rw append-nil (omega arith)
len_le_append xs (y ∷ ys) =
    let one : len (set_of xs) ≤ len (set_of (xs ++ y ∷ [])) = step_up _ _ _ (len_push xs y) in
    let rest : len (set_of (xs ++ y ∷ [])) ≤ len (set_of ((xs ++ y ∷ []) ++ ys)) = len_le_append (xs ++ y ∷ []) ys in
    let same : len (set_of ((xs ++ y ∷ []) ++ ys)) ≡ len (set_of (xs ++ y ∷ ys)) = ap (λ zs. len (set_of zs)) (append_assoc xs (y ∷ []) ys) in
    omega arith

or_false : (b : Bool) → (b || false) ≡ b
or_false true = refl
or_false false = refl

or_there : (xs : List ℕ) (k q : ℕ) → list_any (λ y. y == k) xs ≡ true → (list_any (λ y. y == q) xs || ((k == q) || false)) ≡ list_any (λ y. y == q) xs
or_there xs k q h =
    elim (k == q) as (λ b. (k == q) ≡ b → (list_any (λ y. y == q) xs || (b || false)) ≡ list_any (λ y. y == q) xs) [
      | true ↦ λ e. let t : list_any (λ y. y == q) xs ≡ true = subst (λ z. list_any (λ y. y == z) xs ≡ true) (eqb-true k q e) h in ap (λ b. b || true) t ∙ sym t
      | false ↦ λ _. or_false _
    ] refl

pub IsListOf_none : IsListOf [] []
IsListOf_none = record { same = refl; once = sym (len-empty nat_cmp) }

-- a number that is listed already
pub IsListOf_old : (numbers all : List ℕ) (k : ℕ) → IsListOf numbers all → list_any (λ y. y == k) numbers ≡ true → IsListOf numbers (all ++ k ∷ [])
IsListOf_old numbers all k listed there =
    let there' : list_any (λ y. y == k) all ≡ true = sym (any_from_sets numbers all k listed.same) ∙ there in
    let same : set_of all ≡ set_of (all ++ k ∷ []) =
    same_sets _ _ (λ q. sym (list_any-append (λ y. y == q) all (k ∷ []) ∙ or_there all k q there')) in
    record { same = listed.same ∙ same; once = listed.once ∙ ap len same }

-- a new number
pub IsListOf_new : (numbers all : List ℕ) (k : ℕ) → IsListOf numbers all → list_any (λ y. y == k) numbers ≡ false → IsListOf (numbers ++ k ∷ []) (all ++ k ∷ [])
IsListOf_new numbers all k listed new =
    let fresh : list_any (λ y. y == k) all ≡ false = sym (any_from_sets numbers all k listed.same) ∙ new in
    record {
      same = set_of_append numbers all (k ∷ []) listed.same;
      once = length-append numbers (k ∷ []) ∙ ap (λ n. n + 1) listed.once ∙ sym (len_push all k ∙ ap (λ b. cond b (len (set_of all)) (len (set_of all) + 1)) fresh);
    }

-- no room for a new number
pub many_new : (numbers all rest : List ℕ) (k : ℕ) → IsListOf numbers all → list_any (λ y. y == k) numbers ≡ false → length numbers < len (set_of ((all ++ k ∷ []) ++ rest))
many_new numbers all rest k listed new =
    let one : length numbers + 1 ≡ len (set_of (all ++ k ∷ [])) = sym (length-append numbers (k ∷ [])) ∙ (IsListOf_new numbers all k listed new).once in
    let more : len (set_of (all ++ k ∷ [])) ≤ len (set_of ((all ++ k ∷ []) ++ rest)) = len_le_append (all ++ k ∷ []) rest in
    omega arith

pub IsListOf_append : (numbers more all zs : List ℕ) → IsListOf numbers all → IsListOf more (numbers ++ zs) → IsListOf more (all ++ zs)
IsListOf_append numbers more all zs listed added =
    let same : set_of (numbers ++ zs) ≡ set_of (all ++ zs) = set_of_append numbers all zs listed.same in
    record { same = added.same ∙ same; once = added.once ∙ ap len same }

pub IsListOf_itself : (numbers all : List ℕ) → IsListOf numbers all → IsListOf numbers numbers
IsListOf_itself numbers all listed = record { same = refl; once = listed.once ∙ ap len (sym listed.same) }
