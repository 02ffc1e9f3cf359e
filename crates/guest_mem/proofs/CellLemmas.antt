-- What is read of cells, and what they hold after a write.
use Rattle.std.proofs.Common.{◌≡◌, ℕ, zero, suc, ◌+◌, ◌-◌, ◌<◌, ◌≤◌, ◌≢◌, ◌⊎◌, inl, inr, Bool, true, false, cond, List, [], ◌∷◌, ◌++◌, length, get_or, take, drop, Option, Some, None, refl, sym, ap, subst, ◌∙◌, arith, is_some, ⊎_elim, eq-eqb}
use Rattle.std.proofs.lemmas.Bool.{ne_eqb, cases_eq, cases_lt}
use Rattle.std.proofs.lemmas.List.{length-append, length-take-le, length-drop}
use Rattle.std.proofs.Math.Seq.{take-add}
use borrow.Rule.Slice.PartMut.{put_mid}
use Rattle.std.specs.FinMap as map
use Rattle.std.specs.FinMap.{get-insert}
use Rattle.std.specs.Cmp.{nat_cmp_total, unsigned_tied}
use Rattle.elf_load.specs.Cells.{Cell, Cells}
use Rattle.guest_mem.specs.declared.right.Right.{Right}
use Rattle.guest_mem.specs.Memory.{permits, permitted, byte_for, with_first, bytes_for, with_byte, put, put_all}

-- bytes that stand one after another are read together
pub bytes_for_all : (right : Right) (cells : Cells) (bytes : List ℕ) (a : ℕ) → ((o : ℕ) → o < length bytes → byte_for right cells (a + o) ≡ Some (get_or bytes o 0)) → bytes_for right (length bytes) cells a ≡ Some bytes
bytes_for_all right cells [] a each = refl
bytes_for_all right cells (b ∷ bs) a each =
    let first : byte_for right cells a ≡ Some b = subst (λ (x : ℕ). byte_for right cells x ≡ Some b) (let e : a + 0 ≡ a = omega arith in e) (each 0 (omega arith)) in
    let others : bytes_for right (length bs) cells (a + 1) ≡ Some bs =
    bytes_for_all right cells bs (a + 1) (λ o l. subst (λ (x : ℕ). byte_for right cells x ≡ Some (get_or bs o 0)) (let e : a + suc o ≡ a + 1 + o = omega arith in e) (each (suc o) (omega arith))) in
    rw (first, others) refl

-- one address without the right, and nothing is read
pub bytes_for_none : (right : Right) (cells : Cells) (k a i : ℕ) → i < k → byte_for right cells (a + i) ≡ None → bytes_for right k cells a ≡ None
bytes_for_none right cells zero a i l none = absurd (omega arith)
bytes_for_none right cells (suc k) a zero l none = rw (subst (λ (x : ℕ). byte_for right cells x ≡ None) (let e : a + 0 ≡ a = omega arith in e) none) refl
bytes_for_none right cells (suc k) a (suc i) l none =
    let others : bytes_for right k cells (a + 1) ≡ None =
    bytes_for_none right cells k (a + 1) i (omega arith) (subst (λ (x : ℕ). byte_for right cells x ≡ None) (let e : a + suc i ≡ a + 1 + i = omega arith in e) none) in
    rw others (elim (byte_for right cells a) as (λ b. with_first b None ≡ None) [ None ↦ refl | Some b ↦ refl ])

-- one list after another, where both are there
abbrev pub joined : Option (List ℕ) → Option (List ℕ) → Option (List ℕ)
joined None others = None
joined (Some xs) None = None
joined (Some xs) (Some ys) = Some (xs ++ ys)

joined_nil : (others : Option (List ℕ)) → others ≡ joined (Some []) others
joined_nil None = refl
joined_nil (Some ys) = refl

with_first_joined : (byte : Option ℕ) (xs ys : Option (List ℕ)) → with_first byte (joined xs ys) ≡ joined (with_first byte xs) ys
with_first_joined None xs ys = refl
with_first_joined (Some b) None ys = refl
with_first_joined (Some b) (Some xs) None = refl
with_first_joined (Some b) (Some xs) (Some ys) = refl

-- two spans that meet are read together
pub bytes_for_add : (right : Right) (cells : Cells) (j k a : ℕ) → bytes_for right (j + k) cells a ≡ joined (bytes_for right j cells a) (bytes_for right k cells (a + j))
bytes_for_add right cells zero k a =
    let zero_first : 0 + k ≡ k = omega arith in
    let here : a + 0 ≡ a = omega arith in
    rw (zero_first, here) (joined_nil _)
bytes_for_add right cells (suc j) k a =
    let suc_first : suc j + k ≡ suc (j + k) = omega arith in
    let there : a + suc j ≡ a + 1 + j = omega arith in
    rw (suc_first, there) (ap (with_first (byte_for right cells a)) (bytes_for_add right cells j k (a + 1)) ∙ with_first_joined (byte_for right cells a) (bytes_for right j cells (a + 1)) (bytes_for right k cells (a + 1 + j)))

pub bytes_for_append : (right : Right) (cells : Cells) (j k a : ℕ) (xs ys : List ℕ) → bytes_for right j cells a ≡ Some xs → bytes_for right k cells (a + j) ≡ Some ys → bytes_for right (j + k) cells a ≡ Some (xs ++ ys)
bytes_for_append right cells j k a xs ys front back = bytes_for_add right cells j k a ∙ rw (front, back) refl

-- the cell at an address after an insert
pub get-insert_same : (cells : Cells) (a : ℕ) (cell : Cell) → map.get (map.insert cells a cell) a ≡ Some cell
get-insert_same cells a cell =
    get-insert nat_cmp_total cells a cell a ∙ ap (λ (tied : Bool). cond tied (Some cell) (map.get cells a)) (unsigned_tied a a ∙ eq-eqb a a refl)

pub get-insert_other : (cells : Cells) (a : ℕ) (cell : Cell) (q : ℕ) → q ≢ a → map.get (map.insert cells a cell) q ≡ map.get cells q
get-insert_other cells a cell q apart =
    get-insert nat_cmp_total cells a cell q ∙ ap (λ (tied : Bool). cond tied (Some cell) (map.get cells q)) (unsigned_tied q a ∙ ne_eqb q a apart)

-- the cell at an address after a write of one byte
get_with_byte_other : (cells : Cells) (a byte q : ℕ) (was : Option Cell) → q ≢ a → map.get (with_byte cells a byte was) q ≡ map.get cells q
get_with_byte_other cells a byte q None apart = refl
get_with_byte_other cells a byte q (Some cell) apart = get-insert_other cells a _ q apart

pub get_put_other : (cells : Cells) (a byte q : ℕ) → q ≢ a → map.get (put cells a byte) q ≡ map.get cells q
get_put_other cells a byte q apart = get_with_byte_other cells a byte q (map.get cells a) apart

pub get_put_same : (cells : Cells) (a byte : ℕ) (cell : Cell) → map.get cells a ≡ Some cell → map.get (put cells a byte) a ≡ Some (record cell { byte = byte })
get_put_same cells a byte cell is =
    ap (λ (was : Option Cell). map.get (with_byte cells a byte was) a) is ∙ get-insert_same cells a (record cell { byte = byte })

pub get_put_none : (cells : Cells) (a byte q : ℕ) → map.get cells q ≡ None → map.get (put cells a byte) q ≡ None
get_put_none cells a byte q none =
    ⊎_elim (λ (same : q ≡ a). let here : map.get cells a ≡ None = subst (λ (x : ℕ). map.get cells x ≡ None) same none in
    ap (λ (was : Option Cell). map.get (with_byte cells a byte was) q) here ∙ none)
    (λ apart. get_put_other cells a byte q apart ∙ none)
    (cases_eq q a)

-- the cell at an address after a write of bytes
pub get_put_all_out : (cells : Cells) (a : ℕ) (bytes : List ℕ) (q : ℕ) → (q < a) ⊎ (a + length bytes ≤ q) → map.get (put_all cells a bytes) q ≡ map.get cells q
get_put_all_out cells a [] q out = refl
get_put_all_out cells a (b ∷ bs) q out =
    let apart : q ≢ a = ⊎_elim (λ l same. omega arith) (λ l same. omega arith) out in
    let later : (q < a + 1) ⊎ (a + 1 + length bs ≤ q) = ⊎_elim (λ l. inl (omega arith)) (λ l. inr (omega arith)) out in
    get_put_all_out (put cells a b) (a + 1) bs q later ∙ get_put_other cells a b q apart

pub get_put_all_in : (cells : Cells) (a : ℕ) (bytes : List ℕ) (o : ℕ) (cell : Cell) → o < length bytes → map.get cells (a + o) ≡ Some cell → map.get (put_all cells a bytes) (a + o) ≡ Some (record cell { byte = get_or bytes o 0 })
get_put_all_in cells a [] o cell l is = absurd (omega arith)
get_put_all_in cells a (b ∷ bs) zero cell l is =
    let here : a + 0 ≡ a = omega arith in
    let was : map.get cells a ≡ Some cell = subst (λ (x : ℕ). map.get cells x ≡ Some cell) here is in
    let now : map.get (put_all (put cells a b) (a + 1) bs) a ≡ Some (record cell { byte = b }) =
    get_put_all_out (put cells a b) (a + 1) bs a (inl (omega arith)) ∙ get_put_same cells a b cell was in
    subst (λ (x : ℕ). map.get (put_all (put cells a b) (a + 1) bs) x ≡ Some (record cell { byte = b })) (sym here) now
get_put_all_in cells a (b ∷ bs) (suc o) cell l is =
    let there : a + suc o ≡ a + 1 + o = omega arith in
    let was : map.get (put cells a b) (a + 1 + o) ≡ Some cell =
    get_put_other cells a b (a + 1 + o) (λ same. omega arith) ∙ subst (λ (x : ℕ). map.get cells x ≡ Some cell) there is in
    let now : map.get (put_all (put cells a b) (a + 1) bs) (a + 1 + o) ≡ Some (record cell { byte = get_or bs o 0 }) =
    get_put_all_in (put cells a b) (a + 1) bs o cell (omega arith) was in
    subst (λ (x : ℕ). map.get (put_all (put cells a b) (a + 1) bs) x ≡ Some (record cell { byte = get_or bs o 0 })) (sym there) now

pub get_put_all_none : (cells : Cells) (a : ℕ) (bytes : List ℕ) (q : ℕ) → map.get cells q ≡ None → map.get (put_all cells a bytes) q ≡ None
get_put_all_none cells a [] q none = none
get_put_all_none cells a (b ∷ bs) q none = get_put_all_none (put cells a b) (a + 1) bs q (get_put_none cells a b q none)

pub put_all_append : (cells : Cells) (a : ℕ) (xs ys : List ℕ) → put_all cells a (xs ++ ys) ≡ put_all (put_all cells a xs) (a + length xs) ys
put_all_append cells a [] ys = ap (λ (x : ℕ). put_all cells x ys) (let e : a ≡ a + 0 = omega arith in e)
put_all_append cells a (x ∷ xs) ys =
    put_all_append (put cells a x) (a + 1) xs ys ∙ ap (λ (y : ℕ). put_all (put_all (put cells a x) (a + 1) xs) y ys) (let e : a + 1 + length xs ≡ a + suc (length xs) = omega arith in e)

-- a span that is read goes on, or stops
joined-none : (xs : Option (List ℕ)) → joined xs None ≡ None
joined-none None = refl
joined-none (Some xs) = refl

pub open_more : (right : Right) (cells : Cells) (j k a : ℕ) (ys : List ℕ) → is_some (bytes_for right j cells a) ≡ true → bytes_for right k cells (a + j) ≡ Some ys → is_some (bytes_for right (j + k) cells a) ≡ true
open_more right cells j k a ys front back =
    rw (bytes_for_add right cells j k a, back) (elim (bytes_for right j cells a) as (λ (o : Option (List ℕ)). is_some o ≡ true → is_some (joined o (Some ys)) ≡ true) [ None ↦ λ e. e | Some xs ↦ λ e. refl ] front)

pub open_stops : (right : Right) (cells : Cells) (j k n a : ℕ) → bytes_for right k cells (a + j) ≡ None → j + k ≤ n → bytes_for right n cells a ≡ None
open_stops right cells j k n a none l =
    let rest : ℕ = n - (j + k) in
    let all : j + (k + rest) ≡ n = omega arith in
    let behind : bytes_for right (k + rest) cells (a + j) ≡ None = bytes_for_add right cells k rest (a + j) ∙ ap (λ (o : Option (List ℕ)). joined o (bytes_for right rest cells (a + j + k))) none in
    subst (λ (x : ℕ). bytes_for right x cells a ≡ None) all (bytes_for_add right cells j (k + rest) a ∙ ap (joined (bytes_for right j cells a)) behind ∙ joined-none (bytes_for right j cells a))

-- a write leaves the rights
put_all_right : (right : Right) (cells : Cells) (a : ℕ) (bytes : List ℕ) (q : ℕ) → is_some (byte_for right (put_all cells a bytes) q) ≡ is_some (byte_for right cells q)
put_all_right right cells a bytes q =
    ⊎_elim (λ (none : map.get cells q ≡ None). rw (get_put_all_none cells a bytes q none, none) refl)
    (λ (some : (cell : Cell) × (map.get cells q ≡ Some cell)).
    ⊎_elim (λ (below : q < a). ap (λ (o : Option Cell). is_some (permitted right o)) (get_put_all_out cells a bytes q (inl below)))
    (λ (above : a ≤ q).
    ⊎_elim (λ (within : q < a + length bytes).
    let o : ℕ = q - a in
    let at : a + o ≡ q = omega arith in
    let was : map.get cells (a + o) ≡ Some some.0 = subst (λ (x : ℕ). map.get cells x ≡ Some some.0) (sym at) some.1 in
    let now : map.get (put_all cells a bytes) (a + o) ≡ Some (record some.0 { byte = get_or bytes o 0 }) = get_put_all_in cells a bytes o some.0 (omega arith) was in
    subst (λ (x : ℕ). is_some (byte_for right (put_all cells a bytes) x) ≡ is_some (byte_for right cells x)) at
    (ap (λ (c : Option Cell). is_some (permitted right c)) now ∙ same_right right some.0 (get_or bytes o 0) ∙ sym (ap (λ (c : Option Cell). is_some (permitted right c)) was)))
    (λ (past : a + length bytes ≤ q). ap (λ (o : Option Cell). is_some (permitted right o)) (get_put_all_out cells a bytes q (inr past)))
    (cases_lt q (a + length bytes)))
    (cases_lt q a))
    (told_cell (map.get cells q))
  where
    same_right : (right : Right) (cell : Cell) (byte : ℕ) → is_some (permitted right (Some (record cell { byte = byte }))) ≡ is_some (permitted right (Some cell))
    same_right right cell byte = elim (permits right cell.rights) as (λ (b : Bool). is_some (cond b (Some byte) None) ≡ is_some (cond b (Some cell.byte) None)) [ true ↦ refl | false ↦ refl ]

    told_cell : (o : Option Cell) → (o ≡ None) ⊎ ((cell : Cell) × (o ≡ Some cell))
    told_cell None = inl refl
    told_cell (Some cell) = inr (cell, refl)

is_some_with_first : (b c : Option ℕ) (xs ys : Option (List ℕ)) → is_some b ≡ is_some c → is_some xs ≡ is_some ys → is_some (with_first b xs) ≡ is_some (with_first c ys)
is_some_with_first None None xs ys e f = refl
is_some_with_first None (Some c) xs ys e f = cc
is_some_with_first (Some b) None xs ys e f = cc
is_some_with_first (Some b) (Some c) None None e f = refl
is_some_with_first (Some b) (Some c) None (Some ys) e f = cc
is_some_with_first (Some b) (Some c) (Some xs) None e f = cc
is_some_with_first (Some b) (Some c) (Some xs) (Some ys) e f = refl

pub put_all_open : (right : Right) (cells : Cells) (a : ℕ) (bytes : List ℕ) (k q : ℕ) → is_some (bytes_for right k (put_all cells a bytes) q) ≡ is_some (bytes_for right k cells q)
put_all_open right cells a bytes zero q = refl
put_all_open right cells a bytes (suc k) q = is_some_with_first _ _ _ _ (put_all_right right cells a bytes q) (put_all_open right cells a bytes k (q + 1))

none_from : {A : Type 0} (o : Option A) → is_some o ≡ false → o ≡ None
none_from None e = refl
none_from (Some x) e = cc

-- where a whole span may be accessed, so may each part of it, also after writes before it
pub part_open : (right : Right) (cells : Cells) (a n j k : ℕ) → true ≡ is_some (bytes_for right n cells a) → j + k ≤ n → bytes_for right k cells (a + j) ≡ None → ⊥
part_open right cells a n j k whole l none =
    let is : true ≡ false = whole ∙ ap (λ (o : Option (List ℕ)). is_some o) (open_stops right cells j k n a none l) in
    cc

pub part_open_after : (right : Right) (cells now : Cells) (a n j k : ℕ) (xs : List ℕ) → true ≡ is_some (bytes_for right n cells a) → j + k ≤ n → now ≡ put_all cells a xs → bytes_for right k now (a + j) ≡ None → ⊥
part_open_after right cells now a n j k xs whole l is none =
    let before : is_some (bytes_for right k cells (a + j)) ≡ false =
    sym (put_all_open right cells a xs k (a + j)) ∙ ap (λ (c : Cells). is_some (bytes_for right k c (a + j))) (sym is) ∙ ap (λ (o : Option (List ℕ)). is_some o) none in
    part_open right cells a n j k whole l (none_from (bytes_for right k cells (a + j)) before)

-- one part of a list written behind another
pub put_more : (cells now next : Cells) (a j k : ℕ) (bytes : List ℕ) → j + k ≤ length bytes → now ≡ put_all cells a (take j bytes) → next ≡ put_all now (a + j) (take k (drop j bytes)) → next ≡ put_all cells a (take (j + k) bytes)
put_more cells now next a j k bytes l front back =
    let as_long : length (take j bytes) ≡ j = length-take-le j bytes (omega arith) in
    back ∙ ap (λ (c : Cells). put_all c (a + j) (take k (drop j bytes))) front
    ∙ ap (λ (x : ℕ). put_all (put_all cells a (take j bytes)) (a + x) (take k (drop j bytes))) (sym as_long)
    ∙ sym (put_all_append cells a (take j bytes) (take k (drop j bytes)))
    ∙ ap (put_all cells a) (sym (take-add j k bytes))

pub length_put_mid : (a k : ℕ) (xs ys : List ℕ) → a + k ≤ length xs → length ys ≡ k → length (put_mid a k xs ys) ≡ length xs
length_put_mid a k xs ys l e =
    omega (arith, length-append (take a xs) (ys ++ drop k (drop a xs)), length-append ys (drop k (drop a xs)), length-take-le a xs (omega arith), length-drop k (drop a xs), length-drop a xs)
