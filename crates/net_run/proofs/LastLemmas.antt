-- The last pieces for files, as slots have their places.
use Rattle.std.proofs.Common.{◌≡◌, ℕ, zero, suc, ◌+◌, ◌<◌, ◌≤◌, Bool, true, false, List, [], ◌∷◌, ◌++◌, length, drop, map, get_or, arith, Vec, Global, refl, sym, ap, ◌∙◌, subst, inl, inr}
use Rattle.std.specs.Prelude.{◌||◌, ◌==◌, vec_len, slice_set, slice_get, Some, None}
use Rattle.std.proofs.lemmas.Bool.{cases_eq, eqb-true}
use Rattle.std.proofs.lemmas.List.{map-set, nil_from_length}
use Rattle.std.proofs.lemmas.Option.{slice_get-get_or}
use Rattle.run_outside.specs.declared.sink.SinkTarget.{SinkTarget}
use Rattle.run_outside.specs.declared.sink.SinkTarget.TheVariants as target
use Rattle.run_files.specs.Files.{Put, put_of}
use Rattle.run_files.specs.declared.piece.Piece.{Piece}
use Rattle.net_run.specs.Targets.{is_target, is_touched}
use Rattle.net_run.specs.inside.Gathered.{AreLast, slot_of}
use Rattle.net_run.proofs.GatherLemmas.{put_at, same_target, touched_behind}

-- what a slot has after another one was set, or it itself
slot_set : (xs : List ℕ) (i v k : ℕ) → slice_get (slice_set xs i v) i ≡ Some k → k ≡ v
slot_set [] i v k at = absurd (cc)
slot_set (x ∷ xs) zero v k at = cc
slot_set (x ∷ xs) (suc i) v k at = slot_set xs i v k at

slot_kept : (xs : List ℕ) (i v j : ℕ) → (j ≡ i → ⊥) → slice_get (slice_set xs i v) j ≡ slice_get xs j
slot_kept [] i v j apart = refl
slot_kept (x ∷ xs) zero v zero apart = absurd (apart refl)
slot_kept (x ∷ xs) zero v (suc j) apart = refl
slot_kept (x ∷ xs) (suc i) v zero apart = refl
slot_kept (x ∷ xs) (suc i) v (suc j) apart = slot_kept xs i v j (λ e. apart (ap suc e))

neither : (a b : Bool) → a ≡ false → b ≡ false → (a || b) ≡ false
neither a b x y = cc

module _ (at : SinkTarget) where
  -- behind all there is none
  nothing_behind : (ps : List Put) (q : Put) → is_touched at (drop (suc (length ps)) (ps ++ q ∷ [])) ≡ false
  nothing_behind [] q = refl
  nothing_behind (p ∷ ps) q = nothing_behind ps q

  -- behind a piece there is none more where one for another target is added
  still_behind : (ps : List Put) (q p : Put) (k : ℕ) → is_target q.0 at ≡ false → slice_get (ps ++ q ∷ []) k ≡ Some p → is_target p.0 at ≡ true
      → ((o : Put) → slice_get ps k ≡ Some o → is_target o.0 at ≡ true → is_touched at (drop (suc k) ps) ≡ false)
      → is_touched at (drop (suc k) (ps ++ q ∷ [])) ≡ false
  still_behind [] q p zero other is here before = absurd (cc)
  still_behind [] q p (suc k) other is here before = absurd (cc)
  still_behind (o ∷ ps) q p zero other is here before =
      touched_behind q.0 [] q.1 at ps ∙ neither (is_touched at ps) (is_target q.0 at) (before p is here) other
  still_behind (o ∷ ps) q p (suc k) other is here before = still_behind ps q p k other is here before

  touched_set : (ps : List Put) (j : ℕ) (t : SinkTarget) (bytes more : List ℕ) → slice_get ps j ≡ Some (t, bytes) → is_touched at (slice_set ps j (t, more)) ≡ is_touched at ps
  touched_set [] j t bytes more is = absurd (cc)
  touched_set (p ∷ ps) zero t bytes more is =
      let one : p ≡ (t, bytes) = cc in
      ap (λ (q : Put). is_target q.0 at || is_touched at ps) (sym one)
  touched_set (p ∷ ps) (suc j) t bytes more is = ap (λ (b : Bool). is_target p.0 at || b) (touched_set ps j t bytes more is)

  -- and where a piece has more bytes
  same_behind : (ps : List Put) (j : ℕ) (t : SinkTarget) (bytes more : List ℕ) (k : ℕ) (p : Put) → slice_get ps j ≡ Some (t, bytes)
      → slice_get (slice_set ps j (t, more)) k ≡ Some p → is_target p.0 at ≡ true
      → ((o : Put) → slice_get ps k ≡ Some o → is_target o.0 at ≡ true → is_touched at (drop (suc k) ps) ≡ false)
      → is_touched at (drop (suc k) (slice_set ps j (t, more))) ≡ false
  same_behind [] j t bytes more k p was is here before = absurd (cc)
  same_behind (o ∷ ps) zero t bytes more zero p was is here before =
      let one : p ≡ (t, more) = cc in
      before (t, bytes) was (subst (λ (q : Put). is_target q.0 at ≡ true) one here)
  same_behind (o ∷ ps) zero t bytes more (suc k) p was is here before = before p is here
  same_behind (o ∷ ps) (suc j) t bytes more zero p was is here before =
      touched_set ps j t bytes more was ∙ before p is here
  same_behind (o ∷ ps) (suc j) t bytes more (suc k) p was is here before = same_behind ps j t bytes more k p was is here before

-- a piece has more bytes
pub last_joined : (ps : List Put) (slots : List ℕ) (j : ℕ) (t : SinkTarget) (bytes more : List ℕ) → slice_get ps j ≡ Some (t, bytes)
    → AreLast ps slots → AreLast (slice_set ps j (t, more)) slots
last_joined ps slots j t bytes more was last name k p slot is here =
    same_behind (target.File name) ps j t bytes more k p was is here (λ o at one. last name k o slot at one)

-- a piece that is for no file is added
pub last_other : (ps : List Put) (slots : List ℕ) (t : SinkTarget) (bytes : List ℕ) → ((name : List ℕ) → is_target t (target.File name) ≡ false)
    → AreLast ps slots → AreLast (ps ++ (t, bytes) ∷ []) slots
last_other ps slots t bytes other last name k p slot is here =
    still_behind (target.File name) ps (t, bytes) p k (other name) is here (λ o at one. last name k o slot at one)

-- a piece for a file is added, whose slot has its place
pub last_set : (ps : List Put) (slots : List ℕ) (file bytes : List ℕ) → AreLast ps slots
    → AreLast (ps ++ (target.File file, bytes) ∷ []) (slice_set slots (slot_of file) (length ps))
last_set ps slots file bytes last name k p slot is here = elim (cases_eq (slot_of name) (slot_of file)) as (λ _. is_touched (target.File name) (drop (suc k) (ps ++ (target.File file, bytes) ∷ [])) ≡ false) [
  | inl same ↦
      let place : k ≡ length ps = slot_set slots (slot_of file) (length ps) k (subst (λ (s : ℕ). slice_get (slice_set slots (slot_of file) (length ps)) s ≡ Some k) same slot) in
      subst (λ (j : ℕ). is_touched (target.File name) (drop (suc j) (ps ++ (target.File file, bytes) ∷ [])) ≡ false) (sym place) (nothing_behind (target.File name) ps (target.File file, bytes))
  | inr apart ↦
      still_behind (target.File name) ps (target.File file, bytes) p k (another (is_target (target.File file) (target.File name)) refl apart) is here
      (λ o at one. last name k o (sym (slot_kept slots (slot_of file) (length ps) (slot_of name) apart) ∙ slot) at one)
]
  where
    another : (b : Bool) → is_target (target.File file) (target.File name) ≡ b → (slot_of name ≡ slot_of file → ⊥) → b ≡ false
    another true e apart = absurd (apart (named (same_target (target.File file) (target.File name) e)))
      where
        named : target.File file ≡ target.File name → slot_of name ≡ slot_of file
        named same = let one : file ≡ name = cc in ap slot_of (sym one)
    another false e apart = refl

-- a file that has no slot
pub last_unset : (ps : List Put) (slots : List ℕ) (file bytes : List ℕ) → slice_get slots (slot_of file) ≡ None → AreLast ps slots → AreLast (ps ++ (target.File file, bytes) ∷ []) slots
last_unset ps slots file bytes none last name k p slot is here =
    still_behind (target.File name) ps (target.File file, bytes) p k (another (is_target (target.File file) (target.File name)) refl) is here (λ o at one. last name k o slot at one)
  where
    another : (b : Bool) → is_target (target.File file) (target.File name) ≡ b → b ≡ false
    another true e =
        let same : file ≡ name = named (same_target (target.File file) (target.File name) e) in
        absurd (clash (sym slot ∙ (ap (λ (n : List ℕ). slice_get slots (slot_of n)) (sym same) ∙ none)))
      where
        named : target.File file ≡ target.File name → file ≡ name
        named is = cc

        clash : Some k ≡ None → ⊥
        clash bad = absurd (cc)
    another false e = refl

-- no pieces
pub last_none : (slots : List ℕ) → AreLast [] slots
last_none slots name k p slot is here = absurd (cc)

-- no element where the list ends before
pub no_slot : (xs : List ℕ) (i : ℕ) → length xs ≤ i → slice_get xs i ≡ None
no_slot [] i over = refl
no_slot (x ∷ xs) zero over = absurd (omega (arith, over))
no_slot (x ∷ xs) (suc i) over = no_slot xs i (omega (arith, over))

-- of the pieces of files, that at the place of a file's slot
pub last_at : (pieces : List Piece) (slots : List ℕ) (name : List ℕ) (k : ℕ) (p : Piece) → AreLast (map put_of pieces) slots → slice_get slots (slot_of name) ≡ Some k
    → k < length pieces → p ≡ get_or pieces k p → is_target p.target (target.File name) ≡ true → is_touched (target.File name) (drop (k + 1) (map put_of pieces)) ≡ false
last_at pieces slots name k p last slot below is here =
    let next : suc k ≡ k + 1 = omega arith in
    let found : slice_get (map put_of pieces) k ≡ Some (put_of p) = put_at k pieces (slice_get-get_or pieces k p below ∙ ap Some (sym is)) in
    subst (λ (j : ℕ). is_touched (target.File name) (drop j (map put_of pieces)) ≡ false) next (last name k (put_of p) slot found here)

-- a piece among pieces has more bytes
pub joined_last : (pieces : List Piece) (slots : List ℕ) (k : ℕ) (was : Piece) (bytes : List ℕ) → k < length pieces → was ≡ get_or pieces k was
    → AreLast (map put_of pieces) slots → AreLast (map put_of (slice_set pieces k (record { target = was.target; bytes = bytes }))) slots
joined_last pieces slots k was bytes below is last =
    let found : slice_get (map put_of pieces) k ≡ Some (was.target, was.bytes) = put_at k pieces (slice_get-get_or pieces k was below ∙ ap Some (sym is)) in
    subst (λ (ps : List Put). AreLast ps slots) (sym (map-set put_of pieces k (record { target = was.target; bytes = bytes }))) (last_joined (map put_of pieces) slots k was.target was.bytes bytes found last)

pub no_pieces : (pieces : Vec Piece Global) (b : Bool) → b ≡ (vec_len pieces == 0) → b ≡ true → pieces.items ≡ []
no_pieces pieces b is empty =
    nil_from_length pieces.items (let none : vec_len pieces ≡ 0 = eqb-true (vec_len pieces) 0 (sym is ∙ empty) in omega (arith, none, pieces.ok.0))
