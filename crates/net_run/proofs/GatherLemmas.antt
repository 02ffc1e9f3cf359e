-- Pieces for one file that are put together.
use Rattle.std.proofs.Common.{◌≡◌, ℕ, zero, suc, ◌+◌, ◌<◌, Bool, true, false, List, [], ◌∷◌, ◌++◌, length, drop, map, get_or, option_map, refl, sym, ap, ◌∙◌, subst, arith, append-nil, append_assoc}
use Rattle.std.proofs.lemmas.List.{map-set}
use Rattle.std.proofs.lemmas.Option.{slice_get-get_or}
use Rattle.std.specs.Prelude.{if◌then◌else◌, ◌||◌, slice_set, slice_get, Some}
use Rattle.std.proofs.lemmas.Slice.Eq.{bytes_eq-Decides}
use Rattle.run_outside.specs.Sink.{Content}
use Rattle.run_outside.specs.declared.sink.SinkTarget.{SinkTarget}
use Rattle.run_outside.specs.declared.sink.SinkTarget.TheVariants as target
use Rattle.run_files.specs.Files.{Put, put_of}
use Rattle.run_files.specs.declared.piece.Piece.{Piece}
use Rattle.net_run.specs.Pieces.{with_pieces}
use Rattle.net_run.specs.Targets.{is_target, bytes_at, is_touched}
use Rattle.net_run.proofs.ContentLemmas.{same_content, untouched_bytes}

pub same_target : (x y : SinkTarget) → is_target x y ≡ true → x ≡ y
same_target target.Out target.Out e = refl
same_target target.Out target.Err e = absurd (cc)
same_target target.Out (target.File n) e = absurd (cc)
same_target target.Err target.Out e = absurd (cc)
same_target target.Err target.Err e = refl
same_target target.Err (target.File n) e = absurd (cc)
same_target (target.File m) target.Out e = absurd (cc)
same_target (target.File m) target.Err e = absurd (cc)
same_target (target.File m) (target.File n) e = ap target.File ((bytes_eq-Decides m n).0 e)

-- more bytes at the end of the last piece for a target are a piece behind all
module _ (t : SinkTarget) (bytes more : List ℕ) where
  abbrev behind : List Put → List Put
  behind ps = ps ++ (t, more) ∷ []

  bytes_behind : (at : SinkTarget) (ps : List Put) → bytes_at at (behind ps) ≡ bytes_at at ps ++ (if is_target t at then more else [])
  bytes_behind at [] = append-nil (if is_target t at then more else [])
  bytes_behind at (p ∷ ps) = ap (λ (bs : List ℕ). (if is_target p.0 at then p.1 else []) ++ bs) (bytes_behind at ps)
      ∙ sym (append_assoc (if is_target p.0 at then p.1 else []) (bytes_at at ps) (if is_target t at then more else []))

  pub touched_behind : (at : SinkTarget) (ps : List Put) → is_touched at (behind ps) ≡ (is_touched at ps || is_target t at)
  touched_behind at [] = or_false (is_target t at)
    where
      or_false : (b : Bool) → (b || false) ≡ b
      or_false true = refl
      or_false false = refl
  touched_behind at (p ∷ ps) = ap (λ (b : Bool). is_target p.0 at || b) (touched_behind at ps) ∙ or_assoc (is_target p.0 at) (is_touched at ps) (is_target t at)
    where
      or_assoc : (a b c : Bool) → (a || (b || c)) ≡ ((a || b) || c)
      or_assoc true b c = refl
      or_assoc false b c = refl

  here_bytes : (at : SinkTarget) (ps : List Put) → is_touched t ps ≡ false → bytes_at at ((t, bytes ++ more) ∷ ps) ≡ bytes_at at (behind ((t, bytes) ∷ ps))
  here_bytes at ps none = go (is_target t at) refl ∙ sym (bytes_behind at ((t, bytes) ∷ ps)) where
    go : (b : Bool) → is_target t at ≡ b
        → (if b then bytes ++ more else []) ++ bytes_at at ps ≡ ((if b then bytes else []) ++ bytes_at at ps) ++ (if b then more else [])
    go true e =
        let nothing : bytes_at at ps ≡ [] = untouched_bytes at ps (subst (λ (x : SinkTarget). is_touched x ps ≡ false) (same_target t at e) none) in
        rw nothing (append-nil (bytes ++ more) ∙ ap (λ (bs : List ℕ). bs ++ more) (sym (append-nil bytes)))
    go false e = sym (append-nil (bytes_at at ps))

  here_touched : (at : SinkTarget) (ps : List Put) → is_touched at ((t, bytes ++ more) ∷ ps) ≡ is_touched at (behind ((t, bytes) ∷ ps))
  here_touched at ps = go (is_target t at) (is_touched at ps) ∙ sym (touched_behind at ((t, bytes) ∷ ps)) where
    go : (a b : Bool) → (a || b) ≡ ((a || b) || a)
    go true b = refl
    go false true = refl
    go false false = refl

  bytes_same : (at : SinkTarget) (ps : List Put) (k : ℕ) → slice_get ps k ≡ Some (t, bytes) → is_touched t (drop (suc k) ps) ≡ false → bytes_at at (slice_set ps k (t, bytes ++ more)) ≡ bytes_at at (behind ps)
  bytes_same at [] k is none = absurd (cc)
  bytes_same at (p ∷ ps) zero is none =
      let one : p ≡ (t, bytes) = cc in
      rw one (here_bytes at ps none)
  bytes_same at (p ∷ ps) (suc k) is none = ap (λ (bs : List ℕ). (if is_target p.0 at then p.1 else []) ++ bs) (bytes_same at ps k is none)

  touched_same : (at : SinkTarget) (ps : List Put) (k : ℕ) → slice_get ps k ≡ Some (t, bytes) → is_touched at (slice_set ps k (t, bytes ++ more)) ≡ is_touched at (behind ps)
  touched_same at [] k is = absurd (cc)
  touched_same at (p ∷ ps) zero is =
      let one : p ≡ (t, bytes) = cc in
      rw one (here_touched at ps)
  touched_same at (p ∷ ps) (suc k) is = ap (λ (b : Bool). is_target p.0 at || b) (touched_same at ps k is)

  pub joined : (ps : List Put) (k : ℕ) → slice_get ps k ≡ Some (t, bytes) → is_touched t (drop (suc k) ps) ≡ false → (c : Content) → with_pieces (slice_set ps k (t, bytes ++ more)) c ≡ with_pieces (behind ps) c
  joined ps k is none c = same_content (slice_set ps k (t, bytes ++ more)) (behind ps) c (λ at. bytes_same at ps k is none) (λ name. touched_same (target.File name) ps k is)

-- the pieces from one on, where none behind it is for a target, and it isn't either
pub one_before : (t : SinkTarget) (p : Put) (ps qs : List Put) → qs ≡ p ∷ ps → is_target p.0 t ≡ false → is_touched t ps ≡ false → is_touched t qs ≡ false
one_before t p ps qs is other none = ap (is_touched t) is ∙ ap (λ (b : Bool). b || is_touched t ps) other ∙ none

-- what a piece puts, at its place
pub put_at : (k : ℕ) (ps : List Piece) {p : Piece} → slice_get ps k ≡ Some p → slice_get (map put_of ps) k ≡ Some (put_of p)
put_at k [] is = absurd (cc)
put_at zero (p ∷ ps) is = ap (option_map put_of) is
put_at (suc k) (p ∷ ps) is = put_at k ps is

-- more bytes at the end of the last piece for a target, among pieces, are a piece behind all
pub joined_in : (pieces : List Piece) (k : ℕ) (was piece : Piece) (bytes : List ℕ) → k < length pieces → was ≡ get_or pieces k was
    → ((d : Piece) → is_target (get_or pieces k d).target piece.target ≡ true) → is_touched piece.target (drop (k + 1) (map put_of pieces)) ≡ false → bytes ≡ was.bytes ++ piece.bytes
    → (c : Content) → with_pieces (map put_of (slice_set pieces k (record { target = was.target; bytes = bytes }))) c ≡ with_pieces (map put_of pieces ++ put_of piece ∷ []) c
joined_in pieces k was piece bytes below is here none both c =
    let same : was.target ≡ piece.target = same_target was.target piece.target (ap (λ (p : Piece). is_target p.target piece.target) is ∙ here was) in
    let next : suc k ≡ k + 1 = omega arith in
    let found : slice_get (map put_of pieces) k ≡ Some (was.target, was.bytes) = put_at k pieces (slice_get-get_or pieces k was below ∙ ap Some (sym is)) in
    let last : is_touched was.target (drop (suc k) (map put_of pieces)) ≡ false =
    ap (λ (t : SinkTarget). is_touched t (drop (suc k) (map put_of pieces))) same ∙ ap (λ (j : ℕ). is_touched piece.target (drop j (map put_of pieces))) next ∙ none in
    ap (λ (ps : List Put). with_pieces ps c) (map-set put_of pieces k (record { target = was.target; bytes = bytes }) ∙ ap (λ (bs : List ℕ). slice_set (map put_of pieces) k (was.target, bs)) both)
    ∙ joined was.target was.bytes piece.bytes (map put_of pieces) k found last c
    ∙ ap (λ (t : SinkTarget). with_pieces (map put_of pieces ++ (t, piece.bytes) ∷ []) c) same
