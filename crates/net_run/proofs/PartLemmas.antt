-- What stands where, when only a part of the pieces was put.
use Rattle.std.proofs.Common.{◌≡◌, ℕ, ◌≤◌, ⊎_elim, Bool, true, false, List, [], ◌∷◌, ◌++◌, length, take, drop, Option, Some, None, option_map, refl, sym, ap, ◌∙◌, append_assoc, append-nil}
use Rattle.std.specs.Prelude.{if◌then◌else◌}
use Rattle.std.specs.Option.{unwrap_or}
use Rattle.std.specs.Str.{bytes_eq}
use Rattle.std.proofs.lemmas.List.{take-append-drop}
use Rattle.run_outside.specs.Sink.{Content, add, AddsFront}
use Rattle.run_outside.specs.declared.sink.SinkTarget.{SinkTarget}
use Rattle.run_outside.specs.declared.sink.SinkTarget.TheVariants as target
use Rattle.run_files.specs.Files.{Put}
use Rattle.net_run.specs.Pieces.{with_pieces, PutsFront}
use Rattle.net_run.specs.Parts.{IsFrontOf, IsPrefix, Grows, Between}

pub prefix_refl : (xs : List ℕ) → IsPrefix xs xs
prefix_refl xs = record { rest = []; whole = sym (append-nil xs) }

prefix_trans : (xs ys zs : List ℕ) → IsPrefix xs ys → IsPrefix ys zs → IsPrefix xs zs
prefix_trans xs ys zs p q = record { rest = p.rest ++ q.rest; whole = q.whole ∙ ap (λ (ts : List ℕ). ts ++ q.rest) p.whole ∙ append_assoc xs p.rest q.rest }

pub front_refl : (o : Option (List ℕ)) → IsFrontOf o o
front_refl None = tt
front_refl (Some xs) = ([], ap Some (sym (append-nil xs)))

front_trans : (a b c : Option (List ℕ)) → IsFrontOf a b → IsFrontOf b c → IsFrontOf a c
front_trans None b c p q = tt
front_trans (Some xs) None c p q = absurd (let e : None ≡ Some (xs ++ p.0) = p.1 in cc)
front_trans (Some xs) (Some ys) c p q =
    let same : ys ≡ xs ++ p.0 = (let e : Some ys ≡ Some (xs ++ p.0) = p.1 in cc) in
    (p.0 ++ q.0, q.1 ∙ ap (λ (ts : List ℕ). Some (ts ++ q.0)) same ∙ ap Some (append_assoc xs p.0 q.0))

pub Grows-refl : (c : Content) → Grows c c
Grows-refl c = record { there = refl; out = prefix_refl c.out; err = prefix_refl c.err; files = λ name. front_refl (c.files name) }

pub Grows-trans : (a b c : Content) → Grows a b → Grows b c → Grows a c
Grows-trans a b c p q = record {
  there = q.there ∙ p.there;
  out = prefix_trans _ _ _ p.out q.out;
  err = prefix_trans _ _ _ p.err q.err;
  files = λ name. front_trans _ _ _ (p.files name) (q.files name);
}

added_file : (b : Bool) (was : Option (List ℕ)) (piece : List ℕ) → IsFrontOf was (if b then Some (unwrap_or was [] ++ piece) else was)
added_file true None piece = tt
added_file true (Some xs) piece = (piece, refl)
added_file false was piece = front_refl was

pub Grows_add : (p : SinkTarget) (piece : List ℕ) (c : Content) → Grows c (add p piece c)
Grows_add target.Out piece c = record { there = refl; out = record { rest = piece; whole = refl }; err = prefix_refl c.err; files = λ name. front_refl (c.files name) }
Grows_add target.Err piece c = record { there = refl; out = prefix_refl c.out; err = record { rest = piece; whole = refl }; files = λ name. front_refl (c.files name) }
Grows_add (target.File file) piece c = record { there = refl; out = prefix_refl c.out; err = prefix_refl c.err; files = λ name. added_file (bytes_eq file name) (c.files name) piece }

-- a front of a piece, and the whole of it
take_whole : (n : ℕ) (xs : List ℕ) → xs ≡ take n xs ++ drop n xs
take_whole n xs = sym (take-append-drop n xs)

front_of_added : (b : Bool) (was : Option (List ℕ)) (n : ℕ) (piece : List ℕ)
    → IsFrontOf (if b then Some (unwrap_or was [] ++ take n piece) else was) (if b then Some (unwrap_or was [] ++ piece) else was)
front_of_added true was n piece = (drop n piece, ap (λ (ts : List ℕ). Some (unwrap_or was [] ++ ts)) (take_whole n piece) ∙ ap Some (sym (append_assoc (unwrap_or was []) (take n piece) (drop n piece))))
front_of_added false was n piece = front_refl was

pub prefix_of_added : (xs : List ℕ) (n : ℕ) (piece : List ℕ) → IsPrefix (xs ++ take n piece) (xs ++ piece)
prefix_of_added xs n piece = record { rest = drop n piece; whole = ap (λ (ts : List ℕ). xs ++ ts) (take_whole n piece) ∙ sym (append_assoc xs (take n piece) (drop n piece)) }

pub Grows_front : (p : SinkTarget) (n : ℕ) (piece : List ℕ) (c : Content) → Grows (add p (take n piece) c) (add p piece c)
Grows_front target.Out n piece c = record { there = refl; out = prefix_of_added c.out n piece; err = prefix_refl c.err; files = λ name. front_refl (c.files name) }
Grows_front target.Err n piece c = record { there = refl; out = prefix_refl c.out; err = prefix_of_added c.err n piece; files = λ name. front_refl (c.files name) }
Grows_front (target.File file) n piece c = record { there = refl; out = prefix_refl c.out; err = prefix_refl c.err; files = λ name. front_of_added (bytes_eq file name) (c.files name) n piece }

pub Grows_with_pieces : (puts : List Put) (c : Content) → Grows c (with_pieces puts c)
Grows_with_pieces [] c = Grows-refl c
Grows_with_pieces (put ∷ puts) c = Grows-trans _ _ _ (Grows_add put.0 put.1 c) (Grows_with_pieces puts (add put.0 put.1 c))

pub between_front : (p : SinkTarget) (piece : List ℕ) (c whole : Content) (new : Option Content) → Grows (add p piece c) whole → AddsFront p piece (Some c) new → Between c new whole
between_front p piece c whole new on front =
    ⊎_elim
    (λ (same : new ≡ Some c). record { now = c; now_is = same; grown = Grows-refl c; rest = Grows-trans _ _ _ (Grows_add p piece c) on })
    (λ (some : (n : ℕ) × (n ≤ length piece) × (new ≡ option_map (add p (take n piece)) (Some c))).
    record { now = add p (take some.0 piece) c; now_is = some.2; grown = Grows_add p (take some.0 piece) c; rest = Grows-trans _ _ _ (Grows_front p some.0 piece c) on })
    front

pub between_puts : (puts : List Put) (c : Content) (new : Option Content) → PutsFront puts (Some c) new → Between c new (with_pieces puts c)
between_puts [] c new same = record { now = c; now_is = same; grown = Grows-refl c; rest = Grows-refl c }
between_puts (put ∷ puts) c new some =
    ⊎_elim
    (λ (front : AddsFront put.0 put.1 (Some c) new). between_front put.0 put.1 c (with_pieces puts (add put.0 put.1 c)) new (Grows_with_pieces puts (add put.0 put.1 c)) front)
    (λ (later : PutsFront puts (Some (add put.0 put.1 c)) new).
    let b = between_puts puts (add put.0 put.1 c) new later in
    record { now = b.now; now_is = b.now_is; grown = Grows-trans _ _ _ (Grows_add put.0 put.1 c) b.grown; rest = b.rest })
    some
