-- Pieces that are put one after another.
use Rattle.std.proofs.Common.{◌≡◌, ℕ, zero, suc, ◌+◌, ◌<◌, List, [], ◌∷◌, length, get_or, drop, map, Option, Some, None, option_map, refl, sym, ap, ◌∙◌, arith, Result, Ok, Err, OnErr}
use Rattle.run_outside.specs.Sink.{Content, add}
use Rattle.run_files.specs.Files.{Put, put_of}
use Rattle.net_run.specs.Pieces.{with_pieces}
use Rattle.run_files.specs.declared.piece.Piece.{Piece}

-- the pieces from one on are that one and those behind it
drop_puts : (ps : List Piece) (i : ℕ) (p : Piece) → i < length ps → p ≡ get_or ps i p → drop i (map put_of ps) ≡ put_of p ∷ drop (suc i) (map put_of ps)
drop_puts [] i p l is = absurd (omega arith)
drop_puts (q ∷ qs) zero p l is = ap (λ (r : Piece). put_of r ∷ map put_of qs) (sym is)
drop_puts (q ∷ qs) (suc i) p l is = drop_puts qs i p (omega arith) is

pub drop_puts_next : (ps : List Piece) (i : ℕ) (p : Piece) → i < length ps → p ≡ get_or ps i p → drop i (map put_of ps) ≡ put_of p ∷ drop (i + 1) (map put_of ps)
drop_puts_next ps i p l is = drop_puts ps i p l is ∙ ap (λ (j : ℕ). put_of p ∷ drop j (map put_of ps)) (let e : suc i ≡ i + 1 = omega arith in e)

pub with_pieces_told : (put : Put) (puts : List Put) (o : Option Content) → option_map (with_pieces (put ∷ puts)) o ≡ option_map (with_pieces puts) (option_map (add put.0 put.1) o)
with_pieces_told put puts None = refl
with_pieces_told put puts (Some c) = refl

-- a fact, under an error
pub on_err : {A E P : Type 0} (r : Result A E) → P → OnErr r P
on_err (Ok a) p = tt
on_err (Err e) p = p
