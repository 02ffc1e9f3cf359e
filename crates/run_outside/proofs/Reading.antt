-- reading a file piece by piece
use Rattle.std.proofs.Common.{◌≡◌, ℕ, ◌+◌, ◌≤◌, List, ◌++◌, length, take, Option, Some, None, IfSome, sym, ap, ◌∙◌, arith}
use Rattle.std.proofs.lemmas.Grind.{common_steps}
use Rattle.std.proofs.lemmas.List.{take-append-le}
use Rattle.std.proofs.Math.Seq.{take-add, take-append-add}
use Rattle.run_outside.specs.Files.{Held}
use Rattle.run_outside.specs.Source.{IsPiece, HasRead}

-- two facts of a file's bytes give a third
pub told_both : {P Q R : List ℕ → Type 0} (held : Option Held) (name : List ℕ) → ((bytes : List ℕ) → P bytes → Q bytes → R bytes)
    → IfSome held (λ files. IfSome (files name) P) → IfSome held (λ files. IfSome (files name) Q) → IfSome held (λ files. IfSome (files name) R)
told_both None name f p q = tt
told_both {P} {Q} {R} (Some files) name f p q = of_file (files name) p q where
  of_file : (o : Option (List ℕ)) → IfSome o P → IfSome o Q → IfSome o R
  of_file None p q = tt
  of_file (Some bytes) p q = f bytes p q

-- a piece more
pub HasRead_more : (held : Option Held) (name : List ℕ) (filled n : ℕ) (old into new : List ℕ) → filled ≤ length old → n ≤ length into
    → take (filled + n) new ≡ take filled old ++ take n into
    → IfSome held (λ files. IfSome (files name) (λ bytes. IsPiece bytes filled n into))
    → HasRead held name filled old → HasRead held name (filled + n) new
HasRead_more held name filled n old into new room within front piece h = record { told = told_both held name more h.told piece } where
  more : (bytes : List ℕ) → (filled ≤ length bytes) × (take filled old ≡ take filled bytes) → IsPiece bytes filled n into
      → (filled + n ≤ length bytes) × (take (filled + n) new ≡ take (filled + n) bytes)
  more bytes before p = (
    omega (arith, before.0, p.there),
    front ∙ ap (λ xs. xs ++ take n into) before.1 ∙ ap (λ xs. take filled bytes ++ xs) p.same ∙ sym (take-add filled n bytes),
  )

-- the front of a buffer whose middle was read
pub take_filled : (filled n : ℕ) (old into rest : List ℕ) → filled ≤ length old → n ≤ length into
    → take (filled + n) (take filled old ++ (into ++ rest)) ≡ take filled old ++ take n into
take_filled filled n old into rest room within =
    let size : length (take filled old) ≡ filled = grind (arith, common_steps) in
    ap (λ k. take (k + n) (take filled old ++ (into ++ rest))) (sym size)
    ∙ take-append-add (take filled old) (into ++ rest) n
    ∙ ap (λ xs. take filled old ++ xs) (take-append-le n into rest within)
