-- Pieces that are put in two parts.
use Rattle.std.proofs.Common.{◌≡◌, inl, inr, ⊎_elim, List, [], ◌∷◌, ◌++◌, Option, Some, None, option_map, refl, sym, ap, subst}
use Rattle.run_outside.specs.Sink.{Content, add, AddsFront}
use Rattle.run_files.specs.Files.{Put}
use Rattle.net_run.specs.Pieces.{with_pieces, PutsFront}
use Rattle.net_run.proofs.PieceLemmas.{with_pieces_told}

pub with_append : (ps qs : List Put) (c : Content) → with_pieces (ps ++ qs) c ≡ with_pieces qs (with_pieces ps c)
with_append [] qs c = refl
with_append (p ∷ ps) qs c = with_append ps qs (add p.0 p.1 c)

pub told_append : (ps qs : List Put) (o : Option Content) → option_map (with_pieces (ps ++ qs)) o ≡ option_map (with_pieces qs) (option_map (with_pieces ps) o)
told_append ps qs None = refl
told_append ps qs (Some c) = ap Some (with_append ps qs c)

pub told_nothing : (o : Option Content) → option_map (with_pieces []) o ≡ o
told_nothing None = refl
told_nothing (Some c) = refl

-- nothing was put
pub front_none : (ps : List Put) (o : Option Content) → PutsFront ps o o
front_none [] o = refl
front_none (p ∷ ps) o = inl (inl refl)

-- a part of the first part was put
pub front_first : (ps qs : List Put) (old new : Option Content) → PutsFront ps old new → PutsFront (ps ++ qs) old new
front_first [] qs old new same = subst (PutsFront qs old) (sym same) (front_none qs old)
front_first (p ∷ ps) qs old new some =
    ⊎_elim (λ (front : AddsFront p.0 p.1 old new). inl front) (λ (later : PutsFront ps (option_map (add p.0 p.1) old) new). inr (front_first ps qs (option_map (add p.0 p.1) old) new later)) some

-- the first part was put, and a part of the second
pub front_second : (ps qs : List Put) (old new : Option Content) → PutsFront qs (option_map (with_pieces ps) old) new → PutsFront (ps ++ qs) old new
front_second [] qs old new some = subst (λ (o : Option Content). PutsFront qs o new) (told_nothing old) some
front_second (p ∷ ps) qs old new some =
    inr (front_second ps qs (option_map (add p.0 p.1) old) new (subst (λ (o : Option Content). PutsFront qs o new) (with_pieces_told p ps old) some))
