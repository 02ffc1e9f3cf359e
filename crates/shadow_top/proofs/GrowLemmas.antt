-- Pieces in parts, and contents that grow.
use Rattle.std.proofs.Common.{◌≡◌, ℕ, inl, List, [], ◌∷◌, ◌++◌, take, drop, Option, Some, None, option_map, refl, sym, ap, subst, ◌∙◌, append_assoc, append-nil}
use Rattle.std.proofs.lemmas.List.{take-append-drop}
use Rattle.run_outside.specs.Sink.{Content, add}
use Rattle.run_files.specs.Files.{Put}
use Rattle.net_run.specs.Parts.{IsFrontOf, IsPrefix, Grows, Between}
use Rattle.net_run.specs.Pieces.{with_pieces, PutsFront}

-- ---- pieces

pub with_append : (ps qs : List Put) (c : Content) → with_pieces (ps ++ qs) c ≡ with_pieces qs (with_pieces ps c)
with_append [] qs c = refl
with_append (p ∷ ps) qs c = with_append ps qs (add p.0 p.1 c)

pub told_nothing : (o : Option Content) → option_map (with_pieces []) o ≡ o
told_nothing None = refl
told_nothing (Some c) = refl

-- nothing was put
pub front_none : (ps : List Put) (o : Option Content) → PutsFront ps o o
front_none [] o = refl
front_none (p ∷ ps) o = inl (inl refl)

-- ---- what grows

pub prefix_refl : (xs : List ℕ) → IsPrefix xs xs
prefix_refl xs = record { rest = []; whole = sym (append-nil xs) }

prefix_trans : (xs ys zs : List ℕ) → IsPrefix xs ys → IsPrefix ys zs → IsPrefix xs zs
prefix_trans xs ys zs p q = record { rest = p.rest ++ q.rest; whole = q.whole ∙ ap (λ (ts : List ℕ). ts ++ q.rest) p.whole ∙ append_assoc xs p.rest q.rest }

-- a front of what is added
pub prefix_of_added : (xs : List ℕ) (n : ℕ) (piece : List ℕ) → IsPrefix (xs ++ take n piece) (xs ++ piece)
prefix_of_added xs n piece = record {
  rest = drop n piece;
  whole = ap (λ (ts : List ℕ). xs ++ ts) (sym (take-append-drop n piece)) ∙ sym (append_assoc xs (take n piece) (drop n piece));
}

front_refl : (o : Option (List ℕ)) → IsFrontOf o o
front_refl None = tt
front_refl (Some xs) = ([], ap Some (sym (append-nil xs)))

front_trans : (a b c : Option (List ℕ)) → IsFrontOf a b → IsFrontOf b c → IsFrontOf a c
front_trans None b c p q = tt
front_trans (Some xs) None c p q = absurd (let e : None ≡ Some (xs ++ p.0) = p.1 in cc)
front_trans (Some xs) (Some ys) c p q =
    let same : ys ≡ xs ++ p.0 = (let e : Some ys ≡ Some (xs ++ p.0) = p.1 in cc) in
    (p.0 ++ q.0, q.1 ∙ ap (λ (ts : List ℕ). Some (ts ++ q.0)) same ∙ ap Some (append_assoc xs p.0 q.0))

pub Grows-refl : (c : Content) → Grows c c
Grows-refl c = record { there = refl; out = prefix_refl c.out; err = prefix_refl c.err; files = λ name. front_refl (c.files name) }

pub Grows-trans : (a b c : Content) → Grows a b → Grows b c → Grows a c
Grows-trans a b c p q = record {
  there = q.there ∙ p.there;
  out = prefix_trans _ _ _ p.out q.out;
  err = prefix_trans _ _ _ p.err q.err;
  files = λ name. front_trans _ _ _ (p.files name) (q.files name);
}

-- what stands now, by its name
pub grows_now : (c now whole : Content) → Some c ≡ Some now → Grows now whole → Grows c whole
grows_now c now whole is rest = subst (λ (d : Content). Grows d whole) (let e : now ≡ c = cc in e) rest

-- ---- pieces that were put in part

-- what is told of pieces that were put in part
abbrev pub AreBetween : Type 0
AreBetween = (puts : List Put) (old : Content) (new : Option Content) → PutsFront puts (Some old) new → Between old new (with_pieces puts old)

module _ (parts : AreBetween) where
  pub Grows_with_pieces : (puts : List Put) (c : Content) → Grows c (with_pieces puts c)
  Grows_with_pieces puts c = let b = parts puts c (Some c) (front_none puts (Some c)) in grows_now c b.now (with_pieces puts c) b.now_is b.rest

  -- some of the pieces were put behind what has grown, and all of them would leave a part
  pub between_part : (puts : List Put) (old mid whole : Content) (new : Option Content) → Grows old mid → PutsFront puts (Some mid) new → Between old (Some (with_pieces puts mid)) whole → Between old new whole
  between_part puts old mid whole new grown front all =
      let b = parts puts mid new front in
      record {
        now = b.now;
        now_is = b.now_is;
        grown = Grows-trans old mid b.now grown b.grown;
        rest = Grows-trans b.now (with_pieces puts mid) whole b.rest (grows_now (with_pieces puts mid) all.now whole all.now_is all.rest);
      }
