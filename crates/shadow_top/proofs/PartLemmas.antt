-- What stands where, when only a part of it was put.
use Rattle.std.proofs.Common.{◌≡◌, ℕ, ◌≤◌, inl, inr, ⊎_elim, List, [], ◌++◌, length, take, Option, Some, option_map, refl, sym, ap, subst, ◌∙◌, append-nil}
use Rattle.run_outside.specs.Sink.{Content, add, begun, AddsFront}
use Rattle.run_outside.specs.declared.sink.SinkTarget.TheVariants as target
use Rattle.net_run.specs.Parts.{IsBetween, IsPart, IsPrefix, Grows, Between}
use Rattle.run_files.specs.Files.{Put}
use Rattle.net_run.specs.Pieces.{with_pieces, PutsFront}
use Rattle.shadow_top.proofs.GrowLemmas.{AreBetween, with_append, prefix_refl, prefix_of_added, Grows-trans, Grows_with_pieces}

module _ (parts : AreBetween) (ps qs : List Put) (c : Content) (new : Option Content) where
  -- all of the first pieces were put, and a front of those that follow, target by target
  pub between_after : Between (with_pieces ps c) new (with_pieces qs (with_pieces ps c)) → Between c new (with_pieces (ps ++ qs) c)
  between_after b = record {
    now = b.now;
    now_is = b.now_is;
    grown = Grows-trans _ _ _ (Grows_with_pieces parts ps c) b.grown;
    rest = subst (λ (d : Content). Grows b.now d) (sym (with_append ps qs c)) b.rest;
  }

  -- a front of the first pieces was put, target by target
  pub between_more : Between c new (with_pieces ps c) → Between c new (with_pieces (ps ++ qs) c)
  between_more b = record {
    now = b.now;
    now_is = b.now_is;
    grown = b.grown;
    rest = subst (λ (d : Content). Grows b.now d) (sym (with_append ps qs c)) (Grows-trans _ _ _ b.rest (Grows_with_pieces parts qs (with_pieces ps c)));
  }

  -- some of the first pieces were put
  pub between_first : PutsFront ps (Some c) new → Between c new (with_pieces (ps ++ qs) c)
  between_first front = between_more (parts ps c new front)

is_between : (old new whole : List ℕ) → IsPrefix old new → IsPrefix new whole → IsBetween old new whole
is_between old new whole p q = record { added = p.rest; rest = q.rest; new_is = p.whole; whole_is = q.whole }

-- in a directory that was begun
pub part_begun : (dir : List ℕ) (old now whole : Content) → Grows (begun dir old) now → Grows now whole → IsPart old now whole
part_begun dir old now whole p q = record {
  out = is_between _ _ _ p.out q.out;
  err = is_between _ _ _ p.err q.err;
  files = inr (sym q.there, q.files);
}

-- nothing was put
pub part_same : (old now whole : Content) → now ≡ old → IsPrefix old.out whole.out → IsPrefix old.err whole.err → IsPart old now whole
part_same old now whole same out err = record {
  out = record { added = []; rest = out.rest; new_is = ap (λ (c : Content). c.out) same ∙ sym (append-nil old.out); whole_is = out.whole ∙ ap (λ (c : Content). c.out ++ out.rest) (sym same) };
  err = record { added = []; rest = err.rest; new_is = ap (λ (c : Content). c.err) same ∙ sym (append-nil old.err); whole_is = err.whole ∙ ap (λ (c : Content). c.err ++ err.rest) (sym same) };
  files = inl (ap (λ (c : Content). c.there) same, ap (λ (c : Content). c.files) same);
}

-- a front of a line was put
pub part_line : (old : Content) (line : List ℕ) (new : Option Content) → AddsFront target.Err line (Some old) new
    → (now : Content) × (new ≡ Some now) × IsPart old now (add target.Err line old)
part_line old line new front =
    ⊎_elim
    (λ (same : new ≡ Some old). (old, same, part_same old old (add target.Err line old) refl (prefix_refl old.out) (record { rest = line; whole = refl })))
    (λ (some : (n : ℕ) × (n ≤ length line) × (new ≡ option_map (add target.Err (take n line)) (Some old))). (
      add target.Err (take some.0 line) old,
      some.2,
      record {
        out = is_between _ _ _ (prefix_refl old.out) (prefix_refl old.out);
        err = is_between _ _ _ (record { rest = take some.0 line; whole = refl }) (prefix_of_added old.err some.0 line);
        files = inl (refl, refl);
      },
    ))
    front

-- and a front of a text on the output
pub part_text : (old : Content) (text : List ℕ) (new : Option Content) → AddsFront target.Out text (Some old) new
    → (now : Content) × (new ≡ Some now) × IsPart old now (add target.Out text old)
part_text old text new front =
    ⊎_elim
    (λ (same : new ≡ Some old). (old, same, part_same old old (add target.Out text old) refl (record { rest = text; whole = refl }) (prefix_refl old.err)))
    (λ (some : (n : ℕ) × (n ≤ length text) × (new ≡ option_map (add target.Out (take n text)) (Some old))). (
      add target.Out (take some.0 text) old,
      some.2,
      record {
        out = is_between _ _ _ (record { rest = take some.0 text; whole = refl }) (prefix_of_added old.out some.0 text);
        err = is_between _ _ _ (prefix_refl old.err) (prefix_refl old.err);
        files = inl (refl, refl);
      },
    ))
    front
