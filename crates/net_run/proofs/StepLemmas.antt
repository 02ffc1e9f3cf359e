-- Pieces that are put one after another.
use Rattle.std.proofs.Common.{◌≡◌, List, [], ◌++◌, Option, option_map, sym, ap, subst, ◌∙◌}
use Rattle.run_outside.specs.Sink.{Content}
use Rattle.run_files.specs.Files.{Put}
use Rattle.net_run.specs.Pieces.{with_pieces, PutsFront}
use Rattle.net_run.proofs.FrontLemmas.{told_append, told_nothing, front_none, front_first, front_second}

module _ (ps qs : List Put) (old mid new : Option Content) where
  pub both_put : mid ≡ option_map (with_pieces ps) old → new ≡ option_map (with_pieces qs) mid → new ≡ option_map (with_pieces (ps ++ qs)) old
  both_put first second = second ∙ ap (option_map (with_pieces qs)) first ∙ sym (told_append ps qs old)

  pub first_put : mid ≡ option_map (with_pieces ps) old → PutsFront (ps ++ qs) old mid
  first_put first = front_second ps qs old mid (subst (λ (o : Option Content). PutsFront qs o mid) first (front_none qs mid))

  pub then_front : mid ≡ option_map (with_pieces ps) old → PutsFront qs mid new → PutsFront (ps ++ qs) old new
  then_front first some = front_second ps qs old new (subst (λ (o : Option Content). PutsFront qs o new) first some)

  module _ (left : List Put) (is : left ≡ ps ++ qs) where
    -- some of what is left was put
    pub step_put : (whole : Option Content) → mid ≡ option_map (with_pieces ps) old → option_map (with_pieces left) old ≡ whole → option_map (with_pieces qs) mid ≡ whole
    step_put whole first so_far = ap (option_map (with_pieces qs)) first ∙ sym (told_append ps qs old) ∙ ap (λ (l : List Put). option_map (with_pieces l) old) (sym is) ∙ so_far

    pub step_front : mid ≡ option_map (with_pieces ps) old → PutsFront qs mid new → PutsFront left old new
    step_front first some = subst (λ (l : List Put). PutsFront l old new) (sym is) (then_front first some)

    pub step_here : PutsFront ps old new → PutsFront left old new
    step_here some = subst (λ (l : List Put). PutsFront l old new) (sym is) (front_first ps qs old new some)

pub all_put : (left : List Put) (new whole : Option Content) → left ≡ [] → option_map (with_pieces left) new ≡ whole → new ≡ whole
all_put left new whole none so_far = sym (told_nothing new) ∙ ap (λ (l : List Put). option_map (with_pieces l) new) (sym none) ∙ so_far
