-- What stands while a run goes on is, target by target, a front of what the run shows.
use Rattle.std.proofs.Common.{◌≡◌, ℕ, Bool, true, false, List, [], ◌++◌, Option, Some, None, refl, sym, ap, subst, ◌∙◌, append_assoc}
use Rattle.std.specs.Option.{unwrap_or}
use Rattle.run_outside.specs.Sink.{Content}
use Rattle.run_outside.specs.declared.sink.SinkTarget.{SinkTarget}
use Rattle.run_outside.specs.declared.sink.SinkTarget.TheVariants as target
use Rattle.file_calls.specs.declared.task.Output.{Output}
use Rattle.host_link.specs.declared.line.Line.{Line}
use Rattle.run_files.specs.Grown.{all_grown}
use Rattle.host_state.specs.Gains.{Gains, names_in}
use Rattle.net_run.specs.Grown.{grown_in, IsGrown, HaveOwnFiles}
use Rattle.net_run.specs.Parts.{IsFrontOf, IsPrefix, Grows, Between}
use Rattle.run_files.specs.Files.{Put}
use Rattle.net_run.specs.Pieces.{with_pieces}
use Rattle.net_run.specs.Targets.{bytes_at, is_touched}
use Rattle.net_run.specs.inside.Rest.{rest_in}
use Rattle.net_run.specs.Shown.{run_pieces}
use Rattle.net_run.specs.World.{World}
use Rattle.net_run.proofs.ContentLemmas.{added, at_targets, by_target}
use Rattle.host_state.proofs.Gaining.{names_kept}
use Rattle.net_run.proofs.GrownLemmas.{splits_round}
use Rattle.net_run.proofs.HostLemmas.{own_hosts}
use Rattle.net_run.proofs.PartLemmas.{front_refl, Grows_with_pieces}
use Rattle.net_run.proofs.WholeLemmas.{whole_run}

-- ---- target by target

behind : (was xs ys : List ℕ) → IsPrefix xs ys → IsPrefix (was ++ xs) (was ++ ys)
behind was xs ys p = record { rest = p.rest; whole = ap (λ (l : List ℕ). was ++ l) p.whole ∙ sym (append_assoc was xs p.rest) }

front_added : (here there : Bool) (was : Option (List ℕ)) (xs ys : List ℕ) → (here ≡ true → there ≡ true) → IsPrefix xs ys → IsFrontOf (added here was xs) (added there was ys)
front_added true true was xs ys touched p = let q = behind (unwrap_or was []) xs ys p in (q.rest, ap Some q.whole)
front_added true false was xs ys touched p = absurd (let e : false ≡ true = touched refl in cc)
front_added false true None xs ys touched p = tt
front_added false true (Some bytes) xs ys touched p = (ys, refl)
front_added false false was xs ys touched p = front_refl was

grows_targets : (ps qs : List Put) (c : Content) → ((at : SinkTarget) → IsPrefix (bytes_at at ps) (bytes_at at qs)) → ((at : SinkTarget) → is_touched at ps ≡ true → is_touched at qs ≡ true)
    → Grows (at_targets ps c) (at_targets qs c)
grows_targets ps qs c bytes touched = record {
  there = refl;
  out = behind c.out _ _ (bytes target.Out);
  err = behind c.err _ _ (bytes target.Err);
  files = λ name. front_added (is_touched (target.File name) ps) (is_touched (target.File name) qs) (c.files name) _ _ (touched (target.File name)) (bytes (target.File name));
}

grows_by_target : (ps qs : List Put) (c : Content) → ((at : SinkTarget) → IsPrefix (bytes_at at ps) (bytes_at at qs)) → ((at : SinkTarget) → is_touched at ps ≡ true → is_touched at qs ≡ true)
    → Grows (with_pieces ps c) (with_pieces qs c)
grows_by_target ps qs c bytes touched =
    subst (λ (d : Content). Grows d (with_pieces qs c)) (sym (by_target ps c)) (subst (λ (d : Content). Grows (at_targets ps c) d) (sym (by_target qs c)) (grows_targets ps qs c bytes touched))

-- ---- while a run goes on

module _ (load : Bool) (w u : World) (outputs : List (List Output)) (lines : List Line) (own : HaveOwnFiles (names_in w)) (gains : Gains w u outputs lines) (puts : List Put) (grown : IsGrown w puts) (c : Content) where
  own_later : HaveOwnFiles (names_in u)
  own_later = subst HaveOwnFiles (sym (names_kept w u outputs lines gains)) own

  bytes_later : (at : SinkTarget) → IsPrefix (bytes_at at puts) (bytes_at at (run_pieces load u))
  bytes_later at =
      let more = bytes_at at (all_grown (names_in w) outputs lines) in
      let rest = bytes_at at (rest_in load u) in
      record {
        rest = more ++ rest;
        whole = (whole_run at load u (own_hosts u.hosts own_later)).bytes ∙ ap (λ (l : List ℕ). l ++ rest) ((splits_round w u outputs lines own gains at).bytes)
            ∙ append_assoc (bytes_at at (grown_in w)) more rest ∙ ap (λ (l : List ℕ). l ++ (more ++ rest)) (sym (grown.bytes at));
      }

  touched_later : (at : SinkTarget) → is_touched at puts ≡ true → is_touched at (run_pieces load u) ≡ true
  touched_later at e = (whole_run at load u (own_hosts u.hosts own_later)).first ((splits_round w u outputs lines own gains at).first (grown.targets at e))

  pub grows_to_run : Grows (with_pieces puts c) (with_pieces (run_pieces load u) c)
  grows_to_run = grows_by_target puts (run_pieces load u) c bytes_later touched_later

  -- what was put so far is a front of the run of any world that comes later
  pub part_so_far : Between c (Some (with_pieces puts c)) (with_pieces (run_pieces load u) c)
  part_so_far = record { now = with_pieces puts c; now_is = refl; grown = Grows_with_pieces puts c; rest = grows_to_run }
