use Rattle.std.proofs.Common.{◌≡◌, ℕ, ◌+◌, ◌∷◌, List, drop, map, option_map, Option, sym, ap, subst, ◌∙◌, inl, inr}
use Rattle.run_outside.specs.Sink.{Content, add, AddsFront}
use Rattle.run_files.specs.Files.{Put, put_of}
use Rattle.net_run.specs.Pieces.{with_pieces, PutsFront}
use Rattle.net_run.proofs.PieceLemmas.{drop_puts_next, with_pieces_told, on_err}
use Rattle.net_run.proofs.output.put_pieces.Goals as goal

pub returns-in_err-put_all-clause-err : goal.returns-in_err-put_all-clause-err
returns-in_err-put_all-clause-err g c =
    let puts = map put_of c.args.pieces.now in
    let old = g.K.Sink.content c.loop-piece.sink in
    let new = g.K.Sink.content c.put_all.new.sink in
    let next : drop c.loop-piece.piece-index puts ≡ put_of c.piece-item.result ∷ drop (c.loop-piece.piece-index + 1) puts =
    drop_puts_next _ _ _ c.loop-piece-test.true c.piece-item.is in
    on_err c.from_residual.result (c.loop-piece.invariant.part new (subst (λ (ps : List Put). PutsFront ps old new) (sym next) (inl (subst (λ (bytes : List ℕ). AddsFront c.piece-item.result.target bytes old new) c.as_slice.ensures c.in_err-put_all.ensures.err))))

pub loop-piece-preserved : goal.loop-piece-preserved
loop-piece-preserved g c =
    let puts = map put_of c.args.pieces.now in
    let old = g.K.Sink.content c.loop-piece.sink in
    let mid = g.K.Sink.content c.put_all.new.sink in
    let rest = drop (c.loop-piece.piece-index + 1) puts in
    let put = put_of c.piece-item.result in
    let next : drop c.loop-piece.piece-index puts ≡ put ∷ rest = drop_puts_next _ _ _ c.loop-piece-test.true c.piece-item.is in
    let added : mid ≡ option_map (add put.0 put.1) old =
    subst (λ (bytes : List ℕ). mid ≡ option_map (add c.piece-item.result.target bytes) old) c.as_slice.ensures c.in_ok-put_all.ensures.ok in
    record {
      whole = ap (option_map (with_pieces rest)) added ∙ sym (with_pieces_told put rest old)
          ∙ ap (λ (ps : List Put). option_map (with_pieces ps) old) (sym next) ∙ c.loop-piece.invariant.whole;
      part = λ new h. c.loop-piece.invariant.part new
          (subst (λ (ps : List Put). PutsFront ps old new) (sym next) (inr (subst (λ (o : Option Content). PutsFront rest o new) added h)));
      faults = c.in_ok-put_all.ensures.count.0 ∙ c.loop-piece.invariant.faults;
      errors = c.in_ok-put_all.ensures.count.1 ∙ c.loop-piece.invariant.errors;
    }
