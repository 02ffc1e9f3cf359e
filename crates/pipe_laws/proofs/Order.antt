-- bytes leave a pipe in the order in which they came in
use Rattle.std.proofs.Common.{◌≡◌, ℕ, false, List, [], ◌∷◌, ◌++◌, refl, sym, ap, ◌∙◌}
use Rattle.std.proofs.lemmas.List.{take-append-drop, append_assoc, append-nil}
use Rattle.host_fds.specs.declared.pipe.End.TheVariants.{Reading, Writing}
use Rattle.host_fds.specs.Pipe.{PipeState, shut}
use Rattle.pipe_laws.specs.Acts.{PipeAct, Writes, Reads, LetsGo, pipe_after, taken_by, given_by, pipe_after_all, taken, given}

-- one act
step : (act : PipeAct) (p : PipeState) → p.bytes ++ taken_by act p ≡ given_by act p ++ (pipe_after act p).bytes
step (Writes bytes) p = refl
step (Reads n) p = append-nil p.bytes ∙ sym (take-append-drop n p.bytes)
step (LetsGo Reading) p = append-nil p.bytes
step (LetsGo Writing) p = append-nil p.bytes

-- two stretches of acts, one behind the other
joined : (first between last taken-first given-first taken-then given-then : List ℕ)
    → first ++ taken-first ≡ given-first ++ between → between ++ taken-then ≡ given-then ++ last
    → first ++ (taken-first ++ taken-then) ≡ (given-first ++ given-then) ++ last
joined first between last taken-first given-first taken-then given-then h k =
    sym (append_assoc first taken-first taken-then) ∙ ap (λ bytes. bytes ++ taken-then) h ∙ append_assoc given-first between taken-then
    ∙ ap (λ bytes. given-first ++ bytes) k ∙ sym (append_assoc given-first given-then last)

pub in_order : (acts : List PipeAct) (p : PipeState) → p.bytes ++ taken acts p ≡ given acts p ++ (pipe_after_all acts p).bytes
in_order [] p = append-nil p.bytes
in_order (act ∷ acts) p =
    joined p.bytes (pipe_after act p).bytes (pipe_after_all acts (pipe_after act p)).bytes (taken_by act p) (given_by act p) (taken acts (pipe_after act p)) (given acts (pipe_after act p)) (step act p) (in_order acts (pipe_after act p))

pub all_given : (acts : List PipeAct) (p : PipeState) → (pipe_after_all acts p).bytes ≡ [] → given acts p ≡ p.bytes ++ taken acts p
all_given acts p h =
    sym (append-nil (given acts p)) ∙ ap (λ bytes. given acts p ++ bytes) (sym h) ∙ sym (in_order acts p)

-- a pipe without a writer

no_writer_stays : (act : PipeAct) (p : PipeState) → p.has_writer ≡ false → (pipe_after act p).has_writer ≡ false
no_writer_stays (Writes bytes) p h = h
no_writer_stays (Reads n) p h = h
no_writer_stays (LetsGo Reading) p h = h
no_writer_stays (LetsGo Writing) p h = refl

takes_nothing : (act : PipeAct) (p : PipeState) → p.has_writer ≡ false → taken_by act p ≡ []
takes_nothing (Writes bytes) p h = rw h refl
takes_nothing (Reads n) p h = refl
takes_nothing (LetsGo end) p h = refl

nothing_taken : (acts : List PipeAct) (p : PipeState) → p.has_writer ≡ false → taken acts p ≡ []
nothing_taken [] p h = refl
nothing_taken (act ∷ acts) p h =
    rw (takes_nothing act p h) (nothing_taken acts (pipe_after act p) (no_writer_stays act p h))

pub nothing_after : (before after : List PipeAct) (p : PipeState) → taken (before ++ LetsGo Writing ∷ after) p ≡ taken before p
nothing_after [] after p = nothing_taken after (shut p Writing) refl
nothing_after (act ∷ before) after p = ap (λ bytes. taken_by act p ++ bytes) (nothing_after before after (pipe_after act p))
