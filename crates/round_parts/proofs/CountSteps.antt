-- What lines of a log come to, as more come.
use Rattle.std.proofs.Common.{◌≡◌, ℕ, ◌+◌, ◌<◌, List, [], ◌∷◌, ◌++◌, length, take, get_or, sym, ap, ◌∙◌, append_assoc}
use Rattle.std.proofs.lemmas.List.{map_more}
use Rattle.host_link.specs.declared.line.Line.{Line}
use Rattle.host_link.specs.declared.line.Logged.{Logged}
use Rattle.host_link.specs.Logs.{kept_lines}
use Rattle.round_parts.specs.declared.counts.Counts.{Counts}
use Rattle.round_parts.specs.Counts.{counts_of}

-- one more line
pub counted_more : (start old new : Counts) (lines : List Logged) (i : ℕ) (line : Logged) → i < length lines → line ≡ get_or lines i line
    → ((log : List Line) → start ≡ counts_of log → old ≡ counts_of (log ++ kept_lines (take i lines)))
    → ((log : List Line) → old ≡ counts_of log → new ≡ counts_of (log ++ line.line ∷ []))
    → (log : List Line) → start ≡ counts_of log → new ≡ counts_of (log ++ kept_lines (take (i + 1) lines))
counted_more start old new lines i line below is so_far step log begins =
    let first : List Line = kept_lines (take i lines) in
    let more : kept_lines (take (i + 1) lines) ≡ first ++ line.line ∷ [] =
    map_more (λ (l : Logged). l.line) lines i line below ∙ ap (λ (l : Logged). first ++ l.line ∷ []) (sym is) in
    step (log ++ first) (so_far log begins) ∙ ap counts_of (append_assoc log first (line.line ∷ []) ∙ ap (λ (l : List Line). log ++ l) (sym more))
