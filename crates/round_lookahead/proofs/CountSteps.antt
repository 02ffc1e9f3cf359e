-- The lines of a log, as more come.
use Rattle.std.proofs.Common.{◌≡◌, List, [], ◌∷◌, ◌++◌, map, refl, sym, ap, ◌∙◌}
use Rattle.host_link.specs.declared.line.Line.{Line}
use Rattle.host_link.specs.declared.line.Logged.{Logged}
use Rattle.host_link.specs.Logs.{lines_of, kept_lines}
use Rattle.host_state.specs.Running.{kept_line}
use Rattle.world_order.specs.World as order
use Rattle.round_lookahead.proofs.WorldSteps.{map_both}

pub lines_kept : (ls : List (order.Logged Line)) → kept_lines (map kept_line ls) ≡ lines_of ls
lines_kept [] = refl
lines_kept (l ∷ ls) = ap (λ (k : List Line). l.line ∷ k) (lines_kept ls)

-- a log that gained lines
pub lines_gained : (before after : List (order.Logged Line)) (gained : List Logged) → map kept_line after ≡ map kept_line before ++ gained
    → lines_of after ≡ lines_of before ++ kept_lines gained
lines_gained before after gained is =
    sym (lines_kept after) ∙ ap kept_lines is ∙ map_both (λ (l : Logged). l.line) (map kept_line before) gained
    ∙ ap (λ (ls : List Line). ls ++ kept_lines gained) (lines_kept before)
