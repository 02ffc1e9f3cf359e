-- The lines of a round, sorted by their keys.
use Rattle.std.proofs.Common.{◌≡◌, List, [], ◌∷◌, map, refl, sym, ap, ◌∙◌, IsPermutation}
use Rattle.std.specs.List.Sorted.{IsSortedByKey, IsStableByKey}
use Rattle.sim_base.specs.declared.key.Key.{Key}
use Rattle.sim_base.specs.Key.{key_order}
use Rattle.host_link.specs.declared.line.Line.{Line}
use Rattle.host_link.specs.declared.line.Logged.{Logged}
use Rattle.host_state.specs.Running.{kept_line}
use Rattle.world_order.specs.Round.{in_order}
use Rattle.world_order.specs.World as order
use Rattle.round_lookahead.proofs.SortedLogs.{line_of, sorted_log}

abbrev key_of : Logged → Key
key_of l = l.key

abbrev world_line : Logged → order.Logged Line
world_line l = line_of key_of (λ (k : Logged). k.line) l

kept_world : (ls : List Logged) → map kept_line (map world_line ls) ≡ ls
kept_world [] = refl
kept_world (l ∷ ls) = ap (λ (k : List Logged). l ∷ k) (kept_world ls)

world_kept : (ls : List (order.Logged Line)) → map world_line (map kept_line ls) ≡ ls
world_kept [] = refl
world_kept (l ∷ ls) = ap (λ (k : List (order.Logged Line)). l ∷ k) (world_kept ls)

pub merged : (xs ys : List Logged) (all : List (order.Logged Line)) → xs ≡ map kept_line all → IsPermutation xs ys → IsSortedByKey key_of key_order ys → IsStableByKey key_of key_order xs ys
    → ys ≡ map kept_line (in_order all)
merged xs ys all is moved sorted stable =
    sym (kept_world ys)
    ∙ ap (map kept_line) (sorted_log key_of (λ (k : Logged). k.line) (λ k l. record l { key = k }) (λ k l. refl) xs ys moved sorted stable ∙ ap in_order (ap (map world_line) is ∙ world_kept all))
