-- a table of pairs, seen as what it tells
use Rattle.std.proofs.Common.{◌≡◌, List, [], ◌∷◌, Bool, true, false, cond, Option, Some, None, is_some, refl, ap, ◌∙◌, Ordering, Less, Equal, Greater}
use Rattle.std.specs.BTreeMap.{insert_entry, is_at}
use Rattle.std.specs.Cmp.{IsTotalOrder}
use Rattle.std.specs.List.Sorted.{IsStrictlySortedBy}
use Rattle.std.specs.Map.{keys_of, lookup}
use Rattle.std.specs.Ordering.{is_eq, match_ordering, on, then_cmp}
use Rattle.std.proofs.lemmas.Cmp.{nat_cmp_total, on_total, then_total}
use Rattle.std.proofs.lemmas.Map.{lookup-none}
use Rattle.std.proofs.lemmas.Map.Entries.{none_below_head}
use Rattle.std.proofs.lemmas.Map.Keys.{sorted_tail}
use Rattle.sim_base.specs.declared.address.Addr.{Addr}
use Rattle.sock_tcp.specs.declared.connection.carried.Carried.{Carried}
use Rattle.host_sockets.specs.declared.streams.HostStream.{HostStream}
use Rattle.host_sockets.specs.declared.tables.Ends.{Ends}
use Rattle.host_sockets.specs.Streams.{addr_order, stream_of, used_again, with_carried}
use Rattle.host_sockets.specs.inside.Told.{told, all_told, unless}

-- the order of ends
abbrev pub ends_order : Ends → Ends → Ordering
ends_order = then_cmp (on (λ e. e.own) addr_order) (on (λ e. e.other) addr_order)

abbrev pub ends_of : Carried → Ends
ends_of c = record { own = c.own; other = c.peer }

again_told : (ends : Ends) (o : Option Carried) → told (ends, None) ≡ used_again (told (ends, o))
again_told ends None = refl
again_told ends (Some c) = refl

pub addr_order_total : IsTotalOrder addr_order
addr_order_total = then_total (on_total (λ (a : Addr). a.ip.bits) nat_cmp_total) (on_total (λ (a : Addr). a.port) nat_cmp_total)

pub ends_order_total : IsTotalOrder ends_order
ends_order_total = then_total (on_total (λ (e : Ends). e.own) addr_order_total) (on_total (λ (e : Ends). e.other) addr_order_total)

-- an entry in its place, by how its ends compare
placed : (o : Ordering) (ends : Ends) (v : Option Carried) (s : HostStream) (e : Ends × Option Carried) (es more : List (Ends × Option Carried)) (streams : List HostStream) → (o ≡ Less → told (ends, v) ≡ s) → (o ≡ Equal → told (e.0, v) ≡ used_again (told e)) → (o ≡ Greater → all_told more ≡ streams) → all_told (match_ordering o ((ends, v) ∷ e ∷ es) ((e.0, v) ∷ es) (e ∷ more)) ≡ match_ordering o (s ∷ told e ∷ all_told es) (used_again (told e) ∷ all_told es) (told e ∷ streams)
placed Less ends v s e es more streams less equal greater = ap (λ (x : HostStream). x ∷ told e ∷ all_told es) (less refl)
placed Equal ends v s e es more streams less equal greater = ap (λ (x : HostStream). x ∷ all_told es) (equal refl)
placed Greater ends v s e es more streams less equal greater = ap (λ (xs : List HostStream). told e ∷ xs) (greater refl)

has : Ends → List (Ends × Option Carried) → Bool
has ends es = is_some (lookup (is_at (ends_order ends)) es)

-- whether there is an entry, where the first one is behind, here or before
has_behind : (ends : Ends) (e : Ends × Option Carried) (es : List (Ends × Option Carried)) → IsStrictlySortedBy ends_order (keys_of (e ∷ es)) → ends_order ends e.0 ≡ Less → has ends (e ∷ es) ≡ false
unfolding has
has_behind ends e es sorted o = ap is_some (lookup-none (is_at (ends_order ends)) (e ∷ es) (none_below_head ends_order_total ends e es sorted o))

has_here : (ends : Ends) (e : Ends × Option Carried) (es : List (Ends × Option Carried)) → ends_order ends e.0 ≡ Equal → has ends (e ∷ es) ≡ true
unfolding has
has_here ends e es o = ap (λ x. is_some (cond (is_eq x) (Some e.1) (lookup (is_at (ends_order ends)) es))) o

has_before : (ends : Ends) (e : Ends × Option Carried) (es : List (Ends × Option Carried)) → ends_order ends e.0 ≡ Greater → has ends (e ∷ es) ≡ has ends es
unfolding has
has_before ends e es o = ap (λ x. is_some (cond (is_eq x) (Some e.1) (lookup (is_at (ends_order ends)) es))) o

first : (c : Carried) (again : Bool) (e : Ends × Option Carried) (es : List (Ends × Option Carried)) → IsStrictlySortedBy ends_order (keys_of (e ∷ es)) → again ≡ has (ends_of c) (e ∷ es) → ends_order (ends_of c) e.0 ≡ Less → told (ends_of c, unless again c) ≡ stream_of c
first c again e es sorted is o = ap (λ b. told (ends_of c, unless b c)) (is ∙ has_behind (ends_of c) e es sorted o)

repeated : (c : Carried) (again : Bool) (e : Ends × Option Carried) (es : List (Ends × Option Carried)) → again ≡ has (ends_of c) (e ∷ es) → ends_order (ends_of c) e.0 ≡ Equal → told (e.0, unless again c) ≡ used_again (told e)
repeated c again e es is o = ap (λ b. told (e.0, unless b c)) (is ∙ has_here (ends_of c) e es o) ∙ again_told e.0 e.1

-- what a table tells once an entry was made
all_entered : (c : Carried) (again : Bool) (es : List (Ends × Option Carried)) → IsStrictlySortedBy ends_order (keys_of es) → again ≡ has (ends_of c) es → all_told (insert_entry ends_order es (ends_of c) (unless again c)) ≡ with_carried (all_told es) c
unfolding has
all_entered c again [] sorted is = ap (λ b. told (ends_of c, unless b c) ∷ []) is
all_entered c again ((ends, None) ∷ es) sorted is =
    placed (ends_order (ends_of c) ends) (ends_of c) (unless again c) (stream_of c) (ends, None) es (insert_entry ends_order es (ends_of c) (unless again c)) (with_carried (all_told es) c)
    (first c again (ends, None) es sorted is) (repeated c again (ends, None) es is)
    (λ o. all_entered c again es (sorted_tail ends_order ends (keys_of es) sorted) (is ∙ has_before (ends_of c) (ends, None) es o))
all_entered c again ((ends, Some d) ∷ es) sorted is =
    placed (ends_order (ends_of c) ends) (ends_of c) (unless again c) (stream_of c) (ends, Some d) es (insert_entry ends_order es (ends_of c) (unless again c)) (with_carried (all_told es) c)
    (first c again (ends, Some d) es sorted is) (repeated c again (ends, Some d) es is)
    (λ o. all_entered c again es (sorted_tail ends_order ends (keys_of es) sorted) (is ∙ has_before (ends_of c) (ends, Some d) es o))

pub entered : (c : Carried) (again : Bool) (es : List (Ends × Option Carried)) → IsStrictlySortedBy ends_order (keys_of es) → again ≡ is_some (lookup (is_at (ends_order (ends_of c))) es) → all_told (insert_entry ends_order es (ends_of c) (unless again c)) ≡ with_carried (all_told es) c
unfolding has
entered c again es sorted is = all_entered c again es sorted is
