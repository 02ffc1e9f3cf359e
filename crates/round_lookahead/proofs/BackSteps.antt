-- Hosts come back, one after another.
use Rattle.std.proofs.Common.{◌≡◌, ◌≢◌, ℕ, ◌<◌, inl, inr, List, [], ◌∷◌, ◌++◌, Option, Some, None, All, map, length, replicate, slice_get, slice_set, refl, sym, ap, subst, ◌∙◌, arith, append_assoc, append-nil, length-set, Vec}
use Rattle.std.specs.declared.alloc.Global.{Global}
use Rattle.sim_base.specs.declared.event.Parcel.{Parcel}
use Rattle.sim_base.specs.declared.host.HostId.{HostId}
use Rattle.host_link.specs.declared.line.Logged.{Logged}
use Rattle.world_order.proofs.Homes.{get_set_same, get_set_other, get_below}
use Rattle.world_order.proofs.Members.{Each}
use Rattle.round_parts.proofs.ListFacts.{rest_of, flat_append}
use Rattle.round_lookahead.specs.declared.workers.worked.Done.{Done}
use Rattle.round_lookahead.specs.declared.workers.worked.Worked.{Worked}
use Rattle.round_lookahead.specs.declared.world.backs.Back.{Back}
use Rattle.round_lookahead.specs.declared.world.backs.Returned.{Returned}
use Rattle.round_lookahead.specs.inside.Backs.{back_of, with_done, ids_of, lines_done, all_done, all_spilled, took_by, lists_of, Returns}

-- ---- lists

module _ {X : Type 0} where
  -- what is left completes the whole once some of it is there
  pub completes : (old new more left whole : List X) → new ≡ old ++ more → old ++ (more ++ left) ≡ whole → new ++ left ≡ whole
  completes old new more left whole is all = ap (λ (l : List X). l ++ left) is ∙ append_assoc old more left ∙ all

map_more : {X Y : Type 0} (f : X → Y) (xs : List X) (x : X) → map f (xs ++ x ∷ []) ≡ map f xs ++ f x ∷ []
map_more f [] x = refl
map_more f (y ∷ ys) x = ap (λ (l : List _). f y ∷ l) (map_more f ys x)

-- one more of a list that is seen through a function
pub maps_more : {X Y : Type 0} (f : X → Y) (old new : List X) (x : X) (left whole : List Y) → new ≡ old ++ x ∷ [] → map f old ++ (f x ∷ left) ≡ whole → map f new ++ left ≡ whole
maps_more f old new x left whole is all = completes (map f old) (map f new) (f x ∷ []) left whole (ap (map f) is ∙ map_more f old x) all

-- ---- slots

pub length_with_done : (ds : List Done) (slots : List (Option Back)) → length (with_done ds slots) ≡ length slots
length_with_done [] slots = refl
length_with_done (d ∷ ds) slots = length_with_done ds (slice_set slots d.id.index (Some (back_of d))) ∙ length-set slots d.id.index (Some (back_of d))

with_done_append : (ds es : List Done) (slots : List (Option Back)) → with_done (ds ++ es) slots ≡ with_done es (with_done ds slots)
with_done_append [] es slots = refl
with_done_append (d ∷ ds) es slots = with_done_append ds es (slice_set slots d.id.index (Some (back_of d)))

-- no two have the same number
abbrev pub IdsApart : List Done → Type 0
IdsApart [] = Unit {0}
IdsApart (d ∷ ds) = Each (λ (e : Done). e.id.index ≢ d.id.index) ds × IdsApart ds

stays : (ds : List Done) (slots : List (Option Back)) (i : ℕ) → Each (λ (e : Done). e.id.index ≢ i) ds → slice_get (with_done ds slots) i ≡ slice_get slots i
stays [] slots i other = refl
stays (d ∷ ds) slots i other =
    stays ds (slice_set slots d.id.index (Some (back_of d))) i (λ e h. other e (inr h))
    ∙ get_set_other slots d.id.index i (Some (back_of d)) (λ same. other d (inl refl) (sym same))

-- each stands in the slot of its number
pub in_slot : (ds : List Done) (slots : List (Option Back)) → IdsApart ds → Each (λ (d : Done). d.id.index < length slots) ds
    → Each (λ (d : Done). slice_get (with_done ds slots) d.id.index ≡ Some (Some (back_of d))) ds
in_slot [] slots apart below d h = absurd h
in_slot (d ∷ ds) slots apart below e (inl same) =
    let there = get_below slots d.id.index (below d (inl refl)) in
    let here : slice_get (with_done ds (slice_set slots d.id.index (Some (back_of d)))) d.id.index ≡ Some (Some (back_of d)) =
    stays ds (slice_set slots d.id.index (Some (back_of d))) d.id.index apart.0 ∙ get_set_same slots d.id.index there.0 (Some (back_of d)) there.1 in
    subst (λ (x : Done). slice_get (with_done (d ∷ ds) slots) x.id.index ≡ Some (Some (back_of x))) (sym same) here
in_slot (d ∷ ds) slots apart below e (inr h) =
    in_slot ds (slice_set slots d.id.index (Some (back_of d))) apart.1
    (λ x g. (let long = length-set slots d.id.index (Some (back_of d)) in let b = below x (inr g) in omega arith)) e h

-- ---- workers' work, one after another

-- what is left of workers' work completes the whole
pub record IsReturning (count : ℕ) (works left : List Worked) (r : Returned) : Type 0 where
  pub long : length r.slots.items ≡ count
  pub slots : with_done (all_done left) r.slots.items ≡ with_done (all_done works) (replicate count None)
  pub lines : r.lines.items ++ lines_done (all_done left) ≡ lines_done (all_done works)
  pub took : lists_of r.took.items ++ took_by left ≡ took_by works
  pub spill : r.spill.items ++ all_spilled left ≡ all_spilled works
  pub below : All (λ (w : Worked). All (λ (d : Done). d.id.index < count) w.done.items) left

pub returned_more : (count : ℕ) (works left rest : List Worked) (w : Worked) (old new : Returned) → left ≡ w ∷ rest → Returns (w ∷ []) old new
    → IsReturning count works left old → IsReturning count works rest new
returned_more count works left rest w old new is more so_far =
    let done : all_done (w ∷ []) ≡ w.done.items = append-nil w.done.items in
    let spilled : all_spilled (w ∷ []) ≡ w.spill.items = append-nil w.spill.items in
    let slots : new.slots.items ≡ with_done w.done.items old.slots.items = more.slots ∙ ap (λ (ds : List Done). with_done ds old.slots.items) done in
    record {
      long = ap length slots ∙ length_with_done w.done.items old.slots.items ∙ so_far.long;
      slots = ap (with_done (all_done rest)) slots ∙ sym (with_done_append w.done.items (all_done rest) old.slots.items)
          ∙ ap (λ (ws : List Worked). with_done (all_done ws) old.slots.items) (sym is) ∙ so_far.slots;
      lines = completes old.lines.items new.lines.items (lines_done w.done.items) (lines_done (all_done rest)) (lines_done (all_done works))
          (more.lines ∙ ap (λ (ds : List Done). old.lines.items ++ lines_done ds) done)
          (ap (λ (l : List Logged). old.lines.items ++ l) (sym (flat_append (λ (d : Done). d.lines.items) w.done.items (all_done rest)))
          ∙ ap (λ (ws : List Worked). old.lines.items ++ lines_done (all_done ws)) (sym is) ∙ so_far.lines);
      took = completes (lists_of old.took.items) (lists_of new.took.items) (took_by (w ∷ [])) (took_by rest) (took_by works) more.took
          (ap (λ (ws : List Worked). lists_of old.took.items ++ took_by ws) (sym is) ∙ so_far.took);
      spill = completes old.spill.items new.spill.items w.spill.items (all_spilled rest) (all_spilled works)
          (more.spill ∙ ap (λ (ps : List Parcel). old.spill.items ++ ps) spilled)
          (ap (λ (ws : List Worked). old.spill.items ++ all_spilled ws) (sym is) ∙ so_far.spill);
      below = rest_of (λ (v : Worked). All (λ (d : Done). d.id.index < count) v.done.items) left rest w is so_far.below;
    }

-- one worker's work comes back
pub one_returned : (w : Worked) (old new : Returned) (took : Vec HostId Global) → new.slots.items ≡ with_done w.done.items old.slots.items → new.lines.items ≡ old.lines.items ++ lines_done w.done.items
    → took.items ≡ ids_of w.done.items → new.took.items ≡ old.took.items ++ took ∷ [] → new.spill.items ≡ old.spill.items ++ w.spill.items → Returns (w ∷ []) old new
one_returned w old new took slots lines ids took_is spill =
    let done : all_done (w ∷ []) ≡ w.done.items = append-nil w.done.items in
    let spilled : all_spilled (w ∷ []) ≡ w.spill.items = append-nil w.spill.items in
    record {
      slots = slots ∙ ap (λ (ds : List Done). with_done ds old.slots.items) (sym done);
      lines = lines ∙ ap (λ (ds : List Done). old.lines.items ++ lines_done ds) (sym done);
      took = ap (map (λ (v : Vec HostId Global). v.items)) took_is ∙ map_more (λ (v : Vec HostId Global). v.items) old.took.items took
          ∙ ap (λ (l : List HostId). lists_of old.took.items ++ l ∷ []) ids;
      spill = spill ∙ ap (λ (ps : List Parcel). old.spill.items ++ ps) (sym spilled);
    }

-- one more of a list that is seen through a function, where the rest is seen through another
pub seen-more : {X B Y : Type 0} (f : X → Y) (g : B → Y) (old new : List X) (x : X) (left rest : List B) (b : B) (whole : List Y) → new ≡ old ++ x ∷ [] → left ≡ b ∷ rest → f x ≡ g b
    → map f old ++ map g left ≡ whole → map f new ++ map g rest ≡ whole
seen-more f g old new x left rest b whole more is same all =
    maps_more f old new x (map g rest) whole more
    (ap (λ y. map f old ++ y ∷ map g rest) same ∙ ap (λ l. map f old ++ map g l) (sym is) ∙ all)
