-- the cheapest arcs of a place, and the ways from it
use Rattle.std.proofs.Common.{◌≡◌, ℕ, ◌<◌, Bool, true, false, List, [], ◌∷◌, ◌++◌, length, get_or, set, replicate, fold, Option, Some, None, refl, sym, ap, ◌∙◌, subst, inl, inr, ⊎_elim, arith}
use Rattle.std.specs.Prelude.{Contains, IfSome, ◌⊎◌}
use Rattle.std.proofs.lemmas.Bool.{cases_eq}
use Rattle.std.proofs.lemmas.List.{get_or-set_same, get_or-set_other}
use Rattle.std.proofs.lemmas.List.Elements.{Contains-push, Contains-push_cases, Contains-append_left}
use Rattle.net_routes.specs.declared.cost.Cost.{Cost}
use Rattle.net_routes.specs.declared.arc.Arc.{Arc}
use Rattle.net_routes.specs.Cost.{nothing, IsAsGood}
use Rattle.net_routes.specs.inside.Path.{Leads, then_arc, HasPath, HasWay, HasArc, IsBest, IsBestTo}
use Rattle.net_routes.specs.inside.Search.{IsSettled}
use Rattle.net_routes.proofs.CostLemmas.{good_trans}
use Rattle.net_routes.proofs.ListLemmas.{some_same}
use Rattle.net_routes.proofs.SearchLemmas.{nobody, none_settled, settled_cases}

abbrev pub found : List (Option Cost) → ℕ → Option Cost
found costs place = get_or costs place None

pub arcs_none : (n : ℕ) → IsBest (HasArc []) (found (replicate n nobody))
arcs_none n = record {
  goes = λ b c t. absurd (none_settled n b c t);
  least = λ b c h. absurd (omega (arith, h.leaves.1));
}

arc_still : (arcs : List Arc) (x : Arc) (b : ℕ) (c : Cost) → HasArc arcs b c → HasArc (arcs ++ x ∷ []) b c
arc_still arcs x b c h = record { arc = h.arc; leaves = Contains-append_left arcs (x ∷ []) h.arc h.leaves; ends = h.ends; costs = h.costs }

arc_now : (arcs : List Arc) (x : Arc) → HasArc (arcs ++ x ∷ []) x.to (then_arc nothing x)
arc_now arcs x = record { arc = x; leaves = Contains-push arcs x; ends = refl; costs = refl }

-- one arc more
pub arcs_more : (best : List (Option Cost)) (arcs : List Arc) (x : Arc) (c : Cost) → x.to < length best
    → (get_or best x.to None ≡ Some c) ⊎ (c ≡ then_arc nothing x) → IfSome (get_or best x.to None) (IsAsGood c) → IsAsGood c (then_arc nothing x)
    → IsBest (HasArc arcs) (found best) → IsBest (HasArc (arcs ++ x ∷ [])) (found (set best x.to (Some c)))
arcs_more best arcs x c lt either known good k = record {
  goes = λ b d t. ⊎_elim
      (λ (now : (b ≡ x.to) × (c ≡ d)).
      let here : HasArc (arcs ++ x ∷ []) x.to c = ⊎_elim
      (λ (was : get_or best x.to None ≡ Some c). arc_still arcs x x.to c (k.goes x.to c was))
      (λ (is : c ≡ then_arc nothing x). let P : Cost → Type 0 = λ q. HasArc (arcs ++ x ∷ []) x.to q in subst P (sym is) (arc_now arcs x))
      either in
      let P : ℕ → Type 0 = λ p. HasArc (arcs ++ x ∷ []) p d in
      let Q : Cost → Type 0 = λ q. HasArc (arcs ++ x ∷ []) x.to q in
      subst P (sym now.0) (subst Q now.1 here))
      (λ (old : IsSettled best b d). arc_still arcs x b d (k.goes b d old))
      (settled_cases best x.to c b d lt t);
  least = λ b d h.
      let at_end : b ≡ x.to → get_or (set best x.to (Some c)) b None ≡ Some c = λ same.
      let P : ℕ → Type 0 = λ p. get_or (set best x.to (Some c)) p None ≡ Some c in
      subst P (sym same) (get_or-set_same best x.to (Some c) None lt) in
      ⊎_elim
      (λ (was : Contains arcs h.arc).
      let old = k.least b d (record { arc = h.arc; leaves = was; ends = h.ends; costs = h.costs }) in
      ⊎_elim
      (λ (same : b ≡ x.to).
      let O : ℕ → Type 0 = λ p. get_or best p None ≡ Some old.0 in
      let S : Option Cost → Type 0 = λ o. IfSome o (IsAsGood c) in
      let as_old : IsAsGood c old.0 = subst S (subst O same old.1) known in
      (c, at_end same, good_trans c old.0 d as_old old.2))
      (λ (other : b ≡ x.to → ⊥). (old.0, get_or-set_other best x.to b (Some c) None other ∙ old.1, old.2))
      (cases_eq b x.to))
      (λ (now : x ≡ h.arc).
      let same : b ≡ x.to = sym h.ends ∙ ap (λ (y : Arc). y.to) (sym now) in
      let cost : then_arc nothing x ≡ d = ap (λ (y : Arc). then_arc nothing y) now ∙ h.costs in
      let P : Cost → Type 0 = λ q. IsAsGood c q in
      (c, at_end same, subst P cost good))
      (Contains-push_cases arcs x h.arc h.leaves);
}

-- TO ONE PLACE

pub to_none : (place : ℕ) → IsBestTo [] place None
to_none place = record {
  goes = λ c e. absurd (let never : ⊥ = cc in never);
  least = λ c h. absurd (omega (arith, h.leaves.1));
}

-- one arc more, which leads elsewhere
pub to_other : (arcs : List Arc) (x : Arc) (place : ℕ) (best : Option Cost) → (x.to ≡ place → ⊥) → IsBestTo arcs place best → IsBestTo (arcs ++ x ∷ []) place best
to_other arcs x place best other k = record {
  goes = λ c e. arc_still arcs x place c (k.goes c e);
  least = λ c h. ⊎_elim
      (λ (was : Contains arcs h.arc). k.least c (record { arc = h.arc; leaves = was; ends = h.ends; costs = h.costs }))
      (λ (now : x ≡ h.arc). absurd (other (ap (λ (y : Arc). y.to) now ∙ h.ends)))
      (Contains-push_cases arcs x h.arc h.leaves);
}

-- or there
pub to_more : (arcs : List Arc) (x : Arc) (best : Option Cost) (c : Cost)
    → (best ≡ Some c) ⊎ (c ≡ then_arc nothing x) → IfSome best (IsAsGood c) → IsAsGood c (then_arc nothing x)
    → IsBestTo arcs x.to best → IsBestTo (arcs ++ x ∷ []) x.to (Some c)
to_more arcs x best c either known good k = record {
  goes = λ d t.
      let Q : Cost → Type 0 = λ q. HasArc (arcs ++ x ∷ []) x.to q in
      let here : HasArc (arcs ++ x ∷ []) x.to c = ⊎_elim
      (λ (was : best ≡ Some c). arc_still arcs x x.to c (k.goes c was))
      (λ (is : c ≡ then_arc nothing x). subst Q (sym is) (arc_now arcs x))
      either in
      subst Q (some_same c d t) here;
  least = λ d h. ⊎_elim
      (λ (was : Contains arcs h.arc).
      let old = k.least d (record { arc = h.arc; leaves = was; ends = h.ends; costs = h.costs }) in
      let S : Option Cost → Type 0 = λ o. IfSome o (IsAsGood c) in
      let as_old : IsAsGood c old.0 = subst S old.1 known in
      (c, refl, good_trans c old.0 d as_old old.2))
      (λ (now : x ≡ h.arc).
      let cost : then_arc nothing x ≡ d = ap (λ (y : Arc). then_arc nothing y) now ∙ h.costs in
      let P : Cost → Type 0 = λ q. IsAsGood c q in
      (c, refl, subst P cost good))
      (Contains-push_cases arcs x h.arc h.leaves);
}

-- THE WAYS FROM A PLACE

arc_of_path : (rows : List (List Arc)) (a b : ℕ) (c : Cost) (path : List Arc) → Leads rows a b path → length path ≡ 1 → fold then_arc nothing path ≡ c → HasArc (get_or rows a []) b c
arc_of_path rows a b c [] l e costs = absurd (omega (arith, e))
arc_of_path rows a b c (x ∷ []) l e costs = record { arc = x; leaves = l.0; ends = l.1; costs = costs }
arc_of_path rows a b c (x ∷ y ∷ path) l e costs = absurd (omega (arith, e))

way_of_arc : (rows : List (List Arc)) (shortest : Bool) (a b : ℕ) (c : Cost) → HasArc (get_or rows a []) b c → HasWay rows shortest a b c
way_of_arc rows shortest a b c h = record {
  path = h.arc ∷ [];
  leads = (h.leaves, h.ends);
  may = record { some = omega arith; one = λ _. refl };
  costs = h.costs;
}

pub ways_alone : (rows : List (List Arc)) (start : ℕ) (costs : List (Option Cost)) → IsBest (HasArc (get_or rows start [])) (found costs) → IsBest (HasWay rows false start) (found costs)
ways_alone rows start costs k = record {
  goes = λ b c t. way_of_arc rows false start b c (k.goes b c t);
  least = λ b c w. k.least b c (arc_of_path rows start b c w.path w.leads (w.may.one (inl refl)) w.costs);
}

path_some : (rows : List (List Arc)) (a b : ℕ) (path : List Arc) → Leads rows a b path → (b ≡ a → ⊥) → 0 < length path
path_some rows a b [] l other = absurd (other (sym l))
path_some rows a b (x ∷ path) l other = omega arith

true_false : true ≡ false → ⊥
true_false e = cc

pub ways_shortest : (rows : List (List Arc)) (start : ℕ) (alone : Option Cost) (paths : List (Option Cost)) → start < length paths
    → IsBestTo (get_or rows start []) start alone → IsBest (HasPath rows start) (found paths)
    → IsBest (HasWay rows true start) (found (set paths start alone))
ways_shortest rows start alone paths lt k p =
    let same_place : get_or (set paths start alone) start None ≡ alone = get_or-set_same paths start alone None lt in
    record {
      goes = λ b c t. ⊎_elim
          (λ (same : b ≡ start).
          let O : ℕ → Type 0 = λ q. get_or (set paths start alone) q None ≡ Some c in
          let here : alone ≡ Some c = sym same_place ∙ subst O same t in
          let P : ℕ → Type 0 = λ q. HasWay rows true start q c in
          subst P (sym same) (way_of_arc rows true start start c (k.goes c here)))
          (λ (other : b ≡ start → ⊥).
          let there : get_or paths b None ≡ Some c = sym (get_or-set_other paths start b alone None other) ∙ t in
          let w = p.goes b c there in
          record {
            path = w.path;
            leads = w.leads;
            may = record {
              some = path_some rows start b w.path w.leads other;
              one = λ h. ⊎_elim (λ (e : true ≡ false). absurd (true_false e)) (λ (e : start ≡ b). absurd (other (sym e))) h;
            };
            costs = w.costs;
          })
          (cases_eq b start);
      least = λ b c w. ⊎_elim
          (λ (same : b ≡ start).
          let one = arc_of_path rows start b c w.path w.leads (w.may.one (inr (sym same))) w.costs in
          let H : ℕ → Type 0 = λ q. HasArc (get_or rows start []) q c in
          let d = k.least c (subst H same one) in
          let P : ℕ → Type 0 = λ q. get_or (set paths start alone) q None ≡ Some d.0 in
          (d.0, subst P (sym same) (same_place ∙ d.1), d.2))
          (λ (other : b ≡ start → ⊥).
          let d = p.least b c (record { path = w.path; leads = w.leads; costs = w.costs }) in
          (d.0, get_or-set_other paths start b alone None other ∙ d.1, d.2))
          (cases_eq b start);
    }
