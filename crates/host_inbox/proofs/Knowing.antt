-- What seats know of the inboxes.
use Rattle.std.proofs.Common.{◌≡◌, ◌≢◌, ℕ, ◌+◌, ◌*◌, ◌<◌, ◌≤◌, ◌==◌, List, [], ◌∷◌, map, length, get_or, set, Option, Some, None, Bool, true, false, sym, refl, ap, ◌∙◌, arith}
use Rattle.std.proofs.lemmas.List.Elements.{All-weaker, All-from_recursion, recursion_from_All}
use mathlib.Core.Option.{Option as Place, some, none}
use lib.ListN.{get_elem?}
use Rattle.atomic_table.specs.Table.{State}
use Rattle.host_inbox.specs.declared.entry.Entry.{Entry}
use Rattle.host_inbox.specs.declared.entry.Claim.{Claim}
use Rattle.host_inbox.specs.declared.rule.Known.{Known}
use Rattle.host_inbox.specs.declared.rule.Size.{Size}
use Rattle.list_weights.specs.Weights.{weigh, numbers_below, only}
use Rattle.host_inbox.specs.Entries.{place_of, claim, entry, claim_weight, entry_weight}
use Rattle.host_inbox.specs.Inboxes.{IsEntered, IsPending, Fits, AreInboxes, known_weight}
use Rattle.host_inbox.specs.Steps.{after_claim, after_full, after_fill}
use Rattle.list_weights.proofs.Weights.{weigh_append, weigh_below, weigh_ones, length_numbers_below}
use Rattle.host_inbox.proofs.Weights.{weigh_times}
use Rattle.atomic_table.proofs.Lists.{set_else}

only_at_most : (b : Bool) (n : ℕ) → only b n ≤ n
only_at_most true n = omega arith
only_at_most false n = omega arith

claims_few : (host : ℕ) (xs : List Claim) → weigh (claim_weight host (λ _. 1)) xs ≤ length xs
claims_few host [] = omega arith
claims_few host (c ∷ xs) = let here = only_at_most (c.host == host) 1 in omega (arith, claims_few host xs)

-- two places are of one host and one number
pub same_place : (a m b n : ℕ) → m < 16 → n < 16 → place_of a m ≡ place_of b n → (a ≡ b) × (m ≡ n)
same_place a m b n small few e = let host : a ≡ b = omega arith in (host, omega arith)

module _ {T : Type 0} where
  entries_few : (host : ℕ) (xs : List (Entry (Option T))) → weigh (entry_weight host (λ _. 1)) xs ≤ length xs
  entries_few host [] = omega arith
  entries_few host (e ∷ xs) = let here = only_at_most (e.host == host) 1 in omega (arith, entries_few host xs)

  -- a seat's claims are no more than it may make
  known_few : (hosts : ℕ) (homes : List (Place (Option T))) (host : ℕ) (v : Known T) → Fits hosts homes v → known_weight host (λ _. 1) v ≤ v.share * 4294967296
  known_few hosts homes host v fits = let a = entries_few host v.entered in let b = claims_few host v.pending in let c = fits.few in omega arith

  -- nor are all seats'
  pub claimed_few : (size : Size) (s : State (Option T) (Known T)) (host : ℕ) → AreInboxes size s → host < size.hosts → get_or s.words host 0 ≤ 274877906944
  claimed_few size s host rule near =
      let all = rule.once host (λ _. 1) near in
      let count = weigh_ones (numbers_below (get_or s.words host 0)) ∙ length_numbers_below (get_or s.words host 0) in
      let below : weigh (known_weight host (λ _. 1)) s.views ≤ weigh (λ (v : Known T). v.share * 4294967296) s.views = weigh_below (known_weight host (λ _. 1)) (λ (v : Known T). v.share * 4294967296) s.views (λ j u at. known_few size.hosts s.homes host u (rule.each j u at)) in
      let times = weigh_times (λ (v : Known T). v.share) s.views in
      let shares = rule.shares in
      let few = rule.few in
      omega arith

  -- what each step adds to a seat's claims
  pub claim_adds : (v : Known T) (at n host : ℕ) (h : ℕ → ℕ) → known_weight host h (after_claim v at n) ≡ known_weight host h v + only (at == host) (h n)
  claim_adds v at n host h = omega (arith, weigh_append (claim_weight host h) v.pending (claim at n ∷ []))

  pub full_adds : (v : Known T) (at n host : ℕ) (h : ℕ → ℕ) → known_weight host h (after_full v at n) ≡ known_weight host h v + only (at == host) (h n)
  full_adds v at n host h = let e : Entry (Option T) = entry at n None in omega (arith, weigh_append (entry_weight host h) v.entered (e ∷ []))

  filled_weight : (x : Option T) (host : ℕ) (h : ℕ → ℕ) (xs : List Claim) → weigh (entry_weight host h) (map (λ (c : Claim). entry c.host c.number x) xs) ≡ weigh (claim_weight host h) xs
  filled_weight x host h [] = refl
  filled_weight x host h (c ∷ xs) = ap (λ (n : ℕ). only (c.host == host) (h c.number) + n) (filled_weight x host h xs)

  pub fill_adds : (v : Known T) (x : Option T) (host : ℕ) (h : ℕ → ℕ) → known_weight host h (after_fill v x) ≡ known_weight host h v
  fill_adds v x host h = let m : List (Entry (Option T)) = map (λ (c : Claim). entry c.host c.number x) v.pending in
      omega (arith, weigh_append (entry_weight host h) v.entered m, filled_weight x host h v.pending)

  -- what a seat knows stays so while an empty place at home is taken
  pub fits_taken : (hosts : ℕ) (homes : List (Place (Option T))) (k : ℕ) (v : Known T) → get_elem? homes k ≡ some (some None) → Fits hosts homes v → Fits hosts (set homes k none) v
  fits_taken hosts homes k v here fits = record {
    entered = recursion_from_All (IsEntered hosts (set homes k none)) v.entered (All-weaker (IsEntered hosts homes) (IsEntered hosts (set homes k none))
        (λ e p. record {
          host = p.host;
          full = p.full;
          placed = λ small.
              (let f = p.full small in let at = p.placed small in
              let apart : place_of e.host e.number ≢ k = λ same. differs e.parcel f.0 f.1 (sym at ∙ ap (λ (j : ℕ). get_elem? homes j) same ∙ here) in
              set_else homes k (place_of e.host e.number) none apart ∙ at);
        })
        v.entered (All-from_recursion (IsEntered hosts homes) v.entered fits.entered));
    pending = recursion_from_All (IsPending hosts (set homes k none)) v.pending (All-weaker (IsPending hosts homes) (IsPending hosts (set homes k none))
        (λ c p. record {
          host = p.host;
          number = p.number;
          out =
              (let at = p.out in
              let apart : place_of c.host c.number ≢ k = λ same. out_or_home none (some None) refl refl (sym at ∙ ap (λ (j : ℕ). get_elem? homes j) same ∙ here) in
              set_else homes k (place_of c.host c.number) none apart ∙ at);
        })
        v.pending (All-from_recursion (IsPending hosts homes) v.pending fits.pending));
    few = fits.few;
  }
    where
      differs : (p : Option T) (x : T) → p ≡ Some x → some (some p) ≡ some (some None) → ⊥
      differs p x is e = cc

      out_or_home : (x y : Place (Option T)) → x ≡ none → y ≡ some None → some x ≡ some y → ⊥
      out_or_home x y p q e = cc
