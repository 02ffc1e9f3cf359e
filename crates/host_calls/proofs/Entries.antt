-- The entries of a poll, one after another.
use Rattle.std.proofs.Common.{◌≡◌, ℕ, suc, ◌+◌, ◌-◌, ◌*◌, ◌<◌, List, ◌++◌, take, drop, refl, ap, sym, append_assoc, ◌∙◌, arith}
use Rattle.std.proofs.lemmas.List.{drop-drop}
use Rattle.sim_base.specs.declared.time.Time.{Time}
use Rattle.host_calls.specs.Parts.{Scene}
use Rattle.host_calls.specs.Polling.{count_told, came, told_entries, told_entry}
use Rattle.call_parts.specs.Polling.{count_one}

left : (place count : ℕ) → place < count → count - place ≡ suc (count - (place + 1))
left place count h = omega arith

behind : (place : ℕ) (entries : List ℕ) → drop 8 (drop (8 * place) entries) ≡ drop (8 * (place + 1)) entries
behind place entries = drop-drop 8 (8 * place) entries ∙ ap (λ n. drop n entries) (omega arith)

pub count_told_step : (now : Time) (s : Scene) (count place : ℕ) (entries : List ℕ) → place < count
    → count_told now s (count - place) (drop (8 * place) entries)
    ≡ count_one (came now s (take 8 (drop (8 * place) entries))) + count_told now s (count - (place + 1)) (drop (8 * (place + 1)) entries)
count_told_step now s count place entries h = rw (left place count h) (rw (behind place entries) refl)

pub told_entries_step : (now : Time) (s : Scene) (count place : ℕ) (entries : List ℕ) → place < count
    → told_entries now s (count - place) (drop (8 * place) entries)
    ≡ told_entry now s (take 8 (drop (8 * place) entries)) ++ told_entries now s (count - (place + 1)) (drop (8 * (place + 1)) entries)
told_entries_step now s count place entries h = rw (left place count h) (rw (behind place entries) refl)

-- one more entry stands behind those that are told
pub told_entries_next : (now : Time) (s : Scene) (count place : ℕ) (entries all front front' entry : List ℕ) → place < count
    → all ≡ front ++ told_entries now s (count - place) (drop (8 * place) entries)
    → entry ≡ told_entry now s (take 8 (drop (8 * place) entries)) → front' ≡ front ++ entry
    → all ≡ front' ++ told_entries now s (count - (place + 1)) (drop (8 * (place + 1)) entries)
told_entries_next now s count place entries all front front' entry h before is_told is_next =
    let rest : List ℕ = told_entries now s (count - (place + 1)) (drop (8 * (place + 1)) entries) in
    before ∙ ap (λ (x : List ℕ). front ++ x) (told_entries_step now s count place entries h)
    ∙ sym (append_assoc front (told_entry now s (take 8 (drop (8 * place) entries))) rest)
    ∙ ap (λ (x : List ℕ). (front ++ x) ++ rest) (sym is_told) ∙ ap (λ (x : List ℕ). x ++ rest) (sym is_next)

pub ruleset steps = (count_told_step, told_entries_step)
