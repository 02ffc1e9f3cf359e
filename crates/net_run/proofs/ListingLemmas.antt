-- The notes of a configuration and the heads of captures, one behind another.
use Rattle.std.proofs.Common.{◌≡◌, ℕ, ◌+◌, ◌<◌, true, false, List, [], ◌∷◌, ◌++◌, length, drop, get_or, Option, Some, sym, ap, ◌∙◌, append_assoc}
use Rattle.run_outside.specs.declared.sink.SinkTarget.TheVariants as target
use Rattle.out_text.specs.Files.{capture_name}
use Rattle.pcap_text.specs.Writing.{head}
use Rattle.run_files.specs.Files.{Put}
use Rattle.net_run.specs.Heads.{heads_by}
use Rattle.net_run.specs.Shown.{note_puts}
use Rattle.run_files.proofs.Listings.{drop_at}

pub notes_step : (notes : List (List ℕ)) (i : ℕ) (note : List ℕ) (old new whole : List Put) → i < length notes → note ≡ get_or notes i note
    → new ≡ old ++ note_puts (note ∷ []) → old ++ note_puts (drop i notes) ≡ whole → new ++ note_puts (drop (i + 1) notes) ≡ whole
notes_step notes i note old new whole below is new_is so_far =
    let rest = note_puts (drop (i + 1) notes) in
    ap (λ (l : List Put). l ++ rest) new_is ∙ append_assoc old (note_puts (note ∷ [])) rest
    ∙ ap (λ (l : List (List ℕ)). old ++ note_puts l) (sym (drop_at notes i note below is)) ∙ so_far

-- the heads of both captures of a host
pub heads_two : (old first second : List Put) (name told : List ℕ) (size : ℕ) (capture : Option ℕ) → capture ≡ Some size → told ≡ name
    → first ≡ old ++ ((target.File (capture_name told false), head size) ∷ []) → second ≡ first ++ ((target.File (capture_name told true), head size) ∷ []) → second ≡ old ++ heads_by name capture
heads_two old first second name told size capture is same one two =
    two ∙ ap (λ (l : List Put). l ++ ((target.File (capture_name told true), head size) ∷ [])) one
    ∙ append_assoc old ((target.File (capture_name told false), head size) ∷ []) ((target.File (capture_name told true), head size) ∷ [])
    ∙ ap (λ (host : List ℕ). old ++ heads_by host (Some size)) same ∙ ap (λ (o : Option ℕ). old ++ heads_by name o) (sym is)
