-- What stands at each target when pieces were put.
use Rattle.std.proofs.Common.{◌≡◌, ℕ, Bool, true, false, List, [], ◌∷◌, ◌++◌, Option, Some, refl, sym, ap, ◌∙◌, append_assoc, append-nil}
use Rattle.std.specs.Prelude.{if◌then◌else◌, ◌||◌}
use Rattle.std.specs.Option.{unwrap_or}
use Rattle.std.specs.Str.{bytes_eq}
use Rattle.run_outside.specs.Files.{Held}
use Rattle.run_outside.specs.Sink.{Content, add}
use Rattle.run_outside.specs.declared.sink.SinkTarget.{SinkTarget}
use Rattle.run_outside.specs.declared.sink.SinkTarget.TheVariants as target
use Rattle.run_files.specs.Files.{Put}
use Rattle.net_run.specs.Pieces.{with_pieces}
use Rattle.net_run.specs.Targets.{is_target, bytes_at, is_touched}

-- no byte is put where nothing is
pub untouched_bytes : (at : SinkTarget) (puts : List Put) → is_touched at puts ≡ false → bytes_at at puts ≡ []
untouched_bytes at [] none = refl
untouched_bytes at (put ∷ puts) none = go (is_target put.0 at) none (λ e. untouched_bytes at puts e) where
  go : (b : Bool) → (b || is_touched at puts) ≡ false → (is_touched at puts ≡ false → bytes_at at puts ≡ []) → (if b then put.1 else []) ++ bytes_at at puts ≡ []
  go true e later = absurd (cc)
  go false e later = later e

-- a file with bytes at its end, where something is put
abbrev pub added : Bool → Option (List ℕ) → List ℕ → Option (List ℕ)
added touched was bytes = if touched then Some (unwrap_or was [] ++ bytes) else was

-- the content with the bytes of all pieces, target by target
abbrev pub at_targets : List Put → Content → Content
at_targets puts c = record {
  there = c.there;
  out = c.out ++ bytes_at target.Out puts;
  err = c.err ++ bytes_at target.Err puts;
  files = λ name. added (is_touched (target.File name) puts) (c.files name) (bytes_at (target.File name) puts);
}

abbrev content : (List ℕ → Bool) → List ℕ → List ℕ → Held → Content
content there out err files = record { there = there; out = out; err = err; files = files }

one_file_more : (was : Option (List ℕ)) (piece bytes : List ℕ) (here later : Bool) → (later ≡ false → bytes ≡ [])
    → added later (added here was piece) bytes ≡ added (here || later) was ((if here then piece else []) ++ bytes)
one_file_more was piece bytes true true none = ap Some (append_assoc (unwrap_or was []) piece bytes)
one_file_more was piece bytes true false none = ap (λ (bs : List ℕ). Some (unwrap_or was [] ++ bs)) (sym (append-nil piece) ∙ ap (λ (bs : List ℕ). piece ++ bs) (sym (none refl)))
one_file_more was piece bytes false true none = refl
one_file_more was piece bytes false false none = refl

one_more : (put : Put) (puts : List Put) (c : Content) → at_targets puts (add put.0 put.1 c) ≡ at_targets (put ∷ puts) c
one_more (target.Out, bytes) puts c = ap (λ (out : List ℕ). content c.there out (c.err ++ bytes_at target.Err puts) (at_targets puts c).files) (append_assoc c.out bytes (bytes_at target.Out puts))
one_more (target.Err, bytes) puts c = ap (λ (err : List ℕ). content c.there (c.out ++ bytes_at target.Out puts) err (at_targets puts c).files) (append_assoc c.err bytes (bytes_at target.Err puts))
one_more (target.File file, bytes) puts c = ap (content c.there (c.out ++ bytes_at target.Out puts) (c.err ++ bytes_at target.Err puts)) (λ i name.
    one_file_more (c.files name) bytes (bytes_at (target.File name) puts) (bytes_eq file name) (is_touched (target.File name) puts) (untouched_bytes (target.File name) puts) i)

nothing_added : (c : Content) → c ≡ at_targets [] c
nothing_added c = ap (λ (out : List ℕ). content c.there out c.err c.files) (sym (append-nil c.out)) ∙ ap (λ (err : List ℕ). content c.there (c.out ++ []) err c.files) (sym (append-nil c.err))

pub by_target : (puts : List Put) (c : Content) → with_pieces puts c ≡ at_targets puts c
by_target [] c = nothing_added c
by_target (put ∷ puts) c = by_target puts (add put.0 put.1 c) ∙ one_more put puts c

-- pieces that put the same bytes at each target, and touch the same files, leave the same
pub same_content : (ps qs : List Put) (c : Content) → ((at : SinkTarget) → bytes_at at ps ≡ bytes_at at qs) → ((name : List ℕ) → is_touched (target.File name) ps ≡ is_touched (target.File name) qs)
    → with_pieces ps c ≡ with_pieces qs c
same_content ps qs c bytes touched = by_target ps c ∙ same ∙ sym (by_target qs c) where
  same : at_targets ps c ≡ at_targets qs c
  same = λ i. content c.there (c.out ++ bytes target.Out i) (c.err ++ bytes target.Err i) (λ name. added (touched name i) (c.files name) (bytes (target.File name) i))
