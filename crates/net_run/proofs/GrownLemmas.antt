-- Files that grow while a run goes on: the heads of captures stand at its opening, a round adds what it gained, and with what is put at
-- the end they are the files of the run.
use Rattle.std.proofs.Common.{◌≡◌, ℕ, ◌+◌, Bool, true, false, List, [], ◌∷◌, ◌++◌, map, refl, sym, ap, subst, ◌∙◌, append-nil}
use Rattle.std.specs.Prelude.{◌||◌}
use Rattle.run_outside.specs.Sink.{Content}
use Rattle.run_outside.specs.declared.sink.SinkTarget.{SinkTarget}
use Rattle.run_outside.specs.declared.sink.SinkTarget.TheVariants as target
use Rattle.file_calls.specs.declared.task.Output.{Output}
use Rattle.host_state.specs.HostRecord.{HostRecord}
use Rattle.host_state.specs.Opening.{opening}
use Rattle.host_link.specs.declared.line.Line.{Line}
use Rattle.host_rows.specs.declared.row.Row.{Row}
use Rattle.out_text.specs.Files.{file_name}
use Rattle.out_text.specs.declared.files.FileKind.TheVariants as kind
use Rattle.host_state.proofs.Gaining.{names_kept}
use Rattle.pcap_text.specs.Writing.{head}
use Rattle.run_files.specs.Captured.{all_captures}
use Rattle.run_files.specs.Grown.{process_grown, host_grown, hosts_grown, all_grown, grown_behind, with_bytes}
use Rattle.host_state.specs.Gains.{Gains, names_in}
use Rattle.net_run.specs.Grown.{grown_in, IsGrown, HaveOwnFiles}
use Rattle.run_files.specs.Listed.{HostNames, listed, by_process}
use Rattle.run_files.specs.Files.{Put, log_name}
use Rattle.file_calls.specs.Guest.{first_id}
use Rattle.net_run.specs.Heads.{all_heads}
use Rattle.net_run.specs.Pieces.{with_pieces}
use Rattle.net_run.specs.Targets.{is_target, bytes_at, is_touched}
use Rattle.net_run.specs.inside.Rest.{rest_in}
use Rattle.net_run.specs.Shown.{run_pieces, captures_in}
use Rattle.host_link.specs.Logs.{lines_of}
use Rattle.net_run.specs.World.{World, opening_world}
use Rattle.run_files.specs.declared.listed.ProcessListing.{ProcessListing}
use Rattle.net_run.proofs.CaptureLemmas.{heads_are, heads_touched}
use Rattle.net_run.proofs.ContentLemmas.{same_content}
use Rattle.net_run.proofs.GrowthLemmas.{empty}
use Rattle.net_run.proofs.HostLemmas.{own_hosts, names_of_hosts, written_by}
use Rattle.net_run.proofs.SplitLemmas.{Splits, bytes_at_append, touched_append, touched_first, touched_second, with_bytes_bytes, with_bytes_touched}
use Rattle.net_run.proofs.WholeLemmas.{Completes, around, more_grown_all, whole_run}

-- ---- the opening

none_by_process : (at : SinkTarget) (host : List ℕ) (p : ℕ) (processes : List ProcessListing) → bytes_at at (by_process (process_grown host []) p processes) ≡ []
none_by_process at host p [] = refl
none_by_process at host p (process ∷ processes) =
    empty (is_target (target.File (file_name host process.program (first_id + p) kind.Stdout)) at) _
    ∙ empty (is_target (target.File (file_name host process.program (first_id + p) kind.Stderr)) at) _ ∙ none_by_process at host (p + 1) processes

abbrev opened : List Row → List HostRecord
opened rows = map (λ (row : Row). (opening row).host) rows

none_by_hosts : (at : SinkTarget) (rows : List Row) → bytes_at at (hosts_grown (names_of_hosts (opened rows)) (written_by (opened rows))) ≡ []
none_by_hosts at [] = refl
none_by_hosts at (row ∷ rows) =
    bytes_at_append at (host_grown (listed row) []) (hosts_grown (names_of_hosts (opened rows)) (written_by (opened rows)))
    ∙ ap (λ (l : List ℕ). l ++ bytes_at at (hosts_grown (names_of_hosts (opened rows)) (written_by (opened rows)))) (none_by_process at row.name 0 (listed row).processes)
    ∙ none_by_hosts at rows

abbrev opened_names : List Row → List HostNames
opened_names rows = names_of_hosts (opened rows)

-- the heads
pub opening_grown : (rows : List Row) → IsGrown (opening_world rows) (all_heads (names_in (opening_world rows)))
opening_grown rows = record {
  targets = λ at e.
      touched_second at (hosts_grown (opened_names rows) (written_by (opened rows))) (all_captures head (opened_names rows) [] ++ ((target.File log_name, []) ∷ []))
      (touched_first at (all_captures head (opened_names rows) []) ((target.File log_name, []) ∷ []) (sym (heads_touched at (opened_names rows) []) ∙ e));
  bytes = λ at.
      let captures = all_captures head (opened_names rows) [] in
      ap (bytes_at at) (heads_are 0 (opened_names rows))
      ∙ sym (around at (hosts_grown (opened_names rows) (written_by (opened rows))) captures ((target.File log_name, []) ∷ [])
      ∙ ap (λ (l : List ℕ). l ++ (bytes_at at captures ++ bytes_at at ((target.File log_name, []) ∷ []))) (none_by_hosts at rows)
      ∙ ap (λ (l : List ℕ). bytes_at at captures ++ l) (empty (is_target (target.File log_name) at) []) ∙ append-nil (bytes_at at captures));
  captures = λ at e. e;
}

-- ---- a round

module _ (w v : World) (outputs : List (List Output)) (lines : List Line) (own : HaveOwnFiles (names_in w)) (gains : Gains w v outputs lines) where
  abbrev gained : List Put
  gained = all_grown (names_in w) outputs lines

  gained_is : grown_behind head (names_in w) (written_by v.hosts) (lines_of w.log ++ lines) ≡ grown_in v
  gained_is = ap (λ (names : List HostNames). grown_behind head names (written_by v.hosts) (lines_of w.log ++ lines)) (sym (names_kept w v outputs lines gains))
      ∙ ap (λ (ls : List Line). grown_behind head (names_in v) (written_by v.hosts) ls) (sym gains.log)

  pub splits_round : (at : SinkTarget) → Splits at (grown_in w) gained (grown_in v)
  splits_round at = subst (λ (zs : List Put). Splits at (grown_in w) gained zs) gained_is
      (more_grown_all at head (names_in w) (written_by w.hosts) outputs (written_by v.hosts) (lines_of w.log) lines (own_hosts w.hosts own) gains.written)

  module _ (puts : List Put) (grown : IsGrown w puts) where
    touched_round : (at : SinkTarget) (a b : Bool) → is_touched at puts ≡ a → is_touched at (with_bytes gained) ≡ b → (a || b) ≡ true → is_touched at (grown_in v) ≡ true
    touched_round at true b x y e = (splits_round at).first (grown.targets at x)
    touched_round at false true x y e = sym (splits_round at).second ∙ with_bytes_touched at gained y
    touched_round at false false x y e = absurd (cc)

    pub round_grown : IsGrown v (puts ++ with_bytes gained)
    round_grown = record {
      targets = λ at e. touched_round at (is_touched at puts) (is_touched at (with_bytes gained)) refl refl (sym (touched_append at puts (with_bytes gained)) ∙ e);
      bytes = λ at. bytes_at_append at puts (with_bytes gained) ∙ ap (λ (l : List ℕ). l ++ bytes_at at (with_bytes gained)) (grown.bytes at)
          ∙ ap (λ (l : List ℕ). bytes_at at (grown_in w) ++ l) (with_bytes_bytes at gained) ∙ sym (splits_round at).bytes;
      captures = λ at e. touched_first at puts (with_bytes gained) (grown.captures at (subst (λ (names : List HostNames). is_touched at (all_heads names) ≡ true) (names_kept w v outputs lines gains) e));
    }

-- ---- the end

module _ (load : Bool) (w : World) (own : HaveOwnFiles (names_in w)) (puts : List Put) (grown : IsGrown w puts) where
  splits_end : (at : SinkTarget) → Completes at (captures_in w) (grown_in w) (rest_in load w) (run_pieces load w)
  splits_end at = whole_run at load w (own_hosts w.hosts own)

  same_touched : (at : SinkTarget) (b : Bool) → is_touched at puts ≡ b → (b || is_touched at (rest_in load w)) ≡ is_touched at (run_pieces load w)
  same_touched at true e = sym ((splits_end at).first (grown.targets at e))
  same_touched at false e = (splits_end at).second (go (is_touched at (captures_in w)) refl) where
    go : (b : Bool) → is_touched at (captures_in w) ≡ b → is_touched at (captures_in w) ≡ false
    go true there = absurd (let f : true ≡ false = sym (grown.captures at (heads_touched at (names_in w) (lines_of w.log) ∙ there)) ∙ e in cc)
    go false none = none

  -- what was put so far and the rest leave what the pieces of the run leave
  pub end_whole : (c : Content) → with_pieces (puts ++ rest_in load w) c ≡ with_pieces (run_pieces load w) c
  end_whole c = same_content (puts ++ rest_in load w) (run_pieces load w) c
      (λ at. bytes_at_append at puts (rest_in load w) ∙ ap (λ (l : List ℕ). l ++ bytes_at at (rest_in load w)) (grown.bytes at) ∙ sym (splits_end at).bytes)
      (λ name. touched_append (target.File name) puts (rest_in load w) ∙ same_touched (target.File name) (is_touched (target.File name) puts) refl)
