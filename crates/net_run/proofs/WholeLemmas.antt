-- Captures and the packet log beside the files of processes, and the pieces of a run in two parts.
use Rattle.std.proofs.Common.{◌≡◌, ℕ, zero, suc, ◌+◌, Bool, true, false, List, [], ◌∷◌, ◌++◌, map, slice_get, refl, sym, ap, subst, ◌∙◌, append-nil}
use Rattle.std.specs.Prelude.{◌||◌, if◌then◌else◌, flat_map}
use Rattle.std.proofs.lemmas.Grind.{flat_map-append}
use Rattle.std.proofs.lemmas.List.{map-append}
use Rattle.run_outside.specs.declared.sink.SinkTarget.{SinkTarget}
use Rattle.run_outside.specs.declared.sink.SinkTarget.TheVariants as target
use Rattle.sim_base.specs.declared.state.State.{State}
use Rattle.file_calls.specs.declared.task.Output.{Output}
use Rattle.host_state.specs.HostRecord.{HostRecord, process_state}
use Rattle.guest_process.specs.States.{state_of}
use Rattle.host_link.specs.declared.line.Line.{Line}
use Rattle.host_rows.specs.declared.row.ProcessRow.{ProcessRow}
use Rattle.out_text.specs.Files.{state_text, process_text}
use Rattle.out_text.specs.Faults.{unmet_line}
use Rattle.out_text.specs.Log.{LogLine, log_line}
use Rattle.pcap_text.specs.Writing.{head}
use Rattle.run_files.specs.Captured.{all_captures, no_head}
use Rattle.host_state.specs.Gains.{AreGained, names_in}
use Rattle.run_files.specs.Grown.{listed_name, told_line, log_grown, hosts_grown, all_grown, grown_behind, host_grown}
use Rattle.net_run.specs.Grown.{grown_in}
use Rattle.run_files.specs.Listed.{HostNames, listed_process, by_process}
use Rattle.run_files.specs.Files.{Put, program_of, log_name, expected_state}
use Rattle.file_calls.specs.Guest.{first_id}
use Rattle.net_run.specs.Targets.{is_target, bytes_at, is_touched}
use Rattle.net_run.specs.Rest as rest
use Rattle.net_run.specs.Rest.{ending, summary_in, summary_rest}
use Rattle.net_run.specs.inside.Rest.{rest_in, states_in}
use Rattle.net_run.specs.Shown.{name_of, named, named_log, log_file, host_files, captures_in, unmet, unmet_by, process_unmet, unmet_from, host_unmet, meets, summary, run_pieces}
use Rattle.host_link.specs.Logs.{lines_of}
use Rattle.net_run.specs.World.{World}
use Rattle.net_run.proofs.CaptureLemmas.{IsCapture, some_capture, more_captures}
use Rattle.net_run.proofs.ContentLemmas.{untouched_bytes}
use Rattle.net_run.proofs.FileLemmas.{IsFileOf, same_target, target_of_file}
use Rattle.net_run.proofs.HostLemmas.{AreOwn, names_of_hosts, written_by, states_by, some_file, file_grown, file_rest, more_hosts, whole_hosts, state_of_host}
use Rattle.net_run.proofs.NameLemmas.{log_is_no_file, log_is_no_capture, capture_is_no_file}
use Rattle.net_run.proofs.SplitLemmas.{bytes_at_append, touched_append, Splits, splits_append}

-- ---- the packet log

one_bytes : (b : Bool) (x y : List ℕ) → (if b then x ++ y else []) ++ [] ≡ ((if b then x else []) ++ []) ++ ((if b then y else []) ++ [])
one_bytes true x y = append-nil (x ++ y) ∙ ap (λ (l : List ℕ). l ++ y) (sym (append-nil x)) ∙ ap (λ (l : List ℕ). (x ++ []) ++ l) (sym (append-nil y))
one_bytes false x y = refl

more_text : (hosts : List HostNames) (xs ys : List Line) → flat_map log_line (map (told_line hosts) (xs ++ ys)) ≡ flat_map log_line (map (told_line hosts) xs) ++ flat_map log_line (map (told_line hosts) ys)
more_text hosts xs ys = ap (flat_map log_line) (map-append (told_line hosts) xs ys) ∙ flat_map-append log_line (map (told_line hosts) xs) (map (told_line hosts) ys)

abbrev in_log : List ℕ → Put
in_log text = (target.File log_name, text)

more_log : (at : SinkTarget) (hosts : List HostNames) (xs ys : List Line) → Splits at (log_grown hosts xs ∷ []) (log_grown hosts ys ∷ []) (log_grown hosts (xs ++ ys) ∷ [])
more_log at hosts xs ys =
    let x = flat_map log_line (map (told_line hosts) xs) in
    let y = flat_map log_line (map (told_line hosts) ys) in
    let both : Splits at (in_log x ∷ []) (in_log y ∷ []) (in_log (x ++ y) ∷ []) = record { bytes = one_bytes (is_target (target.File log_name) at) x y; first = λ e. e; second = refl } in
    subst (λ (text : List ℕ). Splits at (in_log x ∷ []) (in_log y ∷ []) (in_log text ∷ [])) (sym (more_text hosts xs ys)) both

-- a process's file isn't the packet log
no_log : (at : SinkTarget) → (name : List ℕ) × (to : ℕ) × IsFileOf name 0 to at → at ≡ target.File log_name → ⊥
no_log at (name, to, file) is = log_is_no_file name file.program _ file.named.kind (same_target _ _ at is file.named.is)

is_log : (at : SinkTarget) (b : Bool) → is_target (target.File log_name) at ≡ b → (b || false) ≡ true → at ≡ target.File log_name
is_log at true e t = target_of_file log_name at e
is_log at false e t = absurd (cc)

-- a capture isn't the packet log, and not a process's file
no_log_capture : (at : SinkTarget) → (name : List ℕ) × IsCapture name at → at ≡ target.File log_name → ⊥
no_log_capture at (name, capture) is = log_is_no_capture name capture.loopback (same_target _ _ at is capture.is)

no_file_capture : (at : SinkTarget) → (name : List ℕ) × IsCapture name at → (name : List ℕ) × (to : ℕ) × IsFileOf name 0 to at → ⊥
no_file_capture at (name, capture) (host, to, file) = capture_is_no_file name host file.program capture.loopback _ file.named.kind (same_target _ _ at capture.is file.named.is)

-- one of two lists
in_either : (at : SinkTarget) (ps qs : List Put) → is_touched at (ps ++ qs) ≡ true → (is_touched at ps ≡ true → ⊥) → (is_touched at qs ≡ true → ⊥) → ⊥
in_either at ps qs e first second = go (is_touched at ps) (is_touched at qs) refl refl (sym (touched_append at ps qs) ∙ e) where
  go : (a b : Bool) → is_touched at ps ≡ a → is_touched at qs ≡ b → (a || b) ≡ true → ⊥
  go true b x y t = first x
  go false true x y t = second y
  go false false x y t = cc

module _ (at : SinkTarget) (front : ℕ → List ℕ) (hosts : List HostNames) (xs ys zs : List (List Output)) (k l : List Line) (own : AreOwn hosts) (gained : AreGained xs ys zs) where
  abbrev captures_and_log : (ℕ → List ℕ) → List Line → List Put
  captures_and_log f lines = all_captures f hosts lines ++ (log_grown hosts lines ∷ [])

  more_behind : Splits at (captures_and_log front k) (captures_and_log no_head l) (captures_and_log front (k ++ l))
  more_behind =
      splits_append at (all_captures front hosts k) (all_captures no_head hosts l) (all_captures front hosts (k ++ l)) (log_grown hosts k ∷ []) (log_grown hosts l ∷ []) (log_grown hosts (k ++ l) ∷ [])
      (more_captures at front 0 hosts k l own) (more_log at hosts k l)
      (λ here log. no_log_capture at (some_capture at front 0 hosts (k ++ l) here) (is_log at (is_target (target.File log_name) at) refl log))

  pub more_grown_all : Splits at (grown_behind front hosts xs k) (all_grown hosts ys l) (grown_behind front hosts zs (k ++ l))
  more_grown_all =
      splits_append at (hosts_grown hosts xs) (hosts_grown hosts ys) (hosts_grown hosts zs) (captures_and_log front k) (captures_and_log no_head l) (captures_and_log front (k ++ l))
      (more_hosts at hosts xs ys zs own gained) more_behind
      (λ here other.
      let file = some_file at host_grown (file_grown at) hosts zs own here in
      in_either at (all_captures front hosts (k ++ l)) (log_grown hosts (k ++ l) ∷ []) other
      (λ c. no_file_capture at (some_capture at front 0 hosts (k ++ l) c) file)
      (λ log. no_log at file (is_log at (is_target (target.File log_name) at) refl log)))

-- ---- what is told of a world

named_listed : (hs : List HostRecord) (i : ℕ) → listed_name (slice_get (names_of_hosts hs) i) ≡ name_of (slice_get hs i)
named_listed [] i = refl
named_listed (h ∷ hs) zero = refl
named_listed (h ∷ hs) (suc i) = named_listed hs i

told_named : (hs : List HostRecord) (l : Line) → told_line (names_of_hosts hs) l ≡ named hs l
told_named hs l = ap (λ (name : List ℕ). let line : LogLine = record { time = l.time; host = name; act = l.act; packet = l.packet } in line) (named_listed hs l.host.index)

lines_told : (hs : List HostRecord) (lines : List Line) → map (told_line (names_of_hosts hs)) lines ≡ map (named hs) lines
lines_told hs [] = refl
lines_told hs (l ∷ lines) = ap (λ (k : LogLine). k ∷ map (told_line (names_of_hosts hs)) lines) (told_named hs l) ∙ ap (λ (ls : List LogLine). named hs l ∷ ls) (lines_told hs lines)

pub log_of_world : (w : World) → log_grown (names_in w) (lines_of w.log) ≡ log_file w
log_of_world w = ap (λ (ls : List LogLine). in_log (flat_map log_line ls)) (lines_told w.hosts (lines_of w.log))

unmet_processes : (h : HostRecord) (p : ℕ) (rows : List ProcessRow) → by_process (rest.unmet_of_process h.row.name (map state_of h.processes)) p (map listed_process rows) ≡ unmet_from h p rows
unmet_processes h p [] = refl
unmet_processes h p (row ∷ rows) =
    ap (λ (l : List Put). rest.unmet_of_process h.row.name (map state_of h.processes) p (listed_process row) ++ l) (unmet_processes h (p + 1) rows)
    ∙ ap (λ (s : State). unmet_by h.row.name (program_of row.path) (first_id + p) (expected_state row.expected) s ++ unmet_from h (p + 1) rows) (state_of_host h p)

unmet_hosts : (hs : List HostRecord) → rest.unmet_of_hosts (names_of_hosts hs) (states_by hs) ≡ flat_map host_unmet hs
unmet_hosts [] = refl
unmet_hosts (h ∷ hs) =
    ap (λ (l : List Put). l ++ rest.unmet_of_hosts (names_of_hosts hs) (states_by hs)) (unmet_processes h 0 h.row.processes) ∙ ap (λ (l : List Put). host_unmet h ++ l) (unmet_hosts hs)

-- what is told at the end of a world is what a run shows
pub unmet_of_world : (w : World) → rest.unmet_of_hosts (names_in w) (states_in w) ≡ unmet w
unmet_of_world w = unmet_hosts w.hosts

summary_of_world : (load : Bool) (w : World) → summary_rest (summary_in load w) ≡ summary load w
summary_of_world true w = refl
summary_of_world false w = refl

pub ending_of_world : (load : Bool) (w : World) → ending (names_in w) (states_in w) (summary_in load w) ≡ (target.File log_name, []) ∷ (unmet w ++ summary load w)
ending_of_world load w =
    ap (λ (l : List Put). in_log [] ∷ (l ++ summary_rest (summary_in load w))) (unmet_of_world w) ∙ ap (λ (l : List Put). in_log [] ∷ (unmet w ++ l)) (summary_of_world load w)

-- ---- nothing of it is in a file

not_in_file : (name host program : List ℕ) (pid : ℕ) (expected state : State) → is_touched (target.File name) (unmet_by host program pid expected state) ≡ false
not_in_file name host program pid expected state = go (meets expected state) where
  go : (b : Bool) → is_touched (target.File name) (if b then [] else (target.Err, unmet_line (process_text host program pid) (state_text state) (state_text expected)) ∷ []) ≡ false
  go true = refl
  go false = refl

neither : (at : SinkTarget) (ps qs : List Put) → is_touched at ps ≡ false → is_touched at qs ≡ false → is_touched at (ps ++ qs) ≡ false
neither at ps qs p q = touched_append at ps qs ∙ ap (λ (b : Bool). b || is_touched at qs) p ∙ q

unmet_in_no_file : (name : List ℕ) (h : HostRecord) (p : ℕ) (rows : List ProcessRow) → is_touched (target.File name) (unmet_from h p rows) ≡ false
unmet_in_no_file name h p [] = refl
unmet_in_no_file name h p (row ∷ rows) =
    neither (target.File name) (process_unmet h p row) (unmet_from h (p + 1) rows) (not_in_file name h.row.name (program_of row.path) (first_id + p) (expected_state row.expected) (process_state p h))
    (unmet_in_no_file name h (p + 1) rows)

all_in_no_file : (name : List ℕ) (hs : List HostRecord) → is_touched (target.File name) (flat_map host_unmet hs) ≡ false
all_in_no_file name [] = refl
all_in_no_file name (h ∷ hs) = neither (target.File name) (host_unmet h) (flat_map host_unmet hs) (unmet_in_no_file name h 0 h.row.processes) (all_in_no_file name hs)

summary_in_no_file : (name : List ℕ) (load : Bool) (w : World) → is_touched (target.File name) (summary load w) ≡ false
summary_in_no_file name true w = refl
summary_in_no_file name false w = refl

-- ---- the pieces of a run

rest_bytes : (b : Bool) (text others : List ℕ) → (if b then text else []) ++ others ≡ ((if b then text else []) ++ []) ++ ((if b then [] else []) ++ others)
rest_bytes true text others = ap (λ (l : List ℕ). l ++ others) (sym (append-nil text))
rest_bytes false text others = refl

or_more : (b c : Bool) → (b || false) ≡ true → (b || c) ≡ true
or_more true c e = refl
or_more false c e = absurd (cc)

log_and_rest : (at : SinkTarget) (text : List ℕ) (others : List Put) → Splits at (in_log text ∷ []) (in_log [] ∷ others) (in_log text ∷ others)
log_and_rest at text others = record {
  bytes = rest_bytes (is_target (target.File log_name) at) text (bytes_at at others);
  first = λ e. or_more (is_target (target.File log_name) at) (is_touched at others) e;
  second = refl;
}

-- the third has at each target the bytes of the first and then those of the second; the first puts at targets of the third, and the second at
-- all of them but those of what is kept
pub record Completes (at : SinkTarget) (kept xs ys zs : List Put) : Type 0 where
  pub bytes : bytes_at at zs ≡ bytes_at at xs ++ bytes_at at ys
  pub first : is_touched at xs ≡ true → is_touched at zs ≡ true
  pub second : is_touched at kept ≡ false → is_touched at ys ≡ is_touched at zs

pub around : (at : SinkTarget) (xs kept ys : List Put) → bytes_at at (xs ++ (kept ++ ys)) ≡ bytes_at at xs ++ (bytes_at at kept ++ bytes_at at ys)
around at xs kept ys = bytes_at_append at xs (kept ++ ys) ∙ ap (λ (l : List ℕ). bytes_at at xs ++ l) (bytes_at_append at kept ys)

around_touched : (at : SinkTarget) (xs kept ys : List Put) → is_touched at (xs ++ (kept ++ ys)) ≡ (is_touched at kept || is_touched at (xs ++ ys))
around_touched at xs kept ys =
    touched_append at xs (kept ++ ys) ∙ ap (λ (b : Bool). is_touched at xs || b) (touched_append at kept ys)
    ∙ swap (is_touched at xs) (is_touched at kept) (is_touched at ys) ∙ ap (λ (b : Bool). is_touched at kept || b) (sym (touched_append at xs ys)) where
      swap : (x c y : Bool) → (x || (c || y)) ≡ (c || (x || y))
      swap true true y = refl
      swap true false y = refl
      swap false c y = refl

-- nothing is put by either of two lists
neither_bytes : (at : SinkTarget) (ps qs : List Put) → is_touched at (ps ++ qs) ≡ false → (bytes_at at ps ≡ []) × (bytes_at at qs ≡ [])
neither_bytes at ps qs none = go (is_touched at ps) (is_touched at qs) refl refl (sym (touched_append at ps qs) ∙ none) where
  go : (a b : Bool) → is_touched at ps ≡ a → is_touched at qs ≡ b → (a || b) ≡ false → (bytes_at at ps ≡ []) × (bytes_at at qs ≡ [])
  go true b x y e = absurd (cc)
  go false true x y e = absurd (cc)
  go false false x y e = (untouched_bytes at ps x, untouched_bytes at qs y)

-- what is whole already, at targets of its own, in the middle of two lists that are completed
module _ (at : SinkTarget) (kept xs xs' ys zs zs' : List Put) (s : Splits at (xs ++ xs') ys (zs ++ zs')) (apart : is_touched at kept ≡ true → is_touched at (zs ++ zs') ≡ true → ⊥) where
  not_touched : (b : Bool) → is_touched at (zs ++ zs') ≡ b → is_touched at kept ≡ true → is_touched at (zs ++ zs') ≡ false
  not_touched true e here = absurd (apart here e)
  not_touched false e here = e

  not_first : (b : Bool) → is_touched at (xs ++ xs') ≡ b → is_touched at (zs ++ zs') ≡ false → is_touched at (xs ++ xs') ≡ false
  not_first true e none = absurd (let f : true ≡ false = sym (s.first e) ∙ none in cc)
  not_first false e none = e

  bytes_kept : (b : Bool) → is_touched at kept ≡ b → bytes_at at (zs ++ (kept ++ zs')) ≡ bytes_at at (xs ++ (kept ++ xs')) ++ bytes_at at ys
  bytes_kept true here =
      let none = not_touched (is_touched at (zs ++ zs')) refl here in
      let z = neither_bytes at zs zs' none in
      let x = neither_bytes at xs xs' (not_first (is_touched at (xs ++ xs')) refl none) in
      let y = untouched_bytes at ys (s.second ∙ none) in
      let k = bytes_at at kept in
      around at zs kept zs' ∙ ap (λ (l : List ℕ). l ++ (k ++ bytes_at at zs')) z.0 ∙ ap (λ (l : List ℕ). k ++ l) z.1
      ∙ sym (ap (λ (l : List ℕ). l ++ bytes_at at ys) (around at xs kept xs') ∙ ap (λ (l : List ℕ). (l ++ (k ++ bytes_at at xs')) ++ bytes_at at ys) x.0
      ∙ ap (λ (l : List ℕ). (k ++ l) ++ bytes_at at ys) x.1 ∙ ap (λ (l : List ℕ). (k ++ []) ++ l) y ∙ append-nil (k ++ []))
  bytes_kept false none =
      let k = untouched_bytes at kept none in
      around at zs kept zs' ∙ ap (λ (l : List ℕ). bytes_at at zs ++ (l ++ bytes_at at zs')) k ∙ sym (bytes_at_append at zs zs') ∙ s.bytes
      ∙ ap (λ (l : List ℕ). l ++ bytes_at at ys) (bytes_at_append at xs xs' ∙ ap (λ (l : List ℕ). bytes_at at xs ++ (l ++ bytes_at at xs')) (sym k) ∙ sym (around at xs kept xs'))

  first-kept : (b c : Bool) → is_touched at kept ≡ b → is_touched at (xs ++ xs') ≡ c → (b || c) ≡ true → (b || is_touched at (zs ++ zs')) ≡ true
  first-kept true c e f t = refl
  first-kept false true e f t = s.first f
  first-kept false false e f t = absurd (cc)

  pub completes_around : Completes at kept (xs ++ (kept ++ xs')) ys (zs ++ (kept ++ zs'))
  completes_around = record {
    bytes = bytes_kept (is_touched at kept) refl;
    first = λ e. around_touched at zs kept zs' ∙ first-kept (is_touched at kept) (is_touched at (xs ++ xs')) refl refl (sym (around_touched at xs kept xs') ∙ e);
    second = λ none. s.second ∙ sym (around_touched at zs kept zs' ∙ ap (λ (b : Bool). b || is_touched at (zs ++ zs')) none);
  }

-- what grew and what is put at the end are the pieces of a run
module _ (at : SinkTarget) (load : Bool) (w : World) (own : AreOwn (names_in w)) where
  abbrev names : List HostNames
  names = names_in w

  abbrev written : List (List Output)
  written = written_by w.hosts

  abbrev states : List (List State)
  states = states_by w.hosts

  abbrev others : List Put
  others = unmet w ++ summary load w

  hosts : Splits at (hosts_grown names written) (rest.hosts_rest names states) (flat_map host_files w.hosts)
  hosts = whole_hosts at w.hosts own

  -- a file isn't on the console
  in_no_file : (name : List ℕ) → at ≡ target.File name → is_touched at others ≡ true → ⊥
  in_no_file name is e =
      let none : is_touched at others ≡ false = subst (λ (p : SinkTarget). is_touched p others ≡ false) (sym is) (neither _ (unmet w) (summary load w) (all_in_no_file _ w.hosts) (summary_in_no_file _ load w)) in
      let e2 : true ≡ false = sym e ∙ none in
      cc

  file_of : is_touched at (flat_map host_files w.hosts) ≡ true → (name : List ℕ) × (to : ℕ) × IsFileOf name 0 to at
  file_of here = some_file at rest.host_rest (file_rest at) names states own (hosts.second ∙ here)

  log_or : {P : Type 0} (b c : Bool) → is_target (target.File log_name) at ≡ b → is_touched at others ≡ c → (b || c) ≡ true → (at ≡ target.File log_name → P) → (is_touched at others ≡ true → P) → P
  log_or true c e f t first second = first (target_of_file log_name at e)
  log_or false true e f t first second = second f
  log_or false false e f t first second = absurd (cc)

  whole_files : Splits at (hosts_grown names written ++ (log_file w ∷ [])) (rest.hosts_rest names states ++ (in_log [] ∷ others)) (flat_map host_files w.hosts ++ (log_file w ∷ others))
  whole_files = splits_append at (hosts_grown names written) (rest.hosts_rest names states) (flat_map host_files w.hosts) (log_file w ∷ []) (in_log [] ∷ others) (log_file w ∷ others)
      hosts (log_and_rest at (flat_map log_line (named_log w)) others)
      (λ here log.
      let file = file_of here in
      log_or (is_target (target.File log_name) at) (is_touched at others) refl refl log (no_log at file) (in_no_file _ file.2.named.is))

  capture_apart : is_touched at (captures_in w) ≡ true → is_touched at (flat_map host_files w.hosts ++ (log_file w ∷ others)) ≡ true → ⊥
  capture_apart here other =
      let capture = some_capture at head 0 names (lines_of w.log) here in
      in_either at (flat_map host_files w.hosts) (log_file w ∷ others) other (λ file. no_file_capture at capture (file_of file))
      (λ log. log_or (is_target (target.File log_name) at) (is_touched at others) refl refl log (no_log_capture at capture) (in_no_file _ capture.1.is))

  pub whole_run : Completes at (captures_in w) (grown_in w) (rest_in load w) (run_pieces load w)
  whole_run = subst (λ (put : Put). Completes at (captures_in w) (hosts_grown names written ++ (captures_in w ++ (put ∷ []))) (rest_in load w) (run_pieces load w)) (sym (log_of_world w))
      (subst (λ (l : List Put). Completes at (captures_in w) (hosts_grown names written ++ (captures_in w ++ (log_file w ∷ []))) (rest.hosts_rest names states ++ l) (run_pieces load w)) (sym (ending_of_world load w))
      (completes_around at (captures_in w) (hosts_grown names written) (log_file w ∷ []) (rest.hosts_rest names states ++ (in_log [] ∷ others)) (flat_map host_files w.hosts) (log_file w ∷ others) whole_files capture_apart))
