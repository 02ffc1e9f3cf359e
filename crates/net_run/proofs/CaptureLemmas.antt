-- The captures of hosts: each is of one host and one interface, and they grow with the lines of the packet log.
use Rattle.std.proofs.Common.{◌≡◌, ℕ, ◌+◌, Bool, true, false, ◌&&◌, List, [], ◌∷◌, ◌++◌, map, Option, Some, None, refl, sym, ap, subst, ◌∙◌, append_assoc, append-nil}
use Rattle.std.specs.Prelude.{◌||◌, flat_map}
use Rattle.std.specs.List.{AllByRecursion, filter}
use Rattle.std.specs.Str.{bytes_eq}
use Rattle.std.proofs.lemmas.Grind.{flat_map-append}
use Rattle.std.proofs.lemmas.List.Elements.{filter-append}
use Rattle.std.proofs.lemmas.Slice.Eq.{bytes_eq-Decides}
use Rattle.sim_base.specs.declared.address.Ip.{Ip}
use Rattle.run_outside.specs.declared.sink.SinkTarget.{SinkTarget}
use Rattle.run_outside.specs.declared.sink.SinkTarget.TheVariants as target
use Rattle.out_text.specs.Files.{capture_name}
use Rattle.pcap_text.specs.Writing.{head}
use Rattle.run_files.specs.Captured.{capture_files, files_by, host_captures, captured_by, captured_from, no_head}
use Rattle.run_files.specs.Captures.{is_at, is_on_eth0, is_on_lo, eth0_of, lo_of, line_record, records_of}
use Rattle.run_files.specs.Files.{Put}
use Rattle.run_files.specs.Listed.{HostNames, by_host}
use Rattle.run_files.specs.declared.capture.Captured.{Captured}
use Rattle.host_link.specs.declared.line.Line.{Line}
use Rattle.net_run.specs.Heads.{heads_by, all_heads}
use Rattle.net_run.specs.Targets.{is_target, is_touched}
use Rattle.net_run.proofs.FileLemmas.{target_of_file, same_target}
use Rattle.net_run.proofs.GrowthLemmas.{more_bytes}
use Rattle.net_run.proofs.HostLemmas.{AreOwn}
use Rattle.net_run.proofs.NameLemmas.{same_capture}
use Rattle.net_run.proofs.SplitLemmas.{touched_append, Splits, splits_append}

-- ---- one host

-- a capture of a host
pub record IsCapture (host : List ℕ) (at : SinkTarget) : Type 0 where
  pub loopback : Bool
  pub is : at ≡ target.File (capture_name host loopback)

module _ (at : SinkTarget) (host : List ℕ) where
  abbrev at_capture : Bool → Bool
  at_capture loopback = is_target (target.File (capture_name host loopback)) at

  touched_files : (x y : List ℕ) → is_touched at (capture_files host x y) ≡ true → IsCapture host at
  touched_files x y e = go (at_capture false) (at_capture true) refl refl e where
    go : (i j : Bool) → at_capture false ≡ i → at_capture true ≡ j → (i || (j || false)) ≡ true → IsCapture host at
    go true j a b t = record { loopback = false; is = target_of_file (capture_name host false) at a }
    go false true a b t = record { loopback = true; is = target_of_file (capture_name host true) at b }
    go false false a b t = absurd (cc)

  not_both_is : at_capture false ≡ true → at_capture true ≡ true → ⊥
  not_both_is i j =
      let name : capture_name host false ≡ capture_name host true = same_target _ _ at (target_of_file _ at i) (target_of_file _ at j) in
      let same : false ≡ true = (same_capture host host false true name).1 in
      cc

  more_files : (a b x y : List ℕ) → Splits at (capture_files host a b) (capture_files host x y) (capture_files host (a ++ x) (b ++ y))
  more_files a b x y = record { bytes = more_bytes (at_capture false) (at_capture true) a b x y not_both_is; first = λ e. e; second = refl }

  touched_by : (front : ℕ → List ℕ) (c : Captured) (o : Option ℕ) → is_touched at (files_by front host c o) ≡ true → IsCapture host at
  touched_by front c None e = absurd (cc)
  touched_by front c (Some size) e = touched_files (front size ++ c.eth0) (front size ++ c.lo) e

  same_by : (f g : ℕ → List ℕ) (c d : Captured) (o : Option ℕ) → is_touched at (files_by f host c o) ≡ is_touched at (files_by g host d o)
  same_by f g c d None = refl
  same_by f g c d (Some size) = refl

-- records of lines, and behind them those of more lines
records_append : (size : ℕ) (p : Line → Bool) (xs ys : List Line) → records_of size (filter p (xs ++ ys)) ≡ records_of size (filter p xs) ++ records_of size (filter p ys)
records_append size p xs ys = ap (flat_map (line_record size)) (filter-append p xs ys) ∙ flat_map-append (line_record size) (filter p xs) (filter p ys)

more_by : (at : SinkTarget) (host : List ℕ) (front : ℕ → List ℕ) (number : ℕ) (own : Ip) (xs ys : List Line) (o : Option ℕ)
    → Splits at (files_by front host (captured_by number own xs o) o) (files_by no_head host (captured_by number own ys o) o) (files_by front host (captured_by number own (xs ++ ys) o) o)
more_by at host front number own xs ys None = record { bytes = refl; first = λ e. e; second = refl }
more_by at host front number own xs ys (Some size) =
    subst (λ (zs : List Put). Splits at (capture_files host (front size ++ eth0 xs) (front size ++ lo xs)) (capture_files host (eth0 ys) (lo ys)) zs)
    (ap (λ (z : List ℕ). capture_files host z ((front size ++ lo xs) ++ lo ys)) eth0_more ∙ ap (λ (z : List ℕ). capture_files host (front size ++ eth0 (xs ++ ys)) z) lo_more)
    (more_files at host (front size ++ eth0 xs) (front size ++ lo xs) (eth0 ys) (lo ys)) where
      eth0 : List Line → List ℕ
      eth0 ls = records_of size (eth0_of number own ls)

      lo : List Line → List ℕ
      lo ls = records_of size (lo_of number own ls)

      eth0_more : (front size ++ eth0 xs) ++ eth0 ys ≡ front size ++ eth0 (xs ++ ys)
      eth0_more = append_assoc (front size) (eth0 xs) (eth0 ys) ∙ ap (λ (l : List ℕ). front size ++ l) (sym (records_append size (λ (line : Line). is_at number line && is_on_eth0 own line) xs ys))

      lo_more : (front size ++ lo xs) ++ lo ys ≡ front size ++ lo (xs ++ ys)
      lo_more = append_assoc (front size) (lo xs) (lo ys) ∙ ap (λ (l : List ℕ). front size ++ l) (sym (records_append size (λ (line : Line). is_at number line && is_on_lo own line) xs ys))

-- ---- host by host

abbrev pub captures_from : (ℕ → List ℕ) → ℕ → List HostNames → List Line → List Put
captures_from front number hosts lines = by_host (host_captures front) hosts (captured_from number hosts lines)

module _ (at : SinkTarget) (front : ℕ → List ℕ) where
  -- what is touched is a capture of some host
  pub some_capture : (number : ℕ) (hosts : List HostNames) (lines : List Line) → is_touched at (captures_from front number hosts lines) ≡ true → (name : List ℕ) × IsCapture name at
  some_capture number [] lines e = absurd (cc)
  some_capture number (host ∷ hosts) lines e =
      let c = captured_by number host.address lines host.capture in
      go (is_touched at (files_by front host.name c host.capture)) (is_touched at (captures_from front (number + 1) hosts lines)) refl refl
      (sym (touched_append at (files_by front host.name c host.capture) (captures_from front (number + 1) hosts lines)) ∙ e) (λ later. some_capture (number + 1) hosts lines later) where
        go : (a b : Bool) → is_touched at (files_by front host.name (captured_by number host.address lines host.capture) host.capture) ≡ a → is_touched at (captures_from front (number + 1) hosts lines) ≡ b → (a || b) ≡ true
            → (is_touched at (captures_from front (number + 1) hosts lines) ≡ true → (name : List ℕ) × IsCapture name at) → (name : List ℕ) × IsCapture name at
        go true b here later t behind = (host.name, touched_by at host.name front (captured_by number host.address lines host.capture) host.capture here)
        go false true here later t behind = behind later
        go false false here later t behind = absurd (cc)

  -- a capture of a host isn't one of those behind it
  none_later_captures : (name : List ℕ) (number : ℕ) (hosts : List HostNames) (lines : List Line) → IsCapture name at
      → AllByRecursion (λ (other : List ℕ). bytes_eq name other ≡ false) (map (λ (h : HostNames). h.name) hosts) → is_touched at (captures_from front number hosts lines) ≡ true → ⊥
  none_later_captures name number [] lines capture apart e = cc
  none_later_captures name number (host ∷ hosts) lines capture apart e =
      let c = captured_by number host.address lines host.capture in
      go (is_touched at (files_by front host.name c host.capture)) (is_touched at (captures_from front (number + 1) hosts lines)) refl refl
      (sym (touched_append at (files_by front host.name c host.capture) (captures_from front (number + 1) hosts lines)) ∙ e) (λ later. none_later_captures name (number + 1) hosts lines capture apart.1 later) where
        go : (a b : Bool) → is_touched at (files_by front host.name (captured_by number host.address lines host.capture) host.capture) ≡ a → is_touched at (captures_from front (number + 1) hosts lines) ≡ b → (a || b) ≡ true
            → (is_touched at (captures_from front (number + 1) hosts lines) ≡ true → ⊥) → ⊥
        go true b here later t behind =
            let other = touched_by at host.name front (captured_by number host.address lines host.capture) host.capture here in
            let same : name ≡ host.name = (same_capture name host.name capture.loopback other.loopback (same_target _ _ at capture.is other.is)).0 in
            let is : bytes_eq name host.name ≡ true = (bytes_eq-Decides name host.name).1 same in
            let not : bytes_eq name host.name ≡ false = apart.0 in
            let e2 : true ≡ false = sym is ∙ not in cc
        go false true here later t behind = behind later
        go false false here later t behind = cc

  -- the captures by some lines, and by more lines
  pub more_captures : (number : ℕ) (hosts : List HostNames) (xs ys : List Line) → AreOwn hosts
      → Splits at (captures_from front number hosts xs) (captures_from no_head number hosts ys) (captures_from front number hosts (xs ++ ys))
  more_captures number [] xs ys own = record { bytes = refl; first = λ e. e; second = refl }
  more_captures number (host ∷ hosts) xs ys own =
      splits_append at (here front xs) (here no_head ys) (here front (xs ++ ys)) (captures_from front (number + 1) hosts xs) (captures_from no_head (number + 1) hosts ys) (captures_from front (number + 1) hosts (xs ++ ys))
      (more_by at host.name front number host.address xs ys host.capture) (more_captures (number + 1) hosts xs ys own.2)
      (λ first later. none_later_captures host.name (number + 1) hosts (xs ++ ys) (touched_by at host.name front (captured_by number host.address (xs ++ ys) host.capture) host.capture first) own.1 later) where
        here : (ℕ → List ℕ) → List Line → List Put
        here f lines = files_by f host.name (captured_by number host.address lines host.capture) host.capture

-- ---- heads

heads_of : (host : List ℕ) (number : ℕ) (own : Ip) (o : Option ℕ) → heads_by host o ≡ files_by head host (captured_by number own [] o) o
heads_of host number own None = refl
heads_of host number own (Some size) = ap (λ (bytes : List ℕ). capture_files host bytes bytes) (sym (append-nil (head size)))

-- the heads are what the captures have where no line is
pub heads_are : (number : ℕ) (hosts : List HostNames) → all_heads hosts ≡ captures_from head number hosts []
heads_are number [] = refl
heads_are number (host ∷ hosts) =
    ap (λ (l : List Put). l ++ all_heads hosts) (heads_of host.name number host.address host.capture)
    ∙ ap (λ (l : List Put). files_by head host.name (captured_by number host.address [] host.capture) host.capture ++ l) (heads_are (number + 1) hosts)

-- the captures are at the same targets, whatever stands there
pub same_captures : (at : SinkTarget) (f g : ℕ → List ℕ) (number other : ℕ) (hosts : List HostNames) (xs ys : List Line) → is_touched at (captures_from f number hosts xs) ≡ is_touched at (captures_from g other hosts ys)
same_captures at f g number other [] xs ys = refl
same_captures at f g number other (host ∷ hosts) xs ys =
    touched_append at (files_by f host.name c host.capture) (captures_from f (number + 1) hosts xs)
    ∙ ap (λ (b : Bool). b || is_touched at (captures_from f (number + 1) hosts xs)) (same_by at host.name f g c d host.capture)
    ∙ ap (λ (b : Bool). is_touched at (files_by g host.name d host.capture) || b) (same_captures at f g (number + 1) (other + 1) hosts xs ys)
    ∙ sym (touched_append at (files_by g host.name d host.capture) (captures_from g (other + 1) hosts ys)) where
      c : Captured
      c = captured_by number host.address xs host.capture

      d : Captured
      d = captured_by other host.address ys host.capture

pub heads_touched : (at : SinkTarget) (hosts : List HostNames) (lines : List Line) → is_touched at (all_heads hosts) ≡ is_touched at (captures_from head 0 hosts lines)
heads_touched at hosts lines = ap (is_touched at) (heads_are 0 hosts) ∙ same_captures at head head 0 0 hosts [] lines
