use Rattle.std.proofs.Common.{◌≡◌, List, map, ◌++◌, sym, ap, subst, ◌∙◌, append-nil}
use Rattle.std.specs.Prelude.{OnOk}
use Rattle.run_files.specs.Captured.{all_captures, captured_from, host_captures, no_head}
use Rattle.run_files.specs.Files.{Put, put_of}
use Rattle.run_files.specs.Grown.{with_bytes}
use Rattle.run_files.specs.Listed.{by_host, said}
use Rattle.run_files.specs.declared.capture.Captured.{Captured}
use Rattle.run_files.specs.declared.listed.HostListing.{HostListing}
use Rattle.host_link.specs.Logs.{kept_lines}
use Rattle.run_files.proofs.Capturing.{none_captures}
use Rattle.run_files.proofs.capture.push_captures.Goals as goal

pub returns-then-not-listing : goal.returns-then-not-listing
returns-then-not-listing c =
    let listing = c.args.listing.now in
    let pieces = map put_of c.args.pieces.now.items in
    let none = sym listing.told ∙ c.if-not-listing.true in
    sym (append-nil pieces) ∙ ap (λ (l : List Put). pieces ++ with_bytes l) (sym (none_captures no_head listing.hosts.items (captured_from 0 (map said listing.hosts.items) (kept_lines c.args.lines.now)) none))

pub returns : goal.returns
returns c =
    let hosts = c.as_slice-hosts.result.now in
    let lines = kept_lines c.args.lines.now in
    let pieces = map put_of c.args.pieces.now.items in
    let more = map put_of c.push_all_captured.new.pieces.items in
    subst (λ (hs : List HostListing). OnOk c.push_all_captured.result (more ≡ pieces ++ with_bytes (all_captures no_head (map said hs) lines))) c.as_slice-hosts.ensures.value
    (subst (λ (cs : List Captured). OnOk c.push_all_captured.result (more ≡ pieces ++ with_bytes (by_host (host_captures no_head) (map said hosts) cs))) c.in_ok-captured.ensures c.push_all_captured.ensures)
