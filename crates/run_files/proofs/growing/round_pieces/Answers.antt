use Rattle.std.proofs.Common.{◌≡◌, [], ◌∷◌, ◌++◌, List, map, sym, ap, ◌∙◌, append_assoc}
use Rattle.file_calls.specs.declared.task.Output.{Output}
use Rattle.run_files.specs.Captured.{all_captures, no_head}
use Rattle.run_files.specs.Files.{Put, put_of}
use Rattle.run_files.specs.Grown.{hosts_grown, log_grown, all_grown, with_bytes}
use Rattle.run_files.specs.Listed.{HostNames, said, names_of}
use Rattle.run_files.specs.Written.{written_in}
use Rattle.host_link.specs.Logs.{kept_lines}
use Rattle.run_files.specs.declared.listed.HostListing.{HostListing}
use Rattle.host_link.specs.declared.line.Line.{Line}
use Rattle.host_link.specs.declared.line.Logged.{Logged}
use Rattle.run_files.proofs.Listings.{with_bytes_append}
use Rattle.run_files.proofs.growing.round_pieces.Goals as goal

-- the pieces of hosts, those of their captures, and those of the log
parts : (names : List HostNames) (outputs : List (List Output)) (lines : List Line)
    → (with_bytes (hosts_grown names outputs) ++ with_bytes (all_captures no_head names lines)) ++ with_bytes (log_grown names lines ∷ []) ≡ with_bytes (all_grown names outputs lines)
parts names outputs lines =
    let captures = all_captures no_head names lines in
    append_assoc (with_bytes (hosts_grown names outputs)) (with_bytes captures) (with_bytes (log_grown names lines ∷ []))
    ∙ ap (λ (l : List Put). with_bytes (hosts_grown names outputs) ++ l) (sym (with_bytes_append captures (log_grown names lines ∷ [])))
    ∙ sym (with_bytes_append (hosts_grown names outputs) (captures ++ (log_grown names lines ∷ [])))

pub returns-clause-pieces : goal.returns-clause-pieces
returns-clause-pieces g c =
    let names = names_of c.args.listing.now in
    let outputs = written_in c.args.written.now in
    let lines = kept_lines c.args.lines.items in
    c.in_ok-push_lines.ensures
    ∙ ap (λ (hs : List HostListing). map put_of c.push_captures.new.pieces.items ++ with_bytes (log_grown (map said hs) lines ∷ [])) c.as_slice-hosts.ensures.value
    ∙ ap (λ (l : List Put). l ++ with_bytes (log_grown names lines ∷ []))
    (c.in_ok-push_captures.ensures
    ∙ ap (λ (ls : List Logged). map put_of c.in_ok-pieces.pieces.items ++ with_bytes (all_captures no_head names (kept_lines ls))) c.deref-2.ensures.value
    ∙ ap (λ (l : List Put). l ++ with_bytes (all_captures no_head names lines)) c.in_ok-pieces.ensures)
    ∙ parts names outputs lines
