use Rattle.std.proofs.Common.{◌≡◌, ◌+◌, ◌++◌, List, length, map, sym, ap, ◌∙◌, arith, append_assoc, append-nil}
use Rattle.std.proofs.lemmas.List.{length-map}
use Rattle.file_calls.specs.declared.task.Output.{Output}
use Rattle.run_files.specs.Files.{Put, put_of}
use Rattle.run_files.specs.Grown.{host_grown, hosts_grown, with_bytes}
use Rattle.run_files.specs.Listed.{said}
use Rattle.run_files.specs.Written.{written_in}
use Rattle.run_files.specs.declared.listed.HostListing.{HostListing}
use Rattle.run_files.specs.declared.piece.Piece.{Piece}
use Rattle.run_files.specs.declared.written.HostWritten.{HostWritten}
use Rattle.run_files.proofs.Listings.{bytes_by_host}
use Rattle.run_files.proofs.Writings.{put_by, left_of, puts_left, row_is, row_within, count_next, puts_next, puts_end}
use Rattle.run_files.proofs.growing.output_pieces.Goals as goal

pub loop-host-init : goal.loop-host-init
loop-host-init c =
    let hosts = c.as_slice-hosts.result.now in
    let written = c.args.written.now in
    let all : length (left_of hosts written 0) ≡ length hosts = c.requires ∙ length-map c.args.listing.now.hosts.items said ∙ sym (ap length c.as_slice-hosts.ensures.value) in
    record {
      count = omega (arith, all);
      puts = ap (λ (l : List Piece). map put_of l ++ puts_left hosts written 0 0) c.new-pieces.ensures.items;
    }

pub overflow_add-at : goal.overflow_add-at
overflow_add-at c =
    let row = row_is c.args.written.now.hosts.items c.as_slice-host-items.result.now c.loop-host.host-index c.host-item.result c.as_slice-host-items.ensures.value c.loop-host-test.true c.host-item.is in
    let within = row_within c.as_slice-hosts.result.now c.args.written.now c.loop-host.host-index c.host-item.result row.0 row.1 c.loop-host.place c.loop-host.invariant.count in
    let same = ap length c.as_slice-hosts.ensures.value in
    omega (arith, within, same, c.args.listing.now.hosts.small)

pub bounds-hosts-at : goal.bounds-hosts-at
bounds-hosts-at c =
    let row = row_is c.args.written.now.hosts.items c.as_slice-host-items.result.now c.loop-host.host-index c.host-item.result c.as_slice-host-items.ensures.value c.loop-host-test.true c.host-item.is in
    row_within c.as_slice-hosts.result.now c.args.written.now c.loop-host.host-index c.host-item.result row.0 row.1 c.loop-host.place c.loop-host.invariant.count

pub overflow_add-place : goal.overflow_add-place
overflow_add-place c =
    let row = row_is c.args.written.now.hosts.items c.as_slice-host-items.result.now c.loop-host.host-index c.host-item.result c.as_slice-host-items.ensures.value c.loop-host-test.true c.host-item.is in
    let within = row_within c.as_slice-hosts.result.now c.args.written.now c.loop-host.host-index c.host-item.result row.0 row.1 c.loop-host.place c.loop-host.invariant.count in
    let same = ap length c.as_slice-hosts.ensures.value in
    omega (arith, within, same, c.args.listing.now.hosts.small)

pub loop-host-preserved : goal.loop-host-preserved
loop-host-preserved c =
    let i = c.loop-host.host-index in
    let host : HostWritten = c.host-item.result in
    let hosts = c.as_slice-hosts.result.now in
    let written = c.args.written.now in
    let place = c.loop-host.place in
    let at = place + host.silent in
    let listing : HostListing = c.index-hosts-at.result in
    let row = row_is written.hosts.items c.as_slice-host-items.result.now i host c.as_slice-host-items.ensures.value c.loop-host-test.true c.host-item.is in
    let count = c.loop-host.invariant.count in
    let old = map put_of c.loop-host.pieces.items in
    let here = put_by (said listing) host.outputs.items in
    let left = puts_left hosts written (at + 1) (i + 1) in
    record {
      count = count_next hosts written i host row.0 row.1 place count;
      puts = ap (λ (l : List Put). l ++ left) (c.in_ok-push_outputs.ensures ∙ ap (λ (l : List Output). old ++ put_by (said listing) l) c.as_slice.ensures.value)
          ∙ append_assoc old here left
          ∙ ap (λ (l : List Put). old ++ l) (sym (puts_next hosts written i host row.0 row.1 place listing (row_within hosts written i host row.0 row.1 place count) c.index-hosts-at.is))
          ∙ c.loop-host.invariant.puts;
    }

pub returns : goal.returns
returns c =
    let hosts = c.as_slice-hosts.result.now in
    let written = c.args.written.now in
    let old = map put_of c.loop-host.pieces.items in
    let all = ap length c.as_slice-host-items.ensures.value in
    sym (append-nil old)
    ∙ ap (λ (l : List Put). old ++ l) (sym (puts_end hosts written c.loop-host.place c.loop-host.host-index (let e = c.loop-host-test.false in omega (arith, all))))
    ∙ c.loop-host.invariant.puts ∙ bytes_by_host host_grown (map said hosts) (written_in written)
    ∙ ap (λ (hs : List HostListing). with_bytes (hosts_grown (map said hs) (written_in written))) c.as_slice-hosts.ensures.value
