use Rattle.std.proofs.Common.{map}
use Rattle.run_files.specs.Files.{put_of}
use Rattle.net_run.proofs.ListingLemmas.{heads_two}
use Rattle.net_run.proofs.heads.push_heads.Goals as goal

pub returns : goal.returns
returns c =
    heads_two (map put_of c.args.pieces.now.items) (map put_of c.push_head.new.pieces.items) (map put_of c.push_head-2.new.pieces.items) c.args.host.now.name c.as_str-name.result.now c.in-Some.size c.args.host.now.capture
    c.in-Some.is c.as_str-name.ensures c.in_ok-push_head.ensures c.in_ok-push_head-2.ensures
