use Rattle.std.proofs.Common.{get_or, refl}
use Rattle.net_routes.proofs.table.Routes.latency_between.Goals as goal

pub get-requires : goal.get-requires
get-requires c =
    let nodes = c.args.nodes.now in
    c.requires.routes (get_or nodes c.args.host 0) (get_or nodes c.args.other 0) (record {
      first = c.args.host;
      second = c.args.other;
      others = c.if-host-other.false;
      from = record { within = c.requires.host; is = refl };
      to = record { within = c.requires.other; is = refl };
    })
