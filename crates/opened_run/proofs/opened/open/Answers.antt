use Rattle.std.proofs.Common.{rules}
use Rattle.opened_run.specs.Opened.{Opens}
use Rattle.opened_run.specs.declared.opened.Opened.{Opened}
use Rattle.opened_run.proofs.OpenedLemmas.{opened_fits}
use Rattle.opened_run.proofs.opened.open.Goals as goal

pub returns-clause-opened : goal.returns-clause-opened
returns-clause-opened c =
    let opened : Opened = record {
      directory = c.args.run.plan.settings.data_directory;
      notes = c.args.run.plan.settings.notes;
      is_self_load = c.args.run.is_self_load;
      streams = c.args.run.streams;
      parallelism = c.args.run.plan.settings.parallelism;
      lookahead = c.cut_lookahead.result;
      rows = c.in_ok-rows.rows;
      net = record {
        routes = c.args.run.plan.routes;
        known = c.in_ok-known.known;
        nodes = c.from.result;
        bootstrap_end = c.args.run.plan.settings.bootstrap_end_time;
        stop = c.args.run.plan.settings.stop_time;
        budget = c.from-2.result;
        images = c.from-3.result;
      };
    } in
    let opens : Opens c.args.run opened = search rules in opened_fits c.args.run opened c.requires.limits c.requires.routed c.requires.apart opens
