use Rattle.host_state.specs.Fire.{fire}
use Rattle.host_link.specs.Home.{home}
use Rattle.run_streams.proofs.Every.{every_member}
use Rattle.run_streams.proofs.HomeLinks.{IsLineOf}
use Rattle.run_streams.proofs.Homes.{past_network, on_network, lines_tell}
use Rattle.run_streams.proofs.Logging.{was_logged}
use Rattle.run_streams.proofs.packets_stay.Goals as goal

pub returns : goal.returns
returns c = record {
  past = λ net rows w e p h are reached there is at. past_network net rows are w e p h reached there is at;
  network = λ net rows w e p own are reached there is. on_network net rows are w e p own reached there is;
  lines = λ net rows w e h line are reached there at c.
      (every_member (IsLineOf (home net e) h.row.address e.what) (fire net h e).lines line (lines_tell net rows are w e h reached there at) c).1;
  log = λ net rows w l are reached c. was_logged net rows are w l reached c;
}
