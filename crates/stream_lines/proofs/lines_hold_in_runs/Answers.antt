use Rattle.std.proofs.Common.{◌≡◌, ℕ, ◌≤◌, Bool, Contains, true, refl}
use Rattle.out_text.specs.declared.streams.Fate.TheVariants.{Counted}
use Rattle.out_text.specs.declared.streams.Stream.{Stream}
use Rattle.host_state.specs.World.{World}
use Rattle.host_state.specs.WorldStreams.{streams_in}
use Rattle.run_plan.specs.declared.planned.Run.{Run}
use Rattle.run_streams.proofs.Homes.{run_homed}
use Rattle.run_streams.proofs.Lines.{line_holds}
use Rattle.shadow_top.specs.Input.{Input, IsToRun}
use Rattle.plan_rows.specs.Rows.{rows_of, net_of}
use Rattle.shadow_top.specs.Shown.{IsRunTo}
use Rattle.stream_lines.proofs.Runs.{are_hosts, reached}
use Rattle.stream_lines.proofs.lines_hold_in_runs.Goals as goal

-- one line
record Holds (n m : ℕ) (ended : Bool) : Type 0 where
  most : m ≤ n
  whole : ended ≡ true → m ≡ n

line : (i : Input) (run : Run) (w : World) (s : Stream) (n m : ℕ) (ended : Bool) → IsToRun i run → IsRunTo run w → Contains (streams_in w) s → s.fate ≡ Counted n m ended → Holds n m ended
line i run w s n m ended is result there told =
    let net = net_of run in
    let rows = rows_of run in
    let are = are_hosts i run is in
    let way = reached run w result in
    let holds = line_holds net rows w are way (run_homed net rows are w way) s n m ended there told in record { most = holds.most; whole = holds.whole }

pub returns-clause-most : goal.returns-clause-most
returns-clause-most c = λ i run w s n m ended is result there told. (line i run w s n m ended is result there told).most

pub returns-clause-whole : goal.returns-clause-whole
returns-clause-whole c = λ i run w s n m is result there told. (line i run w s n m true is result there told).whole refl
