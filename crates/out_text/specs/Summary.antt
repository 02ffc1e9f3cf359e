-- What a run sent, lost and received.
use Rattle.std.specs.Prelude.{ℕ, List, ◌++◌, Bool, true, false, min, count_by, codes}
use Rattle.std.specs.Fmt.{decimal}
use Rattle.sim_base.specs.Units.{max_u64}
use Rattle.sim_base.specs.declared.act.Act.{Act}
use Rattle.sim_base.specs.declared.act.Act.TheVariants.{Send, Lost, Recv}
use Rattle.out_text.specs.Log.{LogLine}
use Rattle.out_text.specs.declared.summary.Summary.{Summary}

abbrev pub is_send : Act → Bool
is_send Send = true
is_send _ = false

abbrev pub is_lost : Act → Bool
is_lost Lost = true
is_lost _ = false

abbrev pub is_recv : Act → Bool
is_recv Recv = true
is_recv _ = false

-- how many lines of the log tell such an act, at most 2^64 - 1
abbrev pub acts_counted : (Act → Bool) → List LogLine → ℕ
acts_counted is_one log = min (count_by (λ (line : LogLine). is_one line.act) log) max_u64

-- the summary of a log, for a run of so many hosts
abbrev pub summary_of : ℕ → List LogLine → Summary
summary_of hosts log = record {
  hosts = hosts;
  sent = acts_counted is_send log;
  lost = acts_counted is_lost log;
  received = acts_counted is_recv log;
}

-- hosts N sent S lost L received R
abbrev pub summary_line : Summary → List ℕ
summary_line s = codes "hosts " ++ (decimal s.hosts ++ (codes " sent " ++ (decimal s.sent
    ++ (codes " lost " ++ (decimal s.lost ++ (codes " received " ++ (decimal s.received ++ codes "\n")))))))
