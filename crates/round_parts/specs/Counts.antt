-- What the lines of a packet log come to.
use Rattle.std.specs.Prelude.{ℕ, List, Bool, min, count_by}
use Rattle.sim_base.specs.Units.{max_u64}
use Rattle.sim_base.specs.declared.act.Act.{Act}
use Rattle.host_link.specs.declared.line.Line.{Line}
use Rattle.out_text.specs.Summary.{is_send, is_lost, is_recv}
use Rattle.round_parts.specs.declared.counts.Counts.{Counts}

-- how many lines tell such an act, at most 2^64 - 1
abbrev pub acts_counted : (Act → Bool) → List Line → ℕ
acts_counted is_one lines = min (count_by (λ (line : Line). is_one line.act) lines) max_u64

-- how many lines tell `send`, `lost` and `recv`
abbrev pub counts_of : List Line → Counts
counts_of lines = record {
  sent = acts_counted is_send lines;
  lost = acts_counted is_lost lines;
  received = acts_counted is_recv lines;
}
