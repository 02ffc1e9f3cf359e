-- what the acts of a host want, in the order of the acts: packets to send, and alarms with a serial each
use Rattle.std.specs.Prelude.{ℕ, ◌+◌, min, List, [], ◌∷◌, ◌++◌, map}
use Rattle.sim_base.specs.Units.{longest_wait, max_u64}
use Rattle.sim_base.specs.declared.alarm.AlarmTarget.{AlarmTarget}
use Rattle.sim_base.specs.declared.packet.Packet.{Packet}
use Rattle.sim_base.specs.declared.time.Time.{Time}
use Rattle.host_draws.specs.Draws.{draw}
use Rattle.host_wants.specs.declared.outlet.Want.{Want}
use Rattle.host_wants.specs.declared.outlet.Want.TheVariants.{Send, Alarm}

-- the state of the host's generator, what is wanted, and the last serial that an alarm was given
pub record Wanted : Type 0 where
  pub draws : List ℕ
  pub wants : List Want
  pub serial : ℕ

abbrev pub nothing_wanted : List ℕ → Wanted
nothing_wanted draws = record { draws = draws; wants = []; serial = 0 }

abbrev pub without_wants : Wanted → Wanted
without_wants w = record w { wants = [] }

-- the word that is drawn next, and what stands after it
abbrev pub draws_word : Wanted → ℕ × Wanted
draws_word w = ((draw w.draws).0, record w { draws = (draw w.draws).1 })

-- packets, one after another
abbrev pub sends : List Packet → Wanted → Wanted
sends packets w = record w { wants = w.wants ++ map Send packets }

-- serials count on from 1, and stand still at their type's end
abbrev pub next_serial : Wanted → ℕ
next_serial w = min (w.serial + 1) max_u64

-- an alarm of a target at a moment, with its serial
abbrev pub wants_alarm : AlarmTarget → Time → Wanted → ℕ × Wanted
wants_alarm target due w =
    (next_serial w, record w { wants = w.wants ++ Alarm target (next_serial w) due ∷ []; serial = next_serial w })

-- a moment later by a length, the last one there is at most
abbrev pub due_after : Time → Time → Time
due_after now length = record { nanos = min (now.nanos + length.nanos) longest_wait }
