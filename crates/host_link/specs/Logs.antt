-- Packet logs without the keys of their lines.
use Rattle.std.specs.Prelude.{List, map}
use Rattle.world_order.specs.World.{Logged}
use Rattle.host_link.specs.declared.line.Line.{Line}
use Rattle.host_link.specs.declared.line.Logged.{Logged as LoggedLine}

-- the lines of a log, without their keys
abbrev pub lines_of : List (Logged Line) → List Line
lines_of log = map (λ (l : Logged Line). l.line) log

abbrev pub kept_lines : List LoggedLine → List Line
kept_lines log = map (λ (l : LoggedLine). l.line) log
