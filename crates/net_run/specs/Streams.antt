-- What is told of connections when a run is over: the line of each direction.
use Rattle.std.specs.Prelude.{ℕ, List, [], ◌∷◌, slice_get, flat_map, Option, Some, None, Bool, true, false}
use Rattle.run_outside.specs.declared.sink.SinkTarget.TheVariants as target
use Rattle.out_text.specs.Streams.{stream_line}
use Rattle.out_text.specs.declared.streams.Stream.{Stream}
use Rattle.run_files.specs.Files.{Put}
use Rattle.run_files.specs.Listed.{HostNames}
use Rattle.host_state.specs.Gains.{names_in}
use Rattle.host_state.specs.WorldStreams.{streams_in}
use Rattle.net_run.specs.World.{World}

abbrev pub name_in : Option HostNames → List ℕ
name_in None = []
name_in (Some host) = host.name

-- a line tells its host by name
abbrev pub told_line : List HostNames → Stream → List ℕ
told_line hosts s = stream_line (name_in (slice_get hosts s.host.index)) s

abbrev pub told_lines : List HostNames → List Stream → List ℕ
told_lines hosts streams = flat_map (told_line hosts) streams

abbrev pub told_puts : List HostNames → List Stream → List Put
told_puts hosts streams = (target.Out, told_lines hosts streams) ∷ []

-- those of a world, where they are asked for
abbrev pub stream_puts : Bool → World → List Put
stream_puts true w = told_puts (names_in w) (streams_in w)
stream_puts false w = []
