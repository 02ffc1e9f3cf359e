-- What pieces put at each target.
use Rattle.std.specs.Prelude.{ℕ, List, [], Bool, true, false, if◌then◌else◌, flat_map}
use Rattle.std.specs.List.{list_any}
use Rattle.std.specs.Str.{bytes_eq}
use Rattle.run_outside.specs.declared.sink.SinkTarget.{SinkTarget}
use Rattle.run_outside.specs.declared.sink.SinkTarget.TheVariants as target
use Rattle.run_files.specs.Files.{Put}

-- whether two targets are one
abbrev pub is_target : SinkTarget → SinkTarget → Bool
is_target target.Out target.Out = true
is_target target.Err target.Err = true
is_target (target.File name) (target.File other) = bytes_eq name other
is_target _ _ = false

-- all bytes that are put at a target, in order
abbrev pub bytes_at : SinkTarget → List Put → List ℕ
bytes_at at puts = flat_map (λ (put : Put). if is_target put.0 at then put.1 else []) puts

-- whether anything is put there, if only no byte
abbrev pub is_touched : SinkTarget → List Put → Bool
is_touched at puts = list_any (λ (put : Put). is_target put.0 at) puts
