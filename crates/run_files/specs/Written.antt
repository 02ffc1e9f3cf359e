-- What the processes of hosts wrote, host by host.
use Rattle.std.specs.Prelude.{List, [], ◌∷◌, ◌++◌, flat_map, replicate}
use Rattle.file_calls.specs.declared.task.Output.{Output}
use Rattle.run_files.specs.declared.written.HostWritten.{HostWritten}
use Rattle.run_files.specs.declared.written.Written.{Written}

-- the hosts before it that wrote nothing, and the host
abbrev pub with_silent : HostWritten → List (List Output)
with_silent host = replicate host.silent [] ++ host.outputs.items ∷ []

-- what each host's processes wrote, in the order of hosts
abbrev pub written_in : Written → List (List Output)
written_in w = flat_map with_silent w.hosts.items ++ replicate w.silent []
