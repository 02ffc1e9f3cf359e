-- What is put at the end, as a list.
use Rattle.std.specs.Prelude.{List, map, Bool}
use Rattle.sim_base.specs.declared.state.State.{State}
use Rattle.host_state.specs.HostRecord.{HostRecord}
use Rattle.guest_process.specs.States.{state_of}
use Rattle.host_state.specs.Gains.{names_in}
use Rattle.run_files.specs.Files.{Put}
use Rattle.net_run.specs.World.{World}
use Rattle.net_run.specs.Rest.{all_rest, summary_in}

-- the states of a host's processes, in their order
abbrev pub states_in : World → List (List State)
states_in w = map (λ (h : HostRecord). map state_of h.processes) w.hosts

abbrev pub rest_in : Bool → World → List Put
rest_in load w = all_rest (names_in w) (states_in w) (summary_in load w)
