-- What is put at the end of a run.
use Rattle.std.specs.Prelude.{◌≡◌, ℕ, Bool, List, length, Option, Some, Result, Ok, Err, slice_get, Vec}
use Rattle.std.specs.declared.alloc.Global.{Global}
use Rattle.run_outside.specs.Sink.{Content}
use Rattle.run_outside.specs.declared.sink.WriteError.{WriteError}
use Rattle.sim_base.specs.declared.state.State.{State}
use Rattle.host_state.specs.HostRecord.{HostRecord}
use Rattle.host_state.specs.World.{World}
use Rattle.net_run.specs.Parts.{Between}
use Rattle.net_run.specs.Pieces.{with_pieces}
use Rattle.net_run.specs.Rest.{TellsStates}
use Rattle.net_run.specs.Shown.{run_pieces, all_pieces, status_of}

-- the states of all processes are told, those of each host at its place
pub record TellsAll (w : World) (told : List (Vec State Global)) : Type 0 where
  pub count : length told ≡ length w.hosts
  pub each : (k : ℕ) (h : HostRecord) (states : Vec State Global) → slice_get w.hosts k ≡ Some h → slice_get told k ≡ Some states → TellsStates h states.items

-- what stands is what the world shows, and this is its status; or each target holds a front of that
abbrev pub PutsEnd : Bool → World → Option Content → Option Content → Result ℕ WriteError → Type 0
PutsEnd load w old new (Ok status) = ((begun : Content) → old ≡ Some begun → new ≡ Some (with_pieces (run_pieces load w) begun)) × (status ≡ status_of w)
PutsEnd load w old new (Err error) = (begun : Content) → old ≡ Some begun → Between begun new (with_pieces (run_pieces load w) begun)

-- the same with the lines of connections behind it, where they are asked for
abbrev pub PutsAll : Bool → Bool → World → Option Content → Option Content → Result ℕ WriteError → Type 0
PutsAll load streams w old new (Ok status) = ((begun : Content) → old ≡ Some begun → new ≡ Some (with_pieces (all_pieces load streams w) begun)) × (status ≡ status_of w)
PutsAll load streams w old new (Err error) = (begun : Content) → old ≡ Some begun → Between begun new (with_pieces (all_pieces load streams w) begun)
