-- What a round of the world gains, and who took which host.
use Rattle.std.specs.Prelude.{◌≡◌, ℕ, suc, List, ◌∷◌, ◌++◌, map, flat_map, length, Any, IsPermutation, Some, []}
use Rattle.sim_base.specs.declared.event.Event.{Event}
use Rattle.sim_base.specs.declared.host.HostId.{HostId}
use Rattle.list_weights.specs.Weights.{numbers_below}
use Rattle.file_calls.specs.declared.task.Output.{Output}
use Rattle.run_files.specs.declared.piece.Piece.{Piece}
use Rattle.host_link.specs.declared.line.Line.{Line}
use Rattle.host_link.specs.Net.{Net}
use Rattle.run_files.specs.Files.{put_of}
use Rattle.host_state.specs.Gains.{Gains, names_in}
use Rattle.run_files.specs.Grown.{all_grown, with_bytes}
use Rattle.run_files.specs.LinesFit.{AllFit}
use Rattle.host_state.specs.Fits.{model}
use Rattle.world_order.specs.Round.{Going, Closed, opened}
use Rattle.world_order.specs.Rounds.{after_round, IsSameWorld}
use Rattle.world_order.specs.Schedule.{after_all}
use Rattle.world_order.specs.Settled.{AreDueFrom}
use Rattle.world_order.specs.WholeTurns.{Turn, turn_of, job_steps}
use Rattle.world_order.specs.Window.{window_end}
use Rattle.world_order.specs.World as order
use Rattle.world_order.specs.declared.step.Step.TheVariants.{Close}
use Rattle.round_lookahead.specs.declared.world.pieces.Pieces.{Pieces}
use Rattle.round_lookahead.specs.declared.world.world_state.World.{World}
use Rattle.round_lookahead.specs.Took.{took_in}
use Rattle.round_lookahead.specs.Works.{HostJob}
use Rattle.round_lookahead.specs.WorldStands.{HostWorld, WorldStands, nanos_of}

-- the targets and bytes that outputs and log gained: what each process wrote, and the text of the lines, which are of packets whose numbers fit
-- their types
pub record ArePieces (w v : HostWorld) (files : List Piece) : Type 0 where
  pub outputs : List (List Output)
  pub lines : List Line
  pub gained : Gains w v outputs lines
  pub files_are : map put_of files ≡ with_bytes (all_grown (names_in w) outputs lines)
  pub fit : AllFit lines

-- the turns of workers, from that number on, each of which took these hosts
abbrev pub turns_from : ℕ → List (List HostId) → List Turn
turns_from worker [] = []
turns_from worker (hosts ∷ more) = map (λ (h : HostId). record { worker = worker; number = h.index }) hosts ++ turns_from (suc worker) more

-- each host was taken once; and its steps (for each worker in turn and each of its hosts Take, the Fires, the Puts to the spill, Back; at last
-- Close) are allowed, each in its turn, and end in the world
pub record IsTaken (net : Net) (end workers : ℕ) (w v : HostWorld) (took : List (List HostId)) : Type 0 where
  pub workers_are : length took ≡ workers
  pub once : IsPermutation (map (λ (t : Turn). t.number) (turns_from 0 took)) (numbers_below (length w.hosts))
  pub jobs : List HostJob
  pub turns : map turn_of jobs ≡ turns_from 0 took
  pub closed : HostWorld
  pub allowed : after_all (model net) (flat_map job_steps jobs ++ Close ∷ []) (Going (opened (model net) end workers w)) ≡ Some (Closed closed)
  pub same : IsSameWorld v (after_round w closed)

-- a round on a world whose least event is due at that time: the world after all turns of the model that are due before the window's end, and who took which host
pub record HasTurns (old new : World) (workers : ℕ) (w v : HostWorld) (took : List (List HostId)) : Type 0 where
  pub least : ℕ
  pub from : AreDueFrom least w.events
  pub due : Any (λ (e : Event). e.key.due.nanos ≡ least) w.events
  pub result : order.IsResult (model old.net) (window_end (nanos_of old.lookahead) old.net.stop.nanos least) v w
  pub over : AreDueFrom (window_end (nanos_of old.lookahead) old.net.stop.nanos least) v.events
  pub stands : WorldStands new v
  pub taken : IsTaken old.net (window_end (nanos_of old.lookahead) old.net.stop.nanos least) workers w v took

-- a round, and what was gained as targets and bytes
pub record HasRound (old new : World) (workers : ℕ) (w v : HostWorld) (p : Pieces) : Type 0 where
  pub turns : HasTurns old new workers w v (took_in p.took)
  pub files : ArePieces w v p.files.items
