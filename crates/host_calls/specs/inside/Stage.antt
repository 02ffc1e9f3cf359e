-- What a call acts on, and what one sees that is asked what it would do: the scene that they show.
use Rattle.std.specs.Prelude.{◌≡◌, ℕ, Result, Ok, IfOk}
use Rattle.sim_base.specs.Refusals.{◌>>=◌}
use Rattle.host_wants.specs.declared.error.Refusal.{Refusal}
use Rattle.host_wants.specs.declared.error.CallError.{CallError}
use Rattle.host_sockets.specs.Sockets.{SocketsRecord}
use Rattle.host_sockets.specs.StandsFor.{Stand}
use Rattle.file_calls.specs.Scene.{Local}
use Rattle.host_calls.specs.declared.parts.Answer.{Answer}
use Rattle.host_calls.specs.declared.parts.Reaction.{Reaction}
use Rattle.host_calls.specs.declared.plan.Plan.{Plan}
use Rattle.host_calls.specs.declared.stage.Stage.{Stage}
use Rattle.host_calls.specs.declared.stage.View.{View}
use Rattle.host_calls.specs.Calls.{reacts, Fits}
use Rattle.host_calls.specs.inside.Calls.{SceneCalled}
use Rattle.host_calls.specs.Parts.{Scene, scene, Answers}

-- the process, and what it shares
abbrev pub local_on : Stage → Local
local_on s = (s.task.now, s.shared.now)

-- the scene, where the sockets stand for these
abbrev pub scene_on : Stage → SocketsRecord → Scene
scene_on s t = scene (local_on s) t

-- it is the stage of the same call, over the same process, files and sockets
pub record Stays (old new : Stage) : Type 0 where
  pub known : new.known ≡ old.known
  pub time : new.time ≡ old.time
  pub process : new.process ≡ old.process
  pub task : new.task.ghost_name ≡ old.task.ghost_name
  pub shared : new.shared.ghost_name ≡ old.shared.ghost_name
  pub sockets : new.sockets.ghost_name ≡ old.sockets.ghost_name

-- a call answers on a stage as its row says, whatever record its sockets stand for
abbrev pub Acts : {A : Type 0} → (Scene → Result (A × Scene) Refusal) → Stage → Stage → Result A CallError → Type 0
Acts row old new answer =
    Stays old new × ((t : SocketsRecord) → Stand old.sockets.now t → Answers (row (scene_on old t)) (local_on old) t (local_on new) new.sockets.now answer)

-- where its row answers a value
abbrev pub Reacts : (Scene → Result (ℕ × Scene) Refusal) → Stage → Stage → Result Reaction CallError → Type 0
Reacts row old new answer = Acts (λ s. reacts (row s)) old new answer

-- what a guest's call answers and leaves there
abbrev pub Called : Answer × Scene → Answer → Stage → Type 0
Called told answer s = SceneCalled told answer s.task.now s.shared.now s.sockets.now

-- what is seen on it
abbrev pub view_on : Stage → View
view_on s = record {
  known = s.known;
  time = s.time;
  task = record { ref_ptr = s.task.ref_ptr; now = s.task.now };
  shared = record { ref_ptr = s.shared.ref_ptr; now = s.shared.now };
  sockets = record { ref_ptr = s.sockets.ref_ptr; now = s.sockets.now };
}

-- what is told by a view is this of its scene, whatever record its sockets stand for
abbrev pub scene_in : View → SocketsRecord → Scene
scene_in v t = scene (v.task.now, v.shared.now) t

abbrev pub Sees : {A : Type 0} → (Scene → A) → View → A → Type 0
Sees told v answer = (t : SocketsRecord) → Stand v.sockets.now t → answer ≡ told (scene_in v t)

-- what a call is told there that it would do, and that the code can do that
abbrev pub SeesPlan : {A : Type 0} → (A → Plan) → (Scene → Result A Refusal) → View → Result Plan Refusal → Type 0
SeesPlan plan asked v answer = Sees (λ s. asked s >>= λ a. Ok (plan a)) v answer

abbrev pub CanDo : Result Plan Refusal → View → Type 0
CanDo answer v = IfOk answer (λ plan. Fits plan v.task.now)
