-- A socket that is made, at the descriptor that was chosen.
use Rattle.std.proofs.Common.{◌≡◌, ℕ, Bool, true, false, Result, Ok, refl, ap, ap₂, sym, ◌∙◌}
use Rattle.sim_base.specs.Refusals.{◌>>=◌}
use Rattle.host_files.specs.declared.file.Object.{Object}
use Rattle.host_wants.specs.declared.error.Refusal.{Refusal}
use Rattle.call_parts.specs.declared.making.NewSocket.{NewSocket}
use Rattle.file_calls.specs.declared.task.Task.{Task}
use Rattle.file_calls.specs.declared.task.Shared.{Shared}
use Rattle.file_calls.specs.Descriptors.{opens}
use Rattle.file_calls.specs.Scene.{Is}
use Rattle.host_calls.specs.declared.parts.Reaction.TheVariants.{Value}
use Rattle.host_calls.specs.Calls.{reacts}
use Rattle.host_calls.specs.Parts.{Scene, scene, local_of}
use Rattle.host_calls.specs.Sockets.{socket_file, with_socket}
use Rattle.host_calls.specs.inside.Sockets.{new_object}

with_object : (stream : Bool) (fd : ℕ) (nonblocking : Bool) (s : Scene)
    → with_socket (record { stream = stream; fd = fd }) nonblocking s
    ≡ scene (opens fd (socket_file nonblocking (new_object stream s.sockets).0) (local_of s)) (new_object stream s.sockets).1
with_object true fd nonblocking s = refl
with_object false fd nonblocking s = refl

pub made : (asked : Result NewSocket Refusal) (new : NewSocket) (nonblocking given : Bool) (s : Scene) (object : Object) (task : Task) (shared : Shared)
    → Ok new ≡ asked → given ≡ nonblocking → object ≡ (new_object new.stream s.sockets).0 → Is (opens new.fd (socket_file given object) (local_of s)) task shared
    → reacts (asked >>= λ new. Ok (new.fd, with_socket new nonblocking s)) ≡ Ok (Value new.fd, scene (task, shared) (new_object new.stream s.sockets).1)
made asked new nonblocking given s object task shared is given_is made_is opened =
    sym (ap (λ (a : Result NewSocket Refusal). reacts (a >>= λ n. Ok (n.fd, with_socket n nonblocking s))) is)
    ∙ ap (λ (x : Scene). reacts (Ok (new.fd, x))) (with_object new.stream new.fd nonblocking s)
    ∙ ap (λ (o : Object). reacts (Ok (new.fd, scene (opens new.fd (socket_file nonblocking o) (local_of s)) (new_object new.stream s.sockets).1))) (sym made_is)
    ∙ ap (λ (b : Bool). reacts (Ok (new.fd, scene (opens new.fd (socket_file b object) (local_of s)) (new_object new.stream s.sockets).1))) (sym given_is)
    ∙ ap₂ (λ (a : Task) (b : Shared). reacts (Ok (new.fd, scene (a, b) (new_object new.stream s.sockets).1))) (sym opened.0) (sym opened.1)
