-- rows of a scene: what they leave is reached by acts that may happen
use Rattle.std.proofs.Common.{◌≡◌, ℕ, List, Result, Ok, Err, refl, ap, subst}
use Rattle.sim_base.specs.Refusals.{◌>>=◌, ◌>>◌}
use Rattle.sim_base.specs.declared.address.Ip.{Ip}
use Rattle.sim_base.specs.declared.packet.Packet.{Packet}
use Rattle.host_wants.specs.declared.error.Refusal.{Refusal}
use Rattle.host_wants.specs.Wanted.{Wanted}
use Rattle.host_sockets.specs.Sockets.{SocketsRecord}
use Rattle.file_calls.specs.Scene.{Local}
use Rattle.host_calls.specs.Parts.{Scene, with_local, plainly}
use Rattle.host_calls.specs.Calls.{reacts}
use Rattle.socket_laws.specs.Histories.{left_by}
use Rattle.socket_streams.specs.May.{Moves}
use Rattle.socket_streams.proofs.Moving.{moves_none, moves_quietly}
use Rattle.call_streams.proofs.PlainRows.{Rests}

abbrev pub sockets_at : Scene → SocketsRecord × Wanted
sockets_at s = (s.sockets, s.shared.outlet)

pub record RowMoves {A : Type 0} (hosts : List Ip) (flying : List Packet) (x : SocketsRecord × Wanted) (row : Result (A × Scene) Refusal) : Type 0 where
  pub moves : (a : A) (s : Scene) → row ≡ Ok (a, s) → Moves hosts flying x (sockets_at s)

module _ (hosts : List Ip) (flying : List Packet) (x : SocketsRecord × Wanted) where
  pub answers : {A : Type 0} (a : A) (s : Scene) → Moves hosts flying x (sockets_at s) → RowMoves hosts flying x (Ok (a, s))
  answers {A} a s m = record {
    moves = λ b after e.
        subst (λ (y : Scene). Moves hosts flying x (sockets_at y)) (ap (λ (r : Result (A × Scene) Refusal). left_by r s) e) m;
  }

  pub refused : {A : Type 0} (why : Refusal) → RowMoves {A = A} hosts flying x (Err why)
  refused why = record { moves = λ b after e. cc }

  pub asks : {A B : Type 0} (asked : Result B Refusal) (f : B → Result (A × Scene) Refusal) → ((b : B) → asked ≡ Ok b → RowMoves hosts flying x (f b)) → RowMoves hosts flying x (asked >>= f)
  asks (Ok b) f h = h b refl
  asks (Err why) f h = refused why

  pub tries : {A B : Type 0} (asked : Result B Refusal) (rest : Result (A × Scene) Refusal) → RowMoves hosts flying x rest → RowMoves hosts flying x (asked >> rest)
  tries (Ok b) rest h = h
  tries (Err why) rest h = refused why

  pub reacting : (row : Result (ℕ × Scene) Refusal) → RowMoves hosts flying x row → RowMoves hosts flying x (reacts row)
  reacting (Ok (value, s)) h = answers _ s (h.moves value s refl)
  reacting (Err why) h = refused why

module _ (hosts : List Ip) (flying : List Packet) where
  pub plain_moves : {A : Type 0} (s : Scene) (row : Result (A × Local) Refusal) → Rests s.shared.outlet row → RowMoves hosts flying (sockets_at s) (plainly row s)
  plain_moves s (Ok (a, (task, shared))) h =
      answers hosts flying (sockets_at s) a (with_local (task, shared) s)
      (moves_quietly hosts flying s.sockets s.shared.outlet shared.outlet (h.rests a (task, shared) refl))
  plain_moves s (Err why) h = refused hosts flying (sockets_at s) why

  -- where nothing but the process's own memory changes
  pub stays : {A : Type 0} (s : Scene) (a : A) → RowMoves hosts flying (sockets_at s) (Ok (a, s))
  stays s a = answers hosts flying (sockets_at s) a s (moves_none hosts flying (sockets_at s))
