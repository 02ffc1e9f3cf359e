-- A body stands for records that differ in their sockets and in what was written alone.
use Rattle.std.proofs.Common.{◌≡◌, List, Option, refl, sym, ap, subst, ◌∙◌}
use Rattle.file_calls.specs.declared.task.Output.{Output}
use Rattle.file_calls.specs.declared.task.Shared.{Shared}
use Rattle.file_calls.specs.declared.task.Task.{Task}
use Rattle.host_sockets.specs.Sockets.{SocketsRecord}
use Rattle.host_sockets.specs.StandsFor.{Stand}
use Rattle.host_state.specs.declared.host.Body.{Body}
use Rattle.guest_process.specs.declared.process.Process.{Process}
use Rattle.host_rows.specs.declared.row.Row.{Row}
use Rattle.host_state.specs.HostRecord.{HostRecord}
use Rattle.host_link.specs.Link.{LinkState}
use Rattle.host_state.specs.StandsFor.{BodyStands}

abbrev pub record_of : Row → LinkState → List Process → List (Option Task) → Shared → SocketsRecord → List Output → HostRecord
record_of row link processes tasks shared t w =
    record { row = row; link = link; processes = processes; parts = record { tasks = tasks; shared = shared; sockets = t }; written = w }

-- the record with these sockets and these outputs for which a body stands
abbrev pub seen : Body → SocketsRecord → List Output → HostRecord
seen c t w = record_of c.row c.link c.processes.items c.parts.tasks.items c.parts.shared t w

pub seen_is : (c : Body) (h : HostRecord) → BodyStands c h → h ≡ seen c h.parts.sockets h.written
seen_is c h s =
    ap (λ (x : Row). record_of x h.link h.processes h.parts.tasks h.parts.shared h.parts.sockets h.written) (sym s.row)
    ∙ (ap (λ (x : LinkState). record_of c.row x h.processes h.parts.tasks h.parts.shared h.parts.sockets h.written) (sym s.link)
    ∙ (ap (λ (x : List Process). record_of c.row c.link x h.parts.tasks h.parts.shared h.parts.sockets h.written) (sym s.processes)
    ∙ (ap (λ (x : List (Option Task)). record_of c.row c.link c.processes.items x h.parts.shared h.parts.sockets h.written) (sym s.parts.tasks)
    ∙ ap (λ (x : Shared). record_of c.row c.link c.processes.items c.parts.tasks.items x h.parts.sockets h.written) (sym s.parts.shared))))

-- so what holds of each such record holds of each for which the body stands
pub seen_all : (P : HostRecord → Type 0) (c : Body) → ((t : SocketsRecord) (w : List Output) → Stand c.parts.sockets t → P (seen c t w))
    → (h : HostRecord) → BodyStands c h → P h
seen_all P c f h s = subst P (sym (seen_is c h s)) (f h.parts.sockets h.written s.parts.sockets)

pub stands_seen : (c : Body) (t : SocketsRecord) (w : List Output) → Stand c.parts.sockets t → BodyStands c (seen c t w)
stands_seen c t w s = record { row = refl; link = refl; processes = refl; parts = record { tasks = refl; shared = refl; sockets = s } }
