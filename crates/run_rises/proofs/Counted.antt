-- what is kept of an object is what its history counts
use Rattle.std.proofs.Common.{◌≡◌, ℕ, Bool, min, List, [], ◌∷◌, map, filter, take, Option, Some, None, Result, Ok, Err, refl, sym, ap, subst, ◌∙◌}
use Rattle.sim_base.specs.Poll.{pollin, pollout, pollerr, pollhup, pollrdhup}
use Rattle.sim_base.specs.declared.address.Ip.{Ip}
use Rattle.sim_base.specs.declared.time.Time.{Time}
use Rattle.host_fds.specs.declared.epoll.Seen.{Seen}
use Rattle.host_fds.specs.declared.epoll.Watch.{Watch}
use Rattle.host_fds.specs.declared.eventfd.Eventfd.{Eventfd}
use Rattle.host_fds.specs.declared.pipe.End.{End}
use Rattle.host_fds.specs.declared.pipe.End.TheVariants.{Reading, Writing}
use Rattle.host_fds.specs.declared.rises.Rises.{Rises}
use Rattle.host_fds.specs.Epoll as epoll
use Rattle.host_fds.specs.Pipe.{PipeState, rises}
use Rattle.host_fds.specs.Rises.{most}
use Rattle.host_files.specs.declared.file.Object.{Object}
use Rattle.host_files.specs.declared.file.Object.TheVariants as kind
use Rattle.host_files.specs.declared.timer.KeptTimer.{KeptTimer}
use Rattle.host_files.specs.Epolls.{epoll_at}
use Rattle.host_files.specs.Files.{FilesState}
use Rattle.host_files.specs.Slots.{at}
use Rattle.host_wants.specs.declared.error.Refusal.{Refusal}
use Rattle.host_sockets.specs.Ready.{tcp_rises, udp_rises}
use Rattle.host_sockets.specs.Sockets.{SocketsRecord}
use Rattle.file_calls.specs.declared.descriptors.Descriptor.{Descriptor}
use Rattle.call_parts.specs.declared.epoll.WaitPlan.{WaitPlan}
use Rattle.file_calls.specs.Descriptors.{descriptor}
use Rattle.host_calls.specs.Epoll.{all_seen, told_of, epoll_waits}
use Rattle.host_calls.specs.Parts.{Scene}
use Rattle.host_calls.specs.Ready as ready
use Rattle.call_parts.specs.Ready.{pipe_rises, rises_of_timer, eventfd_rises}
use Rattle.host_calls.specs.Ready.{object_rises, seen_by, seen}
use Rattle.socket_laws.specs.Histories.{sockets_of}
use Rattle.socket_laws.specs.Rises.{AreCounted, tcp_rises_counted, udp_rises_counted}
use Rattle.socket_laws.proofs.RisesMoved.{tcp_rises_are_counted, udp_rises_are_counted}
use Rattle.pipe_laws.specs.Acts.{PipeAct}
use Rattle.pipe_laws.specs.Eventfds.{EventfdAct}
use Rattle.file_laws.specs.Counted.{AreCounts, PipeIsCounted}
use Rattle.file_laws.specs.Kinds.{pipes, eventfds, timers}
use Rattle.file_laws.specs.Lives.{SlotAct, Life, slots_of, life_of}
use Rattle.file_laws.specs.Timers.{TimerAct}
use Rattle.file_laws.proofs.Lives.{gone}
use Rattle.file_laws.proofs.Pipes.{pipe_counted}
use Rattle.file_laws.proofs.Eventfds.{eventfd_is_counted}
use Rattle.file_laws.proofs.Telling.{the_first}
use Rattle.file_laws.proofs.Timers.{timer_counted}
use Rattle.run_rises.specs.Histories.{HostHistory, Leaves}
use Rattle.run_rises.specs.Rises.{pipe_count, eventfd_count, timer_count, rises_counted, counts}
use Rattle.run_rises.specs.Seeing as seeing
use Rattle.run_rises.specs.Seeing.{counted_by, counted, all_counted}

-- numbers that are the same one by one
abbrev rises_of : ℕ → ℕ → ℕ → ℕ → ℕ → Rises
rises_of a b c d e = record { input = a; output = b; error = c; hangup = d; peer_end = e }

same_rises : (a b c d e p q r s t : ℕ) → a ≡ p → b ≡ q → c ≡ r → d ≡ s → e ≡ t → rises_of a b c d e ≡ rises_of p q r s t
same_rises a b c d e p q r s t h i j k l =
    ap (λ (x : ℕ). rises_of x b c d e) h
    ∙ (ap (λ (x : ℕ). rises_of p x c d e) i
    ∙ (ap (λ (x : ℕ). rises_of p q x d e) j ∙ (ap (λ (x : ℕ). rises_of p q r x e) k ∙ ap (λ (x : ℕ). rises_of p q r s x) l)))

counts_are : (kept : Rises) (counted : ℕ → ℕ) → AreCounts kept counted → kept ≡ counts counted
counts_are kept counted h =
    same_rises kept.input kept.output kept.error kept.hangup kept.peer_end (counted pollin) (counted pollout) (counted pollerr) (counted pollhup) (counted pollrdhup) h.input h.output h.error h.hangup h.peer_end

-- each kind
end_counts : (end : End) (life : Life (Unit {0}) PipeAct) (p : PipeState) → PipeIsCounted life p → rises p end ≡ counts (pipe_count end (Some life))
end_counts Reading life p h = counts_are p.read_rises _ h.reading
end_counts Writing life p h = counts_are p.write_rises _ h.writing

pipe_counts : (history : List (SlotAct (Unit {0}) PipeAct)) (k : ℕ) (end : End) (o : Option PipeState) → at k (slots_of pipes history) ≡ o → pipe_rises o end ≡ counts (pipe_count end (life_of pipes k history))
pipe_counts history k end None e =
    ap (λ (l : Option (Life (Unit {0}) PipeAct)). counts (pipe_count end l)) (sym (gone pipes history k e))
pipe_counts history k end (Some p) e =
    let c = pipe_counted history k p e in
    end_counts end c.0 p c.1.1 ∙ ap (λ (l : Option (Life (Unit {0}) PipeAct)). counts (pipe_count end l)) (sym c.1.0)

eventfd_counts : (history : List (SlotAct (ℕ × Bool) EventfdAct)) (k : ℕ) (o : Option Eventfd) → at k (slots_of eventfds history) ≡ o → eventfd_rises o ≡ counts (eventfd_count (life_of eventfds k history))
eventfd_counts history k None e =
    ap (λ (l : Option (Life (ℕ × Bool) EventfdAct)). counts (eventfd_count l)) (sym (gone eventfds history k e))
eventfd_counts history k (Some f) e =
    let c = eventfd_is_counted history k f e in
    counts_are f.rises _ c.1.1.rises ∙ ap (λ (l : Option (Life (ℕ × Bool) EventfdAct)). counts (eventfd_count l)) (sym c.1.0)

timer_counts : (history : List (SlotAct ℕ TimerAct)) (now : Time) (k : ℕ) (o : Option KeptTimer) → at k (slots_of timers history) ≡ o → rises_of_timer now o ≡ counts (timer_count now.nanos (life_of timers k history))
timer_counts history now k None e =
    ap (λ (l : Option (Life ℕ TimerAct)). counts (timer_count now.nanos l)) (sym (gone timers history k e))
timer_counts history now k (Some t) e =
    let c = timer_counted history k t e in
    ap (λ (n : ℕ). rises_of n 0 0 0 0) (c.1.1.expiries now.nanos)
    ∙ ap (λ (l : Option (Life ℕ TimerAct)). counts (timer_count now.nanos l)) (sym c.1.0)

socket_counts : (kept : Rises) (counted : ℕ → ℕ) → AreCounted kept counted → kept ≡ counts (λ (bit : ℕ). min (counted bit) most)
socket_counts kept counted h =
    counts_are kept (λ (bit : ℕ). min (counted bit) most) (record { input = h.input; output = h.output; error = h.error; hangup = h.hangup; peer_end = h.peer_end })

abbrev told_answer : WaitPlan → Scene → List Seen → Result (ℕ × Scene) Refusal
told_answer p s all = Ok (told_of p all s)

module _ (hosts : List Ip) (own : Ip) (history : HostHistory) where
  -- and each object
  pub object_counts : (now : Time) (object : Object) (files : FilesState) (sockets : SocketsRecord) → Leaves hosts own history files sockets → object_rises now object files sockets ≡ counts (rises_counted hosts own history now object)
  object_counts now kind.Input files sockets h = refl
  object_counts now kind.Output files sockets h = refl
  object_counts now kind.Errors files sockets h = refl
  object_counts now (kind.Hosts read) files sockets h = refl
  object_counts now (kind.ReadEnd k) files sockets h =
      subst (λ (slots : List (Option PipeState)). pipe_rises (at k slots) Reading ≡ counts (pipe_count Reading (life_of pipes k history.on_pipes))) h.files_are.pipes_are
      (pipe_counts history.on_pipes k Reading (at k (slots_of pipes history.on_pipes)) refl)
  object_counts now (kind.WriteEnd k) files sockets h =
      subst (λ (slots : List (Option PipeState)). pipe_rises (at k slots) Writing ≡ counts (pipe_count Writing (life_of pipes k history.on_pipes))) h.files_are.pipes_are
      (pipe_counts history.on_pipes k Writing (at k (slots_of pipes history.on_pipes)) refl)
  object_counts now (kind.Timer k) files sockets h =
      subst (λ (slots : List (Option KeptTimer)). rises_of_timer now (at k slots) ≡ counts (timer_count now.nanos (life_of timers k history.on_timers))) h.files_are.timers_are
      (timer_counts history.on_timers now k (at k (slots_of timers history.on_timers)) refl)
  object_counts now (kind.Eventfd k) files sockets h =
      subst (λ (slots : List (Option Eventfd)). eventfd_rises (at k slots) ≡ counts (eventfd_count (life_of eventfds k history.on_eventfds))) h.files_are.eventfds_are
      (eventfd_counts history.on_eventfds k (at k (slots_of eventfds history.on_eventfds)) refl)
  object_counts now (kind.Epoll k) files sockets h = refl
  object_counts now (kind.Udp k) files sockets h =
      subst (λ (t : SocketsRecord). udp_rises k t ≡ counts (λ (bit : ℕ). min (udp_rises_counted bit k hosts own history.draws history.on_sockets) most)) (sym h.sockets_are)
      (socket_counts (udp_rises k (sockets_of hosts own history.draws history.on_sockets)) (λ (bit : ℕ). udp_rises_counted bit k hosts own history.draws history.on_sockets) (udp_rises_are_counted hosts own history.draws history.on_sockets k))
  object_counts now (kind.Tcp k) files sockets h =
      subst (λ (t : SocketsRecord). tcp_rises k t ≡ counts (λ (bit : ℕ). min (tcp_rises_counted bit k hosts own history.draws history.on_sockets) most)) (sym h.sockets_are)
      (socket_counts (tcp_rises k (sockets_of hosts own history.draws history.on_sockets)) (λ (bit : ℕ). tcp_rises_counted bit k hosts own history.draws history.on_sockets) (tcp_rises_are_counted hosts own history.draws history.on_sockets k))

  -- what is seen of a descriptor
  seen_counts : (now : Time) (s : Scene) (fd : ℕ) (r : Result Descriptor Refusal) → Leaves hosts own history s.shared.files s.sockets → seen_by now fd r s.shared.files s.sockets ≡ counted_by hosts own history now fd r s
  seen_counts now s fd (Err why) h = refl
  seen_counts now s fd (Ok d) h =
      ap (λ (x : Rises). record { fd = fd; bits = ready.bits_seen now d.file.object s.shared.files s.sockets; rises = x })
      (object_counts now d.file.object s.shared.files s.sockets h)

  seen_is : (now : Time) (s : Scene) (fd : ℕ) → Leaves hosts own history s.shared.files s.sockets → seen now s fd ≡ counted hosts own history now s fd
  seen_is now s fd h = seen_counts now s fd (descriptor fd s.task s.shared.files) h

  each_seen : (now : Time) (s : Scene) (entries : List Watch) → Leaves hosts own history s.shared.files s.sockets → map (λ (w : Watch). seen now s w.fd) entries ≡ map (λ (w : Watch). counted hosts own history now s w.fd) entries
  each_seen now s [] h = refl
  each_seen now s (w ∷ entries) h =
      ap (λ (x : Seen). x ∷ map (λ (v : Watch). seen now s v.fd) entries) (seen_is now s w.fd h)
      ∙ ap (λ (xs : List Seen). counted hosts own history now s w.fd ∷ xs) (each_seen now s entries h)

  all_are : (now : Time) (s : Scene) (o : Option (List Watch)) → Leaves hosts own history s.shared.files s.sockets → all_seen now s o ≡ all_counted hosts own history now s o
  all_are now s None h = refl
  all_are now s (Some entries) h = each_seen now s entries h

  pub waits_so : (now : Time) (p : WaitPlan) (s : Scene) → Leaves hosts own history s.shared.files s.sockets → epoll_waits now p s ≡ Ok (told_of p (all_counted hosts own history now s (epoll_at p.place s.task.epolls)) s)
  waits_so now p s h =
      ap (λ (all : List Seen). told_answer p s all) (all_are now s (epoll_at p.place s.task.epolls) h)

  pub due_so : (now : Time) (s : Scene) (w : Watch) → Leaves hosts own history s.shared.files s.sockets → ready.is_due now s w ≡ seeing.is_due hosts own history now s w
  due_so now s w h = ap (λ (x : Seen). epoll.is_due w x) (seen_is now s w.fd h)

  pub first_so : (now : Time) (room : ℕ) (s : Scene) (entries : List Watch) → Leaves hosts own history s.shared.files s.sockets → epoll.told room (all_seen now s (Some entries)) entries ≡ take room (map (λ (w : Watch). epoll.entry_of w (counted hosts own history now s w.fd)) (filter (seeing.is_due hosts own history now s) entries))
  first_so now room s entries h =
      ap (λ (all : List Seen). epoll.told room all entries) (each_seen now s entries h)
      ∙ the_first room (λ (w : Watch). counted hosts own history now s w.fd) entries
