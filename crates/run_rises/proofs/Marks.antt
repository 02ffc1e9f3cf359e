-- marks stay marks of the objects that descriptors name
use Rattle.std.proofs.Common.{◌≡◌, ℕ, Bool, List, [], ◌++◌, Option, Some, None, slice_set, Result, Ok, refl, sym, ap, subst, ◌∙◌, append_assoc, append-nil, false, true, not, ◌&&◌, ◌||◌, ◌==◌}
use Rattle.std.specs.FinMap as map
use Rattle.sim_base.specs.Refusals.{◌>>=◌, or_refuse}
use Rattle.sim_base.specs.declared.address.Ip.{Ip}
use Rattle.sim_base.specs.declared.errno.Errno.TheVariants.{Ebadf}
use Rattle.sim_base.specs.declared.time.Time.{Time}
use Rattle.host_fds.specs.declared.file_id.FileId.{FileId}
use Rattle.host_fds.specs.declared.epoll.Seen.{Seen}
use Rattle.host_fds.specs.declared.epoll.Watch.{Watch}
use Rattle.host_fds.specs.declared.rises.Rises.{Rises}
use Rattle.host_fds.specs.Epoll as epoll
use Rattle.host_fds.specs.Epoll.{report_of}
use Rattle.host_fds.specs.Rises.{has_bit}
use Rattle.host_files.specs.declared.file.File.{File}
use Rattle.host_files.specs.declared.file.Object.{Object}
use Rattle.host_files.specs.declared.file.Object.TheVariants as kind
use Rattle.host_files.specs.Files.{FilesState, file_at}
use Rattle.host_files.specs.Slots.{at}
use Rattle.host_wants.specs.declared.error.Refusal.{Refusal}
use Rattle.host_wants.specs.declared.error.Refusal.TheVariants.{Errno}
use Rattle.host_wants.specs.Wanted.{Wanted, nothing_wanted}
use Rattle.host_sockets.specs.Sockets.{SocketsRecord, no_sockets}
use Rattle.file_calls.specs.declared.descriptors.Descriptor.{Descriptor}
use Rattle.file_calls.specs.declared.task.Task.{Task}
use Rattle.file_calls.specs.Descriptors.{descriptor_by, descriptor}
use Rattle.host_calls.specs.Calls.{scene_at}
use Rattle.host_calls.specs.Parts.{PartsRecord, slot_in, Scene}
use Rattle.host_calls.specs.Ready as ready
use Rattle.host_calls.specs.Ready.{object_rises, seen_by, seen}
use Rattle.socket_laws.specs.Histories.{SocketsAct, sockets_after}
use Rattle.pipe_laws.specs.Acts.{PipeAct}
use Rattle.pipe_laws.specs.Eventfds.{EventfdAct}
use Rattle.file_laws.specs.Kinds.{pipes, eventfds, timers}
use Rattle.file_laws.specs.Lives.{Kind, SlotAct, slots_after, slots_of}
use Rattle.file_laws.specs.Timers.{TimerAct}
use Rattle.file_laws.proofs.Places.{set_same, set_other}
use Rattle.call_rises.specs.Moves.{FilesMove}
use Rattle.call_rises.specs.Sockets.{has_udp, has_tcp, SocketLasts, SocketsMove, sockets_left}
use Rattle.call_rises.specs.Names.{named_in, names, is_there, object_alone, HasEntry, NamesHold, ObjectLasts, NamesOne, ComesFrom, as_it_was, was_told, never_told}
use Rattle.call_rises.proofs.Hosts.{alone_there}
use Rattle.call_rises.proofs.Moving.{slots_on, lasts_joined}
use Rattle.call_rises.proofs.SocketMoves.{sockets_on, LastsFrom, lasts_on}
use Rattle.call_rises.proofs.Table.{Keeps}
use Rattle.call_rises.proofs.Views.{by_number, some_same, some_of}
use Rattle.run_rises.specs.Histories.{HostHistory, Leaves, GoesOn}
use Rattle.run_rises.specs.Marks.{sockets_by, IsMark, MarksHold, Holds}
use Rattle.run_rises.specs.Rises.{rises_counted, counts}
use Rattle.run_rises.specs.Seeing.{counted_by, counted, is_due_since}
use Rattle.run_rises.proofs.Counted.{object_counts, due_so}

-- an object alone is as it is
module _ (hosts : List Ip) (p : List (SlotAct (Unit {0}) PipeAct)) (e : List (SlotAct (ℕ × Bool) EventfdAct)) (t : List (SlotAct ℕ TimerAct)) (s : List (Time × SocketsAct)) (files : FilesState) (sockets : SocketsRecord) (w : Wanted) where
  alone_lasts : (object : Object) → ObjectLasts hosts object p e t s files sockets w → ObjectLasts hosts (object_alone object) p e t s files sockets w
  alone_lasts kind.Input h = h
  alone_lasts kind.Output h = h
  alone_lasts kind.Errors h = h
  alone_lasts (kind.Hosts read) h = h
  alone_lasts (kind.ReadEnd k) h = h
  alone_lasts (kind.WriteEnd k) h = h
  alone_lasts (kind.Timer k) h = h
  alone_lasts (kind.Eventfd k) h = h
  alone_lasts (kind.Epoll k) h = h
  alone_lasts (kind.Udp k) h = h
  alone_lasts (kind.Tcp k) h = h

alone_counts : (hosts : List Ip) (own : Ip) (history : HostHistory) (now : Time) (object : Object) → counts (rises_counted hosts own history now object) ≡ counts (rises_counted hosts own history now (object_alone object))
alone_counts hosts own history now kind.Input = refl
alone_counts hosts own history now kind.Output = refl
alone_counts hosts own history now kind.Errors = refl
alone_counts hosts own history now (kind.Hosts read) = refl
alone_counts hosts own history now (kind.ReadEnd k) = refl
alone_counts hosts own history now (kind.WriteEnd k) = refl
alone_counts hosts own history now (kind.Timer k) = refl
alone_counts hosts own history now (kind.Eventfd k) = refl
alone_counts hosts own history now (kind.Epoll k) = refl
alone_counts hosts own history now (kind.Udp k) = refl
alone_counts hosts own history now (kind.Tcp k) = refl

-- what lasts through both of two stretches of acts
module _ (hosts : List Ip) (p q : List (SlotAct (Unit {0}) PipeAct)) (e f : List (SlotAct (ℕ × Bool) EventfdAct)) (t u : List (SlotAct ℕ TimerAct)) (s v : List (Time × SocketsAct)) (x y : FilesState) (m n : SocketsRecord × Wanted) (pipes_are : slots_after pipes p x.pipes ≡ y.pipes) (eventfds_are : slots_after eventfds e x.eventfds ≡ y.eventfds) (timers_are : slots_after timers t x.timers ≡ y.timers) (sockets_are : sockets_after hosts s m ≡ n) where
  sockets_last : (has : SocketsRecord → Bool) → SocketLasts hosts has s m.0 m.1 → SocketLasts hosts has v n.0 n.1 → SocketLasts hosts has (s ++ v) m.0 m.1
  sockets_last has a b = lasts_on hosts has s v m.0 m.1 a (subst (λ (z : SocketsRecord × Wanted). LastsFrom hosts has v z) (sym sockets_are) b)

  both_last : (object : Object) → ObjectLasts hosts object p e t s x m.0 m.1 → ObjectLasts hosts object q f u v y n.0 n.1 → ObjectLasts hosts object (p ++ q) (e ++ f) (t ++ u) (s ++ v) x m.0 m.1
  both_last kind.Input a b = tt
  both_last kind.Output a b = tt
  both_last kind.Errors a b = tt
  both_last (kind.Hosts read) a b = tt
  both_last (kind.ReadEnd k) a b = lasts_joined pipes k p q x.pipes y.pipes pipes_are a b
  both_last (kind.WriteEnd k) a b = lasts_joined pipes k p q x.pipes y.pipes pipes_are a b
  both_last (kind.Timer k) a b = lasts_joined timers k t u x.timers y.timers timers_are a b
  both_last (kind.Eventfd k) a b = lasts_joined eventfds k e f x.eventfds y.eventfds eventfds_are a b
  both_last (kind.Epoll k) a b = tt
  both_last (kind.Udp k) a b = sockets_last (has_udp k) a b
  both_last (kind.Tcp k) a b = sockets_last (has_tcp k) a b

-- a history that goes on from one which went on from another
pub joined : {A : Type 0} (first rest acts second last : List A) → first ++ rest ≡ second → second ++ acts ≡ last → first ++ (rest ++ acts) ≡ last
joined {A} first rest acts second last e k =
    sym (append_assoc first rest acts) ∙ (ap (λ (xs : List A). xs ++ acts) e ∙ k)

slots_since : {M A B : Type 0} (kind : Kind M A B) (first rest second : List (SlotAct M B)) (x y : List (Option A)) → first ++ rest ≡ second → slots_of kind first ≡ x → slots_of kind second ≡ y → slots_after kind rest x ≡ y
slots_since {M} {A} {B} kind first rest second x y e is_x is_y =
    ap (λ (s : List (Option A)). slots_after kind rest s) (sym is_x)
    ∙ (sym (slots_on kind first rest []) ∙ (ap (λ (acts : List (SlotAct M B)). slots_of kind acts) e ∙ is_y))

sockets_since : (hosts : List Ip) (own : Ip) (first second : HostHistory) (on : GoesOn first second) → sockets_after hosts on.on_sockets.0 (sockets_by hosts own first) ≡ sockets_by hosts own second
sockets_since hosts own first second on =
    sym (sockets_on hosts first.on_sockets on.on_sockets.0 (no_sockets own) (nothing_wanted first.draws))
    ∙ (ap (λ (acts : List (Time × SocketsAct)). sockets_left hosts own first.draws acts) on.on_sockets.1
    ∙ ap (λ (draws : List ℕ). sockets_left hosts own draws second.on_sockets) on.draws)

pub goes_none : (history : HostHistory) → GoesOn history history
goes_none history = record {
  on_pipes = ([], append-nil history.on_pipes);
  on_eventfds = ([], append-nil history.on_eventfds);
  on_timers = ([], append-nil history.on_timers);
  draws = refl;
  on_sockets = ([], append-nil history.on_sockets);
}

abbrev pub goes_both : (first second last : HostHistory) → GoesOn first second → GoesOn second last → GoesOn first last
goes_both first second last a b = record {
  on_pipes = (a.on_pipes.0 ++ b.on_pipes.0, joined first.on_pipes a.on_pipes.0 b.on_pipes.0 second.on_pipes last.on_pipes a.on_pipes.1 b.on_pipes.1);
  on_eventfds = (a.on_eventfds.0 ++ b.on_eventfds.0, joined first.on_eventfds a.on_eventfds.0 b.on_eventfds.0 second.on_eventfds last.on_eventfds a.on_eventfds.1 b.on_eventfds.1);
  on_timers = (a.on_timers.0 ++ b.on_timers.0, joined first.on_timers a.on_timers.0 b.on_timers.0 second.on_timers last.on_timers a.on_timers.1 b.on_timers.1);
  draws = a.draws ∙ b.draws;
  on_sockets = (a.on_sockets.0 ++ b.on_sockets.0, joined first.on_sockets a.on_sockets.0 b.on_sockets.0 second.on_sockets last.on_sockets a.on_sockets.1 b.on_sockets.1);
}

-- what is seen of an open descriptor
abbrev of_file : FileId → Option File → Result Descriptor Refusal
of_file id o = ◌>>=◌ {B = Descriptor} (or_refuse o (Errno Ebadf)) (λ f. Ok (record { id = id; file = f }))

seen_open : (now : Time) (fd : ℕ) (o : Option FileId) (id : FileId) (file : File) (files : FilesState) (sockets : SocketsRecord) → o ≡ Some id → file_at id files ≡ Some file → (seen_by now fd (descriptor_by o files) files sockets).rises ≡ object_rises now file.object files sockets
seen_open now fd None id file files sockets e there = cc
seen_open now fd (Some jd) id file files sockets e there =
    let same : jd ≡ id = some_same jd id e in
    by_file (file_at jd files) (subst (λ (i : FileId). file_at i files ≡ Some file) (sym same) there)
  where
    by_file : (o : Option File) → o ≡ Some file → (seen_by now fd (of_file jd o) files sockets).rises ≡ object_rises now file.object files sockets
    by_file None k = cc
    by_file (Some f) k = ap (λ (g : File). object_rises now g.object files sockets) (some_same f file k)

-- a history that goes on by the acts that are kept
pub record GoesBy (hosts : List Ip) (history more : HostHistory) (now : ℕ) (x y : FilesState) (m : FilesMove now x y) (t u : SocketsRecord) (s : SocketsMove hosts t u) : Type 0 where
  pub on_pipes : history.on_pipes ++ m.on_pipes ≡ more.on_pipes
  pub on_eventfds : history.on_eventfds ++ m.on_eventfds ≡ more.on_eventfds
  pub on_timers : history.on_timers ++ m.on_timers ≡ more.on_timers
  pub draws : history.draws ≡ more.draws
  pub on_sockets : history.on_sockets ++ s.acts ≡ more.on_sockets

abbrev pub goes_so : (hosts : List Ip) (history more : HostHistory) (now : ℕ) (x y : FilesState) (m : FilesMove now x y) (t u : SocketsRecord) (s : SocketsMove hosts t u) → GoesBy hosts history more now x y m t u s → GoesOn history more
goes_so hosts history more now x y m t u s by = record {
  on_pipes = (m.on_pipes, by.on_pipes);
  on_eventfds = (m.on_eventfds, by.on_eventfds);
  on_timers = (m.on_timers, by.on_timers);
  draws = by.draws;
  on_sockets = (s.acts, by.on_sockets);
}

module _ (hosts : List Ip) (own : Ip) (history more : HostHistory) (now : Time) (x y : PartsRecord) (kept : Keeps hosts now x y) (by : GoesBy hosts history more now.nanos x.shared.files y.shared.files kept.files x.sockets y.sockets kept.sockets) (leaves : Leaves hosts own history x.shared.files x.sockets) (hold : NamesHold x.tasks x.shared.files x.sockets) where
  -- an object is there through the acts that are kept, whatever is wanted
  abbrev KeptLasts : Object → Type 0
  KeptLasts object =
      (w : Wanted) → ObjectLasts hosts object kept.files.on_pipes kept.files.on_eventfds kept.files.on_timers kept.sockets.acts x.shared.files x.sockets w

  abbrev goes : GoesOn history more
  goes = goes_so hosts history more now.nanos x.shared.files y.shared.files kept.files x.sockets y.sockets kept.sockets by

  kept_here : (object : Object) → KeptLasts object → ObjectLasts hosts object kept.files.on_pipes kept.files.on_eventfds kept.files.on_timers kept.sockets.acts x.shared.files (sockets_by hosts own history).0 (sockets_by hosts own history).1
  kept_here object lasts =
      subst (λ (t : SocketsRecord). ObjectLasts hosts object kept.files.on_pipes kept.files.on_eventfds kept.files.on_timers kept.sockets.acts x.shared.files t (sockets_by hosts own history).1) leaves.sockets_are
      (lasts (sockets_by hosts own history).1)

  -- a mark that was one is one
  still_mark : (object : Object) (mark : Rises) → IsMark hosts own history object mark → KeptLasts object → IsMark hosts own more object mark
  still_mark object mark m lasts =
      let p = m.goes_on.on_pipes in
      let e = m.goes_on.on_eventfds in
      let t = m.goes_on.on_timers in
      let s = m.goes_on.on_sockets in
      record {
        before = m.before;
        moment = m.moment;
        files = m.files;
        left = m.left;
        goes_on = goes_both m.before history more m.goes_on goes;
        was_there = m.was_there;
        lasts = both_last hosts p.0 kept.files.on_pipes e.0 kept.files.on_eventfds t.0 kept.files.on_timers s.0 kept.sockets.acts m.files x.shared.files (sockets_by hosts own m.before) (sockets_by hosts own history)
            (slots_since pipes m.before.on_pipes p.0 history.on_pipes m.files.pipes x.shared.files.pipes p.1 m.left.pipes_are leaves.files_are.pipes_are)
            (slots_since eventfds m.before.on_eventfds e.0 history.on_eventfds m.files.eventfds x.shared.files.eventfds e.1 m.left.eventfds_are leaves.files_are.eventfds_are)
            (slots_since timers m.before.on_timers t.0 history.on_timers m.files.timers x.shared.files.timers t.1 m.left.timers_are leaves.files_are.timers_are)
            (sockets_since hosts own m.before history m.goes_on) object m.lasts (kept_here object lasts);
        is = m.is;
      }

  -- one that is made is one
  new_mark : (id : FileId) (file : File) (mark : Rises) → file_at id x.shared.files ≡ Some file → object_rises now file.object x.shared.files x.sockets ≡ mark → KeptLasts (object_alone file.object) → IsMark hosts own more (object_alone file.object) mark
  new_mark id file mark there e lasts = record {
    before = history;
    moment = now;
    files = x.shared.files;
    left = leaves.files_are;
    goes_on = goes;
    was_there = subst (λ (t : SocketsRecord). is_there (object_alone file.object) x.shared.files t ≡ true) leaves.sockets_are
        (sym (alone_there file.object x.shared.files x.sockets) ∙ hold.there id file there);
    lasts = kept_here (object_alone file.object) lasts;
    is = sym e ∙ (object_counts hosts own history now file.object x.shared.files x.sockets leaves ∙ alone_counts hosts own history now file.object);
  }

  module _ (marks : MarksHold hosts own history x.tasks x.shared.files) (process k : ℕ) (first last : Task) (w : Watch) (mark : Rises) (jd : FileId) (g : File) (at_first : at process x.tasks ≡ Some first) (at_last : at process y.tasks ≡ Some last) (entry : HasEntry k last.epolls w) (marked : w.reported ≡ Some mark) (named : map.get last.table w.fd ≡ Some jd) (there : file_at jd y.shared.files ≡ Some g) where
    -- the descriptor of an entry that was there named an open file
    opened_before : (v : Watch) → HasEntry k first.epolls v → (id : FileId) × ((file : File) × ((map.get first.table v.fd ≡ Some id) × (file_at id x.shared.files ≡ Some file)))
    opened_before v e =
        let id = some_of (map.get first.table v.fd) (hold.watched process k first v at_first e) in
        let file = some_of (file_at id.0 x.shared.files) (hold.opened process v.fd id.0 (ap (λ (o : Option Task). named_in v.fd o) at_first ∙ id.1)) in
        (id.0, (file.0, (id.1, file.1)))

    one : (id : FileId) (file : File) → map.get first.table w.fd ≡ Some id → file_at id x.shared.files ≡ Some file → NamesOne hosts now.nanos x y kept.files kept.sockets id jd file g
    one id file e there_file =
        kept.entries_name hold process k last w at_last entry id jd file g (ap (λ (o : Option Task). named_in w.fd o) at_first ∙ e) (ap (λ (o : Option Task). named_in w.fd o) at_last ∙ named) there_file there

    kept_mark : HasEntry k first.epolls w → IsMark hosts own more (object_alone g.object) mark
    kept_mark e =
        let before = opened_before w e in
        let id = before.0 in
        let file = before.1.0 in
        let same = one id file before.1.1.0 before.1.1.1 in
        subst (λ (o : Object). IsMark hosts own more o mark) same.same_object
        (still_mark (object_alone file.object) mark (marks process k first w mark id file at_first e marked before.1.1.0 before.1.1.1)
        (λ u. alone_lasts hosts kept.files.on_pipes kept.files.on_eventfds kept.files.on_timers kept.sockets.acts x.shared.files x.sockets u file.object (same.lasts u)))

    told_mark : (v : Watch) → HasEntry k first.epolls v → w ≡ report_of v (seen now (scene_at first (slot_in process x)) v.fd) → IsMark hosts own more (object_alone g.object) mark
    told_mark v e is =
        let before = opened_before v e in
        let id = before.0 in
        let file = before.1.0 in
        let same_fd : w.fd ≡ v.fd = ap (λ (z : Watch). z.fd) is in
        let same = one id file (subst (λ (n : ℕ). map.get first.table n ≡ Some id) (sym same_fd) before.1.1.0) before.1.1.1 in
        let rises = (seen now (scene_at first (slot_in process x)) v.fd).rises in
        let is_mark : rises ≡ mark = some_same rises mark (sym (ap (λ (z : Watch). z.reported) is) ∙ marked) in
        subst (λ (o : Object). IsMark hosts own more o mark) same.same_object
        (new_mark id file mark before.1.1.1
        (sym (seen_open now v.fd (map.get first.table v.fd) id file x.shared.files x.sockets before.1.1.0 before.1.1.1) ∙ is_mark)
        (λ u. alone_lasts hosts kept.files.on_pipes kept.files.on_eventfds kept.files.on_timers kept.sockets.acts x.shared.files x.sockets u file.object (same.lasts u)))

    came_mark : ComesFrom now process k first x w → IsMark hosts own more (object_alone g.object) mark
    came_mark (as_it_was e) = kept_mark e
    came_mark (was_told v e is) = told_mark v e is
    came_mark (never_told e) = absurd (none_some (sym e ∙ marked))
      where
        none_some : None ≡ Some mark → ⊥
        none_some e = cc

  -- so all of them hold; a process that wasn't there before has no entries
  pub marks_hold : ((process k : ℕ) (last : Task) (w : Watch) → at process y.tasks ≡ Some last → HasEntry k last.epolls w → (first : Task) × (at process x.tasks ≡ Some first)) → MarksHold hosts own history x.tasks x.shared.files → MarksHold hosts own more y.tasks y.shared.files
  marks_hold were marks process k last w mark jd g at_last entry marked named there =
      let first = were process k last w at_last entry in
      came_mark marks process k first.0 last w mark jd g first.1 at_last entry marked named there (kept.marks process k first.0 last w first.1 at_last entry)

-- a process that is let go leaves the names and the marks of the others
pub let_go : (tasks : List (Option Task)) (p process : ℕ) (task : Task) → at process (slice_set tasks p None) ≡ Some task → at process tasks ≡ Some task
let_go tasks p process task e =
    by_number p process (at process tasks ≡ Some task)
    (λ same. absurd (none_some (set_same p None tasks task (subst (λ (n : ℕ). at n (slice_set tasks p None) ≡ Some task) (sym same) e))))
    (λ apart. sym (set_other p process None tasks apart) ∙ e)
  where
    none_some : None ≡ Some task → ⊥
    none_some e = cc

name_left : (tasks : List (Option Task)) (p process fd : ℕ) (id : FileId) → names process fd (slice_set tasks p None) ≡ Some id → names process fd tasks ≡ Some id
name_left tasks p process fd id e = by_task (at process (slice_set tasks p None)) refl e
  where
    by_task : (o : Option Task) → at process (slice_set tasks p None) ≡ o → named_in fd o ≡ Some id → names process fd tasks ≡ Some id
    by_task None there e = cc
    by_task (Some task) there e = ap (λ (o : Option Task). named_in fd o) (let_go tasks p process task there) ∙ e

pub holds_left : (hosts : List Ip) (own : Ip) (history : HostHistory) (tasks : List (Option Task)) (files : FilesState) (sockets : SocketsRecord) (p : ℕ) → Holds hosts own history tasks files sockets → Holds hosts own history (slice_set tasks p None) files sockets
holds_left hosts own history tasks files sockets p h = record {
  leaves = h.leaves;
  names = record {
    opened = λ q fd id e. h.names.opened q fd id (name_left tasks p q fd id e);
    apart = λ q fd r gd id e k. h.names.apart q fd r gd id (name_left tasks p q fd id e) (name_left tasks p r gd id k);
    there = h.names.there;
    single = h.names.single;
    watched = λ q k task w e entry. h.names.watched q k task w (let_go tasks p q task e) entry;
  };
  marks = λ q k task w mark id file e entry marked named there. h.marks q k task w mark id file (let_go tasks p q task e) entry marked named there;
}

-- an entry that is told by edges, and was told
edge_due : (w : Watch) (s : Seen) (mark : Rises) → w.reported ≡ Some mark → has_bit epoll.once w.events ≡ false → has_bit epoll.edge w.events ≡ true → epoll.is_due w s ≡ not (epoll.told_bits w s == 0) && epoll.has_risen (epoll.told_bits w s) mark s.rises
edge_due w s mark told once edge =
    let bits = epoll.told_bits w s in
    let risen = epoll.has_risen bits mark s.rises in
    ap (λ (o : Option Rises). not (bits == 0) && epoll.is_news_since o w s) told
    ∙ (ap (λ (b : Bool). not (bits == 0) && (not b && (not (has_bit epoll.edge w.events) || risen))) once
    ∙ ap (λ (b : Bool). not (bits == 0) && (not b || risen)) edge)

pub edge_tells : (hosts : List Ip) (own : Ip) (history : HostHistory) (now : Time) (s : Scene) (w : Watch) (d : Descriptor) (mark : Rises) (m : IsMark hosts own history (object_alone d.file.object) mark) → Leaves hosts own history s.shared.files s.sockets → descriptor w.fd s.task s.shared.files ≡ Ok d → w.reported ≡ Some mark → has_bit epoll.once w.events ≡ false → has_bit epoll.edge w.events ≡ true → ready.is_due now s w ≡ is_due_since hosts own history now s w m.before m.moment (object_alone d.file.object)
edge_tells hosts own history now s w d mark m leaves named told once edge =
    let seen_now = counted hosts own history now s w.fd in
    let bits = epoll.told_bits w seen_now in
    let rises_are : seen_now.rises ≡ counts (rises_counted hosts own history now (object_alone d.file.object)) =
    ap (λ (r : Result Descriptor Refusal). (counted_by hosts own history now w.fd r s).rises) named
    ∙ alone_counts hosts own history now d.file.object in
    due_so hosts own history now s w leaves
    ∙ (edge_due w seen_now mark told once edge
    ∙ (ap (λ (r : Rises). not (bits == 0) && epoll.has_risen bits r seen_now.rises) m.is
    ∙ ap (λ (r : Rises). not (bits == 0) && epoll.has_risen bits (counts (rises_counted hosts own m.before m.moment (object_alone d.file.object))) r) rises_are))
