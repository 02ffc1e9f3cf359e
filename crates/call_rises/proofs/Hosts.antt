-- what the descriptors of all processes of a host name, where one process acts
use Rattle.std.proofs.Common.{◌≡◌, ◌≢◌, ℕ, zero, suc, true, List, [], ◌∷◌, Option, Some, None, is_some, slice_set, refl, sym, ap, subst, ◌∙◌}
use Rattle.std.specs.FinMap as map
use Rattle.std.specs.Ordering.{nat_cmp}
use Rattle.sim_base.specs.declared.address.Ip.{Ip}
use Rattle.sim_base.specs.declared.time.Time.{Time}
use Rattle.guest_mem.specs.Memory.{Memory}
use Rattle.host_wants.specs.Wanted.{Wanted}
use Rattle.host_sockets.specs.Sockets.{SocketsRecord}
use Rattle.host_fds.specs.declared.file_id.FileId.{FileId}
use Rattle.host_fds.specs.declared.epoll.Watch.{Watch}
use Rattle.host_fds.specs.declared.pipe.End.{End}
use Rattle.host_fds.specs.declared.pipe.End.TheVariants.{Reading, Writing}
use Rattle.host_fds.specs.Pipe.{PipeState}
use Rattle.host_files.specs.declared.file.File.{File}
use Rattle.host_files.specs.declared.file.Object.{Object}
use Rattle.host_files.specs.declared.file.Object.TheVariants as kind
use Rattle.host_files.specs.Files.{FilesState, file_at, next_file}
use Rattle.host_files.specs.Slots.{at}
use Rattle.file_calls.specs.declared.task.Shared.{Shared}
use Rattle.file_calls.specs.declared.task.Task.{Task}
use Rattle.host_calls.specs.Parts.{PartsRecord, Slot, slot, with_slot}
use Rattle.call_parts.specs.Starting.{fresh_task, std_file, starts}
use Rattle.file_laws.proofs.Places.{set_same, set_other}
use Rattle.call_rises.specs.Moves.{FilesMove}
use Rattle.call_rises.specs.Sockets.{SocketsMove}
use Rattle.call_rises.specs.Names.{named_in, names, has_end, is_there, object_alone, HasEntry, NamesHold, ObjectLasts, NamesOne, ComesFrom, as_it_was, was_told, never_told, MarksMove}
use Rattle.call_rises.proofs.Opening.{with_open, opened_sound, file_still}
use Rattle.call_rises.proofs.There.{AllStay, all_stay}
use Rattle.call_rises.proofs.Views.{View, view, IsOthers, Sound, SameObject, Came, came_as_it_was, came_told, came_unsaid, Named, Grows, grows_object, grows_so, by_number, some_same, insert_other}

id_same : (id jd : FileId) → id.number ≡ jd.number → id ≡ jd
id_same id jd e = ap (λ (n : ℕ). record { number = n }) e

-- a name is one of a process that is there
abbrev NamedBy : ℕ → Option Task → FileId → Type 0
NamedBy fd o id = (task : Task) × ((o ≡ Some task) × (map.get task.table fd ≡ Some id))

named_by : (fd : ℕ) (o : Option Task) (id : FileId) → named_in fd o ≡ Some id → NamedBy fd o id
named_by fd None id e = let no : ⊥ = cc in absurd no
named_by fd (Some task) id e = (task, (refl, e))

-- as one process sees them
pub sound_of : (h : PartsRecord) (process : ℕ) (task : Task) → at process h.tasks ≡ Some task → NamesHold h.tasks h.shared.files h.sockets → Sound process h.tasks (view task h.shared h.sockets)
sound_of h process task there hold = record {
  opened = λ fd id e. hold.opened process fd id (mine fd id e);
  others = λ n o. subst (λ (m : ℕ). is_some (at m h.shared.files.files) ≡ true) o.number (hold.opened o.other o.fd o.id o.names);
  apart = λ fd gd id jd e k same. (hold.apart process fd process gd id (mine fd id e) (mine gd id (k ∙ ap (λ (x : FileId). Some x) (sym (id_same id jd same))))).1;
  apart_others = λ fd id e o.
      o.apart (hold.apart process fd o.other o.fd id (mine fd id e) (o.names ∙ ap (λ (x : FileId). Some x) (id_same o.id id o.number))).0;
  there = λ n file e. hold.there (record { number = n }) file e;
  single = λ n m f g e k same one. ap (λ (x : FileId). x.number) (hold.single (record { number = n }) (record { number = m }) f g e k same one);
  watched = λ k w e. hold.watched process k task w there e;
}
  where
    mine : (fd : ℕ) (id : FileId) → map.get task.table fd ≡ Some id → names process fd h.tasks ≡ Some id
    mine fd id e = ap (λ (o : Option Task). named_in fd o) there ∙ e

-- an object that is there before and after is there all along
has_end_some : (end : End) (o : Option PipeState) → has_end end o ≡ true → is_some o ≡ true
has_end_some end None e = e
has_end_some end (Some p) e = refl

module _ (hosts : List Ip) (now : ℕ) (x y : FilesState) (t u : SocketsRecord) (m : FilesMove now x y) (s : SocketsMove hosts t u) where
  object_lasts : (object : Object) → is_there object x t ≡ true → is_there (object_alone object) y u ≡ true → (w : Wanted) → ObjectLasts hosts object m.on_pipes m.on_eventfds m.on_timers s.acts x t w
  object_lasts kind.Input e k w = tt
  object_lasts kind.Output e k w = tt
  object_lasts kind.Errors e k w = tt
  object_lasts (kind.Hosts read) e k w = tt
  object_lasts (kind.ReadEnd n) e k w =
      m.pipes_last n (has_end_some Reading (at n x.pipes) e) (has_end_some Reading (at n y.pipes) k)
  object_lasts (kind.WriteEnd n) e k w =
      m.pipes_last n (has_end_some Writing (at n x.pipes) e) (has_end_some Writing (at n y.pipes) k)
  object_lasts (kind.Timer n) e k w = m.timers_last n e k
  object_lasts (kind.Eventfd n) e k w = m.eventfds_last n e k
  object_lasts (kind.Epoll n) e k w = tt
  object_lasts (kind.Udp n) e k w = s.udp_last n e k w
  object_lasts (kind.Tcp n) e k w = s.tcp_last n e k w

pub alone_there : (object : Object) (files : FilesState) (sockets : SocketsRecord) → is_there object files sockets ≡ is_there (object_alone object) files sockets
alone_there kind.Input files sockets = refl
alone_there kind.Output files sockets = refl
alone_there kind.Errors files sockets = refl
alone_there (kind.Hosts read) files sockets = refl
alone_there (kind.ReadEnd n) files sockets = refl
alone_there (kind.WriteEnd n) files sockets = refl
alone_there (kind.Timer n) files sockets = refl
alone_there (kind.Eventfd n) files sockets = refl
alone_there (kind.Epoll n) files sockets = refl
alone_there (kind.Udp n) files sockets = refl
alone_there (kind.Tcp n) files sockets = refl

-- what is the same before and after, together
names_one : (hosts : List Ip) (now : ℕ) (x y : PartsRecord) (m : FilesMove now x.shared.files y.shared.files) (s : SocketsMove hosts x.sockets y.sockets) (id jd : FileId) (f g : File) → NamesHold x.tasks x.shared.files x.sockets → NamesHold y.tasks y.shared.files y.sockets → file_at id x.shared.files ≡ Some f → file_at jd y.shared.files ≡ Some g → id ≡ jd → object_alone f.object ≡ object_alone g.object → NamesOne hosts now x y m s id jd f g
names_one hosts now x y m s id jd f g before after e k same alone = record {
  same_file = same;
  same_object = alone;
  lasts = object_lasts hosts now x.shared.files y.shared.files x.sockets y.sockets m s f.object (before.there id f e)
      (subst (λ (o : Object). is_there o y.shared.files y.sockets ≡ true) (sym alone) (sym (alone_there g.object y.shared.files y.sockets) ∙ after.there jd g k));
}

-- a process is put in its place, as it is left
module _ (h : PartsRecord) (process : ℕ) (p : Slot) (left : Task) (is : p.task ≡ Some left) where
  abbrev y : PartsRecord
  y = with_slot process p h

  abbrev after_view : View
  after_view = view left p.shared p.sockets

  who : (P : Type 0) (q : ℕ) (other : Task) → at q y.tasks ≡ Some other → (process ≡ q → left ≡ other → P) → (process ≢ q → at q h.tasks ≡ Some other → P) → P
  who P q other e mine others =
      by_number process q P
      (λ same.
      mine same
      (some_same left other (sym is ∙ set_same process p.task h.tasks other (subst (λ (n : ℕ). at n y.tasks ≡ Some other) (sym same) e))))
      (λ apart. others apart (sym (set_other process q p.task h.tasks apart) ∙ e))

  -- a descriptor is one of the process or another's
  whose : (P : Type 0) (q fd : ℕ) (id : FileId) → names q fd y.tasks ≡ Some id → (process ≡ q → map.get left.table fd ≡ Some id → P) → (process ≢ q → names q fd h.tasks ≡ Some id → P) → P
  whose P q fd id e mine others =
      let named = named_by fd (at q y.tasks) id e in
      who P q named.0 named.1.0
      (λ same left_is. mine same (subst (λ (t : Task). map.get t.table fd ≡ Some id) (sym left_is) named.1.1))
      (λ apart there. others apart (ap (λ (o : Option Task). named_in fd o) there ∙ named.1.1))

  others_file : (q fd : ℕ) (id : FileId) → process ≢ q → names q fd h.tasks ≡ Some id → IsOthers process h.tasks id.number
  others_file q fd id apart e = record { other = q; fd = fd; id = id; apart = apart; names = e; number = refl }

  pub hold_placed : Sound process h.tasks after_view → NamesHold h.tasks h.shared.files h.sockets → NamesHold y.tasks p.shared.files p.sockets
  hold_placed sound hold = record {
    opened = λ q fd id e. whose (is_some (at id.number p.shared.files.files) ≡ true) q fd id e
        (λ same mine. sound.opened fd id mine)
        (λ apart theirs. sound.others id.number (others_file q fd id apart theirs));
    apart = λ q fd r gd id e k. whose ((q ≡ r) × (fd ≡ gd)) q fd id e
        (λ q_mine mine. whose ((q ≡ r) × (fd ≡ gd)) r gd id k
        (λ r_mine mine_too. (sym q_mine ∙ r_mine, sound.apart fd gd id id mine mine_too refl))
        (λ r_apart theirs. absurd (sound.apart_others fd id mine (others_file r gd id r_apart theirs))))
        (λ q_apart theirs. whose ((q ≡ r) × (fd ≡ gd)) r gd id k
        (λ r_mine mine. absurd (sound.apart_others gd id mine (others_file q fd id q_apart theirs)))
        (λ r_apart theirs_too. hold.apart q fd r gd id theirs theirs_too));
    there = λ id file e. sound.there id.number file e;
    single = λ id jd f g e k same one. id_same id jd (sound.single id.number jd.number f g e k same one);
    watched = λ q k other w e entry. who (is_some (map.get other.table w.fd) ≡ true) q other e
        (λ same left_is. subst (λ (t : Task). is_some (map.get t.table w.fd) ≡ true) left_is
        (sound.watched k w (subst (λ (t : Task). HasEntry k t.epolls w) (sym left_is) entry)))
        (λ apart there. hold.watched q k other w there entry);
  }

  module _ (now : Time) (before : Task) (there : at process h.tasks ≡ Some before) (named : Named now.nanos (view before h.shared h.sockets) after_view) where
    abbrev before_view : View
    before_view = view before h.shared h.sockets

    pub hold_after : NamesHold h.tasks h.shared.files h.sockets → NamesHold y.tasks p.shared.files p.sockets
    hold_after hold =
        hold_placed (named.sound process h.tasks (sound_of h process before there hold)) hold

    same_name : NamesHold h.tasks h.shared.files h.sockets → (q fd : ℕ) (id jd : FileId) → names q fd h.tasks ≡ Some id → names q fd y.tasks ≡ Some jd → (id ≡ jd) × SameObject before_view after_view id.number
    same_name hold q fd id jd e k =
        let sound = sound_of h process before there hold in
        whose ((id ≡ jd) × SameObject before_view after_view id.number) q fd jd k
        (λ same mine.
        let first : map.get before.table fd ≡ Some id = sym (ap (λ (o : Option Task). named_in fd o) there) ∙ subst (λ (n : ℕ). names n fd h.tasks ≡ Some id) (sym same) e in
        named.own process h.tasks sound fd id jd first mine)
        (λ apart theirs.
        (some_same id jd (sym e ∙ theirs), named.others process h.tasks sound id.number (others_file q fd id apart e)))

    pub one_after : (hosts : List Ip) (m : FilesMove now.nanos h.shared.files p.shared.files) (s : SocketsMove hosts h.sockets p.sockets) → NamesHold h.tasks h.shared.files h.sockets → (q fd : ℕ) (id jd : FileId) (f g : File) → names q fd h.tasks ≡ Some id → names q fd y.tasks ≡ Some jd → file_at id h.shared.files ≡ Some f → file_at jd p.shared.files ≡ Some g → NamesOne hosts now.nanos h y m s id jd f g
    one_after hosts m s hold q fd id jd f g e k there_f there_g =
        let same = same_name hold q fd id jd e k in
        names_one hosts now.nanos h y m s id jd f g hold (hold_after hold) there_f there_g same.0
        (same.1 f g there_f (subst (λ (x : FileId). file_at x p.shared.files ≡ Some g) (sym same.0) there_g))

    pub were_after : (q : ℕ) (last : Task) → at q y.tasks ≡ Some last → (first : Task) × (at q h.tasks ≡ Some first)
    were_after q last e =
        who ((first : Task) × (at q h.tasks ≡ Some first)) q last e
        (λ same is. (before, subst (λ (n : ℕ). at n h.tasks ≡ Some before) same there))
        (λ apart at_there. (last, at_there))

    came_from : (k : ℕ) (x : Watch) → Came now.nanos before_view k x → ComesFrom now process k before h x
    came_from k x (came_as_it_was e) = as_it_was e
    came_from k x (came_told v e is_told) = was_told v e is_told
    came_from k x (came_unsaid e) = never_told e

    pub marks_after : MarksMove now h y
    marks_after q k first last x at_first at_last entry =
        who (ComesFrom now q k first h x) q last at_last
        (λ same left_is.
        let is_first : before ≡ first = some_same before first (sym there ∙ subst (λ (n : ℕ). at n h.tasks ≡ Some first) (sym same) at_first) in
        subst (λ (t : Task). ComesFrom now q k t h x) is_first
        (subst (λ (n : ℕ). ComesFrom now n k before h x) same
        (came_from k x (named.entries k x (subst (λ (t : Task). HasEntry k t.epolls x) (sym left_is) entry)))))
        (λ apart at_there.
        let same_task : last ≡ first = some_same last first (sym at_there ∙ at_first) in
        as_it_was (subst (λ (t : Task). HasEntry k t.epolls x) same_task entry))

-- processes stay where they are
pub placed_same : {A : Type 0} (k : ℕ) (slots : List (Option A)) (q : ℕ) → at q (slice_set slots k (at k slots)) ≡ at q slots
placed_same k [] q = refl
placed_same zero (x ∷ slots) zero = refl
placed_same zero (x ∷ slots) (suc q) = refl
placed_same (suc k) (x ∷ slots) zero = refl
placed_same (suc k) (x ∷ slots) (suc q) = placed_same k slots q

module _ (now : Time) (x y : PartsRecord) (tasks : (q : ℕ) → at q y.tasks ≡ at q x.tasks) (files : x.shared.files.files ≡ y.shared.files.files) (grows : Grows x.shared.files y.shared.files) (stay : AllStay x.sockets y.sockets) where
  name_was : (q fd : ℕ) (id : FileId) → names q fd y.tasks ≡ Some id → names q fd x.tasks ≡ Some id
  name_was q fd id e = ap (λ (o : Option Task). named_in fd o) (sym (tasks q)) ∙ e

  file_was : (id : FileId) (f : File) → file_at id y.shared.files ≡ Some f → file_at id x.shared.files ≡ Some f
  file_was id f e = ap (λ (fs : List (Option File)). at id.number fs) files ∙ e

  pub hold_rests : NamesHold x.tasks x.shared.files x.sockets → NamesHold y.tasks y.shared.files y.sockets
  hold_rests hold = record {
    opened = λ q fd id e. subst (λ (fs : List (Option File)). is_some (at id.number fs) ≡ true) files (hold.opened q fd id (name_was q fd id e));
    apart = λ q fd r gd id e k. hold.apart q fd r gd id (name_was q fd id e) (name_was r gd id k);
    there = λ id f e. grows_object x.shared.files y.shared.files x.sockets y.sockets grows stay f.object (hold.there id f (file_was id f e));
    single = λ id jd f g e k same one. hold.single id jd f g (file_was id f e) (file_was jd g k) same one;
    watched = λ q k task w e entry. hold.watched q k task w (sym (tasks q) ∙ e) entry;
  }

  pub one_rests : (hosts : List Ip) (m : FilesMove now.nanos x.shared.files y.shared.files) (s : SocketsMove hosts x.sockets y.sockets) → NamesHold x.tasks x.shared.files x.sockets → (q fd : ℕ) (id jd : FileId) (f g : File) → names q fd x.tasks ≡ Some id → names q fd y.tasks ≡ Some jd → file_at id x.shared.files ≡ Some f → file_at jd y.shared.files ≡ Some g → NamesOne hosts now.nanos x y m s id jd f g
  one_rests hosts m s hold q fd id jd f g e k there_f there_g =
      let same : id ≡ jd = some_same id jd (sym e ∙ name_was q fd jd k) in
      let same_file : f ≡ g = some_same f g (sym there_f ∙ subst (λ (i : FileId). file_at i x.shared.files ≡ Some g) (sym same) (file_was jd g there_g)) in
      names_one hosts now.nanos x y m s id jd f g hold (hold_rests hold) there_f there_g same (ap (λ (z : File). object_alone z.object) same_file)

  pub marks_rest : MarksMove now x y
  marks_rest q k first last w at_first at_last entry =
      let same : last ≡ first = some_same last first (sym at_last ∙ (tasks q ∙ at_first)) in
      as_it_was (subst (λ (t : Task). HasEntry k t.epolls w) same entry)

-- a process that starts has no descriptor at first, and then three
module _ (process : ℕ) (memory : Memory) (h : PartsRecord) where
  abbrev no_view : View
  no_view = view (fresh_task memory) h.shared h.sockets

  none_named : (fd : ℕ) (id : FileId) → map.get {R = nat_cmp} map.empty fd ≡ Some id → ⊥
  none_named fd id e = let no : None ≡ Some id = sym (map.get-empty nat_cmp fd) ∙ e in none_some id no
    where
      none_some : (id : FileId) → None ≡ Some id → ⊥
      none_some id e = cc

  no_entry : (k : ℕ) (w : Watch) → HasEntry k [] w → ⊥
  no_entry k w (entries, (e, is_in)) = none_some entries e
    where
      none_some : (entries : List Watch) → None ≡ Some entries → ⊥
      none_some entries e = cc

  nothing_sound : NamesHold h.tasks h.shared.files h.sockets → Sound process h.tasks no_view
  nothing_sound hold = record {
    opened = λ fd id e. absurd (none_named fd id e);
    others = λ n o. subst (λ (m : ℕ). is_some (at m h.shared.files.files) ≡ true) o.number (hold.opened o.other o.fd o.id o.names);
    apart = λ fd gd id jd e k same. absurd (none_named fd id e);
    apart_others = λ fd id e o. none_named fd id e;
    there = λ n file e. hold.there (record { number = n }) file e;
    single = λ n m f g e k same one. ap (λ (x : FileId). x.number) (hold.single (record { number = n }) (record { number = m }) f g e k same one);
    watched = λ k w e. absurd (no_entry k w e);
  }

  -- standard input, output and error, one behind another
  abbrev input_view : View
  input_view = with_open no_view 0 (std_file kind.Input) h.shared.files [] h.sockets

  abbrev output_view : View
  output_view = with_open input_view 1 (std_file kind.Output) input_view.files [] h.sockets

  abbrev errors_view : View
  errors_view = with_open output_view 2 (std_file kind.Errors) output_view.files [] h.sockets

  input_free : map.get no_view.table 0 ≡ None
  input_free = map.get-empty nat_cmp 0

  output_free : map.get input_view.table 1 ≡ None
  output_free = insert_other no_view.table 0 (next_file h.shared.files) 1 (λ e. cc) ∙ map.get-empty nat_cmp 1

  errors_free : map.get output_view.table 2 ≡ None
  errors_free =
      insert_other input_view.table 1 (next_file input_view.files) 2 (λ e. cc)
      ∙ (insert_other no_view.table 0 (next_file h.shared.files) 2 (λ e. cc) ∙ map.get-empty nat_cmp 2)

  started_sound : NamesHold h.tasks h.shared.files h.sockets → Sound process h.tasks errors_view
  started_sound hold =
      opened_sound 0 output_view 2 (std_file kind.Errors) output_view.files [] h.sockets errors_free refl (grows_so output_view.files output_view.files refl refl refl) (all_stay h.sockets) refl (λ k x e. e) process h.tasks
      (opened_sound 0 input_view 1 (std_file kind.Output) input_view.files [] h.sockets output_free refl (grows_so input_view.files input_view.files refl refl refl) (all_stay h.sockets) refl (λ k x e. e) process h.tasks
      (opened_sound 0 no_view 0 (std_file kind.Input) h.shared.files [] h.sockets input_free refl (grows_so h.shared.files h.shared.files refl refl refl) (all_stay h.sockets) refl (λ k x e. e) process h.tasks (nothing_sound hold) (λ n f e same one. cc))
      (λ n f e same one. cc))
      (λ n f e same one. cc)

  abbrev begun : Task × Shared
  begun = starts memory h.shared

  abbrev begun_slot : Slot
  begun_slot = slot (Some begun.0) begun.1 h.sockets

  abbrev begun_parts : PartsRecord
  begun_parts = with_slot process begun_slot h

  pub hold_begun : NamesHold h.tasks h.shared.files h.sockets → NamesHold begun_parts.tasks begun_parts.shared.files begun_parts.sockets
  hold_begun hold = hold_placed h process begun_slot begun.0 refl (started_sound hold) hold

  file_stays : (n : ℕ) (f : File) → at n h.shared.files.files ≡ Some f → at n begun.1.files.files ≡ Some f
  file_stays n f e =
      file_still 0 output_view 2 (std_file kind.Errors) output_view.files [] h.sockets errors_free refl n f
      (file_still 0 input_view 1 (std_file kind.Output) input_view.files [] h.sockets output_free refl n f
      (file_still 0 no_view 0 (std_file kind.Input) h.shared.files [] h.sockets input_free refl n f e))

  pub one_begun : (hosts : List Ip) (now : Time) (m : FilesMove now.nanos h.shared.files begun_parts.shared.files) (s : SocketsMove hosts h.sockets begun_parts.sockets) → NamesHold h.tasks h.shared.files h.sockets → (q fd : ℕ) (id jd : FileId) (f g : File) → process ≢ q → names q fd h.tasks ≡ Some id → names q fd begun_parts.tasks ≡ Some jd → file_at id h.shared.files ≡ Some f → file_at jd begun_parts.shared.files ≡ Some g → NamesOne hosts now.nanos h begun_parts m s id jd f g
  one_begun hosts now m s hold q fd id jd f g apart e k there_f there_g =
      let still : names q fd begun_parts.tasks ≡ Some id = ap (λ (o : Option Task). named_in fd o) (set_other process q (Some begun.0) h.tasks apart) ∙ e in
      let same : id ≡ jd = some_same id jd (sym still ∙ k) in
      let same_file : f ≡ g = some_same f g (sym (file_stays id.number f there_f) ∙ subst (λ (i : FileId). file_at i begun_parts.shared.files ≡ Some g) (sym same) there_g) in
      names_one hosts now.nanos h begun_parts m s id jd f g hold (hold_begun hold) there_f there_g same (ap (λ (z : File). object_alone z.object) same_file)

  -- it has no entries, and those of the others stay
  pub entry_begun : (P : Type 0) (q k : ℕ) (last : Task) (w : Watch) → at q begun_parts.tasks ≡ Some last → HasEntry k last.epolls w → (process ≢ q → at q h.tasks ≡ Some last → P) → P
  entry_begun P q k last w e entry others =
      who h process begun_slot begun.0 refl P q last e
      (λ same is. absurd (no_entry k w (subst (λ (t : Task). HasEntry k t.epolls w) (sym is) entry)))
      others

  pub marks_begun : (now : Time) → MarksMove now h begun_parts
  marks_begun now q k first last w at_first at_last entry =
      entry_begun (ComesFrom now q k first h w) q k last w at_last entry
      (λ apart there.
      let same : last ≡ first = some_same last first (sym there ∙ at_first) in
      as_it_was (subst (λ (t : Task). HasEntry k t.epolls w) same entry))
