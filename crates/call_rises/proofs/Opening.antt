-- a file is opened, and put in another one's place
use Rattle.std.proofs.Common.{◌≡◌, ◌≢◌, ℕ, Bool, true, false, List, Option, Some, None, is_some, refl, sym, ap, subst, ◌∙◌}
use Rattle.std.specs.FinMap as map
use Rattle.host_fds.specs.declared.file_id.FileId.{FileId}
use Rattle.host_fds.specs.declared.epoll.Watch.{Watch}
use Rattle.host_fds.specs.declared.pipe.End.TheVariants.{Reading, Writing}
use Rattle.host_fds.specs.Descriptors.{Descriptors}
use Rattle.host_fds.specs.Pipe.{PipeState, new_pipe}
use Rattle.host_files.specs.declared.file.File.{File}
use Rattle.host_files.specs.declared.file.Object.{Object}
use Rattle.host_files.specs.declared.file.Object.TheVariants as kind
use Rattle.host_files.specs.Epolls.{EpollsState}
use Rattle.host_files.specs.Files.{FilesState, next_file, opened, replaced, next_pipe, with_pipe}
use Rattle.host_files.specs.Slots.{at, free_place, added, after, acts}
use Rattle.host_sockets.specs.Sockets.{SocketsRecord}
use Rattle.file_calls.specs.declared.files.Ends.{Ends}
use Rattle.file_calls.specs.declared.task.Task.{Task}
use Rattle.file_calls.specs.Files.{read_end, write_end}
use Rattle.file_laws.proofs.Places.{acts_here, set_other, made_here, made_other, none_free}
use Rattle.call_rises.specs.Names.{has_end, is_there, is_single, object_alone, HasEntry}
use Rattle.call_rises.proofs.Growing.{grows_by_pipe}
use Rattle.call_rises.proofs.There.{AllStay, all_stay}
use Rattle.call_rises.proofs.Views.{View, Sound, SameObject, came_as_it_was, Named, Grows, grows_object, grows_so, by_number, some_same, some_of, is_there_of, not_none, insert_here, insert_other}

-- no open file is of the object
abbrev pub IsNew : View → File → Type 0
IsNew v file = (n : ℕ) (f : File) → at n v.files.files ≡ Some f → f.object ≡ file.object → is_single file.object ≡ true → ⊥

abbrev pub with_open : View → ℕ → File → FilesState → EpollsState → SocketsRecord → View
with_open v fd file y epolls t = record { table = map.insert v.table fd (next_file y); files = opened file y; epolls = epolls; sockets = t }

module _ (now : ℕ) (v : View) (fd : ℕ) (file : File) (y : FilesState) (epolls : EpollsState) (t : SocketsRecord) (free : map.get v.table fd ≡ None) (files : v.files.files ≡ y.files) where
  abbrev w : View
  w = with_open v fd file y epolls t

  abbrev N : ℕ
  N = free_place y.files

  abbrev here : List (Option File)
  here = added file y.files

  last : at N here ≡ Some file
  last = made_here file y.files

  free_before : at N v.files.files ≡ None
  free_before = subst (λ (fs : List (Option File)). at N fs ≡ None) (sym files) (none_free y.files)

  other : (n : ℕ) → N ≢ n → at n here ≡ at n v.files.files
  other n apart = made_other n file y.files apart ∙ ap (λ (fs : List (Option File)). at n fs) (sym files)

  apart_of : (n : ℕ) → is_some (at n v.files.files) ≡ true → N ≢ n
  apart_of n h same =
      not_none (at n v.files.files) (subst (λ (m : ℕ). at m v.files.files ≡ None) same free_before) h

  still : (n : ℕ) → is_some (at n v.files.files) ≡ true → is_some (at n here) ≡ true
  still n h = subst (λ (o : Option File). is_some o ≡ true) (sym (other n (apart_of n h))) h

  pub file_still : (n : ℕ) (f : File) → at n v.files.files ≡ Some f → at n w.files.files ≡ Some f
  file_still n f e = other n (apart_of n (is_there_of (at n v.files.files) f e)) ∙ e

  pub same_objects : (n : ℕ) → SameObject v w n
  same_objects n f g a b =
      let there = is_there_of (at n v.files.files) f a in
      let same : f ≡ g = some_same f g (sym a ∙ (sym (other n (apart_of n there)) ∙ b)) in
      ap (λ (x : File). object_alone x.object) same

  -- a file is the new one or an old one
  pub either_file : (P : Type 0) (n : ℕ) (f : File) → at n here ≡ Some f → (N ≡ n → file ≡ f → P) → (at n v.files.files ≡ Some f → P) → P
  either_file P n f e new old =
      by_number N n P
      (λ same. new same (some_same file f (sym (subst (λ (m : ℕ). at m here ≡ Some file) same last) ∙ e)))
      (λ apart. old (sym (other n apart) ∙ e))

  -- a descriptor is the new one or an old one
  either_name : (P : Type 0) (gd : ℕ) (id : FileId) → map.get w.table gd ≡ Some id → (gd ≡ fd → next_file y ≡ id → P) → (gd ≢ fd → map.get v.table gd ≡ Some id → P) → P
  either_name P gd id e new old =
      by_number gd fd P
      (λ same. new same (some_same (next_file y) id (sym (subst (λ (m : ℕ). map.get w.table m ≡ Some (next_file y)) (sym same) (insert_here v.table fd (next_file y))) ∙ e)))
      (λ apart. old apart (sym (insert_other v.table fd (next_file y) gd apart) ∙ e))

  number_of : (id : FileId) → next_file y ≡ id → N ≡ id.number
  number_of id e = ap (λ (x : FileId). x.number) e

  open_apart : (gd : ℕ) → is_some (map.get v.table gd) ≡ true → gd ≢ fd
  open_apart gd h same =
      not_none (map.get v.table gd) (subst (λ (m : ℕ). map.get v.table m ≡ None) (sym same) free) h

  pub opened_own : (gd : ℕ) (id jd : FileId) → map.get v.table gd ≡ Some id → map.get w.table gd ≡ Some jd → (id ≡ jd) × SameObject v w id.number
  opened_own gd id jd e k =
      let same = insert_other v.table fd (next_file y) gd (open_apart gd (is_there_of (map.get v.table gd) id e)) in
      (some_same id jd (sym e ∙ (sym same ∙ k)), same_objects id.number)

  module _ (grows : Grows v.files y) (stay : AllStay v.sockets t) (is_here : is_there file.object y t ≡ true) (entries : (k : ℕ) (x : Watch) → HasEntry k epolls x → HasEntry k v.epolls x) where
    pub opened_sound : (process : ℕ) (tasks : List (Option Task)) → Sound process tasks v → IsNew v file → Sound process tasks w
    opened_sound process tasks h new = record {
      opened = λ gd id e. either_name (is_some (at id.number here) ≡ true) gd id e
          (λ same is. subst (λ (m : ℕ). is_some (at m here) ≡ true) (number_of id is) (is_there_of (at N here) file last))
          (λ apart old. still id.number (h.opened gd id old));
      others = λ n o. still n (h.others n o);
      apart = λ a b id jd e k same. either_name (a ≡ b) a id e
          (λ a_new id_new. either_name (a ≡ b) b jd k
          (λ b_new jd_new. a_new ∙ sym b_new)
          (λ b_apart old. absurd (apart_of jd.number (h.opened b jd old) (number_of id id_new ∙ same))))
          (λ a_apart a_old. either_name (a ≡ b) b jd k
          (λ b_new jd_new. absurd (apart_of id.number (h.opened a id a_old) (number_of jd jd_new ∙ sym same)))
          (λ b_apart b_old. h.apart a b id jd a_old b_old same));
      apart_others = λ gd id e o. either_name ⊥ gd id e
          (λ same is. apart_of id.number (h.others id.number o) (number_of id is))
          (λ apart old. h.apart_others gd id old o);
      there = λ n f e. grows_object y w.files t t (record { ends = λ end k q. q; eventfds = λ k q. q; timers = λ k q. q }) (all_stay t) f.object
          (either_file (is_there f.object y t ≡ true) n f e
          (λ same is. subst (λ (x : File). is_there x.object y t ≡ true) is is_here)
          (λ old. grows_object v.files y v.sockets t grows stay f.object (h.there n f old)));
      single = λ n m f g e k same one. either_file (n ≡ m) n f e
          (λ n_new f_new. either_file (n ≡ m) m g k
          (λ m_new g_new. sym n_new ∙ m_new)
          (λ old. absurd (new m g old (sym same ∙ ap (λ (x : File). x.object) (sym f_new)) (subst (λ (x : File). is_single x.object ≡ true) (sym f_new) one))))
          (λ n_old. either_file (n ≡ m) m g k
          (λ m_new g_new. absurd (new n f n_old (same ∙ ap (λ (x : File). x.object) (sym g_new))
          (subst (λ (x : File). is_single x.object ≡ true) (sym g_new) (subst (λ (o : Object). is_single o ≡ true) same one))))
          (λ m_old. h.single n m f g n_old m_old same one));
      watched = λ k x e.
          let is_open = h.watched k x (entries k x e) in
          subst (λ (o : Option FileId). is_some o ≡ true) (sym (insert_other v.table fd (next_file y) x.fd (open_apart x.fd is_open))) is_open;
    }

    pub opened_named : ((process : ℕ) (tasks : List (Option Task)) → Sound process tasks v → IsNew v file) → Named now v w
    opened_named new = record {
      sound = λ process tasks h. opened_sound process tasks h (new process tasks h);
      own = λ process tasks h gd id jd e k. opened_own gd id jd e k;
      others = λ process tasks h n o. same_objects n;
      entries = λ k x e. came_as_it_was (entries k x e);
    }

  -- what it opened before stays
  pub still_named : (gd : ℕ) (id : FileId) → map.get v.table gd ≡ Some id → map.get w.table gd ≡ Some id
  still_named gd id e =
      insert_other v.table fd (next_file y) gd (open_apart gd (is_there_of (map.get v.table gd) id e)) ∙ e

-- another file of one object in the place of an open one
module _ (now : ℕ) (v : View) (id : FileId) (old new : File) (is : at id.number v.files.files ≡ Some old) where
  abbrev changed_files : List (Option File)
  changed_files = acts (λ _. Some new) id.number v.files.files

  changed_here : at id.number changed_files ≡ Some new
  changed_here =
      acts_here (λ _. Some new) id.number v.files.files ∙ ap (λ (o : Option File). after (λ _. Some new) o) is

  changed_other : (n : ℕ) → id.number ≢ n → at n changed_files ≡ at n v.files.files
  changed_other n apart = set_other id.number n (after (λ _. Some new) (at id.number v.files.files)) v.files.files apart

  abbrev changed_view : View
  changed_view = record { table = v.table; files = replaced id new v.files; epolls = v.epolls; sockets = v.sockets }

  -- each file was there, of the same object
  file_before : (P : Type 0) (n : ℕ) (f : File) → at n changed_files ≡ Some f → (id.number ≡ n → new ≡ f → P) → (at n v.files.files ≡ Some f → P) → P
  file_before P n f e one others =
      by_number id.number n P
      (λ same. one same (some_same new f (sym (subst (λ (m : ℕ). at m changed_files ≡ Some new) same changed_here) ∙ e)))
      (λ apart. others (sym (changed_other n apart) ∙ e))

  changed_still : (n : ℕ) → is_some (at n v.files.files) ≡ true → is_some (at n changed_files) ≡ true
  changed_still n h =
      by_number id.number n (is_some (at n changed_files) ≡ true)
      (λ same. subst (λ (m : ℕ). is_some (at m changed_files) ≡ true) same (is_there_of (at id.number changed_files) new changed_here))
      (λ apart. subst (λ (o : Option File). is_some o ≡ true) (sym (changed_other n apart)) h)

  module _ (alone : object_alone old.object ≡ object_alone new.object) (there : is_there old.object v.files v.sockets ≡ true → is_there new.object v.files v.sockets ≡ true) (single : is_single new.object ≡ true → old.object ≡ new.object) where
    changed_objects : (n : ℕ) → SameObject v changed_view n
    changed_objects n f g a b =
        file_before (object_alone f.object ≡ object_alone g.object) n g b
        (λ same is_new.
        let was_old : f ≡ old = some_same f old (sym a ∙ subst (λ (m : ℕ). at m v.files.files ≡ Some old) same is) in
        ap (λ (x : File). object_alone x.object) was_old ∙ (alone ∙ ap (λ (x : File). object_alone x.object) is_new))
        (λ e. ap (λ (x : File). object_alone x.object) (some_same f g (sym a ∙ e)))

    -- an object that is of one file alone was of it before
    file_of : (P : Type 0) (n : ℕ) (f : File) → at n changed_files ≡ Some f → is_single f.object ≡ true → ((x : File) → at n v.files.files ≡ Some x → x.object ≡ f.object → P) → P
    file_of P n f e one k =
        file_before P n f e
        (λ same is_new.
        k old (subst (λ (m : ℕ). at m v.files.files ≡ Some old) same is)
        (single (subst (λ (x : File). is_single x.object ≡ true) (sym is_new) one) ∙ ap (λ (x : File). x.object) is_new))
        (λ e. k f e refl)

    pub changed_named : Named now v changed_view
    changed_named = record {
      sound = λ process tasks h. record {
        opened = λ fd jd e. changed_still jd.number (h.opened fd jd e);
        others = λ n o. changed_still n (h.others n o);
        apart = λ fd gd jd kd e k same. h.apart fd gd jd kd e k same;
        apart_others = λ fd jd e o. h.apart_others fd jd e o;
        there = λ n f e. grows_object v.files changed_view.files v.sockets v.sockets (record { ends = λ end k q. q; eventfds = λ k q. q; timers = λ k q. q }) (all_stay v.sockets) f.object
            (file_before (is_there f.object v.files v.sockets ≡ true) n f e
            (λ same is_new. subst (λ (x : File). is_there x.object v.files v.sockets ≡ true) is_new (there (h.there id.number old is)))
            (λ e. h.there n f e));
        single = λ n m f g e k same one.
            file_of (n ≡ m) n f e one
            (λ x there_x is_x. file_of (n ≡ m) m g k (subst (λ (o : Object). is_single o ≡ true) same one)
            (λ y there_y is_y. h.single n m x y there_x there_y (is_x ∙ (same ∙ sym is_y)) (subst (λ (o : Object). is_single o ≡ true) (sym is_x) one)));
        watched = λ k x e. h.watched k x e;
      };
      own = λ process tasks h fd jd kd e k. (some_same jd kd (sym e ∙ k), changed_objects jd.number);
      others = λ process tasks h n o. changed_objects n;
      entries = λ k x e. came_as_it_was e;
    }

-- an object that wasn't there is new
pub new_object : (v : View) (file : File) (process : ℕ) (tasks : List (Option Task)) → Sound process tasks v → (is_single file.object ≡ true → is_there file.object v.files v.sockets ≡ false) → IsNew v file
new_object v file process tasks h absent n f e same one =
    let there = subst (λ (o : Object). is_there o v.files v.sockets ≡ true) same (h.there n f e) in
    let no : false ≡ true = sym (absent one) ∙ there in
    false_true no
  where
    false_true : false ≡ true → ⊥
    false_true e = cc

-- pipe(2): a pipe is made, and a file opened for each of its ends
pub record AreFree (table : Descriptors) (fds : Ends) : Type 0 where
  pub reading : map.get table fds.reading ≡ None
  pub writing : map.get table fds.writing ≡ None
  pub apart : fds.writing ≢ fds.reading

module _ (now : ℕ) (v : View) (fds : Ends) (nonblocking : Bool) (free : AreFree v.table fds) where
  abbrev number : ℕ
  number = next_pipe v.files

  abbrev made : FilesState
  made = with_pipe v.files

  abbrev reader : File
  reader = read_end nonblocking number

  abbrev writer : File
  writer = write_end nonblocking number

  abbrev first : View
  first = with_open v fds.reading reader made v.epolls v.sockets

  abbrev second : View
  second = with_open first fds.writing writer first.files v.epolls v.sockets

  pipe_here : at number made.pipes ≡ Some new_pipe
  pipe_here = made_here new_pipe v.files.pipes

  first_named : Named now v first
  first_named =
      opened_named now v fds.reading reader made v.epolls v.sockets free.reading refl (grows_by_pipe v.files) (all_stay v.sockets) (ap (λ (o : Option PipeState). has_end Reading o) pipe_here) (λ j x e. e)
      (λ process tasks h. new_object v reader process tasks h (λ one. ap (λ (o : Option PipeState). has_end Reading o) (none_free v.files.pipes)))

  -- no other file is of its writing end
  writer_new : (process : ℕ) (tasks : List (Option Task)) → Sound process tasks v → IsNew first writer
  writer_new process tasks h n f e same one =
      either_file now v fds.reading reader made v.epolls v.sockets free.reading refl ⊥ n f e
      (λ here is. other_end (ap (λ (x : File). x.object) is ∙ same))
      (λ old. new_object v writer process tasks h (λ single. ap (λ (o : Option PipeState). has_end Writing o) (none_free v.files.pipes)) n f old same one)
    where
      other_end : kind.ReadEnd number ≡ kind.WriteEnd number → ⊥
      other_end e = cc

  writing_free : map.get first.table fds.writing ≡ None
  writing_free = insert_other v.table fds.reading (next_file made) fds.writing free.apart ∙ free.writing

  pub pipe_named : Named now v second
  pipe_named = record {
    sound = λ process tasks h.
        opened_sound now first fds.writing writer first.files v.epolls v.sockets writing_free refl (grows_so first.files first.files refl refl refl) (all_stay v.sockets) (ap (λ (o : Option PipeState). has_end Writing o) pipe_here) (λ j x e. e) process tasks (first_named.sound process tasks h) (writer_new process tasks h);
    own = λ process tasks h fd id jd e k.
        let still = still_named now v fds.reading reader made v.epolls v.sockets free.reading refl fd id e in
        let found = some_of (at id.number first.files.files) ((first_named.sound process tasks h).opened fd id still) in
        let before = first_named.own process tasks h fd id id e still in
        let after = opened_own now first fds.writing writer first.files v.epolls v.sockets writing_free refl fd id jd still k in
        (after.0, λ f g p q. before.1 f found.0 p found.1 ∙ after.1 found.0 g found.1 q);
    others = λ process tasks h n o f g p q.
        let found = some_of (at n first.files.files) ((first_named.sound process tasks h).others n o) in
        first_named.others process tasks h n o f found.0 p found.1
        ∙ same_objects now first fds.writing writer first.files v.epolls v.sockets writing_free refl n found.0 g found.1 q;
    entries = λ k x e. came_as_it_was e;
  }
