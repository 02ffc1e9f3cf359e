-- what a process names of its host, and what an act leaves of that
use Rattle.std.proofs.Common.{◌≡◌, ◌≢◌, ℕ, ◌==◌, Bool, true, false, cond, List, Option, Some, None, is_some, Ok, refl, sym, ap, subst, ◌∙◌, eq-eqb, arith}
use Rattle.std.specs.Cmp.{unsigned_tied}
use Rattle.std.specs.FinMap as map
use Rattle.std.specs.Ordering.{nat_cmp, eq_by_cmp}
use Rattle.std.proofs.lemmas.Bool.{ne_eqb}
use Rattle.std.proofs.lemmas.Bool.Decides.{nat_tests}
use Rattle.std.proofs.lemmas.Cmp.{nat_cmp_total}
use Rattle.sim_base.specs.Refusals.{◌>>=◌, or_refuse}
use Rattle.sim_base.specs.declared.errno.Errno.TheVariants.{Ebadf}
use Rattle.sim_base.specs.declared.time.Time.{Time}
use Rattle.host_fds.specs.declared.file_id.FileId.{FileId}
use Rattle.host_fds.specs.declared.epoll.Seen.{Seen}
use Rattle.host_fds.specs.declared.epoll.Watch.{Watch}
use Rattle.host_fds.specs.declared.eventfd.Eventfd.{Eventfd}
use Rattle.host_fds.specs.declared.pipe.End.{End}
use Rattle.host_fds.specs.declared.pipe.End.TheVariants.{Reading, Writing}
use Rattle.host_fds.specs.Descriptors.{Descriptors}
use Rattle.host_fds.specs.Epoll.{report_of}
use Rattle.host_fds.specs.Pipe.{PipeState}
use Rattle.host_files.specs.declared.file.File.{File}
use Rattle.host_files.specs.declared.file.Object.{Object}
use Rattle.host_files.specs.declared.file.Object.TheVariants as kind
use Rattle.host_files.specs.declared.timer.KeptTimer.{KeptTimer}
use Rattle.host_files.specs.Epolls.{EpollsState}
use Rattle.host_files.specs.Files.{FilesState}
use Rattle.host_files.specs.Slots.{at}
use Rattle.host_wants.specs.declared.error.Refusal.TheVariants.{Errno}
use Rattle.host_sockets.specs.Sockets.{SocketsRecord}
use Rattle.file_calls.specs.declared.descriptors.Descriptor.{Descriptor}
use Rattle.file_calls.specs.declared.task.Shared.{Shared}
use Rattle.file_calls.specs.declared.task.Task.{Task}
use Rattle.file_calls.specs.Descriptors.{descriptor_by}
use Rattle.host_calls.specs.Ready.{seen_by}
use Rattle.call_rises.specs.Names.{named_in, has_end, is_there, is_single, object_alone, HasEntry}
use Rattle.call_rises.proofs.There.{AllStay}

pub record View : Type 0 where
  pub table : Descriptors
  pub files : FilesState
  pub epolls : EpollsState
  pub sockets : SocketsRecord

abbrev pub view : Task → Shared → SocketsRecord → View
view task shared t = record { table = task.table; files = shared.files; epolls = task.epolls; sockets = t }

abbrev pub seen_in : Time → View → ℕ → Seen
seen_in now v fd = seen_by now fd (descriptor_by (map.get v.table fd) v.files) v.files v.sockets

-- another process than this one has a descriptor of a file
pub record IsOthers (process : ℕ) (tasks : List (Option Task)) (n : ℕ) : Type 0 where
  pub other : ℕ
  pub fd : ℕ
  pub id : FileId
  pub apart : process ≢ other
  pub names : named_in fd (at other tasks) ≡ Some id
  pub number : id.number ≡ n

-- the names of a host hold, as one process sees them beside the others
pub record Sound (process : ℕ) (tasks : List (Option Task)) (v : View) : Type 0 where
  pub opened : (fd : ℕ) (id : FileId) → map.get v.table fd ≡ Some id → is_some (at id.number v.files.files) ≡ true
  pub others : (n : ℕ) → IsOthers process tasks n → is_some (at n v.files.files) ≡ true
  pub apart : (fd gd : ℕ) (id jd : FileId) → map.get v.table fd ≡ Some id → map.get v.table gd ≡ Some jd → id.number ≡ jd.number → fd ≡ gd
  pub apart_others : (fd : ℕ) (id : FileId) → map.get v.table fd ≡ Some id → IsOthers process tasks id.number → ⊥
  pub there : (n : ℕ) (file : File) → at n v.files.files ≡ Some file → is_there file.object v.files v.sockets ≡ true
  pub single : (n m : ℕ) (f g : File) → at n v.files.files ≡ Some f → at m v.files.files ≡ Some g → f.object ≡ g.object → is_single f.object ≡ true → n ≡ m
  pub watched : (k : ℕ) (w : Watch) → HasEntry k v.epolls w → is_some (map.get v.table w.fd) ≡ true

-- the open file with a number is of one object before and after
abbrev pub SameObject : View → View → ℕ → Type 0
SameObject v w n =
    (f g : File) → at n v.files.files ≡ Some f → at n w.files.files ≡ Some g → object_alone f.object ≡ object_alone g.object

pub data Came (now : ℕ) (v : View) (k : ℕ) (w : Watch) : Type 0 where
  came_as_it_was : HasEntry k v.epolls w → Came now v k w
  came_told : (x : Watch) → HasEntry k v.epolls x → w ≡ report_of x (seen_in (record { nanos = now }) v x.fd) → Came now v k w
  came_unsaid : w.reported ≡ None → Came now v k w

-- what an act leaves of the names
pub record Named (now : ℕ) (v w : View) : Type 0 where
  pub sound : (process : ℕ) (tasks : List (Option Task)) → Sound process tasks v → Sound process tasks w
  pub own : (process : ℕ) (tasks : List (Option Task)) → Sound process tasks v → (fd : ℕ) (id jd : FileId) → map.get v.table fd ≡ Some id → map.get w.table fd ≡ Some jd → (id ≡ jd) × SameObject v w id.number
  pub others : (process : ℕ) (tasks : List (Option Task)) → Sound process tasks v → (n : ℕ) → IsOthers process tasks n → SameObject v w n
  pub entries : (k : ℕ) (x : Watch) → HasEntry k w.epolls x → Came now v k x

-- an act that opens and makes nothing, and tells of nothing
pub record Fewer (v w : View) : Type 0 where
  pub table : (fd : ℕ) (id : FileId) → map.get w.table fd ≡ Some id → map.get v.table fd ≡ Some id
  pub pipes : (k : ℕ) → is_some (at k w.files.pipes) ≡ true → is_some (at k v.files.pipes) ≡ true
  pub eventfds : (k : ℕ) → is_some (at k w.files.eventfds) ≡ true → is_some (at k v.files.eventfds) ≡ true
  pub timers : (k : ℕ) → is_some (at k w.files.timers) ≡ true → is_some (at k v.files.timers) ≡ true
  pub sockets : AllStay w.sockets v.sockets
  pub entries : (k : ℕ) (x : Watch) → HasEntry k w.epolls x → HasEntry k v.epolls x

-- all ends, timers and eventfds that are there stay there
pub record Grows (x y : FilesState) : Type 0 where
  pub ends : (end : End) (k : ℕ) → has_end end (at k x.pipes) ≡ true → has_end end (at k y.pipes) ≡ true
  pub eventfds : (k : ℕ) → is_some (at k x.eventfds) ≡ true → is_some (at k y.eventfds) ≡ true
  pub timers : (k : ℕ) → is_some (at k x.timers) ≡ true → is_some (at k y.timers) ≡ true

pub grows_object : (x y : FilesState) (t u : SocketsRecord) → Grows x y → AllStay t u → (object : Object) → is_there object x t ≡ true → is_there object y u ≡ true
grows_object x y t u h s kind.Input e = refl
grows_object x y t u h s kind.Output e = refl
grows_object x y t u h s kind.Errors e = refl
grows_object x y t u h s (kind.Hosts read) e = refl
grows_object x y t u h s (kind.ReadEnd k) e = h.ends Reading k e
grows_object x y t u h s (kind.WriteEnd k) e = h.ends Writing k e
grows_object x y t u h s (kind.Timer k) e = h.timers k e
grows_object x y t u h s (kind.Eventfd k) e = h.eventfds k e
grows_object x y t u h s (kind.Epoll k) e = refl
grows_object x y t u h s (kind.Udp k) e = s.udp k e
grows_object x y t u h s (kind.Tcp k) e = s.tcp k e

pub grows_so : (x y : FilesState) → x.pipes ≡ y.pipes → x.eventfds ≡ y.eventfds → x.timers ≡ y.timers → Grows x y
grows_so x y p e t = record {
  ends = λ end k h. subst (λ (slots : List (Option PipeState)). has_end end (at k slots) ≡ true) p h;
  eventfds = λ k h. subst (λ (slots : List (Option Eventfd)). is_some (at k slots) ≡ true) e h;
  timers = λ k h. subst (λ (slots : List (Option KeptTimer)). is_some (at k slots) ≡ true) t h;
}

-- numbers are the same or not
by_place : (same : Bool) (j k : ℕ) → (j == k) ≡ same → (P : Type 0) → (j ≡ k → P) → (j ≢ k → P) → P
by_place true j k e P yes_ no_ = yes_ (grind (arith, nat_tests))
by_place false j k e P yes_ no_ = no_ (λ same. grind (arith, nat_tests))

pub by_number : (j k : ℕ) (P : Type 0) → (j ≡ k → P) → (j ≢ k → P) → P
by_number j k P yes_ no_ = by_place (j == k) j k refl P yes_ no_

pub some_same : {A : Type 0} (x y : A) → Some x ≡ Some y → x ≡ y
some_same x y e = cc

pub some_of : {A : Type 0} (o : Option A) → is_some o ≡ true → (a : A) × (o ≡ Some a)
some_of None e = cc
some_of (Some a) e = (a, refl)

pub is_there_of : {A : Type 0} (o : Option A) (a : A) → o ≡ Some a → is_some o ≡ true
is_there_of o a e = ap is_some e

pub not_none : {A : Type 0} (o : Option A) → o ≡ None → is_some o ≡ true → ⊥
not_none None e h = cc
not_none (Some a) e h = cc

-- descriptors
tied : (q k : ℕ) → q ≡ k → eq_by_cmp nat_cmp q k ≡ true
tied q k same = unsigned_tied q k ∙ eq-eqb q k same

untied : (q k : ℕ) → q ≢ k → eq_by_cmp nat_cmp q k ≡ false
untied q k differ = unsigned_tied q k ∙ ne_eqb q k differ

module _ (table : Descriptors) (fd : ℕ) where
  pub insert_here : (id : FileId) → map.get (map.insert table fd id) fd ≡ Some id
  insert_here id =
      map.get-insert nat_cmp_total table fd id fd ∙ ap (λ (b : Bool). cond b (Some id) (map.get table fd)) (tied fd fd refl)

  pub insert_other : (id : FileId) (gd : ℕ) → gd ≢ fd → map.get (map.insert table fd id) gd ≡ map.get table gd
  insert_other id gd apart =
      map.get-insert nat_cmp_total table fd id gd ∙ ap (λ (b : Bool). cond b (Some id) (map.get table gd)) (untied gd fd apart)

  pub remove_here : map.get (map.remove table fd) fd ≡ None
  remove_here =
      map.get-remove nat_cmp_total table fd fd ∙ ap (λ (b : Bool). cond b None (map.get table fd)) (tied fd fd refl)

  pub remove_other : (gd : ℕ) → gd ≢ fd → map.get (map.remove table fd) gd ≡ map.get table gd
  remove_other gd apart =
      map.get-remove nat_cmp_total table fd gd ∙ ap (λ (b : Bool). cond b None (map.get table gd)) (untied gd fd apart)

  -- what is there without it was there before, and is another one
  pub removed : (gd : ℕ) (id : FileId) → map.get (map.remove table fd) gd ≡ Some id → (gd ≢ fd) × (map.get table gd ≡ Some id)
  removed gd id e =
      by_number gd fd ((gd ≢ fd) × (map.get table gd ≡ Some id))
      (λ same.
      let none : map.get (map.remove table fd) gd ≡ None = subst (λ (n : ℕ). map.get (map.remove table fd) n ≡ None) (sym same) remove_here in
      let no : None ≡ Some id = sym none ∙ e in
      absurd (none_some id no))
      (λ apart. (apart, sym (remove_other gd apart) ∙ e))
    where
      none_some : (id : FileId) → None ≡ Some id → ⊥
      none_some id e = cc

-- names that stay
module _ (now : ℕ) (v w : View) (table : v.table ≡ w.table) (files : v.files.files ≡ w.files.files) where
  was : (fd : ℕ) (id : FileId) → map.get w.table fd ≡ Some id → map.get v.table fd ≡ Some id
  was fd id e = ap (λ (t : Descriptors). map.get t fd) table ∙ e

  file_was : (n : ℕ) (f : File) → at n w.files.files ≡ Some f → at n v.files.files ≡ Some f
  file_was n f e = ap (λ (fs : List (Option File)). at n fs) files ∙ e

  there_still : (n : ℕ) → is_some (at n v.files.files) ≡ true → is_some (at n w.files.files) ≡ true
  there_still n h = subst (λ (fs : List (Option File)). is_some (at n fs) ≡ true) files h

  same_objects : (n : ℕ) → SameObject v w n
  same_objects n f g a b =
      let same : f ≡ g = some_same f g (sym a ∙ file_was n g b) in ap (λ (x : File). object_alone x.object) same

  pub resting : Grows v.files w.files → AllStay v.sockets w.sockets → ((process : ℕ) (tasks : List (Option Task)) → Sound process tasks v → (k : ℕ) (x : Watch) → HasEntry k w.epolls x → is_some (map.get v.table x.fd) ≡ true) → ((k : ℕ) (x : Watch) → HasEntry k w.epolls x → Came now v k x) → Named now v w
  resting grows stay is_open came = record {
    sound = λ process tasks h. record {
      opened = λ fd id e. there_still id.number (h.opened fd id (was fd id e));
      others = λ n o. there_still n (h.others n o);
      apart = λ fd gd id jd e k same. h.apart fd gd id jd (was fd id e) (was gd jd k) same;
      apart_others = λ fd id e o. h.apart_others fd id (was fd id e) o;
      there = λ n file e. grows_object v.files w.files v.sockets w.sockets grows stay file.object (h.there n file (file_was n file e));
      single = λ n m f g e k same one. h.single n m f g (file_was n f e) (file_was m g k) same one;
      watched = λ k x e. subst (λ (t : Descriptors). is_some (map.get t x.fd) ≡ true) table (is_open process tasks h k x e);
    };
    own = λ process tasks h fd id jd e k. (some_same id jd (sym e ∙ was fd jd k), same_objects id.number);
    others = λ process tasks h n o. same_objects n;
    entries = came;
  }

  pub quiet : v.epolls ≡ w.epolls → Grows v.files w.files → AllStay v.sockets w.sockets → Named now v w
  quiet epolls grows stay =
      resting grows stay (λ process tasks h k x e. h.watched k x (subst (λ (es : EpollsState). HasEntry k es x) (sym epolls) e))
      (λ k x e. came_as_it_was (subst (λ (es : EpollsState). HasEntry k es x) (sym epolls) e))

  pub fewer_so : v.files.pipes ≡ w.files.pipes → v.files.eventfds ≡ w.files.eventfds → v.files.timers ≡ w.files.timers → v.epolls ≡ w.epolls → AllStay w.sockets v.sockets → Fewer v w
  fewer_so p e t epolls were = record {
    table = was;
    pipes = λ k h. subst (λ (slots : List (Option PipeState)). is_some (at k slots) ≡ true) (sym p) h;
    eventfds = λ k h. subst (λ (slots : List (Option Eventfd)). is_some (at k slots) ≡ true) (sym e) h;
    timers = λ k h. subst (λ (slots : List (Option KeptTimer)). is_some (at k slots) ≡ true) (sym t) h;
    sockets = were;
    entries = λ k x h. subst (λ (es : EpollsState). HasEntry k es x) (sym epolls) h;
  }

-- one behind another, where the second opens nothing
pub named_both : (now : ℕ) (v u w : View) → Named now v u → Named now u w → Fewer u w → Named now v w
named_both now v u w a b fewer = record {
  sound = λ process tasks h. b.sound process tasks (a.sound process tasks h);
  own = λ process tasks h fd id jd e k.
      let before = a.own process tasks h fd id jd e (fewer.table fd jd k) in
      let mid = a.sound process tasks h in
      let found = some_of (at id.number u.files.files) (mid.opened fd id (subst (λ (x : FileId). map.get u.table fd ≡ Some x) (sym before.0) (fewer.table fd jd k))) in (
        before.0,
        λ f g p q.
            before.1 f found.0 p found.1
            ∙ (b.own process tasks mid fd id jd (subst (λ (x : FileId). map.get u.table fd ≡ Some x) (sym before.0) (fewer.table fd jd k)) k).1 found.0 g found.1 q,
      );
  others = λ process tasks h n o f g p q.
      let mid = a.sound process tasks h in
      let found = some_of (at n u.files.files) (mid.others n o) in
      a.others process tasks h n o f found.0 p found.1 ∙ b.others process tasks mid n o found.0 g found.1 q;
  entries = λ k x e. a.entries k x (fewer.entries k x e);
}

pub fewer_both : (v u w : View) → Fewer v u → Fewer u w → Fewer v w
fewer_both v u w a b = record {
  table = λ fd id e. a.table fd id (b.table fd id e);
  pipes = λ k h. a.pipes k (b.pipes k h);
  eventfds = λ k h. a.eventfds k (b.eventfds k h);
  timers = λ k h. a.timers k (b.timers k h);
  sockets = record { udp = λ k h. a.sockets.udp k (b.sockets.udp k h); tcp = λ k h. a.sockets.tcp k (b.sockets.tcp k h) };
  entries = λ k x h. a.entries k x (b.entries k x h);
}

-- what a descriptor names
pub descriptor_named : (o : Option FileId) (files : FilesState) (d : Descriptor) → descriptor_by o files ≡ Ok d → (o ≡ Some d.id) × (at d.id.number files.files ≡ Some d.file)
descriptor_named None files d e = let no : ⊥ = cc in absurd no
descriptor_named (Some id) files d e = by_file (at id.number files.files) refl e
  where
    by_file : (o : Option File) → at id.number files.files ≡ o → (or_refuse o (Errno Ebadf) >>= λ file. Ok (record { id = id; file = file })) ≡ Ok d → (Some id ≡ Some d.id) × (at d.id.number files.files ≡ Some d.file)
    by_file None there e = let no : ⊥ = cc in absurd no
    by_file (Some file) there e =
        let same : record { id = id; file = file } ≡ d = cc in
        (ap (λ (x : Descriptor). Some x.id) same, subst (λ (x : Descriptor). at x.id.number files.files ≡ Some x.file) same there)
