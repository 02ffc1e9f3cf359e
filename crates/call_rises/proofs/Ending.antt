-- a descriptor is closed
use Rattle.std.proofs.Common.{◌≡◌, ◌≢◌, ℕ, ◌||◌, Bool, true, false, List, Option, Some, None, is_some, if◌then◌else◌, Ok, Err, refl, sym, ap, subst, ◌∙◌}
use Rattle.std.specs.FinMap as map
use Rattle.sim_base.specs.Refusals.{◌>>=◌, or_refuse}
use Rattle.sim_base.specs.declared.errno.Errno.TheVariants.{Ebadf}
use Rattle.sim_base.specs.declared.time.Time.{Time}
use Rattle.host_fds.specs.declared.file_id.FileId.{FileId}
use Rattle.host_fds.specs.declared.epoll.Watch.{Watch}
use Rattle.host_fds.specs.declared.pipe.End.{End}
use Rattle.host_fds.specs.declared.pipe.End.TheVariants.{Reading, Writing}
use Rattle.host_fds.specs.Epoll.{names}
use Rattle.host_fds.specs.Pipe.{PipeState, shut}
use Rattle.host_files.specs.declared.file.File.{File}
use Rattle.host_files.specs.declared.file.Object.{Object}
use Rattle.host_files.specs.declared.file.Object.TheVariants as kind
use Rattle.host_files.specs.Epolls.{EpollsState, forgotten}
use Rattle.host_files.specs.Files.{FilesState, closed, kept as left_of, after_shut, pipe_shut, timer_ended, eventfd_ended}
use Rattle.host_files.specs.Slots.{at, without, after, acts}
use Rattle.host_wants.specs.declared.error.Refusal.{Refusal}
use Rattle.host_wants.specs.declared.error.Refusal.TheVariants.{Errno}
use Rattle.host_sockets.specs.Sockets.{SocketsRecord}
use Rattle.host_sockets.specs.Closing.{closes_tcp}
use Rattle.host_sockets.specs.Udp.{closes_udp}
use Rattle.file_calls.specs.declared.descriptors.Descriptor.{Descriptor}
use Rattle.file_calls.specs.declared.task.Shared.{Shared}
use Rattle.file_calls.specs.declared.task.Task.{Task}
use Rattle.file_calls.specs.Descriptors.{descriptor_by}
use Rattle.host_calls.specs.Closing.{ends, without_epoll}
use Rattle.file_laws.proofs.Places.{acts_here, without_here, set_other}
use Rattle.call_rises.specs.Names.{has_end, is_there, is_single, object_alone, HasEntry}
use Rattle.call_rises.specs.Sockets.{has_udp, has_tcp}
use Rattle.call_rises.proofs.Epolls.{entry_forgotten, entry_ended, another_fd}
use Rattle.call_rises.proofs.There.{AllStay, all_stay, not_both, OneGone}
use Rattle.call_rises.proofs.SocketActs.{closes_tcp_there, closes_udp_there}
use Rattle.call_rises.proofs.Views.{View, IsOthers, Sound, SameObject, came_as_it_was, Named, Fewer, grows_object, by_number, some_same, is_there_of, not_none, remove_other, removed}

-- what an object that ends leaves of the files
abbrev pub files_ended : Object → FilesState → FilesState
files_ended (kind.ReadEnd k) files = pipe_shut Reading k files
files_ended (kind.WriteEnd k) files = pipe_shut Writing k files
files_ended (kind.Timer k) files = timer_ended k files
files_ended (kind.Eventfd k) files = eventfd_ended k files
files_ended _ files = files

pub ended_is : (now : Time) (object : Object) (shared : Shared) (t : SocketsRecord) → files_ended object shared.files ≡ (ends now object shared t).0.files
ended_is now kind.Input shared t = refl
ended_is now kind.Output shared t = refl
ended_is now kind.Errors shared t = refl
ended_is now (kind.Hosts read) shared t = refl
ended_is now (kind.ReadEnd k) shared t = refl
ended_is now (kind.WriteEnd k) shared t = refl
ended_is now (kind.Timer k) shared t = refl
ended_is now (kind.Eventfd k) shared t = refl
ended_is now (kind.Epoll k) shared t = refl
ended_is now (kind.Udp k) shared t = refl
ended_is now (kind.Tcp k) shared t = refl

pub open_files_same : (object : Object) (files : FilesState) → files.files ≡ (files_ended object files).files
open_files_same kind.Input files = refl
open_files_same kind.Output files = refl
open_files_same kind.Errors files = refl
open_files_same (kind.Hosts read) files = refl
open_files_same (kind.ReadEnd k) files = refl
open_files_same (kind.WriteEnd k) files = refl
open_files_same (kind.Timer k) files = refl
open_files_same (kind.Eventfd k) files = refl
open_files_same (kind.Epoll k) files = refl
open_files_same (kind.Udp k) files = refl
open_files_same (kind.Tcp k) files = refl

-- a pipe that has an end is there
if_kept : (end : End) (b : Bool) (q : PipeState) → b ≡ true → has_end end (Some q) ≡ true → has_end end (if b then Some q else None) ≡ true
if_kept end true q e h = h
if_kept end false q e h = cc

or_left : (a b : Bool) → a ≡ true → (a || b) ≡ true
or_left true b e = refl
or_left false b e = cc

or_right : (a b : Bool) → b ≡ true → (a || b) ≡ true
or_right true b e = refl
or_right false b e = e

kept_has : (end : End) (q : PipeState) → has_end end (Some q) ≡ true → has_end end (left_of q) ≡ true
kept_has Reading q e = if_kept Reading (q.has_reader || q.has_writer) q (or_left q.has_reader q.has_writer e) e
kept_has Writing q e = if_kept Writing (q.has_reader || q.has_writer) q (or_right q.has_reader q.has_writer e) e

-- the other end stays, and ends of other pipes
shut_here : (end other : End) (o : Option PipeState) → end ≢ other → has_end other o ≡ true → has_end other (after (after_shut end) o) ≡ true
shut_here Reading Reading o apart e = absurd (apart refl)
shut_here Reading Writing None apart e = cc
shut_here Reading Writing (Some p) apart e = kept_has Writing (shut p Reading) e
shut_here Writing Reading None apart e = cc
shut_here Writing Reading (Some p) apart e = kept_has Reading (shut p Writing) e
shut_here Writing Writing o apart e = absurd (apart refl)

shut_keeps : (end other : End) (k j : ℕ) (slots : List (Option PipeState)) → ((end ≡ other) × (k ≡ j) → ⊥) → has_end other (at j slots) ≡ true → has_end other (at j (acts (after_shut end) k slots)) ≡ true
shut_keeps end other k j slots apart e =
    by_number k j (has_end other (at j (acts (after_shut end) k slots)) ≡ true)
    (λ same.
    subst (λ (n : ℕ). has_end other (at n (acts (after_shut end) k slots)) ≡ true) same
    (subst (λ (o : Option PipeState). has_end other o ≡ true) (sym (acts_here (after_shut end) k slots))
    (shut_here end other (at k slots) (λ q. apart (q, same)) (subst (λ (n : ℕ). has_end other (at n slots) ≡ true) (sym same) e))))
    (λ differ. subst (λ (o : Option PipeState). has_end other o ≡ true) (sym (set_other k j (after (after_shut end) (at k slots)) slots differ)) e)

without_keeps : {A : Type 0} (k j : ℕ) (slots : List (Option A)) → k ≢ j → is_some (at j slots) ≡ true → is_some (at j (without k slots)) ≡ true
without_keeps {A} k j slots apart e =
    subst (λ (o : Option A). is_some o ≡ true) (sym (set_other k j None slots apart)) e

ends_differ : Reading ≡ Writing → ⊥
ends_differ e = cc

-- what is there of other objects stays
reading_shut : (k : ℕ) (other : Object) (files : FilesState) (t : SocketsRecord) → kind.ReadEnd k ≢ other → is_there other files t ≡ true → is_there other (pipe_shut Reading k files) t ≡ true
reading_shut k kind.Input files t apart e = refl
reading_shut k kind.Output files t apart e = refl
reading_shut k kind.Errors files t apart e = refl
reading_shut k (kind.Hosts read) files t apart e = refl
reading_shut k (kind.ReadEnd j) files t apart e = shut_keeps Reading Reading k j files.pipes (λ p. apart (ap (λ (n : ℕ). kind.ReadEnd n) p.1)) e
reading_shut k (kind.WriteEnd j) files t apart e = shut_keeps Reading Writing k j files.pipes (λ p. ends_differ p.0) e
reading_shut k (kind.Timer j) files t apart e = e
reading_shut k (kind.Eventfd j) files t apart e = e
reading_shut k (kind.Epoll j) files t apart e = refl
reading_shut k (kind.Udp j) files t apart e = e
reading_shut k (kind.Tcp j) files t apart e = e

writing_shut : (k : ℕ) (other : Object) (files : FilesState) (t : SocketsRecord) → kind.WriteEnd k ≢ other → is_there other files t ≡ true → is_there other (pipe_shut Writing k files) t ≡ true
writing_shut k kind.Input files t apart e = refl
writing_shut k kind.Output files t apart e = refl
writing_shut k kind.Errors files t apart e = refl
writing_shut k (kind.Hosts read) files t apart e = refl
writing_shut k (kind.ReadEnd j) files t apart e = shut_keeps Writing Reading k j files.pipes (λ p. ends_differ (sym p.0)) e
writing_shut k (kind.WriteEnd j) files t apart e = shut_keeps Writing Writing k j files.pipes (λ p. apart (ap (λ (n : ℕ). kind.WriteEnd n) p.1)) e
writing_shut k (kind.Timer j) files t apart e = e
writing_shut k (kind.Eventfd j) files t apart e = e
writing_shut k (kind.Epoll j) files t apart e = refl
writing_shut k (kind.Udp j) files t apart e = e
writing_shut k (kind.Tcp j) files t apart e = e

timer_goes : (k : ℕ) (other : Object) (files : FilesState) (t : SocketsRecord) → kind.Timer k ≢ other → is_there other files t ≡ true → is_there other (timer_ended k files) t ≡ true
timer_goes k kind.Input files t apart e = refl
timer_goes k kind.Output files t apart e = refl
timer_goes k kind.Errors files t apart e = refl
timer_goes k (kind.Hosts read) files t apart e = refl
timer_goes k (kind.ReadEnd j) files t apart e = e
timer_goes k (kind.WriteEnd j) files t apart e = e
timer_goes k (kind.Timer j) files t apart e = without_keeps k j files.timers (λ same. apart (ap (λ (n : ℕ). kind.Timer n) same)) e
timer_goes k (kind.Eventfd j) files t apart e = e
timer_goes k (kind.Epoll j) files t apart e = refl
timer_goes k (kind.Udp j) files t apart e = e
timer_goes k (kind.Tcp j) files t apart e = e

eventfd_goes : (k : ℕ) (other : Object) (files : FilesState) (t : SocketsRecord) → kind.Eventfd k ≢ other → is_there other files t ≡ true → is_there other (eventfd_ended k files) t ≡ true
eventfd_goes k kind.Input files t apart e = refl
eventfd_goes k kind.Output files t apart e = refl
eventfd_goes k kind.Errors files t apart e = refl
eventfd_goes k (kind.Hosts read) files t apart e = refl
eventfd_goes k (kind.ReadEnd j) files t apart e = e
eventfd_goes k (kind.WriteEnd j) files t apart e = e
eventfd_goes k (kind.Timer j) files t apart e = e
eventfd_goes k (kind.Eventfd j) files t apart e = without_keeps k j files.eventfds (λ same. apart (ap (λ (n : ℕ). kind.Eventfd n) same)) e
eventfd_goes k (kind.Epoll j) files t apart e = refl
eventfd_goes k (kind.Udp j) files t apart e = e
eventfd_goes k (kind.Tcp j) files t apart e = e

ended_there : (object other : Object) (files : FilesState) (t : SocketsRecord) → (is_single object ≡ true → object ≢ other) → is_there other files t ≡ true → is_there other (files_ended object files) t ≡ true
ended_there kind.Input other files t apart e = e
ended_there kind.Output other files t apart e = e
ended_there kind.Errors other files t apart e = e
ended_there (kind.Hosts read) other files t apart e = e
ended_there (kind.ReadEnd k) other files t apart e = reading_shut k other files t (apart refl) e
ended_there (kind.WriteEnd k) other files t apart e = writing_shut k other files t (apart refl) e
ended_there (kind.Timer k) other files t apart e = timer_goes k other files t (apart refl) e
ended_there (kind.Eventfd k) other files t apart e = eventfd_goes k other files t (apart refl) e
ended_there (kind.Epoll k) other files t apart e = e
ended_there (kind.Udp k) other files t apart e = e
ended_there (kind.Tcp k) other files t apart e = e

-- nothing is made
shut_fewer : (end : End) (k j : ℕ) (slots : List (Option PipeState)) → is_some (at j (acts (after_shut end) k slots)) ≡ true → is_some (at j slots) ≡ true
shut_fewer end k j slots e =
    by_number k j (is_some (at j slots) ≡ true)
    (λ same.
    subst (λ (n : ℕ). is_some (at n slots) ≡ true) same
    (was_some (at k slots) (subst (λ (o : Option PipeState). is_some o ≡ true) (acts_here (after_shut end) k slots) (subst (λ (n : ℕ). is_some (at n (acts (after_shut end) k slots)) ≡ true) (sym same) e))))
    (λ differ. subst (λ (o : Option PipeState). is_some o ≡ true) (set_other k j (after (after_shut end) (at k slots)) slots differ) e)
  where
    was_some : (o : Option PipeState) → is_some (after (after_shut end) o) ≡ true → is_some o ≡ true
    was_some None e = e
    was_some (Some p) e = refl

without_fewer : {A : Type 0} (k j : ℕ) (slots : List (Option A)) → is_some (at j (without k slots)) ≡ true → is_some (at j slots) ≡ true
without_fewer {A} k j slots e =
    by_number k j (is_some (at j slots) ≡ true)
    (λ same.
    absurd (not_none (at k (without k slots)) (without_here k slots) (subst (λ (n : ℕ). is_some (at n (without k slots)) ≡ true) (sym same) e)))
    (λ differ. subst (λ (o : Option A). is_some o ≡ true) (set_other k j None slots differ) e)

fewer_pipes : (object : Object) (files : FilesState) (j : ℕ) → is_some (at j (files_ended object files).pipes) ≡ true → is_some (at j files.pipes) ≡ true
fewer_pipes kind.Input files j e = e
fewer_pipes kind.Output files j e = e
fewer_pipes kind.Errors files j e = e
fewer_pipes (kind.Hosts read) files j e = e
fewer_pipes (kind.ReadEnd k) files j e = shut_fewer Reading k j files.pipes e
fewer_pipes (kind.WriteEnd k) files j e = shut_fewer Writing k j files.pipes e
fewer_pipes (kind.Timer k) files j e = e
fewer_pipes (kind.Eventfd k) files j e = e
fewer_pipes (kind.Epoll k) files j e = e
fewer_pipes (kind.Udp k) files j e = e
fewer_pipes (kind.Tcp k) files j e = e

fewer_eventfds : (object : Object) (files : FilesState) (j : ℕ) → is_some (at j (files_ended object files).eventfds) ≡ true → is_some (at j files.eventfds) ≡ true
fewer_eventfds kind.Input files j e = e
fewer_eventfds kind.Output files j e = e
fewer_eventfds kind.Errors files j e = e
fewer_eventfds (kind.Hosts read) files j e = e
fewer_eventfds (kind.ReadEnd k) files j e = e
fewer_eventfds (kind.WriteEnd k) files j e = e
fewer_eventfds (kind.Timer k) files j e = e
fewer_eventfds (kind.Eventfd k) files j e = without_fewer k j files.eventfds e
fewer_eventfds (kind.Epoll k) files j e = e
fewer_eventfds (kind.Udp k) files j e = e
fewer_eventfds (kind.Tcp k) files j e = e

fewer_timers : (object : Object) (files : FilesState) (j : ℕ) → is_some (at j (files_ended object files).timers) ≡ true → is_some (at j files.timers) ≡ true
fewer_timers kind.Input files j e = e
fewer_timers kind.Output files j e = e
fewer_timers kind.Errors files j e = e
fewer_timers (kind.Hosts read) files j e = e
fewer_timers (kind.ReadEnd k) files j e = e
fewer_timers (kind.WriteEnd k) files j e = e
fewer_timers (kind.Timer k) files j e = without_fewer k j files.timers e
fewer_timers (kind.Eventfd k) files j e = e
fewer_timers (kind.Epoll k) files j e = e
fewer_timers (kind.Udp k) files j e = e
fewer_timers (kind.Tcp k) files j e = e

entry_kept : (object : Object) (k : ℕ) (epolls : EpollsState) (x : Watch) → HasEntry k (without_epoll object epolls) x → HasEntry k epolls x
entry_kept kind.Input k epolls x e = e
entry_kept kind.Output k epolls x e = e
entry_kept kind.Errors k epolls x e = e
entry_kept (kind.Hosts read) k epolls x e = e
entry_kept (kind.ReadEnd n) k epolls x e = e
entry_kept (kind.WriteEnd n) k epolls x e = e
entry_kept (kind.Timer n) k epolls x e = e
entry_kept (kind.Eventfd n) k epolls x e = e
entry_kept (kind.Epoll n) k epolls x e = entry_ended x n k epolls e
entry_kept (kind.Udp n) k epolls x e = e
entry_kept (kind.Tcp n) k epolls x e = e

-- what it leaves of the sockets: none is made, and all others stay
pub record SocketsEnded (object : Object) (t u : SocketsRecord) : Type 0 where
  pub were : AllStay u t
  pub stay : (other : Object) (files : FilesState) → (is_single object ≡ true → object ≢ other) → is_there other files t ≡ true → is_there other files u ≡ true

rest_ended : (object : Object) (t : SocketsRecord) → SocketsEnded object t t
rest_ended object t = record { were = all_stay t; stay = λ other files apart e. e }

gone_were : (k : ℕ) (has others : ℕ → SocketsRecord → Bool) (t u : SocketsRecord) → OneGone k has others t u → (j : ℕ) → has j u ≡ true → has j t ≡ true
gone_were k has others t u left j e =
    by_number k j (has j t ≡ true)
    (λ same. absurd (not_both (has k u) (subst (λ (n : ℕ). has n u ≡ true) (sym same) e) left.gone))
    (λ apart. left.apart j apart ∙ e)

udp_stay : (k : ℕ) (t u : SocketsRecord) → OneGone k has_udp has_tcp t u → (other : Object) (files : FilesState) → kind.Udp k ≢ other → is_there other files t ≡ true → is_there other files u ≡ true
udp_stay k t u left kind.Input files apart e = refl
udp_stay k t u left kind.Output files apart e = refl
udp_stay k t u left kind.Errors files apart e = refl
udp_stay k t u left (kind.Hosts read) files apart e = refl
udp_stay k t u left (kind.ReadEnd j) files apart e = e
udp_stay k t u left (kind.WriteEnd j) files apart e = e
udp_stay k t u left (kind.Timer j) files apart e = e
udp_stay k t u left (kind.Eventfd j) files apart e = e
udp_stay k t u left (kind.Epoll j) files apart e = refl
udp_stay k t u left (kind.Udp j) files apart e = sym (left.apart j (λ same. apart (ap (λ (n : ℕ). kind.Udp n) same))) ∙ e
udp_stay k t u left (kind.Tcp j) files apart e = sym (left.same j) ∙ e

tcp_stay : (k : ℕ) (t u : SocketsRecord) → OneGone k has_tcp has_udp t u → (other : Object) (files : FilesState) → kind.Tcp k ≢ other → is_there other files t ≡ true → is_there other files u ≡ true
tcp_stay k t u left kind.Input files apart e = refl
tcp_stay k t u left kind.Output files apart e = refl
tcp_stay k t u left kind.Errors files apart e = refl
tcp_stay k t u left (kind.Hosts read) files apart e = refl
tcp_stay k t u left (kind.ReadEnd j) files apart e = e
tcp_stay k t u left (kind.WriteEnd j) files apart e = e
tcp_stay k t u left (kind.Timer j) files apart e = e
tcp_stay k t u left (kind.Eventfd j) files apart e = e
tcp_stay k t u left (kind.Epoll j) files apart e = refl
tcp_stay k t u left (kind.Udp j) files apart e = sym (left.same j) ∙ e
tcp_stay k t u left (kind.Tcp j) files apart e = sym (left.apart j (λ same. apart (ap (λ (n : ℕ). kind.Tcp n) same))) ∙ e

udp_ended : (k : ℕ) (t u : SocketsRecord) → OneGone k has_udp has_tcp t u → SocketsEnded (kind.Udp k) t u
udp_ended k t u left = record {
  were = record { udp = gone_were k has_udp has_tcp t u left; tcp = λ j e. left.same j ∙ e };
  stay = λ other files apart e. udp_stay k t u left other files (apart refl) e;
}

tcp_ended : (k : ℕ) (t u : SocketsRecord) → OneGone k has_tcp has_udp t u → SocketsEnded (kind.Tcp k) t u
tcp_ended k t u left = record {
  were = record { udp = λ j e. left.same j ∙ e; tcp = gone_were k has_tcp has_udp t u left };
  stay = λ other files apart e. tcp_stay k t u left other files (apart refl) e;
}

pub sockets_ended : (now : Time) (object : Object) (shared : Shared) (t : SocketsRecord) → SocketsEnded object t (ends now object shared t).1
sockets_ended now kind.Input shared t = rest_ended kind.Input t
sockets_ended now kind.Output shared t = rest_ended kind.Output t
sockets_ended now kind.Errors shared t = rest_ended kind.Errors t
sockets_ended now (kind.Hosts read) shared t = rest_ended (kind.Hosts read) t
sockets_ended now (kind.ReadEnd k) shared t = rest_ended (kind.ReadEnd k) t
sockets_ended now (kind.WriteEnd k) shared t = rest_ended (kind.WriteEnd k) t
sockets_ended now (kind.Timer k) shared t = rest_ended (kind.Timer k) t
sockets_ended now (kind.Eventfd k) shared t = rest_ended (kind.Eventfd k) t
sockets_ended now (kind.Epoll k) shared t = rest_ended (kind.Epoll k) t
sockets_ended now (kind.Udp k) shared t = udp_ended k t (closes_udp k t) (closes_udp_there t k)
sockets_ended now (kind.Tcp k) shared t = tcp_ended k t (closes_tcp now k t shared.outlet).0 (closes_tcp_there t now k shared.outlet)

abbrev pub closed_view : View → ℕ → FileId → Object → SocketsRecord → View
closed_view v fd id object t = record {
  table = map.remove v.table fd;
  files = closed id (files_ended object v.files);
  epolls = forgotten fd (without_epoll object v.epolls);
  sockets = t;
}

module _ (now : ℕ) (v : View) (fd : ℕ) (d : Descriptor) (t : SocketsRecord) (left : SocketsEnded d.file.object v.sockets t) (named : map.get v.table fd ≡ Some d.id) (is : at d.id.number v.files.files ≡ Some d.file) where
  abbrev w : View
  w = closed_view v fd d.id d.file.object t

  entry_before : (k : ℕ) (x : Watch) → HasEntry k w.epolls x → HasEntry k v.epolls x × (names fd x ≡ false)
  entry_before k x e =
      let before = entry_forgotten x fd k (without_epoll d.file.object v.epolls) e in (entry_kept d.file.object k v.epolls x before.0, before.1)

  same_files : v.files.files ≡ (files_ended d.file.object v.files).files
  same_files = open_files_same d.file.object v.files

  -- an open file was open, and is another one
  file_before : (n : ℕ) (f : File) → at n w.files.files ≡ Some f → (d.id.number ≢ n) × (at n v.files.files ≡ Some f)
  file_before n f e =
      by_number d.id.number n ((d.id.number ≢ n) × (at n v.files.files ≡ Some f))
      (λ same.
      absurd (not_none (at n w.files.files) (subst (λ (m : ℕ). at m w.files.files ≡ None) same (without_here d.id.number (files_ended d.file.object v.files).files)) (is_there_of (at n w.files.files) f e)))
      (λ differ. (
        differ,
        ap (λ (fs : List (Option File)). at n fs) same_files
            ∙ (sym (set_other d.id.number n None (files_ended d.file.object v.files).files differ) ∙ e),
      ))

  file_after : (n : ℕ) → d.id.number ≢ n → is_some (at n v.files.files) ≡ true → is_some (at n w.files.files) ≡ true
  file_after n differ h =
      subst (λ (o : Option File). is_some o ≡ true) (sym (set_other d.id.number n None (files_ended d.file.object v.files).files differ))
      (subst (λ (fs : List (Option File)). is_some (at n fs) ≡ true) same_files h)

  closed_objects : (n : ℕ) → SameObject v w n
  closed_objects n f g a b =
      ap (λ (x : File). object_alone x.object) (some_same f g (sym a ∙ (file_before n g b).1))

  module _ (process : ℕ) (tasks : List (Option Task)) (h : Sound process tasks v) where
    closed_opened : (gd : ℕ) (id : FileId) → map.get w.table gd ≡ Some id → is_some (at id.number w.files.files) ≡ true
    closed_opened gd id e =
        let before = removed v.table fd gd id e in
        file_after id.number (λ same. before.0 (sym (h.apart fd gd d.id id named before.1 same))) (h.opened gd id before.1)

    closed_others : (n : ℕ) → IsOthers process tasks n → is_some (at n w.files.files) ≡ true
    closed_others n o =
        file_after n (λ same. h.apart_others fd d.id named (subst (λ (m : ℕ). IsOthers process tasks m) (sym same) o)) (h.others n o)

    closed_there : (n : ℕ) (f : File) → at n w.files.files ≡ Some f → is_there f.object w.files t ≡ true
    closed_there n f e =
        let before = file_before n f e in
        let apart : is_single d.file.object ≡ true → d.file.object ≢ f.object = λ one same. before.0 (h.single d.id.number n d.file f is before.1 same one) in
        grows_closed f.object
        (left.stay f.object (files_ended d.file.object v.files) apart (ended_there d.file.object f.object v.files v.sockets apart (h.there n f before.1)))
      where
        grows_closed : (object : Object) → is_there object (files_ended d.file.object v.files) t ≡ true → is_there object w.files t ≡ true
        grows_closed object e =
            grows_object (files_ended d.file.object v.files) w.files t t (record { ends = λ end k q. q; eventfds = λ k q. q; timers = λ k q. q }) (all_stay t) object e

    closed_watched : (k : ℕ) (x : Watch) → HasEntry k w.epolls x → is_some (map.get w.table x.fd) ≡ true
    closed_watched k x e =
        let before = entry_before k x e in
        subst (λ (o : Option FileId). is_some o ≡ true) (sym (remove_other v.table fd x.fd (another_fd x fd before.1))) (h.watched k x before.0)

    closed_sound : Sound process tasks w
    closed_sound = record {
      opened = closed_opened;
      others = closed_others;
      apart = λ a b id jd e k same. h.apart a b id jd (removed v.table fd a id e).1 (removed v.table fd b jd k).1 same;
      apart_others = λ gd id e o. h.apart_others gd id (removed v.table fd gd id e).1 o;
      there = closed_there;
      single = λ n m f g e k same one. h.single n m f g (file_before n f e).1 (file_before m g k).1 same one;
      watched = closed_watched;
    }

  pub closed_named : Named now v w
  closed_named = record {
    sound = closed_sound;
    own = λ process tasks h gd id jd e k. (some_same id jd (sym e ∙ (removed v.table fd gd jd k).1), closed_objects id.number);
    others = λ process tasks h n o. closed_objects n;
    entries = λ k x e. came_as_it_was (entry_before k x e).0;
  }

  pub closed_fewer : Fewer v w
  closed_fewer = record {
    table = λ gd id e. (removed v.table fd gd id e).1;
    pipes = fewer_pipes d.file.object v.files;
    eventfds = fewer_eventfds d.file.object v.files;
    timers = fewer_timers d.file.object v.files;
    sockets = left.were;
    entries = λ k x e. (entry_before k x e).0;
  }

-- a descriptor that names no open file is dropped
module _ (now : ℕ) (v : View) (fd : ℕ) (why : Refusal) (none : descriptor_by (map.get v.table fd) v.files ≡ Err why) where
  abbrev dropped_view : View
  dropped_view = record { table = map.remove v.table fd; files = v.files; epolls = v.epolls; sockets = v.sockets }

  named_no_file : (o : Option FileId) → map.get v.table fd ≡ o → ((id : FileId) → o ≡ Some id → is_some (at id.number v.files.files) ≡ true) → descriptor_by o v.files ≡ Err why → is_some o ≡ true → ⊥
  named_no_file None e h k is_open = cc
  named_no_file (Some id) e h k is_open =
      no_file (at id.number v.files.files) (h id refl) k
    where
      no_file : (o : Option File) → is_some o ≡ true → ◌>>=◌ {B = Descriptor} (or_refuse o (Errno Ebadf)) (λ file. Ok (record { id = id; file = file })) ≡ Err why → ⊥
      no_file None is_open k = cc
      no_file (Some f) is_open k = cc

  pub dropped_named : Named now v dropped_view
  dropped_named = record {
    sound = λ process tasks h. record {
      opened = λ gd id e. h.opened gd id (removed v.table fd gd id e).1;
      others = h.others;
      apart = λ a b id jd e k same. h.apart a b id jd (removed v.table fd a id e).1 (removed v.table fd b jd k).1 same;
      apart_others = λ gd id e o. h.apart_others gd id (removed v.table fd gd id e).1 o;
      there = h.there;
      single = h.single;
      watched = λ k x e.
          let is_open = h.watched k x e in
          subst (λ (o : Option FileId). is_some o ≡ true)
          (sym (remove_other v.table fd x.fd (λ same.
          named_no_file (map.get v.table fd) refl (λ id q. h.opened fd id q) none (subst (λ (n : ℕ). is_some (map.get v.table n) ≡ true) same is_open)))) is_open;
    };
    own = λ process tasks h gd id jd e k.
        (some_same id jd (sym e ∙ (removed v.table fd gd jd k).1), λ f g a b. ap (λ (x : File). object_alone x.object) (some_same f g (sym a ∙ b)));
    others = λ process tasks h n o f g a b. ap (λ (x : File). object_alone x.object) (some_same f g (sym a ∙ b));
    entries = λ k x e. came_as_it_was e;
  }

  pub dropped_fewer : Fewer v dropped_view
  dropped_fewer = record {
    table = λ gd id e. (removed v.table fd gd id e).1;
    pipes = λ k e. e;
    eventfds = λ k e. e;
    timers = λ k e. e;
    sockets = all_stay v.sockets;
    entries = λ k x e. e;
  }
