-- Which calls wait: a row waits exactly where it is asked what it would do.
use Rattle.std.proofs.Common.{◌≡◌, ℕ, Bool, true, false, not, ◌&&◌, List, Option, Some, None, Result, Ok, Err, refl, ap, ◌∙◌, if◌then◌else◌}
use Rattle.std.specs.Prelude.{IfOk}
use Rattle.sim_base.specs.declared.errno.Errno as errno_type
use Rattle.sim_base.specs.declared.errno.Errno.TheVariants.{Ebadf, Efault}
use Rattle.sim_base.specs.Refusals.{◌>>=◌, ◌>>◌, refuse_if, or_refuse}
use Rattle.host_files.specs.declared.file.Object.{Object}
use Rattle.host_files.specs.declared.file.Object.TheVariants as kind
use Rattle.host_files.specs.Files.{FilesState, file_at}
use Rattle.host_wants.specs.declared.error.Refusal.{Refusal}
use Rattle.host_wants.specs.declared.error.Refusal.TheVariants as refusal
use Rattle.host_calls.specs.declared.plan.Plan.{Plan}
use Rattle.host_calls.specs.declared.parts.Reaction.{Reaction}
use Rattle.host_calls.specs.declared.parts.Reaction.TheVariants.{Value, Waits}
use Rattle.file_calls.specs.declared.task.Task.{Task}
use Rattle.file_calls.specs.declared.task.Shared.{Shared}
use Rattle.std.specs.FinMap as map
use Rattle.host_fds.specs.declared.file_id.FileId.{FileId}
use Rattle.host_calls.specs.Calls.{reacts, is_wait}
use Rattle.file_calls.specs.Descriptors.{descriptor, descriptor_by}
use Rattle.file_calls.specs.EpollControl.{epoll_number}
use Rattle.host_calls.specs.Parts.{Scene, plainly}
use Rattle.file_calls.specs.Scene.{Local, or_again, kept_answers}
use Rattle.call_parts.specs.Sockets.{socket_number, open_socket}

abbrev pub tells_wait : Refusal → Bool
tells_wait (refusal.Wait until) = true
tells_wait (refusal.Errno errno) = false
tells_wait (refusal.Kept errno) = false
tells_wait (refusal.End state) = false

abbrev pub waits_in : {A : Type 0} → Result A Refusal → Bool
waits_in (Ok a) = false
waits_in (Err r) = tells_wait r

abbrev pub reaction_waits : Result (Reaction × Scene) Refusal → Bool
reaction_waits (Ok (Waits, s)) = true
reaction_waits (Ok (Value value, s)) = false
reaction_waits (Err r) = tells_wait r

-- a row and what it waits for
abbrev pub Same : {A B : Type 0} → Result A Refusal → Result B Refusal → Type 0
Same r q = waits_in r ≡ waits_in q

-- a row that never waits
abbrev pub Never : {A : Type 0} → Result A Refusal → Type 0
Never r = waits_in r ≡ false

pub is_wait_is : (r : Result Plan Refusal) → is_wait r ≡ waits_in r
is_wait_is (Ok plan) = refl
is_wait_is (Err (refusal.Wait until)) = refl
is_wait_is (Err (refusal.Errno errno)) = refl
is_wait_is (Err (refusal.Kept errno)) = refl
is_wait_is (Err (refusal.End state)) = refl

pub never_bind : {A B : Type 0} (r : Result A Refusal) (f : A → Result B Refusal) → Never r → ((a : A) → Never (f a)) → Never (r >>= f)
never_bind (Ok a) f h k = k a
never_bind (Err e) f h k = h

pub never_then : {A B : Type 0} (r : Result A Refusal) (q : Result B Refusal) → Never r → Never q → Never (r >> q)
never_then (Ok a) q h k = k
never_then (Err e) q h k = h

pub same_bind : {A B C : Type 0} (r : Result A Refusal) (f : A → Result B Refusal) (g : A → Result C Refusal) → ((a : A) → Same (f a) (g a)) → Same (r >>= f) (r >>= g)
same_bind (Ok a) f g k = k a
same_bind (Err e) f g k = refl

pub same_then : {A B C : Type 0} (r : Result A Refusal) (q : Result B Refusal) (p : Result C Refusal) → Same q p → Same (r >> q) (r >> p)
same_then (Ok a) q p k = k
same_then (Err e) q p k = refl

pub ends_bind : {A B : Type 0} (r : Result A Refusal) (f : A → Result B Refusal) → ((a : A) → Never (f a)) → Same (r >>= f) r
ends_bind (Ok a) f k = k a
ends_bind (Err e) f k = refl

pub ends_then : {A B : Type 0} (r : Result A Refusal) (q : Result B Refusal) → Never q → Same (r >> q) r
ends_then (Ok a) q k = k
ends_then (Err e) q k = refl

pub never_or_refuse : {A : Type 0} (o : Option A) (e : errno_type.Errno) → Never (or_refuse o (refusal.Errno e))
never_or_refuse None e = refl
never_or_refuse (Some a) e = refl

pub never_refuse_if : (b : Bool) (e : errno_type.Errno) → Never (refuse_if b (refusal.Errno e))
never_refuse_if true e = refl
never_refuse_if false e = refl

pub never_if : {A : Type 0} (b : Bool) (x y : Result A Refusal) → Never x → Never y → Never (if b then x else y)
never_if true x y h k = h
never_if false x y h k = k

again_is : {A : Type 0} (b : Bool) (r : Result A Refusal) → waits_in (or_again b r) ≡ (not b && waits_in r)
again_is true (Ok a) = refl
again_is false (Ok a) = refl
again_is true (Err (refusal.Wait until)) = refl
again_is false (Err (refusal.Wait until)) = refl
again_is true (Err (refusal.Errno errno)) = refl
again_is false (Err (refusal.Errno errno)) = refl
again_is true (Err (refusal.Kept errno)) = refl
again_is false (Err (refusal.Kept errno)) = refl
again_is true (Err (refusal.End state)) = refl
again_is false (Err (refusal.End state)) = refl

never_not : (b : Bool) → (not b && false) ≡ false
never_not true = refl
never_not false = refl

pub never_again : {A : Type 0} (b : Bool) (r : Result A Refusal) → Never r → Never (or_again b r)
never_again b r h = again_is b r ∙ ap (λ (x : Bool). not b && x) h ∙ never_not b

pub reacts_is : (r : Result (ℕ × Scene) Refusal) → reaction_waits (reacts r) ≡ waits_in r
reacts_is (Ok (value, s)) = refl
reacts_is (Err r) = refl

pub plainly_is : {A : Type 0} (r : Result (A × Local) Refusal) (s : Scene) → Same (plainly r s) r
plainly_is (Ok (a, local)) s = refl
plainly_is (Err r) s = refl

-- looking a descriptor up
descriptor_by_never : (o : Option FileId) (files : FilesState) → Never (descriptor_by o files)
descriptor_by_never None files = refl
descriptor_by_never (Some id) files = never_bind (or_refuse (file_at id files) (refusal.Errno Ebadf)) _ (never_or_refuse (file_at id files) Ebadf) (λ file. refl)

pub descriptor_never : (fd : ℕ) (task : Task) (files : FilesState) → Never (descriptor fd task files)
descriptor_never fd task files = descriptor_by_never (map.get task.table fd) files

pub socket_number_never : (object : Object) → Never (socket_number object)
socket_number_never kind.Input = refl
socket_number_never kind.Output = refl
socket_number_never kind.Errors = refl
socket_number_never (kind.Hosts read) = refl
socket_number_never (kind.ReadEnd k) = refl
socket_number_never (kind.WriteEnd k) = refl
socket_number_never (kind.Timer k) = refl
socket_number_never (kind.Eventfd k) = refl
socket_number_never (kind.Epoll k) = refl
socket_number_never (kind.Udp k) = refl
socket_number_never (kind.Tcp k) = refl

pub epoll_number_never : (object : Object) → Never (epoll_number object)
epoll_number_never kind.Input = refl
epoll_number_never kind.Output = refl
epoll_number_never kind.Errors = refl
epoll_number_never (kind.Hosts read) = refl
epoll_number_never (kind.ReadEnd k) = refl
epoll_number_never (kind.WriteEnd k) = refl
epoll_number_never (kind.Timer k) = refl
epoll_number_never (kind.Eventfd k) = refl
epoll_number_never (kind.Epoll k) = refl
epoll_number_never (kind.Udp k) = refl
epoll_number_never (kind.Tcp k) = refl

pub open_socket_never : (fd : ℕ) (task : Task) (shared : Shared) → Never (open_socket fd (task, shared))
open_socket_never fd task shared =
    never_bind (descriptor fd task shared.files) _ (descriptor_never fd task shared.files) (λ d. never_bind (socket_number d.file.object) _ (socket_number_never d.file.object) (λ n. refl))

-- a row waits nowhere but where it is asked
pub asked_then : {A : Type 0} (r : Result A Refusal) (f : A → Result (Reaction × Scene) Refusal) → IfOk r (λ a. reaction_waits (f a) ≡ false) → reaction_waits (r >>= f) ≡ waits_in r
asked_then (Ok a) f h = h
asked_then (Err e) f h = refl

-- what is known of what a row gives
pub gives_bind : {A B : Type 0} (r : Result A Refusal) (f : A → Result B Refusal) (P : B → Type 0) → ((a : A) → r ≡ Ok a → IfOk (f a) P) → IfOk (r >>= f) P
gives_bind (Ok a) f P k = k a refl
gives_bind (Err e) f P k = tt

pub gives_then : {A B : Type 0} (r : Result A Refusal) (q : Result B Refusal) (P : B → Type 0) → ((a : A) → r ≡ Ok a → IfOk q P) → IfOk (r >> q) P
gives_then (Ok a) q P k = k a refl
gives_then (Err e) q P k = tt

pub gives_map : {A B : Type 0} (r : Result A Refusal) (f : A → B) (P : A → Type 0) (Q : B → Type 0) → IfOk r P → ((a : A) → P a → Q (f a)) → IfOk (r >>= λ a. Ok (f a)) Q
gives_map (Ok a) f P Q h k = k a h
gives_map (Err e) f P Q h k = tt

-- what was asked and didn't wait
pub ok_never : {A : Type 0} (b : Bool) (r : Result A Refusal) (a : A) → or_again b r ≡ Ok a → Never r
ok_never b (Ok c) a e = refl
ok_never b (Err x) a e = cc

pub kept_never : (r : Result (Unit {0}) Refusal) (u : Unit {0}) → kept_answers r ≡ Ok u → Never r
kept_never (Ok c) u e = refl
kept_never (Err (refusal.Kept errno)) u e = refl
kept_never (Err (refusal.Wait until)) u e = cc
kept_never (Err (refusal.Errno errno)) u e = refl
kept_never (Err (refusal.End state)) u e = refl

pub again_kept_never : (b : Bool) (r : Result (Unit {0}) Refusal) (u : Unit {0}) → or_again b (kept_answers r) ≡ Ok u → Never r
again_kept_never b (Ok c) u e = refl
again_kept_never b (Err (refusal.Kept errno)) u e = refl
again_kept_never b (Err (refusal.Wait until)) u e = cc
again_kept_never b (Err (refusal.Errno errno)) u e = refl
again_kept_never b (Err (refusal.End state)) u e = refl

-- bytes that are read
pub span_never : {A : Type 0} (o : Option (List ℕ)) (f : List ℕ → Result A Refusal) → ((bytes : List ℕ) → o ≡ Some bytes → Never (f bytes)) → Never (or_refuse o (refusal.Errno Efault) >>= f)
span_never None f k = refl
span_never (Some bytes) f k = k bytes refl

pub ruleset nevers = (never_bind, never_then, never_if, never_or_refuse, never_refuse_if, never_again, descriptor_never, socket_number_never, open_socket_never)
